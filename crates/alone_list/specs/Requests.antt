-- Requests to the guide alone as numbers, six each: kind, span, position, value, added, accepted; and the answers to them as numbers, 37
-- each. Assumes nothing.
use Rattle.std.specs.Prelude.{◌≡◌, List, [], ◌∷◌, ◌++◌, map, Bool, true, false, not, ◌&&◌, ◌≢◌, ℕ, zero, suc, ◌+◌, ◌*◌, ◌/◌, ◌%◌, ◌≤◌, length, get_or, eqb, leb}
use Rattle.std.proofs.Math.Option.{Option, some, none}
use Rattle.std.proofs.Common.{ne_eqb}
use Rattle.rules.specs.Guide.{Loc, Guide as GuideModel}
use Rattle.rules.specs.Alone.{Alone as AloneModel, Request, flush, reply, serve_step}
use Rattle.alone.specs.Served.{given_by}
use Rattle.alone.specs.Pushing.{pushing}

-- the numbers of a request, and of the answer to one
abbrev pub request_size : ℕ
request_size = 6

abbrev pub answer_size : ℕ
answer_size = 37

-- kind 0 is a flush, 1 a push with no `after`, 2 a push after a location; what has another kind is refused (`well_formed`)
unfoldable pub request_of : ℕ → ℕ → ℕ → ℕ → ℕ → ℕ → Request
request_of kind span pos value added accepted = elim (eqb kind 0) [ true ↦ flush | false ↦ pushing (not (eqb kind 1)) span pos value added accepted ]

unfoldable pub request_at : List ℕ → ℕ → Request
request_at q k =
    request_of (get_or q (request_size * k) 0) (get_or q (request_size * k + 1) 0) (get_or q (request_size * k + 2) 0)
    (get_or q (request_size * k + 3) 0) (get_or q (request_size * k + 4) 0) (get_or q (request_size * k + 5) 0)

-- the k-th request is there
abbrev pub has_request : List ℕ → ℕ → Type 0
has_request q k = request_size * k + request_size ≤ length q

-- m requests from the k-th on
unfoldable pub requests_from : List ℕ → ℕ → ℕ → List Request
requests_from q k zero = []
requests_from q k (suc m) = request_at q k ∷ requests_from q (suc k) m

-- the kinds of m requests from the k-th on are at most 2
unfoldable pub kinds_known : List ℕ → ℕ → ℕ → Bool
kinds_known q k zero = true
kinds_known q k (suc m) = leb (get_or q (request_size * k) 0) 2 && kinds_known q (suc k) m

unfoldable pub well_formed : List ℕ → Bool
well_formed q = eqb (length q % request_size) 0 && kinds_known q 0 (length q / request_size)

-- the requests that the numbers are; none where their count is no multiple of six or a kind is above 2
unfoldable pub decode : List ℕ → Option (List Request)
decode q = elim (well_formed q) [ true ↦ some (requests_from q 0 (length q / request_size)) | false ↦ none ]

-- a location as two numbers, zeros where there is none
unfoldable pub located : Option Loc → List ℕ
located none = 0 ∷ (0 ∷ [])
located (some l) = l.span ∷ (l.pos ∷ [])

-- the answer to a request: its number, the location given, and of the guide after it the order's length, span 0's number and the lengths
unfoldable pub answer_to : ℕ → Option Loc → GuideModel → List ℕ
answer_to n l g = n ∷ (located l ++ (length g.order ∷ (g.first ∷ map (λ x. length x) g.spans)))

unfoldable pub answers_to : ℕ → ℕ → List Request → AloneModel → List ℕ
answers_to P N [] a = []
answers_to P N (q ∷ qs) a = answer_to (reply N q a) (given_by P N q a) (serve_step P N q a).guide ++ answers_to P N qs (serve_step P N q a)

-- which request stands at k
module _ (q : List ℕ) (k : ℕ) where
  pub is_flush : get_or q (request_size * k) 0 ≡ 0 → flush ≡ request_at q k
  unfolding request_at request_of
  is_flush e = rw (e, request_of)

  pub is_push : get_or q (request_size * k) 0 ≢ 0 → pushing (not (eqb (get_or q (request_size * k) 0) 1)) (get_or q (request_size * k + 1) 0)
      (get_or q (request_size * k + 2) 0) (get_or q (request_size * k + 3) 0) (get_or q (request_size * k + 4) 0)
      (get_or q (request_size * k + 5) 0) ≡ request_at q k
  unfolding request_at request_of
  is_push e = rw (ne_eqb (get_or q (request_size * k) 0) 0 e, request_of)
