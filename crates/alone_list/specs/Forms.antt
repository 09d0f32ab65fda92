-- Whether numbers are a list of requests, kind by kind, and the request that each six of them is. Assumes nothing.
use Rattle.std.specs.Prelude.{◌≡◌, refl, List, Bool, true, false, ◌&&◌, ◌≢◌, length, get_or, leb, take, drop}
use Rattle.std.specs.List.{list_all}
use Rattle.std.specs.Simd.{first_chunks}
use Rattle.std.proofs.Math.Path.{sym}
use Rattle.std.proofs.Common.{ap, ◌∙◌, le-leb, eq-eqb, ne_eqb, add-zero, drop-drop, get_or-drop, get_or-take}
use Rattle.std.proofs.Math.Option.{some, none}
use Prim.Native.Nat.{ℕ, zero, suc, ◌+◌, ◌*◌, ◌/◌, ◌%◌, ◌<◌}
use native.Mathlib.Omega.{arith}
use Rattle.alone_list.specs.Requests.{request_size, request_at, requests_from, kinds_known, well_formed, decode}
use Rattle.std.proofs.lemmas.Bool.{lt-leb}
use Prim.Native.Nat.{◌-◌, ◌≤◌}

-- whether a request's kind is known
abbrev pub is_kind : List ℕ → Bool
is_kind r = leb (get_or r 0 0) 2

module _ (q : List ℕ) where
  number_at : (k j : ℕ) → j < request_size → get_or (take request_size (drop (request_size * k) q)) j 0 ≡ get_or q (request_size * k + j) 0
  number_at k j h = get_or-take request_size (drop (request_size * k) q) j 0 h ∙ get_or-drop (request_size * k) q j 0

  pub decode_none : false ≡ well_formed q → decode q ≡ none
  unfolding decode
  decode_none e = rw (← e, decode)

  pub decode_some : true ≡ well_formed q → decode q ≡ some (requests_from q 0 (length q / request_size))
  unfolding decode
  decode_some e = rw (← e, decode)

  pub not_sixes : length q % request_size ≢ 0 → false ≡ well_formed q
  unfolding well_formed
  not_sixes h = rw (ne_eqb (length q % request_size) 0 h)

  -- the k-th six of the numbers, and what it says of the request there
  all_known : (k m : ℕ) → list_all is_kind (first_chunks request_size m (drop (request_size * k) q)) ≡ kinds_known q k m
  unfolding kinds_known
  all_known k zero = refl
  all_known k (suc m) =
      let e : get_or (take request_size (drop (request_size * k) q)) 0 0 ≡ get_or q (request_size * k) 0 = number_at k 0 (omega arith) ∙ ap (λ j. get_or q j 0) (add-zero (request_size * k)) in
      let d : request_size * k + request_size ≡ request_size * suc k = omega arith in
      ap (λ (x : ℕ). leb x 2 && list_all is_kind (first_chunks request_size m (drop request_size (drop (request_size * k) q)))) e
      ∙ ap (λ (l : List ℕ). leb (get_or q (request_size * k) 0) 2 && list_all is_kind (first_chunks request_size m l)) (drop-drop request_size (request_size * k) q ∙ ap (λ j. drop j q) d)
      ∙ ap (λ (b : Bool). leb (get_or q (request_size * k) 0) 2 && b) (all_known (suc k) m)

  pub sixes : {b : Bool} → length q % request_size ≡ 0 → kinds_known q 0 (length q / request_size) ≡ b → b ≡ well_formed q
  unfolding well_formed
  sixes e f = sym (rw (eq-eqb (length q % request_size) 0 e) f)

  pub sixes_all : {b : Bool} → length q % request_size ≡ 0 → b ≡ list_all is_kind (first_chunks request_size (length q / request_size) q) → b ≡ well_formed q
  sixes_all e f = sixes e (sym (f ∙ all_known 0 (length q / request_size)))

  pub chunk_request : (k : ℕ) → request_at (take request_size (drop (request_size * k) q)) 0 ≡ request_at q k
  unfolding request_at
  chunk_request k =
      rw (number_at k 0 (omega arith), number_at k 1 (omega arith), number_at k 2 (omega arith), number_at k 3 (omega arith), number_at k 4 (omega arith), number_at k 5 (omega arith), add-zero)

-- the k-th of the sixes
pub chunk_at : (n k : ℕ) (q d : List ℕ) → k < n → get_or (first_chunks request_size n q) k d ≡ take request_size (drop (request_size * k) q)
chunk_at zero k q d h = absurd (omega arith)
chunk_at (suc n) zero q d h = refl
chunk_at (suc n) (suc k) q d h =
    let e : request_size + request_size * k ≡ request_size * suc k = omega arith in
    chunk_at n k (drop request_size q) d (omega arith) ∙ ap (take request_size) (drop-drop (request_size * k) request_size q ∙ ap (λ j. drop j q) e)

pub requests_many : (q : List ℕ) (k m : ℕ) → length (requests_from q k m) ≡ m
unfolding requests_from
requests_many q k zero = refl
requests_many q k (suc m) = ap suc (requests_many q (suc k) m)

module _ (q : List ℕ) where
  module _ (n k : ℕ) (h : k < n) where
    abbrev rest : Bool
    rest = kinds_known q (suc k) (n - (k + 1))

    kind_first : kinds_known q k (n - k) ≡ (leb (get_or q (request_size * k) 0) 2 && rest)
    unfolding kinds_known
    kind_first = let e : n - k ≡ suc (n - (k + 1)) = omega arith in rw e

    pub kind_unknown : 2 < get_or q (request_size * k) 0 → kinds_known q k (n - k) ≡ false
    kind_unknown g = kind_first ∙ rw (lt-leb (get_or q (request_size * k) 0) 2 g)

    pub kind_known : get_or q (request_size * k) 0 ≤ 2 → kinds_known q k (n - k) ≡ kinds_known q (k + 1) (n - (k + 1))
    kind_known g = let s : k + 1 ≡ suc k = omega arith in kind_first ∙ (rw (le-leb (get_or q (request_size * k) 0) 2 g)) ∙ ap (λ j. kinds_known q j (n - (k + 1))) (sym s)

  pub kinds_none_left : (n k : ℕ) → n ≤ k → kinds_known q k (n - k) ≡ true
  unfolding kinds_known
  kinds_none_left n k h = let e : n - k ≡ 0 = omega arith in rw e
