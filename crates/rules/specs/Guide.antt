-- Document 01, "The records" (location, entry) and "Guide": the window of 32 spans, the order of what they released, placing,
-- release, flush, the parallelism rules and the tally. Definitions only; what holds of them is in the crate `laws`. Assumes nothing.
use Rattle.std.specs.Prelude.{List, [], ◌∷◌, ◌++◌, Bool, true, false, ℕ, zero, suc, ◌+◌, ◌-◌, min, max, length, drop, get_or, set, replicate, leb, ltb, eqb}
use Rattle.std.proofs.Math.Option.{Option, some, none}

-- a location: a span number and a position in the span
pub record Loc : Type 0 where
  pub span : ℕ
  pub pos : ℕ

-- the location of every set place. No entry gets span 0: it is never filled, so that this location belongs to set places alone
unfoldable pub origin : Loc
origin = record { span = 0; pos = 0 }

-- what a span holds of an entry: all but its parallelism. Its lane (document 02, M-104) is a label: nothing here looks at it
pub record Item : Type 0 where
  pub value : ℕ
  pub added : ℕ
  pub accepted : ℕ
  pub lane : ℕ

-- an entry of the order
pub record Entry : Type 0 where
  pub item : Item
  pub parallelism : ℕ

-- the window, by span 0's number and the 32 spans themselves (span i has number `first` + i), and the order
pub record Guide : Type 0 where
  pub first : ℕ
  pub spans : List (List Item)
  pub order : List Entry

-- at the start: spans 0 to 31, all empty
unfoldable pub fresh : Guide
fresh = record { first = 0; spans = replicate 32 []; order = [] }

-- the rules for span i of a entries, the next having b, at position q; the tests are P ≤ a, P ≤ b and q < b
unfoldable pub parallelism_by : ℕ → ℕ → ℕ → ℕ → Bool → Bool → Bool → ℕ
parallelism_by P a b q true true before = P
parallelism_by P a b q true false true = P
parallelism_by P a b q true false false = max (P + b - q) 1
parallelism_by P a b q false true before = a
parallelism_by P a b q false false before = min a (b + a - q)

unfoldable pub parallelism : ℕ → ℕ → ℕ → ℕ → ℕ
unfolding parallelism_by
parallelism P a b q = parallelism_by P a b q (leb P a) (leb P b) (ltb q b)

-- the rule for span 31, in a flush
unfoldable pub last_parallelism : ℕ → ℕ → ℕ
last_parallelism a q = a - q

-- the entries of a span from position q on, each with the parallelism of its position
unfoldable pub annotate : (ℕ → ℕ) → ℕ → List Item → List Entry
annotate f q [] = []
annotate f q (e ∷ es) = record { item = e; parallelism = f q } ∷ annotate f (suc q) es

-- the entries of spans 0 to n-1, their parallelism worked out in this window
unfoldable pub released : ℕ → ℕ → List (List Item) → List Entry
released P zero ss = []
released P (suc n) [] = []
released P (suc n) (s ∷ []) = annotate (last_parallelism (length s)) 0 s
released P (suc n) (s ∷ (t ∷ ss)) = annotate (parallelism P (length s) (length t)) 0 s ++ released P n (t ∷ ss)

-- releasing spans 0 to n-1: their entries are appended in the old window, then it is rotated
unfoldable pub release : ℕ → ℕ → Guide → Guide
release P n g = record { first = g.first + n; spans = drop n g.spans ++ replicate n []; order = g.order ++ released P n g.spans }

-- flush releases all 32
unfoldable pub flush : ℕ → Guide → Guide
flush P g = release P 32 g

-- the first span from i on that is shorter than P, where the list starts with span i
unfoldable pub seek : ℕ → ℕ → List (List Item) → Option ℕ
seek P i [] = none
seek P i (s ∷ ss) = elim (ltb (length s) P) [ true ↦ some i | false ↦ seek P (suc i) ss ]

-- where a value goes: into span i, or into the last of n newly opened spans
pub data Choice : Type 0 where
  existing : ℕ → Choice
  opened : ℕ → Choice

-- none up to 31: open one span
unfoldable pub found : Option ℕ → Choice
found none = opened 1
found (some i) = existing i

-- the search begins at d+2 if the position is greater than the length of span d+1, else (equality too) at d+1
unfoldable pub begin : ℕ → ℕ → List (List Item) → ℕ
begin d q ss = elim (ltb (length (get_or ss (d + 1) [])) q) [ true ↦ d + 2 | false ↦ d + 1 ]

-- where a value placed `after` goes: absent, or its span number below span 0's: span 1; d = 31: two spans are opened; else the search.
-- Span 1 is the first that may be filled; what `after` names is in the order already, and span 0 comes between. At d = 31 no span of the
-- window follows; the first new one follows directly, so the value goes into the second, with a whole span between
unfoldable pub choose : ℕ → Guide → Option Loc → Choice
choose P g none = existing 1
choose P g (some l) =
    elim (ltb l.span g.first) [
      | true ↦ existing 1
      | false ↦
          elim (eqb (l.span - g.first) 31) [
            | true ↦ opened 2
            | false ↦
                let i : ℕ = begin (l.span - g.first) l.pos g.spans in
                found (seek P i (drop i g.spans))
          ]
    ]

-- a guide with the location that a placing gave
pub record Placed : Type 0 where
  pub guide : Guide
  pub loc : Loc

-- an entry more at the end of span i
unfoldable pub put : ℕ → Item → Guide → Guide
put i e g = record { first = g.first; spans = set g.spans i (get_or g.spans i [] ++ (e ∷ [])); order = g.order }

-- span 0 is released if the new length n is P or more, whichever span filled
unfoldable pub settle : ℕ → ℕ → Guide → Guide
settle P n g = elim (leb P n) [ true ↦ release P 1 g | false ↦ g ]

-- a value put in a span takes its old length as position; after opening n spans it lands at position 0 of the new last span
unfoldable pub apply : ℕ → Item → Guide → Choice → Placed
apply P e g (existing i) =
    let n : ℕ = length (get_or g.spans i []) in
    record { guide = settle P (suc n) (put i e g); loc = record { span = g.first + i; pos = n } }
apply P e g (opened n) = record { guide = put 31 e (release P n g); loc = record { span = g.first + 31 + n; pos = 0 } }

unfoldable pub place : ℕ → Option Loc → Item → Guide → Placed
place P after e g = apply P e g (choose P g after)

-- held: the sum of the window's lengths
unfoldable pub held : List (List Item) → ℕ
held [] = 0
held (s ∷ ss) = length s + held ss

-- each appended entry adds 1 to the tally at its parallelism
unfoldable pub tallied : List ℕ → List Entry → List ℕ
tallied t [] = t
tallied t (x ∷ l) = tallied (set t x.parallelism (get_or t x.parallelism 0 + 1)) l

-- the tally of P+1 counts, from zeros
unfoldable pub tally : ℕ → List Entry → List ℕ
tally P order = tallied (replicate (P + 1) 0) order
