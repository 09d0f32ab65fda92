-- A list of calls as numbers, as `replay` reads it: set x is 1, x; add is 2, the count of inputs, the inputs, the count of outputs, the
-- outputs; flush is 3; final is 4; an add with a lane (document 02, M-104) is 5, the lane, and then as after 2, which stands for lane 0.
-- (Added beside document 01; the format is described in docs/REPLAY.md.) Assumes nothing.
use Rattle.std.specs.Prelude.{List, [], ◌∷◌, true, false, ℕ, zero, suc, length, take, drop, leb, eqb}
use Rattle.std.proofs.Math.Option.{Option, some, none}
use Rattle.rules.specs.Calls.{Call, set, add, flush, final}

-- the number that a call starts with
abbrev pub set_tag : ℕ
set_tag = 1

abbrev pub add_tag : ℕ
add_tag = 2

abbrev pub flush_tag : ℕ
flush_tag = 3

abbrev pub final_tag : ℕ
final_tag = 4

abbrev pub lane_add_tag : ℕ
lane_add_tag = 5

-- a call read off the front, and the numbers that follow it
pub record Front : Type 0 where
  pub call : Call
  pub rest : List ℕ

-- a counted list read off the front, and the numbers that follow it
pub record Counted : Type 0 where
  pub items : List ℕ
  pub rest : List ℕ

unfoldable pub counted : List ℕ → Option Counted
counted [] = none
counted (n ∷ l) = elim (leb n (length l)) [ true ↦ some (record { items = take n l; rest = drop n l }) | false ↦ none ]

unfoldable pub set_front : List ℕ → Option Front
set_front [] = none
set_front (x ∷ l) = some (record { call = set x; rest = l })

unfoldable pub add_outs : ℕ → List ℕ → Option Counted → Option Front
add_outs lane ins none = none
add_outs lane ins (some c) = some (record { call = add lane ins c.items; rest = c.rest })

unfoldable pub add_front : ℕ → Option Counted → Option Front
add_front lane none = none
add_front lane (some c) = add_outs lane c.items (counted c.rest)

unfoldable pub lane_front : List ℕ → Option Front
lane_front [] = none
lane_front (lane ∷ l) = add_front lane (counted l)

unfoldable pub front : List ℕ → Option Front
front [] = none
front (tag ∷ l) =
    elim (eqb tag set_tag) [
      | true ↦ set_front l
      | false ↦
          elim (eqb tag add_tag) [
            | true ↦ add_front 0 (counted l)
            | false ↦
                elim (eqb tag flush_tag) [
                  | true ↦ some (record { call = flush; rest = l })
                  | false ↦
                      elim (eqb tag final_tag) [
                        | true ↦ some (record { call = final; rest = l })
                        | false ↦ elim (eqb tag lane_add_tag) [ true ↦ lane_front l | false ↦ none ]
                      ]
                ]
          ]
    ]

unfoldable pub before_all : Call → Option (List Call) → Option (List Call)
before_all c none = none
before_all c (some cs) = some (c ∷ cs)

-- a call and what `decode` makes of the numbers that follow it
unfoldable pub and_then : Option Front → (List ℕ → Option (List Call)) → Option (List Call)
and_then none decode = none
and_then (some c) decode = before_all c.call (decode c.rest)

unfoldable pub unless_empty : List ℕ → Option (List Call) → Option (List Call)
unless_empty [] cs = some []
unless_empty (x ∷ l) cs = cs

-- the whole list, of at most f calls; none where it is malformed or truncated
unfoldable pub decode_from : ℕ → List ℕ → Option (List Call)
decode_from zero l = unless_empty l none
decode_from (suc f) l = unless_empty l (and_then (front l) (λ rest. decode_from f rest))

unfoldable pub decode : List ℕ → Option (List Call)
decode l = decode_from (length l) l
