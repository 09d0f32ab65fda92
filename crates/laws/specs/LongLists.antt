-- Document 01, check 3 where it turns, on whole adds of a fresh session: 65,535 inputs are accepted and 65,536 are not; 65,535 equal outputs
-- pass it and get the 6 of a repeated one. It comes after 18 and before 4 and 5, by inputs and by outputs. Here and not in crate rules, whose
-- wrong programs would compute it again each. Assumes nothing.
use Rattle.std.specs.Prelude.{◌≡◌, refl, List, [], ◌∷◌, ℕ, ◌^◌, replicate}
use Rattle.rules.specs.Model.{initial, member, marked}
use Rattle.rules.specs.Checks.{verdict, any, repeats, written_by, taken, pooled, check_closed, check_places, check_add}
use Rattle.rules.specs.Calls.{add, checks, answer}

pub got : List ℕ
got = answer 1 65535 (add 0 (replicate 65535 0) []) initial ∷ answer 1 65535 (add 0 (replicate 65536 0) []) initial ∷ answer 1 65535 (add 0 [] (replicate 65535 0)) initial ∷ []

-- after 18, for lane 256 and not for 255; before 4, and before 5
pub between_got : List (List ℕ)
between_got =
    (answer 3 9 (add 256 [] (replicate 65536 9)) initial ∷ answer 3 9 (add 255 (replicate 65536 9) []) initial ∷ [])
    ∷ (answer 1 65535 (add 0 (2 ^ 62 ∷ replicate 65535 0) []) initial ∷ answer 1 65535 (add 0 [] (2 ^ 62 ∷ replicate 65535 0)) initial ∷ [])
    ∷ (answer 3 9 (add 0 (replicate 65536 9) []) initial ∷ answer 3 9 (add 0 [] (replicate 65536 9)) initial ∷ [])
    ∷ []

pub turns : (got ≡ 0 ∷ 3 ∷ 6 ∷ []) × (between_got ≡ (18 ∷ 3 ∷ []) ∷ (3 ∷ 3 ∷ []) ∷ (3 ∷ 3 ∷ []) ∷ [])
unfolding got between_got initial member marked verdict any repeats written_by taken pooled check_closed check_places check_add checks answer
turns = (refl, refl)
