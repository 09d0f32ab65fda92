-- A sum up to 2^24 is converted with nothing lost, so the division rounds once. Assumes nothing.
use mathlib.Core.Path.{◌≡◌, ap, ◌∙◌}
use mathlib.Core.Bool.{true, false, true≢false}
use Prim.Native.Nat.{ℕ, ◌*◌}
use native.Mathlib.Nat.{mul_assoc, mul_comm, mul-pos}
use lib.Dec.{lit<}
use lib.IntN.{pos}
use lib.Ieee.{Float, nan, inf, fin, binary32, round, div, of_int, of_bits, up, down}
use lib.Ieee.Fits.{down_pos}
use lib.Ieee.Exact.{HasValue}
use lib.Ieee.Back.{round_whole}
use lib.Ieee.Scale.{round_same}
use Rattle.figures.proofs.average.Goals as goal

-- a float that is the whole number n, divided by 65,000
over-65000 : (x : Float) (n : ℕ) → HasValue x false n 1 → div binary32 x (fin false 8125 (pos 3)) ≡ round binary32 false n 65000
unfolding div
over-65000 nan n h = absurd h
over-65000 (inf t) n h = absurd h
over-65000 (fin true m e) n h = absurd (true≢false h.0)
over-65000 (fin false m e) n h =
    round_same binary32 false (m * up e * 1) (65000 * down e) n 65000 (mul-pos (lit< tt) (down_pos e)) (lit< tt)
    (rw h.1 (mul_assoc n (down e) 65000 ∙ ap (λ (k : ℕ). n * k) (mul_comm (down e) 65000)))

pub returns : goal.returns
unfolding of_int of_bits
returns c = over-65000 (round binary32 false c.args.sum 1) c.args.sum (round_whole binary32 false c.args.sum c.requires)
