-- The signed 64-bit difference of two 32-bit numbers, as the machine has it.
use mathlib.Core.Path.{◌≡◌, refl, sym, ap, ◌∙◌}
use Prim.Native.Nat.{ℕ, suc, ◌+◌, ◌-◌, ◌≤◌, ◌<◌, ◌^◌}
use native.Mathlib.Omega.{arith}
use native.Mathlib.Nat.{lt_trans}
use lib.Dec.{lit<, ltb}
use lib.Signed.{lt_z}
use mathlib.Core.Bool.{Bool, true, false, true≢false}
use borrow.Author.Tests.{ltb-true, ltb-false}
use lib.IntN.{ℤ, pos, nat_abs, negsuc, neg_ℤ, ◌+ℤ◌, ◌-ℤ◌, pos-+ℤ-pos, +ℤ-neg_ℤ_cancel, neg_ℤ-+ℤ, +ℤ_assoc, +ℤ_invr, +ℤ_idl}
use mir.Syntax.{w64}
use mir.Val.{SFits, to_z, of_z}
use mir.Facts.{to_z_pos, to_z-of_z}

pub above : (a b : ℕ) → b ≤ a → pos a -ℤ pos b ≡ pos (a - b)
above a b h =
    let e : a ≡ a - b + b = omega arith in
    ap (λ (k : ℕ). pos k -ℤ pos b) e ∙ ap (λ (z : ℤ). z -ℤ pos b) (sym (pos-+ℤ-pos (a - b) b)) ∙ +ℤ-neg_ℤ_cancel (pos (a - b)) (pos b)

pub below : (a b : ℕ) → a < b → pos a -ℤ pos b ≡ negsuc (b - suc a)
below a b h =
    let e : b ≡ a + suc (b - suc a) = omega arith in
    ap (λ (k : ℕ). pos a -ℤ pos k) e
    ∙ ap (λ (z : ℤ). pos a +ℤ neg_ℤ z) (sym (pos-+ℤ-pos a (suc (b - suc a))))
    ∙ ap (λ (z : ℤ). pos a +ℤ z) (neg_ℤ-+ℤ (pos a) (pos (suc (b - suc a))))
    ∙ sym (+ℤ_assoc (pos a) (neg_ℤ (pos a)) (negsuc (b - suc a)))
    ∙ ap (λ (z : ℤ). z +ℤ negsuc (b - suc a)) (+ℤ_invr (pos a))
    ∙ +ℤ_idl (negsuc (b - suc a))

module _ (a b : ℕ) (ha : a < 2 ^ 32) (hb : b < 2 ^ 32) where
  abbrev pub machine : ℤ
  machine = to_z w64 a -ℤ to_z w64 b

  plain : machine ≡ pos a -ℤ pos b
  plain = rw (to_z_pos w64 {n = a} (lt_trans ha (lit< tt)), to_z_pos w64 {n = b} (lt_trans hb (lit< tt)))

  pub at_least : b ≤ a → machine ≡ pos (a - b)
  at_least h = plain ∙ above a b h

  pub less : a < b → machine ≡ negsuc (b - suc a)
  less h = plain ∙ below a b h

  on : {A : Type 0} (t : Bool) → ltb a b ≡ t → (a < b → A) → (b ≤ a → A) → A
  on true e f g = f (ltb-true a b e)
  on false e f g = g (ltb-false a b e)

  -- what the machine reads back
  abbrev pub read : ℤ
  read = to_z w64 (of_z w64 machine)

  pub read_at_least : b ≤ a → read ≡ pos (a - b)
  read_at_least h = rw (at_least h) (to_z-of_z {w = w64} {z = pos (a - b)} (record { sfits = omega arith }))

  pub read_less : a < b → read ≡ negsuc (b - suc a)
  read_less h = rw (less h) (to_z-of_z {w = w64} {z = negsuc (b - suc a)} (record { sfits = omega arith }))

  pub fits : SFits w64 machine
  fits = on (ltb a b) refl (λ h. rw (less h) (record { sfits = omega arith })) (λ h. rw (at_least h) (record { sfits = omega arith }))

  pub was_less : lt_z read (pos 0) ≡ true → a < b
  was_less e = on (ltb a b) refl (λ h. h) (λ h. let k = ltb-true (a - b) 0 (rw (read_at_least h) at e) in omega arith)

  pub was_not : lt_z read (pos 0) ≡ false → b ≤ a
  was_not e = on (ltb a b) refl (λ h. let k : true ≡ false = rw (read_less h) at e in absurd (true≢false k)) (λ h. h)

  -- cast to an unsigned number where it is not negative
  pub cast_is : lt_z read (pos 0) ≡ false → nat_abs read ≡ a - b
  cast_is e = ap nat_abs (read_at_least (was_not e))

  -- and where a is at most b + 31, at most 31
  pub reach : lt_z read (pos 0) ≡ false → a ≤ b + 31 → (b ≤ a) × ((nat_abs read ≡ a - b) × (nat_abs read ≤ 31))
  reach e h =
      let k = was_not e in
      let d = cast_is e in
      (k, (d, omega arith))
