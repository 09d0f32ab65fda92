-- Laws of the copying loop: what is copied when nothing is, one entry more, and the length;
-- and the order that is left. Assumes nothing.
use Rattle.std.specs.Prelude.{◌≡◌, refl, length, get_or}
use Rattle.std.proofs.Common.{sym, ◌∙◌, add-one, drop-cons, length-take-le}
use Rattle.std.proofs.Math.Path.{ap}
use mathlib.Core.List.{List, [], ◌∷◌, ◌++◌, append_assoc}
use Prim.Native.Nat.{ℕ, zero, suc, ◌+◌, ◌-◌, ◌≤◌, ◌<◌}
use native.Mathlib.Omega.{arith}
use Rattle.std.proofs.Math.ListN.{take, drop, set, length-append, length-drop}
use Rattle.std.proofs.Math.Seq.{set_at}
use Rattle.order_copy.specs.declared.OrderInfo.{OrderInfo}
use Rattle.rules.specs.Calls.{unless_refused}
use Rattle.laws.specs.Accepted.{accepted_is, refused_is}
use Rattle.order_copy.specs.Flat.{entry_of}
use Rattle.order_copy.specs.Copied.{entries, copied}
use Rattle.std.proofs.Math.Decide.{ℕ_discrete}
use Rattle.order_copy.specs.Flat.{Readable}
use Rattle.order_copy.specs.Copied.{check_new}
use Rattle.order_copy.specs.Checked.{Ready, ready}

entries_length : (f : List ℕ) (k n : ℕ) → length (entries f k n) ≡ n
unfolding entries
entries_length f k zero = refl
entries_length f k (suc n) = ap suc (entries_length f (suc k) n)

entries_more : (f : List ℕ) (k n : ℕ) → entries f k (suc n) ≡ entries f k n ++ (entry_of f (k + n) ∷ [])
unfolding entries
entries_more f k zero = ap (λ m. entry_of f m ∷ []) (omega arith)
entries_more f k (suc n) = ap (λ l. entry_of f k ∷ l) (entries_more f (suc k) n ∙ ap (λ m. entries f (suc k) n ++ (entry_of f m ∷ [])) (omega arith))

take_drop : (o : List OrderInfo) (n : ℕ) → take n o ++ drop n o ≡ o
take_drop o zero = refl
take_drop [] (suc n) = refl
take_drop (x ∷ o) (suc n) = ap (λ l. x ∷ l) (take_drop o n)

pub copied_none : (o : List OrderInfo) (f : List ℕ) (from : ℕ) → copied o f from from ≡ o
unfolding copied entries
copied_none o f from = let e : from - from ≡ 0 = omega arith in rw e (take_drop o from)

module _ (o : List OrderInfo) (f : List ℕ) (from k : ℕ) (lo : from ≤ k) where
  -- what stands before place k is k entries long
  pub before : k ≤ length o → length (take from o ++ entries f from (k - from)) ≡ k
  before h = length-append (take from o) (entries f from (k - from)) ∙ let a = length-take-le from o (omega arith) in let b = entries_length f from (k - from) in omega arith

  pub copied_length : k ≤ length o → length (copied o f from k) ≡ length o
  unfolding copied
  copied_length h =
      let a = length-append (take from o) (entries f from (k - from) ++ drop k o) in
      let b = length-append (entries f from (k - from)) (drop k o) in
      let c = length-append (take from o) (entries f from (k - from)) in
      let d = before h in
      let e = length-drop k o in
      omega arith

  pub copied_more : k < length o → set (copied o f from k) k (entry_of f k) ≡ copied o f from (k + 1)
  unfolding copied
  copied_more h =
      ap (λ l. set l k (entry_of f k)) (sym (append_assoc (take from o) (entries f from (k - from)) (drop k o)))
      ∙ ap (λ l. set ((take from o ++ entries f from (k - from)) ++ l) k (entry_of f k)) (drop-cons o k (entry_of f k) h)
      ∙ set_at (take from o ++ entries f from (k - from)) (get_or o k (entry_of f k)) (drop (suc k) o) (entry_of f k) k (before (omega arith))
      ∙ append_assoc (take from o) (entries f from (k - from)) (entry_of f k ∷ drop (suc k) o)
      ∙ ap (λ l. take from o ++ l)
      (sym (append_assoc (entries f from (k - from)) (entry_of f k ∷ []) (drop (suc k) o)) ∙ ap (λ l. l ++ drop (suc k) o) (sym more)
      ∙ ap (λ n. entries f from (k + 1 - from) ++ drop n o) (sym (add-one k)))
    where
      more : entries f from (k + 1 - from) ≡ entries f from (k - from) ++ (entry_of f k ∷ [])
      more =
          let e : k + 1 - from ≡ suc (k - from) = omega arith in
          let d : from + (k - from) ≡ k = omega arith in
          rw e (entries_more f from (k - from) ∙ ap (λ m. entries f from (k - from) ++ (entry_of f m ∷ [])) d)

-- the order after a copying that is refused, and after one that is not
module _ (o : List OrderInfo) (f : List ℕ) (from to : ℕ) where
  pub copied_not : (n : ℕ) → (n ≡ 0 → ⊥) → o ≡ unless_refused n o (copied o f from to)
  copied_not n z = sym (refused_is n o (copied o f from to) z)

  pub copied_all : copied o f from to ≡ unless_refused 0 o (copied o f from to)
  copied_all = sym (accepted_is 0 o (copied o f from to) refl)

-- a loop that copies the entries `from` to `stop` - 1, where n is the copying's number: each can be copied, and at the end the order is
-- the one that is promised
pub record Copying (o : List OrderInfo) (f : List ℕ) (from to n stop : ℕ) : Type 0 where
  pub low : from ≤ stop
  pub each : (k : ℕ) → from ≤ k → k < stop → (k < length o) × Readable f k
  pub long : (k : ℕ) → from ≤ k → k ≤ stop → length (copied o f from k) ≡ length o
  pub last : copied o f from stop ≡ unless_refused n o (copied o f from to)

pub copying : (o : List OrderInfo) (f : List ℕ) (from to n stop : ℕ) → n ≡ check_new (length o) f from to → stop ≡ unless_refused n from to → Copying o f from to n stop
copying o f from to n stop e s = elim (ℕ_discrete n 0) [ yes z ↦ all (ready (length o) f from to (sym e ∙ z)) z (s ∙ accepted_is n from to z) | no z ↦ nothing z (s ∙ refused_is n from to z) ]
  where
    all : Ready (length o) f from to → n ≡ 0 → stop ≡ to → Copying o f from to n stop
    all r z q =
        record {
          low = omega (arith, r.order, q);
          each = λ k l h. (omega (arith, r.within, q), r.readable k l (omega (arith, h, q)));
          long = λ k l h. copied_length o f from k l (omega (arith, r.within, h, q));
          last = ap (copied o f from) q ∙ sym (accepted_is n o (copied o f from to) z);
        }

    nothing : (n ≡ 0 → ⊥) → stop ≡ from → Copying o f from to n stop
    nothing z q =
        record {
          low = omega (arith, q);
          each = λ k l h. absurd (omega (arith, l, h, q));
          long = λ k l h. let j : k ≡ from = omega (arith, l, h, q) in ap (λ m. length (copied o f from m)) j ∙ ap length (copied_none o f from);
          last = ap (copied o f from) q ∙ copied_none o f from ∙ sym (refused_is n o (copied o f from to) z);
        }
