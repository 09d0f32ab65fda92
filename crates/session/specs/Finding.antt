-- What is read of a registration's lists, of its lane and of the locations of its inputs: the needs of `find_after`, from the parts of the pool.
-- Assumes nothing.
use Rattle.std.specs.Prelude.{◌≡◌, refl, List, [], ◌∷◌, Option, Some, None, ℕ, ◌+◌, ◌-◌, ◌≤◌, ◌<◌, ltb, length}
use Rattle.std.proofs.Common.{sym, ap, ◌∙◌, subst, arith}
use borrow.Author.Tests.{lt-ltb}
use Rattle.rules.specs.Limits.{location_radix}
use Rattle.rules.specs.Guide.{Loc}
use Rattle.rules.specs.Model.{Reg, Model, reg_of}
use Rattle.rules.specs.Record.{pack}
use Rattle.lists.specs.Part.{part, part_length, Listed, listed_of}
use Rattle.pool.specs.Lists.{Lists, nth, start_of, inputs_of, lane_of, end_of}
use Rattle.pool.specs.ListLaws.{Parts, parts, reg_is}
use Rattle.tracking.specs.Tracking.{packed, located, peak, unpacked}
use Rattle.tracking.specs.Places.{unpacked_packs}
use Rattle.window.specs.declared.Location.{Location}
use Rattle.window.specs.Location.{has, span_of, pos_of}
use Rattle.session.specs.PlaceOne.{MayFind, Finds}

-- the parts of registration a as they were read
pub record Read (pool : List ℕ) (start n end : ℕ) (a : Reg) : Type 0 where
  pub ordered : start + n ≤ end
  pub inside : end ≤ length pool
  pub ins_are : part pool start n ≡ a.ins
  pub outs_are : part pool (start + n) (end - (start + n)) ≡ a.outs

-- what is found of n inputs xs: whether there are any, and the greatest location of them
pub record Leads (l xs : List ℕ) (n : ℕ) (after : Option Location) : Type 0 where
  pub has_is : has after ≡ ltb 0 n
  pub peak_is : packed (span_of after) (pos_of after) ≡ peak l xs
  pub low : pos_of after < location_radix

pub leads_none : (l xs : List ℕ) (n : ℕ) → length xs ≡ n → n ≡ 0 → Leads l xs n None
unfolding peak pack
leads_none l [] n h e = rw e (record { has_is = refl; peak_is = refl; low = omega arith })
leads_none l (x ∷ xs) n h e = absurd (omega (arith, h, e))

pub leads_some : (l xs : List ℕ) (n top : ℕ) (at : Location) → (n ≡ 0 → ⊥) → top ≡ peak l xs → located at ≡ unpacked top → Leads l xs n (Some at)
leads_some l xs n top at h et ea =
    record {
      has_is = sym (lt-ltb 0 n (omega (arith, h)));
      peak_is = ap pack ea ∙ (unpacked_packs top).0 ∙ et;
      low = rw (ap (λ (x : Loc). x.pos) ea) (unpacked_packs top).1;
    }

module _ {w pool : List ℕ} {v added used r start n end : ℕ} (es : start ≡ start_of w v r) (en : n ≡ inputs_of w v r) (ee : end ≡ end_of w v r added used) where
  parts_here : (k : Model) → Lists v k.adds used w pool → r < length k.adds → added ≡ length k.adds → Parts w v r added used pool (reg_of k r)
  parts_here k L h ea =
      subst (λ (a : Reg). Parts w v r added used pool a) (sym (reg_is k r h))
      (subst (λ (x : ℕ). Parts w v r x used pool (nth k.adds r)) (sym ea) (parts v k.adds used w pool L r h))

  read : (k : Model) → Lists v k.adds used w pool → r < length k.adds → added ≡ length k.adds → Read pool start n end (reg_of k r)
  read k L h ea =
      let p = parts_here k L h ea in
      rw (es, en, ee) (record { ordered = p.ordered; inside = p.inside; ins_are = p.ins_are; outs_are = p.outs_are })

  pub asks_parts : {l : List ℕ} → MayFind l w pool v added used r → (start + n ≤ end) × ((end ≤ length pool) × Listed pool start n (length l))
  asks_parts {l} a =
      let p = read a.k a.lists a.mine a.added_is in
      (p.ordered, (p.inside, listed_of pool start n v (length l) (omega (arith, p.ordered, p.inside)) (rw p.ins_are a.ins_below) a.long))

  pub finds : {l : List ℕ} {lane : ℕ} {after : Option Location} → Leads l (part pool start n) n after → lane ≡ lane_of w v r
      → Finds l w pool v added used r (record { after = after; at = start + n; n = end - (start + n); lane = lane })
  finds {l} led el = record {
    found = λ k L h ea.
        let p = read k L h ea in
        record {
          led = record {
            has_is = led.has_is ∙ ap (λ (x : ℕ). ltb 0 x) (sym (part_length pool start n (omega (arith, p.ordered, p.inside))) ∙ ap length p.ins_are);
            peak_is = led.peak_is ∙ ap (λ (x : List ℕ). peak l x) p.ins_are;
            low = led.low;
            lane_is = el ∙ (parts_here k L h ea).lane_is;
          };
          inside = omega (arith, p.ordered, p.inside);
          outs_are = p.outs_are;
        };
  }
