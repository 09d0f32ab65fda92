-- Marks and locations stand for the model's set places and the locations of what is placed: the relation `Places`, what opening, a
-- set and a stamping do to it, the watermark read from marks, and locations as single numbers. Assumes nothing.
use Rattle.std.specs.Prelude.{◌≡◌, refl, List, [], ◌∷◌, ◌++◌, Bool, true, false, ◌||◌, ◌⊎◌, ℕ, zero, suc, ◌+◌, ◌≤◌, ◌<◌, max, ltb, eqb, length, get_or, set, drop}
use Rattle.std.proofs.Common.{sym, ap, ◌∙◌, inl, inr, arith, div-add-mod', length-set, get_or-set_same, get_or-set_other, drop-set-lt, ltb-true, ltb-false, eq-eqb, ne_eqb}
use Rattle.std.proofs.Math.Bool.{cond, or-true}
use Rattle.std.proofs.Math.Decide.{ℕ_discrete}
use Rattle.rules.specs.Limits.{location_radix, mark_written, mark_set}
use Rattle.rules.specs.Guide.{Loc, origin}
use Rattle.rules.specs.Record.{mark_by, pack}
use Rattle.rules.specs.Model.{Located, Model, member, marked, tracked, run_from, watermark, loc_of, later, top, spotted}
use Rattle.laws.specs.ModelBase.{bool_cases, loc_of_left, loc_of_right, marked_append, spotted_marked}
use Rattle.lists.specs.Part.{Below}
use Rattle.tracking.specs.Tracking.{unpacked, peak, stamped, nz, tracked_in}

-- marks and locations of the first N places are those of the set places and of the located ones
pub record Places (N : ℕ) (sets : List ℕ) (ls : List Located) (marks locations : List ℕ) : Type 0 where
  pub marks_long : N ≤ length marks
  pub locations_long : N ≤ length locations
  pub at : (x : ℕ) → x < N → get_or marks x 0 ≡ mark_by (member x sets) (marked x ls)
  pub place_of : (x : ℕ) → x < N → get_or locations x 0 ≡ pack (loc_of ls x)
  pub low : (x : ℕ) → (loc_of ls x).pos < location_radix

-- a number stands for a location, and two locations with low positions have two numbers
pub unpacked_packs : (n : ℕ) → (pack (unpacked n) ≡ n) × ((unpacked n).pos < location_radix)
unfolding pack
unpacked_packs n = (div-add-mod' n location_radix, omega arith)

pub packed_once : (l m : Loc) → l.pos < location_radix → m.pos < location_radix → pack l ≡ pack m → (l.span ≡ m.span) × (l.pos ≡ m.pos)
unfolding pack
packed_once l m hl hm e = (omega arith, omega arith)

later_pack : (l m : Loc) → l.pos < location_radix → m.pos < location_radix → (pack (later l m) ≡ max (pack l) (pack m)) × ((later l m).pos < location_radix)
unfolding later pack
later_pack l m hl hm = go (bool_cases (ltb l.span m.span)) (bool_cases (ltb m.span l.span)) (bool_cases (ltb l.pos m.pos))
  where
    go : (ltb l.span m.span ≡ true) ⊎ (ltb l.span m.span ≡ false) → (ltb m.span l.span ≡ true) ⊎ (ltb m.span l.span ≡ false)
        → (ltb l.pos m.pos ≡ true) ⊎ (ltb l.pos m.pos ≡ false) → (pack (later l m) ≡ max (pack l) (pack m)) × ((later l m).pos < location_radix)
    go (inl a) b c = let x = ltb-true l.span m.span a in rw (a, later) (omega arith, hm)
    go (inr a) (inl b) c = let x = ltb-true m.span l.span b in rw (a, b, later) (omega arith, hl)
    go (inr a) (inr b) (inl c) =
        let x = ltb-false l.span m.span a in
        let y = ltb-false m.span l.span b in
        let z = ltb-true l.pos m.pos c in
        rw (a, b, c, later) (omega arith, hm)
    go (inr a) (inr b) (inr c) =
        let x = ltb-false l.span m.span a in
        let y = ltb-false m.span l.span b in
        let z = ltb-false l.pos m.pos c in
        rw (a, b, c, later) (omega arith, hl)

-- the greatest number among the inputs' is the greatest location's
pub top_pack : (N : ℕ) (sets : List ℕ) (ls : List Located) (marks locations : List ℕ) → Places N sets ls marks locations → (xs : List ℕ) → Below N xs
    → (pack (top ls xs) ≡ peak locations xs) × ((top ls xs).pos < location_radix)
unfolding top peak Below pack
top_pack N sets ls marks locations k [] h = (refl, omega arith)
top_pack N sets ls marks locations k (x ∷ xs) h =
    let r = top_pack N sets ls marks locations k xs h.1 in
    let l = later_pack (loc_of ls x) (top ls xs) (k.low x) r.1 in
    (l.0 ∙ two (pack (loc_of ls x)) (get_or locations x 0) (pack (top ls xs)) (peak locations xs) (sym (k.place_of x h.0)) r.0, l.1)
  where
    two : (a b c d : ℕ) → a ≡ b → c ≡ d → max a c ≡ max b d
    two a b c d e f = rw (e, f)

pub stamped_length : (l xs : List ℕ) (v : ℕ) → length (stamped l xs v) ≡ length l
unfolding stamped
stamped_length l [] v = refl
stamped_length l (x ∷ xs) v = stamped_length (set l x v) xs v ∙ length-set l x v

cond_same : (b : Bool) (v : ℕ) → cond {A = ℕ} b v v ≡ v
cond_same true v = refl
cond_same false v = refl

stamped_at : (l xs : List ℕ) (v x : ℕ) → x < length l → get_or (stamped l xs v) x 0 ≡ cond {A = ℕ} (member x xs) v (get_or l x 0)
unfolding stamped member
stamped_at l [] v x h = refl
stamped_at l (y ∷ xs) v x h = stamped_at (set l y v) xs v x (omega (arith, length-set l y v)) ∙ elim (ℕ_discrete x y) [ yes e ↦ same e | no n ↦ other n ]
  where
    same : x ≡ y → cond {A = ℕ} (member x xs) v (get_or (set l y v) x 0) ≡ cond {A = ℕ} (eqb x y || member x xs) v (get_or l x 0)
    same e = rw (eq-eqb x y e) (rw e (rw (get_or-set_same l y v 0 (omega arith)) (cond_same (member y xs) v)))

    other : (x ≡ y → ⊥) → cond {A = ℕ} (member x xs) v (get_or (set l y v) x 0) ≡ cond {A = ℕ} (eqb x y || member x xs) v (get_or l x 0)
    other n = rw (ne_eqb x y n, get_or-set_other l y x v 0 n)

-- stamping never untracks a place
pub stamped_tracked : (l xs : List ℕ) (x : ℕ) → x < length l → tracked_in l x ≡ true → tracked_in (stamped l xs mark_written) x ≡ true
unfolding tracked_in nz
stamped_tracked l xs x h e = rw (stamped_at l xs mark_written x h) (go (member x xs))
  where
    go : (b : Bool) → nz (cond {A = ℕ} b mark_written (get_or l x 0)) ≡ true
    go true = refl
    go false = e

spotted_at : (l : Loc) (xs : List ℕ) (x : ℕ) → member x xs ≡ true → loc_of (spotted l xs) x ≡ l
unfolding loc_of spotted member
spotted_at l [] x h = absurd (let z : ◌≡◌ {A = ℕ} 0 1 = ap (λ b. cond {A = ℕ} b 1 0) h in omega arith)
spotted_at l (y ∷ xs) x h = go (bool_cases (eqb x y)) (λ k. spotted_at l xs x k)
  where
    go : (eqb x y ≡ true) ⊎ (eqb x y ≡ false) → (member x xs ≡ true → loc_of (spotted l xs) x ≡ l) → loc_of (record { at = y; loc = l } ∷ spotted l xs) x ≡ l
    go (inl e) r = rw (e, loc_of)
    go (inr e) r = rw (e, loc_of) (r (rw e at h))

unspotted : (ss : List Located) (x : ℕ) → marked x ss ≡ false → loc_of ss x ≡ record { span = 0; pos = 0 }
unfolding loc_of marked
unspotted [] x h = refl
unspotted (y ∷ ss) x h = go (bool_cases (eqb x y.at)) (λ k. unspotted ss x k)
  where
    go : (eqb x y.at ≡ true) ⊎ (eqb x y.at ≡ false) → (marked x ss ≡ false → loc_of ss x ≡ record { span = 0; pos = 0 }) → loc_of (y ∷ ss) x ≡ record { span = 0; pos = 0 }
    go (inl e) r = absurd (let h' = rw e at h in let z : ◌≡◌ {A = ℕ} 1 0 = ap (λ b. cond {A = ℕ} b 1 0) h' in omega arith)
    go (inr e) r = rw (e, loc_of) (r (rw e at h))

-- outputs that were neither set nor placed are placed
pub record Fresh (sets : List ℕ) (ls : List Located) (outs : List ℕ) : Type 0 where
  pub unset : (x : ℕ) → member x outs ≡ true → member x sets ≡ false
  pub unplaced : (x : ℕ) → member x outs ≡ true → marked x ls ≡ false

module _ (N : ℕ) (sets : List ℕ) (ls : List Located) (marks locations outs : List ℕ) (l : Loc) (k : Places N sets ls marks locations) (f : Fresh sets ls outs) (hl : l.pos < location_radix) where
  abbrev ls' : List Located
  ls' = ls ++ spotted l outs

  marked' : (x : ℕ) → marked x ls' ≡ (marked x ls || member x outs)
  marked' x = marked_append ls (spotted l outs) x ∙ ap (λ b. marked x ls || b) (spotted_marked l outs x)

  or_false : (b : Bool) → (b || false) ≡ b
  or_false true = refl
  or_false false = refl

  loc_new : (x : ℕ) → member x outs ≡ true → loc_of ls' x ≡ l
  loc_new x e = loc_of_right ls (spotted l outs) x (f.unplaced x e) ∙ spotted_at l outs x e

  loc_old : (x : ℕ) → member x outs ≡ false → loc_of ls' x ≡ loc_of ls x
  loc_old x e = go (bool_cases (marked x ls))
    where
      go : (marked x ls ≡ true) ⊎ (marked x ls ≡ false) → loc_of ls' x ≡ loc_of ls x
      go (inl m) = loc_of_left ls (spotted l outs) x m
      go (inr m) = loc_of_right ls (spotted l outs) x m ∙ unspotted (spotted l outs) x (spotted_marked l outs x ∙ e) ∙ sym (unspotted ls x m)

  at' : (x : ℕ) → x < N → get_or (stamped marks outs mark_written) x 0 ≡ mark_by (member x sets) (marked x ls')
  unfolding mark_by
  at' x h = stamped_at marks outs mark_written x (omega (arith, k.marks_long)) ∙ go (bool_cases (member x outs))
    where
      go : (member x outs ≡ true) ⊎ (member x outs ≡ false) → cond {A = ℕ} (member x outs) mark_written (get_or marks x 0) ≡ mark_by (member x sets) (marked x ls')
      go (inl e) = rw (marked' x, e, f.unset x e, or-true)
      go (inr e) = rw (marked' x, e, or_false (marked x ls)) (k.at x h)

  place_of' : (x : ℕ) → x < N → get_or (stamped locations outs (pack l)) x 0 ≡ pack (loc_of ls' x)
  place_of' x h = stamped_at locations outs (pack l) x (omega (arith, k.locations_long)) ∙ go (bool_cases (member x outs))
    where
      go : (member x outs ≡ true) ⊎ (member x outs ≡ false) → cond {A = ℕ} (member x outs) (pack l) (get_or locations x 0) ≡ pack (loc_of ls' x)
      go (inl e) = rw (e, loc_new x e)
      go (inr e) = rw (e, loc_old x e) (k.place_of x h)

  low' : (x : ℕ) → (loc_of ls' x).pos < location_radix
  low' x = go (bool_cases (member x outs))
    where
      go : (member x outs ≡ true) ⊎ (member x outs ≡ false) → (loc_of ls' x).pos < location_radix
      go (inl e) = rw (loc_new x e) hl
      go (inr e) = rw (loc_old x e) (k.low x)

  pub places_stamped : Places N sets (ls ++ spotted l outs) (stamped marks outs mark_written) (stamped locations outs (pack l))
  places_stamped =
      record {
        marks_long = omega (arith, stamped_length marks outs mark_written, k.marks_long);
        locations_long = omega (arith, stamped_length locations outs (pack l), k.locations_long);
        at = at';
        place_of = place_of';
        low = low';
      }

-- the watermark read from marks
run_cong : (t u : ℕ → Bool) (f m : ℕ) → ((x : ℕ) → x < m + f → t x ≡ u x) → run_from t f m ≡ run_from u f m
unfolding run_from
run_cong t u zero m h = refl
run_cong t u (suc f) m h = go (bool_cases (u m)) (run_cong t u f (suc m) (λ x k. h x (omega arith)))
  where
    go : (u m ≡ true) ⊎ (u m ≡ false) → run_from t f (suc m) ≡ run_from u f (suc m) → run_from t (suc f) m ≡ run_from u (suc f) m
    go (inl e) r = let d : t m ≡ true = h m (omega arith) ∙ e in rw (run_from, d, e) r
    go (inr e) r = let d : t m ≡ false = h m (omega arith) ∙ e in rw (run_from, d, e)

nz_mark : (a b : Bool) → nz (mark_by a b) ≡ (a || b)
unfolding nz mark_by
nz_mark true b = refl
nz_mark false true = refl
nz_mark false false = refl

-- a mark says whether the place is tracked
pub tracked_is : (N : ℕ) (sets : List ℕ) (ls : List Located) (marks locations : List ℕ) → Places N sets ls marks locations → (x : ℕ) → x < N → tracked_in marks x ≡ (member x sets || marked x ls)
unfolding tracked_in
tracked_is N sets ls marks locations k x h = ap nz (k.at x h) ∙ nz_mark (member x sets) (marked x ls)

-- the run of tracked marks is the watermark
pub run_is : (N : ℕ) (k : Model) (marks locations : List ℕ) → Places N k.sets k.located marks locations → run_from (tracked_in marks) N 0 ≡ watermark N k
unfolding watermark tracked
run_is N k marks locations p = run_cong (tracked_in marks) (tracked k) N 0 (λ x h. tracked_is N k.sets k.located marks locations p x (omega arith))

-- tracking more never lowers it
pub run_mono : (t u : ℕ → Bool) (f m : ℕ) → ((x : ℕ) → x < m + f → t x ≡ true → u x ≡ true) → run_from t f m ≤ run_from u f m
unfolding run_from
run_mono t u zero m h = omega arith
run_mono t u (suc f) m h = go (bool_cases (t m)) (run_mono t u f (suc m) (λ x k e. h x (omega arith) e))
  where
    ge : (f m : ℕ) → m ≤ run_from u f m
    ge zero m = omega arith
    ge (suc f) m = step (bool_cases (u m)) (ge f (suc m))
      where
        step : (u m ≡ true) ⊎ (u m ≡ false) → suc m ≤ run_from u f (suc m) → m ≤ run_from u (suc f) m
        step (inl e) r = rw (run_from, e) (omega arith)
        step (inr e) r = rw (run_from, e) (omega arith)

    go : (t m ≡ true) ⊎ (t m ≡ false) → run_from t f (suc m) ≤ run_from u f (suc m) → run_from t (suc f) m ≤ run_from u (suc f) m
    go (inl e) r = let d : u m ≡ true = h m (omega arith) e in rw (run_from, e, d) r
    go (inr e) r = let z = ge (suc f) m in rw (run_from, e) z

pub set_tracked : (l : List ℕ) (y x : ℕ) → x < length l → tracked_in l x ≡ true → tracked_in (set l y mark_set) x ≡ true
unfolding tracked_in nz
set_tracked l y x h e = elim (ℕ_discrete x y) [ yes d ↦ same d | no n ↦ other n ]
  where
    same : x ≡ y → nz (get_or (set l y mark_set) x 0) ≡ true
    same d = rw d (rw (get_or-set_same l y mark_set 0 (omega arith)))

    other : (x ≡ y → ⊥) → nz (get_or (set l y mark_set) x 0) ≡ true
    other n = rw (get_or-set_other l y x mark_set 0 n) e

-- a known lower bound stays one after a stamping and after a set: what `advance` asks
pub stamped_from : (N from : ℕ) (marks xs : List ℕ) → N ≤ length marks → from ≤ run_from (tracked_in marks) N 0 → from ≤ run_from (tracked_in (stamped marks xs mark_written)) N 0
stamped_from N from marks xs long h =
    omega (arith, run_mono (tracked_in marks) (tracked_in (stamped marks xs mark_written)) N 0 (λ x k e. stamped_tracked marks xs x (omega arith) e))

pub set_from : (N from : ℕ) (marks : List ℕ) (y : ℕ) → N ≤ length marks → from ≤ run_from (tracked_in marks) N 0 → from ≤ run_from (tracked_in (set marks y mark_set)) N 0
set_from N from marks y long h = omega (arith, run_mono (tracked_in marks) (tracked_in (set marks y mark_set)) N 0 (λ x k e. set_tracked marks y x (omega arith) e))

-- opening: storage of zeros stands for no set and no placed place
pub places_open : (N : ℕ) (marks locations : List ℕ) → N ≤ length marks → N ≤ length locations → ((x : ℕ) → x < N → get_or marks x 0 ≡ 0) → ((x : ℕ) → x < N → get_or locations x 0 ≡ 0)
    → Places N [] [] marks locations
unfolding mark_by member marked loc_of origin pack
places_open N marks locations hm hl zm zl = record { marks_long = hm; locations_long = hl; at = zm; place_of = zl; low = λ x. omega arith }

-- a set place
pub places_set : (N : ℕ) (sets : List ℕ) (ls : List Located) (marks locations : List ℕ) (x : ℕ) → Places N sets ls marks locations → Places N (x ∷ sets) ls (set marks x mark_set) locations
unfolding mark_by member
places_set N sets ls marks locations x k =
    record { marks_long = omega (arith, length-set marks x mark_set, k.marks_long); locations_long = k.locations_long; at = at''; place_of = k.place_of; low = k.low }
  where
    at'' : (y : ℕ) → y < N → get_or (set marks x mark_set) y 0 ≡ mark_by (member y (x ∷ sets)) (marked y ls)
    at'' y h = elim (ℕ_discrete y x) [ yes e ↦ same e | no n ↦ other n ]
      where
        same : y ≡ x → get_or (set marks x mark_set) y 0 ≡ mark_by (member y (x ∷ sets)) (marked y ls)
        same e = rw (eq-eqb y x e) (rw e (get_or-set_same marks x mark_set 0 (omega (arith, k.marks_long))))

        other : (y ≡ x → ⊥) → get_or (set marks x mark_set) y 0 ≡ mark_by (member y (x ∷ sets)) (marked y ls)
        other n = rw (ne_eqb y x n, get_or-set_other marks x y mark_set 0 n) (k.at y h)

-- what lies beyond the first N places is untouched
pub stamped_beyond : (N : ℕ) (l xs : List ℕ) (v : ℕ) → Below N xs → drop N (stamped l xs v) ≡ drop N l
unfolding stamped Below
stamped_beyond N l [] v b = refl
stamped_beyond N l (x ∷ xs) v b = stamped_beyond N (set l x v) xs v b.1 ∙ drop-set-lt N l x v b.0
