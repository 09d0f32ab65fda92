-- Laws of the pool: what is read of a registration is its inputs and outputs, and one registration more extends it. Assumes nothing.
use Rattle.std.specs.Prelude.{◌≡◌, refl, ◌⊎◌, true, false, ltb, get_or, set, take}
use Rattle.std.proofs.Math.Path.{sym, ap}
use Rattle.std.proofs.Common.{◌∙◌, inl, inr, add-one, length-take, length-drop, take-append-drop, take_at, drop_at, take_all, take-suc, length-take-le}
use mathlib.Core.List.{List, [], ◌∷◌, ◌++◌, append_assoc, append-nil}
use Prim.Native.Nat.{ℕ, zero, suc, ◌+◌, ◌-◌, ◌*◌, ◌/◌, ◌%◌, ◌≤◌, ◌<◌}
use native.Mathlib.Omega.{arith}
use Rattle.std.proofs.Math.ListN.{length, drop, length-append, length-set, get_or-append}
use Rattle.std.proofs.lemmas.List.{take-append-le}
use Rattle.std.proofs.Math.Seq.{take-length, get_or-append_seam, get_or-set_same, get_or-set_other, paste, paste-zero, paste-suc}
use borrow.Author.Tests.{ltb-true, ltb-false}
use Rattle.rules.specs.Model.{Reg, Model, reg_of}
use Rattle.rules.specs.Limits.{most_lane, most_in_a_list}
use Rattle.rules.specs.Checks.{pooled, waiting_needed}
use Rattle.laws.specs.ModelBase.{bool_cases}
use Rattle.lists.specs.Part.{part}
use Rattle.pool.specs.Lists.{lane_limit, inputs_limit, cell, cell_at, with_cell, start_of, inputs_of, lane_of, end_of, stored, contents, nth, Lists}

-- what a cell is read as
module _ (start inputs lane : ℕ) (few : inputs < inputs_limit) (low : lane < lane_limit) where
  pub cell_start : cell start inputs lane / (inputs_limit * lane_limit) ≡ start
  unfolding cell
  cell_start = omega arith

  pub cell_inputs : cell start inputs lane / lane_limit % inputs_limit ≡ inputs
  unfolding cell
  cell_inputs = let e : cell start inputs lane / lane_limit ≡ start * inputs_limit + inputs = omega arith in rw e (omega arith)

  pub cell_lane : cell start inputs lane % lane_limit ≡ lane
  unfolding cell
  cell_lane = omega arith

-- the cell that is stored is read, and the others are as they were
module _ (w : List ℕ) (v r start inputs lane : ℕ) where
  pub cell_length : length (with_cell w v r start inputs lane) ≡ length w
  unfolding with_cell
  cell_length = simp length-set

  cell_same : r < v → waiting_needed v ≤ length w → cell_at (with_cell w v r start inputs lane) v r ≡ cell start inputs lane
  unfolding with_cell cell_at
  cell_same h long = get_or-set_same w _ _ 0 (omega arith)

  cell_other : (q : ℕ) → q < r → cell_at (with_cell w v r start inputs lane) v q ≡ cell_at w v q
  unfolding with_cell cell_at
  cell_other q h = get_or-set_other w _ _ _ 0 (λ e. omega arith)

-- the accepted add numbered r
pub reg_is : (k : Model) (r : ℕ) → r < length k.adds → reg_of k r ≡ nth k.adds r
unfolding reg_of nth
reg_is k r h = default _ (record { lane = 0; ins = []; outs = [] }) k.adds r h
  where
    default : (d e : Reg) (l : List Reg) (i : ℕ) → i < length l → get_or l i d ≡ get_or l i e
    default d e [] i h = absurd (omega arith)
    default d e (x ∷ l) zero h = refl
    default d e (x ∷ l) (suc i) h = default d e l i (omega arith)

contents_length : (as' : List Reg) → length (contents as') ≡ pooled as'
unfolding contents pooled
contents_length [] = refl
contents_length (a ∷ as') = simp length-append (omega (arith, contents_length as'))

contents_append : (as' bs : List Reg) → contents (as' ++ bs) ≡ contents as' ++ contents bs
unfolding contents
contents_append [] bs = refl
contents_append (a ∷ as') bs = rw (contents_append as' bs) (simp append_assoc)

pooled_append : (as' bs : List Reg) → pooled (as' ++ bs) ≡ pooled as' + pooled bs
unfolding pooled
pooled_append [] bs = omega arith
pooled_append (a ∷ as') bs = omega (arith, pooled_append as' bs)

take_snoc : (as' : List Reg) (r : ℕ) → r < length as' → take (suc r) as' ≡ take r as' ++ (nth as' r ∷ [])
unfolding nth
take_snoc as' r h = take-suc as' r (record { lane = 0; ins = []; outs = [] }) h

pooled_next : (as' : List Reg) (r : ℕ) → r < length as' → pooled (take (suc r) as') ≡ pooled (take r as') + length (nth as' r).ins + length (nth as' r).outs
unfolding pooled
pooled_next as' r h = ap pooled (take_snoc as' r h) ∙ pooled_append (take r as') (nth as' r ∷ []) ∙ omega arith

-- a registration's lists within them all
contents_at : (as' : List Reg) (r : ℕ) → r < length as'
    → contents as' ≡ contents (take r as') ++ ((nth as' r).ins ++ ((nth as' r).outs ++ contents (drop (suc r) as')))
unfolding contents
contents_at as' r h =
    ap contents (sym (take-append-drop (suc r) as')) ∙ contents_append (take (suc r) as') (drop (suc r) as')
    ∙ ap (λ (l : List Reg). contents l ++ contents (drop (suc r) as')) (take_snoc as' r h)
    ∙ ap (λ (l : List ℕ). l ++ contents (drop (suc r) as')) (contents_append (take r as') (nth as' r ∷ []))
    ∙ rw append-nil (simp append_assoc)

lt_or_eq : (a b : ℕ) → a < suc b → (a < b) ⊎ (a ≡ b)
lt_or_eq a b h = go (bool_cases (ltb a b))
  where
    go : (ltb a b ≡ true) ⊎ (ltb a b ≡ false) → (a < b) ⊎ (a ≡ b)
    go (inl e) = inl (ltb-true a b e)
    go (inr e) = inr (omega (arith, ltb-false a b e))

nth_old : (as' : List Reg) (g : Reg) (r : ℕ) → r < length as' → nth (as' ++ (g ∷ [])) r ≡ nth as' r
unfolding nth
nth_old as' g r h = get_or-append as' (g ∷ []) (record { lane = 0; ins = []; outs = [] }) r h

nth_new : (as' : List Reg) (g : Reg) → nth (as' ++ (g ∷ [])) (length as') ≡ g
unfolding nth
nth_new as' g = get_or-append_seam as' g [] (record { lane = 0; ins = []; outs = [] })

-- ---- a list stored

pub stored_length : (pool : List ℕ) (at : ℕ) (xs : List ℕ) → at + length xs ≤ length pool → length (stored pool at xs) ≡ length pool
unfolding stored
stored_length pool at xs h = simp (length-append, length-take, length-drop) (omega arith)

pub stored_take : (pool : List ℕ) (at : ℕ) (xs : List ℕ) → at ≤ length pool → take (at + length xs) (stored pool at xs) ≡ take at pool ++ xs
unfolding stored
stored_take pool at xs h =
    ap (λ (l : List ℕ). take (at + length xs) l) (sym (append_assoc (take at pool) xs (drop (at + length xs) pool)))
    ∙ take_at (take at pool ++ xs) (drop (at + length xs) pool) (at + length xs) (length-append (take at pool) xs ∙ ap (λ (n : ℕ). n + length xs) (length-take-le at pool h))

-- the loop that stores: the first j are there
abbrev pub storing : List ℕ → ℕ → List ℕ → ℕ → List ℕ
storing pool at xs j = paste pool at xs j

pub store_next : (pool : List ℕ) (at : ℕ) (xs : List ℕ) (j : ℕ) → at + length xs ≤ length pool → j < length xs → set (storing pool at xs j) (at + j) (get_or xs j 0) ≡ storing pool at xs (j + 1)
store_next pool at xs j h k = paste-suc pool at xs j 0 (omega arith) k ∙ ap (λ (n : ℕ). paste pool at xs n) (sym (add-one j))

pub store_end : (pool : List ℕ) (at : ℕ) (xs : List ℕ) (j : ℕ) → j ≡ length xs → storing pool at xs j ≡ stored pool at xs
unfolding stored
store_end pool at xs j e = rw (e, take-length xs) (append_assoc (take at pool) xs (drop (at + length xs) pool))

pub store_begin : (pool : List ℕ) (at : ℕ) (xs : List ℕ) → pool ≡ storing pool at xs 0
store_begin pool at xs = paste-zero pool at xs

-- a list of one number, without the loop
pub store_one : (pool : List ℕ) (at : ℕ) (xs : List ℕ) → at + length xs ≤ length pool → length xs ≡ 1 → set pool at (get_or xs 0 0) ≡ stored pool at xs
store_one pool at xs h e =
    let z : at + 0 ≡ at = omega arith in
    ap (λ (l : List ℕ). set l at (get_or xs 0 0)) (store_begin pool at xs)
    ∙ ap (λ (i : ℕ). set (storing pool at xs 0) i (get_or xs 0 0)) (sym z)
    ∙ store_next pool at xs 0 h (omega arith)
    ∙ store_end pool at xs (0 + 1) (omega arith)

-- the parts of registration r as they are read: its lane, where its lists start, how many inputs, where the outputs end
pub record Parts (w : List ℕ) (v r n used : ℕ) (pool : List ℕ) (g : Reg) : Type 0 where
  pub lane_is : lane_of w v r ≡ g.lane
  pub ordered : start_of w v r + inputs_of w v r ≤ end_of w v r n used
  pub inside : end_of w v r n used ≤ length pool
  pub ins_are : part pool (start_of w v r) (inputs_of w v r) ≡ g.ins
  pub outs_are : part pool (start_of w v r + inputs_of w v r) (end_of w v r n used - (start_of w v r + inputs_of w v r)) ≡ g.outs

module _ (N : ℕ) (adds : List Reg) (used : ℕ) (w pool : List ℕ) (l : Lists N adds used w pool) where
  module _ (r : ℕ) (h : r < length adds) where
    low : (nth adds r).lane < lane_limit
    low = omega (arith, (l.few r h).0)

    short : length (nth adds r).ins < inputs_limit
    short = omega (arith, (l.few r h).1)

    pub starts : start_of w N r ≡ pooled (take r adds)
    unfolding start_of
    starts = ap (λ (x : ℕ). x / (inputs_limit * lane_limit)) (l.cells r h) ∙ cell_start (pooled (take r adds)) (length (nth adds r).ins) (nth adds r).lane short low

    pub inputs : inputs_of w N r ≡ length (nth adds r).ins
    unfolding inputs_of
    inputs = ap (λ (x : ℕ). x / lane_limit % inputs_limit) (l.cells r h) ∙ cell_inputs (pooled (take r adds)) (length (nth adds r).ins) (nth adds r).lane short low

    pub lane : lane_of w N r ≡ (nth adds r).lane
    unfolding lane_of
    lane = ap (λ (x : ℕ). x % lane_limit) (l.cells r h) ∙ cell_lane (pooled (take r adds)) (length (nth adds r).ins) (nth adds r).lane short low

  pub ends : (r : ℕ) → r < length adds → end_of w N r (length adds) used ≡ pooled (take (suc r) adds)
  unfolding end_of
  ends r h = go (bool_cases (ltb (r + 1) (length adds)))
    where
      go : (ltb (r + 1) (length adds) ≡ true) ⊎ (ltb (r + 1) (length adds) ≡ false) → end_of w N r (length adds) used ≡ pooled (take (suc r) adds)
      go (inl e) = rw (e, end_of) (starts (r + 1) (ltb-true (r + 1) (length adds) e) ∙ ap (λ (n : ℕ). pooled (take n adds)) (add-one r))
      go (inr e) =
          let k : length adds ≤ suc r = omega (arith, ltb-false (r + 1) (length adds) e) in
          rw (e, end_of) (l.used_is ∙ ap pooled (sym (take_all (suc r) adds k)))

  module _ (r : ℕ) (h : r < length adds) where
    a : Reg
    a = nth adds r

    before : List ℕ
    before = contents (take r adds)

    after : List ℕ
    after = contents (drop (suc r) adds) ++ drop used pool

    whole : pool ≡ before ++ (a.ins ++ (a.outs ++ after))
    unfolding a before after
    whole =
        sym (take-append-drop used pool) ∙ ap (λ (x : List ℕ). x ++ drop used pool) (l.content ∙ contents_at adds r h) ∙ simp append_assoc

    before_length : length before ≡ pooled (take r adds)
    unfolding before
    before_length = contents_length (take r adds)

    pooled_le : pooled (take (suc r) adds) ≤ used
    pooled_le =
        let e : pooled adds ≡ pooled (take (suc r) adds) + pooled (drop (suc r) adds) = ap pooled (sym (take-append-drop (suc r) adds)) ∙ pooled_append (take (suc r) adds) (drop (suc r) adds) in
        omega (arith, e, l.used_is)

    at_ins : drop (pooled (take r adds)) pool ≡ a.ins ++ (a.outs ++ after)
    at_ins = ap (λ (x : List ℕ). drop (pooled (take r adds)) x) whole ∙ drop_at before (a.ins ++ (a.outs ++ after)) (pooled (take r adds)) before_length

    at_outs : drop (pooled (take r adds) + length a.ins) pool ≡ a.outs ++ after
    at_outs =
        ap (λ (x : List ℕ). drop (pooled (take r adds) + length a.ins) x) (whole ∙ sym (append_assoc before a.ins (a.outs ++ after)))
        ∙ drop_at (before ++ a.ins) (a.outs ++ after) (pooled (take r adds) + length a.ins) (length-append before a.ins ∙ ap (λ (n : ℕ). n + length a.ins) before_length)

    -- what is read of registration r
    pub parts : Parts w N r (length adds) used pool (nth adds r)
    unfolding part a
    parts =
        let s = starts r h in
        let n = inputs r h in
        let e = ends r h in
        let p = pooled_next adds r h in
        let d : end_of w N r (length adds) used - (start_of w N r + inputs_of w N r) ≡ length a.outs = omega (arith, s, n, e, p) in
        record {
          lane_is = lane r h;
          ordered = omega (arith, s, n, e, p);
          inside = omega (arith, e, pooled_le, l.fits);
          ins_are = rw (s, n, at_ins) (take_at a.ins (a.outs ++ after) (length a.ins) refl);
          outs_are = rw (d, s, n, at_outs) (take_at a.outs after (length a.outs) refl);
        }

  -- only the cells matter
  pub lists_same : (w' : List ℕ) → length w' ≡ length w → ((r : ℕ) → r < N → cell_at w' N r ≡ cell_at w N r) → Lists N adds used w' pool
  lists_same w' e same =
      record {
        long = omega (arith, l.long);
        many = l.many;
        used_is = l.used_is;
        fits = l.fits;
        content = l.content;
        cells = λ r h. same r (omega (arith, l.many)) ∙ l.cells r h;
        few = l.few;
      }

  -- one registration more: its lists stored behind the others', and its cell
  pub lists_add : (g : Reg) → length adds < N → used + length g.ins + length g.outs ≤ length pool → g.lane ≤ most_lane → length g.ins ≤ most_in_a_list
      → Lists N (adds ++ (g ∷ [])) (used + length g.ins + length g.outs) (with_cell w N (length adds) used (length g.ins) g.lane)
      (stored (stored pool used g.ins) (used + length g.ins) g.outs)
  unfolding pooled contents
  lists_add g room fits low li =
      record {
        long = omega (arith, l.long, cell_length w N (length adds) used (length g.ins) g.lane);
        many = omega (arith, length-append adds (g ∷ []));
        used_is = omega (arith, l.used_is, pooled_append adds (g ∷ []));
        fits = omega (arith, two);
        content = whole;
        cells = λ r h. cells r (lt_or_eq r (length adds) (omega (arith, length-append adds (g ∷ []))));
        few = λ r h. few r (lt_or_eq r (length adds) (omega (arith, length-append adds (g ∷ []))));
      }
    where
      mid : List ℕ
      mid = stored pool used g.ins

      one : length mid ≡ length pool
      one = stored_length pool used g.ins (omega arith)

      two : length (stored mid (used + length g.ins) g.outs) ≡ length pool
      two = stored_length mid (used + length g.ins) g.outs (omega (arith, one)) ∙ one

      whole : take (used + length g.ins + length g.outs) (stored mid (used + length g.ins) g.outs) ≡ contents (adds ++ (g ∷ []))
      whole =
          stored_take mid (used + length g.ins) g.outs (omega (arith, one))
          ∙ ap (λ (x : List ℕ). x ++ g.outs) (stored_take pool used g.ins l.fits)
          ∙ ap (λ (x : List ℕ). (x ++ g.ins) ++ g.outs) l.content
          ∙ append_assoc (contents adds) g.ins g.outs
          ∙ ap (λ (x : List ℕ). contents adds ++ (g.ins ++ x)) (sym (append-nil g.outs))
          ∙ sym (contents_append adds (g ∷ []))

      old : (r : ℕ) → r < length adds → nth (adds ++ (g ∷ [])) r ≡ nth adds r
      old r h = nth_old adds g r h

      new : nth (adds ++ (g ∷ [])) (length adds) ≡ g
      new = nth_new adds g

      cells : (r : ℕ) → (r < length adds) ⊎ (r ≡ length adds)
          →
          cell_at (with_cell w N (length adds) used (length g.ins) g.lane) N r
          ≡ cell (pooled (take r (adds ++ (g ∷ [])))) (length (nth (adds ++ (g ∷ [])) r).ins) (nth (adds ++ (g ∷ [])) r).lane
      cells r (inl h) =
          rw (cell_other w N (length adds) used (length g.ins) g.lane r h, take-append-le r adds (g ∷ []) (omega arith), old r h) (l.cells r h)
      cells r (inr e) =
          rw (e, cell_same w N (length adds) used (length g.ins) g.lane room l.long, take-append-le (length adds) adds (g ∷ []) (omega arith), take-length adds, new, l.used_is)

      few : (r : ℕ) → (r < length adds) ⊎ (r ≡ length adds) → ((nth (adds ++ (g ∷ [])) r).lane ≤ most_lane) × (length (nth (adds ++ (g ∷ [])) r).ins ≤ most_in_a_list)
      few r (inl h) = rw (old r h) (l.few r h)
      few r (inr e) = rw (e, new) (low, li)

-- opening: no list is stored
pub lists_open : (N : ℕ) (w pool : List ℕ) → waiting_needed N ≤ length w → Lists N [] 0 w pool
unfolding pooled contents
lists_open N w pool long =
    record { long = long; many = omega arith; used_is = refl; fits = omega arith; content = refl; cells = λ r h. absurd (omega arith); few = λ r h. absurd (omega arith) }

-- what is read of registration r is the model's
pub parts_of : (N : ℕ) (k : Model) (used : ℕ) (w pool : List ℕ) → Lists N k.adds used w pool → (r : ℕ) → r < length k.adds
    → Parts w N r (length k.adds) used pool (reg_of k r)
parts_of N k used w pool l r h = rw (reg_is k r h) (parts N k.adds used w pool l r h)
