-- Where a counted list and a call end in the numbers, what a count of the calls says, and the laws by which the functions' proofs go.
-- Assumes nothing.
use Rattle.std.specs.Prelude.{◌≡◌, List, [], ◌∷◌, ◌++◌, Bool, ◌⊎◌, length, take, drop}
use Rattle.std.proofs.Math.Path.{refl, ap}
use Rattle.std.proofs.lemmas.List.{append-nil}
use Rattle.std.proofs.Common.{sym, ◌∙◌, length-append, drop_of_length-le, drop-cons, drop-drop}
use Rattle.std.proofs.Math.Bool.{true, false}
use Rattle.std.proofs.Math.Logic.{inl, inr}
use Rattle.std.proofs.Math.Option.{Option, some, none}
use Prim.Native.Nat.{ℕ, suc, ◌+◌, ◌-◌, ◌≤◌, ◌<◌}
use native.Mathlib.Omega.{arith}
use Rattle.std.proofs.Math.Dec.{leb}
use Rattle.std.proofs.Math.ListN.{get_or, length-drop}
use borrow.Author.Tests.{le-leb, lt-leb, ne_eqb}
use Rattle.rules.specs.Calls.{Call, set, add, flush, final}
use Rattle.laws.specs.History.{lt_or_le}
use Rattle.rules.specs.Encoding.{set_tag, add_tag, flush_tag, final_tag, lane_add_tag, Front, counted, set_front, add_outs, add_front, lane_front, front, unless_empty, decode_from, decode}
use Rattle.encoding.specs.Decode.{decode_none, decode_some, prefix, prefix_more, prefix_none, prefix_some}

-- r is the index past the counted list at `at`, or 0 where there is none
abbrev pub ListEnds : List ℕ → ℕ → ℕ → Type 0
ListEnds l at r =
    ((r ≡ 0) × (counted (drop at l) ≡ none))
    ⊎ ((at < r) × (r ≤ length l) × (counted (drop at l) ≡ some (record { items = take (r - (at + 1)) (drop (at + 1) l); rest = drop r l })))

-- r is the index past the call that was read at `at`, or 0 where none was
abbrev pub Ends : Option Front → List ℕ → ℕ → ℕ → Type 0
Ends o l at r = ((r ≡ 0) × (o ≡ none)) ⊎ ((call : Call) × (at < r) × (r ≤ length l) × (o ≡ some (record { call = call; rest = drop r l })))

-- r is the index past the two counted lists at `at`, or 0 where they are not there: the lists of an add, whatever its lane is
abbrev pub AddEnds : List ℕ → ℕ → ℕ → Type 0
AddEnds l at r = (lane : ℕ) → Ends (add_front lane (counted (drop at l))) l at r

-- whether the numbers are a list of calls, and how many these are
pub record Counts (l : List ℕ) (well : Bool) (n : ℕ) : Type 0 where
  pub malformed : well ≡ false → decode l ≡ none
  pub formed : well ≡ true → (cs : List Call) × (decode l ≡ some cs) × (length cs ≡ n)

module _ (l : List ℕ) (at : ℕ) where
  pub list_past : length l ≤ at → ListEnds l at 0
  unfolding counted
  list_past h = inl (refl, ap counted (drop_of_length-le l h))

  pub list_short : (n : ℕ) → n ≡ get_or l at 0 → at < length l → length l - at ≤ n → ListEnds l at 0
  unfolding counted
  list_short n d h k =
      let e : leb (get_or l at 0) (length (drop (suc at) l)) ≡ false = lt-leb (get_or l at 0) (length (drop (suc at) l)) (omega (arith, length-drop (suc at) l)) in
      inl (refl, ap counted (drop-cons l at 0 h) ∙ rw (e, counted))

  pub list_whole : (n : ℕ) → n ≡ get_or l at 0 → at < length l → n < length l - at → ListEnds l at (at + 1 + n)
  unfolding counted
  list_whole n d h k =
      let e : leb (get_or l at 0) (length (drop (suc at) l)) ≡ true = le-leb (get_or l at 0) (length (drop (suc at) l)) (omega (arith, length-drop (suc at) l)) in
      let m : at + 1 + n - (at + 1) ≡ get_or l at 0 = omega arith in
      let s : at + 1 ≡ suc at = omega arith in
      let t : at + 1 + n ≡ suc at + get_or l at 0 = omega arith in
      inr (omega arith, omega arith, ap counted (drop-cons l at 0 h) ∙ rw (e, counted) (rw (m, t, s, drop-drop)))

  -- a list that is there lies inside
  pub list_there : (counted (drop at l) ≡ none → ⊥) → (at < length l) × (get_or l at 0 < length l - at)
  list_there h = go (lt_or_le at (length l))
    where
      none_of : ListEnds l at 0 → counted (drop at l) ≡ none
      none_of (inl x) = x.1
      none_of (inr x) = absurd (omega (arith, x.0))

      go : (at < length l) ⊎ (length l ≤ at) → (at < length l) × (get_or l at 0 < length l - at)
      go (inr x) = absurd (h (none_of (list_past x)))
      go (inl x) = elim (lt_or_le (get_or l at 0) (length l - at)) [ inl y ↦ (x, y) | inr y ↦ absurd (h (none_of (list_short (get_or l at 0) refl x y))) ]

  pub add_none : (middle : ℕ) → ListEnds l at middle → middle ≡ 0 → AddEnds l at 0
  unfolding add_front
  add_none middle (inl x) e lane = inl (refl, rw (x.1, add_front))
  add_none middle (inr x) e lane = absurd (omega (arith, x.0))

  -- two counted lists, one after the other
  pub add_whole : (middle r lane : ℕ) → counted (drop at l) ≡ some (record { items = take (middle - (at + 1)) (drop (at + 1) l); rest = drop middle l })
      → counted (drop middle l) ≡ some (record { items = take (r - (middle + 1)) (drop (middle + 1) l); rest = drop r l })
      → add_front lane (counted (drop at l)) ≡ some (record { call = add lane (take (middle - (at + 1)) (drop (at + 1) l)) (take (r - (middle + 1)) (drop (middle + 1) l)); rest = drop r l })
  unfolding add_front add_outs
  add_whole middle r lane x y = rw (x, add_front) (rw (y, add_outs))

  pub add_some : (middle r : ℕ) → ListEnds l at middle → (middle ≡ 0 → ⊥) → ListEnds l middle r → AddEnds l at r
  unfolding add_front add_outs
  add_some middle r (inl x) e y lane = absurd (e x.0)
  add_some middle r (inr x) e (inl y) lane = inl (y.0, rw (x.2, add_front) (rw (y.1, add_outs)))
  add_some middle r (inr x) e (inr y) lane =
      inr (add lane (take (middle - (at + 1)) (drop (at + 1) l)) (take (r - (middle + 1)) (drop (middle + 1) l)), omega (arith, x.0, y.0), y.1, add_whole middle r lane x.2 y.2)

  module _ (h : at < length l) where
    front_at : front (drop at l) ≡ front (get_or l at 0 ∷ drop (at + 1) l)
    front_at = let s : at + 1 ≡ suc at = omega arith in ap front (drop-cons l at 0 h ∙ ap (λ n. get_or l at 0 ∷ drop n l) (sym s))

    -- the call that starts at `at`, by its tag
    pub front_set : get_or l at 0 ≡ set_tag → at + 1 < length l → front (drop at l) ≡ some (record { call = set (get_or l (at + 1) 0); rest = drop (at + 2) l })
    unfolding front set_front
    front_set e k = let s : suc (at + 1) ≡ at + 2 = omega arith in front_at ∙ rw e (rw (drop-cons l (at + 1) 0 k, s))

    pub front_set_short : get_or l at 0 ≡ set_tag → length l ≤ at + 1 → front (drop at l) ≡ none
    unfolding front set_front
    front_set_short e k = front_at ∙ rw e (rw (drop_of_length-le l k))

    pub front_add : get_or l at 0 ≡ add_tag → front (drop at l) ≡ add_front 0 (counted (drop (at + 1) l))
    unfolding front
    front_add e = front_at ∙ rw e refl

    pub front_lane_add : get_or l at 0 ≡ lane_add_tag → at + 1 < length l → front (drop at l) ≡ add_front (get_or l (at + 1) 0) (counted (drop (at + 2) l))
    unfolding front lane_front
    front_lane_add e k = let s : suc (at + 1) ≡ at + 2 = omega arith in front_at ∙ rw e (rw (drop-cons l (at + 1) 0 k, s))

    pub front_lane_add_short : get_or l at 0 ≡ lane_add_tag → length l ≤ at + 1 → front (drop at l) ≡ none
    unfolding front lane_front
    front_lane_add_short e k = front_at ∙ rw e (rw (drop_of_length-le l k))

    pub front_flush : get_or l at 0 ≡ flush_tag → front (drop at l) ≡ some (record { call = flush; rest = drop (at + 1) l })
    unfolding front
    front_flush e = front_at ∙ rw e refl

    pub front_final : get_or l at 0 ≡ final_tag → front (drop at l) ≡ some (record { call = final; rest = drop (at + 1) l })
    unfolding front
    front_final e = front_at ∙ rw e refl

    pub front_other : (get_or l at 0 ≡ set_tag → ⊥) → (get_or l at 0 ≡ add_tag → ⊥) → (get_or l at 0 ≡ flush_tag → ⊥) → (get_or l at 0 ≡ final_tag → ⊥) → (get_or l at 0 ≡ lane_add_tag → ⊥)
        → front (drop at l) ≡ none
    unfolding front
    front_other a b c d e =
        front_at
        ∙ rw (ne_eqb (get_or l at 0) set_tag a, ne_eqb (get_or l at 0) add_tag b, ne_eqb (get_or l at 0) flush_tag c, ne_eqb (get_or l at 0) final_tag d, ne_eqb (get_or l at 0) lane_add_tag e, front)

    -- the lists of an add start at i, which is past its tag
    add_ends : (lane : ℕ) {i r : ℕ} → at < i → front (drop at l) ≡ add_front lane (counted (drop i l)) → AddEnds l i r → Ends (front (drop at l)) l at r
    add_ends lane past f a = elim (a lane) [ inl x ↦ inl (x.0, f ∙ x.1) | inr x ↦ inr (x.0, omega (arith, past, x.1), x.2, f ∙ x.3) ]

    pub call_add : (r : ℕ) → get_or l at 0 ≡ add_tag → AddEnds l (at + 1) r → Ends (front (drop at l)) l at r
    call_add r e a = add_ends 0 (omega arith) (front_add e) a

    pub call_lane_add : (r : ℕ) → get_or l at 0 ≡ lane_add_tag → AddEnds l (at + 2) r → Ends (front (drop at l)) l at r
    call_lane_add r e a = go (lt_or_le (at + 1) (length l))
      where
        none_there : length l ≤ at + 1 → r ≡ 0
        none_there k = elim (a 0) [ inl x ↦ x.0 | inr x ↦ absurd (omega (arith, x.1, x.2)) ]

        go : (at + 1 < length l) ⊎ (length l ≤ at + 1) → Ends (front (drop at l)) l at r
        go (inl k) = add_ends (get_or l (at + 1) 0) (omega arith) (front_lane_add e k) a
        go (inr k) = inl (none_there k, front_lane_add_short e k)

    -- a flush or a final is its tag alone
    pub call_alone : 3 ≤ get_or l at 0 → get_or l at 0 ≤ 4 → Ends (front (drop at l)) l at (at + 1)
    call_alone a b = go (lt_or_le (get_or l at 0) 4)
      where
        go : (get_or l at 0 < 4) ⊎ (4 ≤ get_or l at 0) → Ends (front (drop at l)) l at (at + 1)
        go (inl k) = inr (flush, omega arith, omega arith, front_flush (omega arith))
        go (inr k) = inr (final, omega arith, omega arith, front_final (omega arith))

    pub call_set : get_or l at 0 ≡ set_tag → at + 1 < length l → Ends (front (drop at l)) l at (at + 2)
    call_set e k = inr (set (get_or l (at + 1) 0), omega arith, omega arith, front_set e k)

    pub call_set_short : get_or l at 0 ≡ set_tag → length l ≤ at + 1 → Ends (front (drop at l)) l at 0
    call_set_short e k = inl (refl, front_set_short e k)

    pub call_other : (get_or l at 0 ≡ set_tag → ⊥) → (get_or l at 0 ≡ add_tag → ⊥) → (get_or l at 0 ≡ flush_tag → ⊥) → (get_or l at 0 ≡ final_tag → ⊥) → (get_or l at 0 ≡ lane_add_tag → ⊥)
        → Ends (front (drop at l)) l at 0
    call_other a b c d e = inl (refl, front_other a b c d e)

-- the count at `at`: n calls were read, and the rest is still to be read
pub record Counting (l : List ℕ) (at n : ℕ) : Type 0 where
  pub upto : at ≤ length l
  pub few : n ≤ at
  pub calls : List Call
  pub many : length calls ≡ n
  pub is : decode l ≡ prefix calls (decode (drop at l))

pub count_start : (l : List ℕ) → Counting l 0 0
unfolding prefix
count_start l = record { upto = omega arith; few = omega arith; calls = []; many = refl; is = refl }

pub count_turn : (l : List ℕ) (at n r : ℕ) → Counting l at n → Ends (front (drop at l)) l at r → (r ≡ 0 → ⊥) → Counting l r (n + 1)
count_turn l at n r c (inl x) z = absurd (z x.0)
count_turn l at n r c (inr x) z =
    record {
      upto = x.2;
      few = omega (arith, c.few, x.1);
      calls = c.calls ++ (x.0 ∷ []);
      many = length-append c.calls (x.0 ∷ []) ∙ omega (arith, c.many);
      is = c.is ∙ ap (prefix c.calls) (decode_some (drop at l) (record { call = x.0; rest = drop r l }) x.3) ∙ prefix_more c.calls x.0 (decode (drop r l));
    }

pub count_stop : (l : List ℕ) (at n r : ℕ) → Counting l at n → at < length l → Ends (front (drop at l)) l at r → r ≡ 0 → Counts l false 0
count_stop l at n r c h (inl x) z =
    record {
      malformed = λ e. c.is ∙ ap (prefix c.calls) (decode_none (drop at l) (omega (arith, length-drop at l)) x.1) ∙ prefix_none c.calls;
      formed = λ e. let y : ◌≡◌ {A = ℕ} 0 1 = cc in absurd (omega arith);
    }
count_stop l at n r c h (inr x) z = absurd (omega (arith, x.1))

pub count_end : (l : List ℕ) (at n : ℕ) → Counting l at n → length l ≤ at → Counts l true n
unfolding decode decode_from unless_empty
count_end l at n c h =
    record {
      malformed = λ e. let y : ◌≡◌ {A = ℕ} 0 1 = cc in absurd (omega arith);
      formed = λ e. (c.calls, c.is ∙ ap (λ x. prefix c.calls (decode x)) (drop_of_length-le l h) ∙ prefix_some c.calls [] ∙ ap some (append-nil c.calls), c.many);
    }

module _ (l : List ℕ) (at : ℕ) where
  module _ (h : at < length l) where
    pub call_flush : get_or l at 0 ≡ flush_tag → Ends (front (drop at l)) l at (at + 1)
    call_flush e = inr (flush, omega arith, omega arith, front_flush l at h e)

    pub call_final : get_or l at 0 ≡ final_tag → Ends (front (drop at l)) l at (at + 1)
    call_final e = inr (final, omega arith, omega arith, front_final l at h e)

append_none : (cs : List Call) → cs ++ [] ≡ cs
append_none [] = refl
append_none (c ∷ cs) = ap (λ x. c ∷ x) (append_none cs)

pub count_less : (l : List ℕ) (at r : ℕ) → at < length l → Ends (front (drop at l)) l at r → (r ≡ 0 → ⊥) → length l - r < length l - at
count_less l at r h (inl x) z = absurd (z x.0)
count_less l at r h (inr x) z = omega (arith, x.1)
