-- Laws of keys: the tests of them, and a line by the key that it starts with and those that it does not. Assumes nothing.
use Rattle.std.specs.Prelude.{Bool, true, false, not, ◌⊎◌, ◌≡◌, ℕ, suc, ◌+◌, ◌≤◌, ◌<◌, length, get_or, drop, eqb}
use mathlib.Core.List.{List, [], ◌∷◌}
use Rattle.std.proofs.Common.{inl, inr, ap, ◌∙◌, zero-le, suc-le-suc, add-one, arith, length-drop, take, take_all}
use Rattle.std.specs.Str.{bytes_eq}
use Rattle.std.proofs.lemmas.Bool.{eqb-false}
use Rattle.std.proofs.lemmas.Slice.Eq.{bytes_eq-Decides}
use Rattle.std.proofs.Math.Option.{Option, some, none}
use Rattle.std.proofs.Math.Path.{refl, sym}
use Rattle.std.proofs.Math.ListN.{drop_of_length-le}
use Rattle.std.proofs.Math.Seq.{drop-cons}
use borrow.Author.Tests.{eq-eqb, ne_eqb, eqb-true}
use Rattle.rules.specs.Job.{Line, parallelism_line, places_line, set_line, lane_line, in_line, out_line, flush_line, final_line, malformed, number, list, with_number, with_list, whole}
use Rattle.rules.specs.Job.{after_key, key_or, line_of, key_parallelism, key_places, key_set, key_lane, key_in, key_out, flush_text, final_text}
use Rattle.jobtext.specs.Pieces.{bool}
use Rattle.jobline.specs.Lines.{is_some, begins, NoAdd}

-- std's equality of bytes, of a key and of a whole line
pub begins_is : (ks s : List ℕ) → bytes_eq (take (length ks) s) ks ≡ begins ks s
unfolding begins is_some after_key
begins_is [] s = refl
begins_is (k ∷ ks) [] = refl
begins_is (k ∷ ks) (x ∷ s) = go (bool (eqb x k)) (begins_is ks s)
  where
    go : (eqb x k ≡ true) ⊎ (eqb x k ≡ false) → bytes_eq (take (length ks) s) ks ≡ begins ks s → bytes_eq (take (length (k ∷ ks)) (x ∷ s)) (k ∷ ks) ≡ begins (k ∷ ks) (x ∷ s)
    go (inl e) i = rw (after_key, e) i
    go (inr e) i = rw (after_key, e)

pub same_key : (ks s : List ℕ) → length s ≡ length ks → bytes_eq s ks ≡ begins ks s
same_key ks s e = ap (λ (l : List ℕ). bytes_eq l ks) (sym (take_all (length ks) s (omega (arith, e)))) ∙ begins_is ks s

pub same_length : (ks s : List ℕ) → bytes_eq s ks ≡ true → length s ≡ length ks
same_length ks s e = ap length ((bytes_eq-Decides s ks).0 e)

-- what a test of a key tells of `after_key`
pub key_none : (ks s : List ℕ) → begins ks s ≡ false → after_key ks s ≡ none
unfolding begins is_some
key_none ks s h = go (after_key ks s) h
  where
    go : (o : Option (List ℕ)) → is_some o ≡ false → o ≡ none
    go none h = refl
    go (some l) h = let z : ◌≡◌ {A = ℕ} 0 1 = cc in absurd (omega arith)

pub key_some : (ks s : List ℕ) → begins ks s ≡ true → (after_key ks s ≡ some (drop (length ks) s)) × (length ks ≤ length s)
unfolding begins is_some after_key
key_some [] s h = (refl, zero-le)
key_some (k ∷ ks) [] h = let z : ◌≡◌ {A = ℕ} 0 1 = cc in absurd (omega arith)
key_some (k ∷ ks) (x ∷ s) h = go (bool (eqb x k)) (key_some ks s)
  where
    go : (eqb x k ≡ true) ⊎ (eqb x k ≡ false) → (begins ks s ≡ true → (after_key ks s ≡ some (drop (length ks) s)) × (length ks ≤ length s))
        → (after_key (k ∷ ks) (x ∷ s) ≡ some (drop (length ks) s)) × (suc (length ks) ≤ suc (length s))
    go (inl e) i = let j = i (rw (after_key, e) at h) in (rw (after_key, e) j.0, suc-le-suc j.1)
    go (inr e) i = let f : false ≡ true = (rw (after_key, e) at h) in let z : ◌≡◌ {A = ℕ} 0 1 = cc in absurd (omega arith)

-- keys with different first bytes do not start one line
differ : List ℕ → List ℕ → Bool
differ [] other = false
differ (k ∷ ks) [] = false
differ (k ∷ ks) (c ∷ cs) = not (eqb k c)

apart : (key other s : List ℕ) → differ key other ≡ true → begins key s ≡ true → after_key other s ≡ none
unfolding begins is_some after_key differ
apart [] other s d h = let z : ◌≡◌ {A = ℕ} 0 1 = cc in absurd (omega arith)
apart (k ∷ ks) [] s d h = let z : ◌≡◌ {A = ℕ} 0 1 = cc in absurd (omega arith)
apart (k ∷ ks) (c ∷ cs) [] d h = refl
apart (k ∷ ks) (c ∷ cs) (x ∷ s) d h = go (bool (eqb x k)) (bool (eqb k c))
  where
    go : (eqb x k ≡ true) ⊎ (eqb x k ≡ false) → (eqb k c ≡ true) ⊎ (eqb k c ≡ false) → after_key (c ∷ cs) (x ∷ s) ≡ none
    go (inl e) (inl f) = let g : false ≡ true = (rw f at d) in let z : ◌≡◌ {A = ℕ} 0 1 = cc in absurd (omega arith)
    go (inl e) (inr f) = rw (after_key, eqb-true x k e, f)
    go (inr e) f = let g : false ≡ true = (rw (after_key, e) at h) in let z : ◌≡◌ {A = ℕ} 0 1 = cc in absurd (omega arith)

-- the line s is what f makes of the number, or of the list, that follows its key of k bytes
pub record Numbered (k : ℕ) (f : ℕ → Line) (s : List ℕ) : Type 0 where
  pub says : with_number f (number (drop k s)) ≡ line_of s
  pub within : k ≤ length s

pub record Itemized (k : ℕ) (f : List ℕ → Line) (s : List ℕ) : Type 0 where
  pub says : with_list f (list (drop k s)) ≡ line_of s
  pub within : k ≤ length s

module _ (s : List ℕ) where
  pub lane_key : begins key_lane s ≡ true → Numbered (length key_lane) lane_line s
  unfolding line_of key_or differ
  lane_key y =
      let j = key_some key_lane s y in
      record { says = sym (rw (line_of, apart key_lane key_parallelism s refl y, apart key_lane key_places s refl y, apart key_lane key_set s refl y, j.0)); within = j.1 }

  pub inputs_line : begins key_in s ≡ true → Itemized (length key_in) in_line s
  unfolding line_of key_or differ
  inputs_line y =
      let j = key_some key_in s y in
      record {
        says = sym (rw (line_of, apart key_in key_parallelism s refl y, apart key_in key_places s refl y, apart key_in key_set s refl y, apart key_in key_lane s refl y, j.0));
        within = j.1;
      }

  pub outputs_line : begins key_out s ≡ true → Itemized (length key_out) out_line s
  unfolding line_of key_or differ
  outputs_line y =
      let j = key_some key_out s y in
      record {
        says = sym (rw (
          line_of,
          apart key_out key_parallelism s refl y,
          apart key_out key_places s refl y,
          apart key_out key_set s refl y,
          apart key_out key_lane s refl y,
          apart key_out key_in s refl y,
          j.0,
        ));
        within = j.1;
      }

  pub parallelism_key : begins key_parallelism s ≡ true → Numbered (length key_parallelism) parallelism_line s
  unfolding line_of key_or
  parallelism_key y = let j = key_some key_parallelism s y in record { says = sym (rw (line_of, j.0)); within = j.1 }

  module _ (n₁ : begins key_parallelism s ≡ false) where
    pub places_key : begins key_places s ≡ true → Numbered (length key_places) places_line s
    unfolding line_of key_or
    places_key y = let j = key_some key_places s y in record { says = sym (rw (line_of, key_none key_parallelism s n₁, j.0)); within = j.1 }

    module _ (n₂ : begins key_places s ≡ false) where
      pub set_key : begins key_set s ≡ true → Numbered (length key_set) set_line s
      unfolding line_of key_or
      set_key y =
          let j = key_some key_set s y in
          record { says = sym (rw (line_of, key_none key_parallelism s n₁, key_none key_places s n₂, j.0)); within = j.1 }

      -- a line without a number and without a list
      module _ (n₃ : begins key_set s ≡ false) (no : NoAdd s) where
        alone : line_of s ≡ key_or (after_key flush_text s) (whole flush_line) (key_or (after_key final_text s) (whole final_line) malformed)
        unfolding line_of key_or
        alone =
            rw (
              line_of,
              key_none key_parallelism s n₁,
              key_none key_places s n₂,
              key_none key_set s n₃,
              key_none key_lane s no.no_lane,
              key_none key_in s no.no_in,
              key_none key_out s no.no_out,
            )

        -- a key as long as these two is the line, or something follows it
        ends : (ks : List ℕ) → length ks ≡ length flush_text → length s ≡ length flush_text → begins ks s ≡ true → after_key ks s ≡ some []
        ends ks e q y = (key_some ks s y).0 ∙ ap (λ (r : List ℕ). some r) (drop_of_length-le s {i = length ks} (omega arith))

        more : (l other : Line) (ks : List ℕ) → length ks ≡ length flush_text → (length s ≡ length flush_text → ⊥) → other ≡ malformed → key_or (after_key ks s) (whole l) other ≡ malformed
        unfolding key_or whole
        more l other ks e q o = go (bool (begins ks s))
          where
            rest : (r : List ℕ) → (length r ≡ 0 → ⊥) → whole l r ≡ malformed
            rest [] h = absurd (h refl)
            rest (b ∷ r) h = refl

            go : (begins ks s ≡ true) ⊎ (begins ks s ≡ false) → key_or (after_key ks s) (whole l) other ≡ malformed
            go (inl y) =
                let j = key_some ks s y in
                rw j.0 (rest (drop (length ks) s) (λ h. q (omega (arith, j.1, simp length-drop at h))))
            go (inr n) = rw (key_none ks s n) o

        pub not_whole : (length s ≡ length flush_text → ⊥) → malformed ≡ line_of s
        not_whole q = sym (alone ∙ more flush_line _ flush_text refl q (more final_line _ final_text refl q refl))

        module _ (q : length s ≡ length flush_text) where
          pub flush_key : begins flush_text s ≡ true → flush_line ≡ line_of s
          unfolding key_or whole
          flush_key y = sym (alone ∙ rw (ends flush_text refl q y))

          module _ (n₄ : begins flush_text s ≡ false) where
            pub final_key : begins final_text s ≡ true → final_line ≡ line_of s
            unfolding key_or whole
            final_key y = sym (alone ∙ rw (key_none flush_text s n₄, ends final_text refl q y))

            pub no_key : begins final_text s ≡ false → malformed ≡ line_of s
            unfolding key_or
            no_key n₅ = sym (alone ∙ rw (key_none flush_text s n₄, key_none final_text s n₅))

        pub no_line : bytes_eq s flush_text ≡ false → bytes_eq s final_text ≡ false → malformed ≡ line_of s
        no_line a b = go (bool (eqb (length s) (length flush_text)))
          where
            go : (eqb (length s) (length flush_text) ≡ true) ⊎ (eqb (length s) (length flush_text) ≡ false) → malformed ≡ line_of s
            go (inl e) = let q = eqb-true (length s) (length flush_text) e in no_key q (sym (same_key flush_text s q) ∙ a) (sym (same_key final_text s q) ∙ b)
            go (inr e) = not_whole (eqb-false (length s) (length flush_text) e)

-- the bytes from i on of both
module _ (ks s : List ℕ) (i : ℕ) (a : i < length ks) where
  pub begins_on : i < length s → get_or s i 0 ≡ get_or ks i 0 → begins (drop i ks) (drop i s) ≡ begins (drop (i + 1) ks) (drop (i + 1) s)
  unfolding begins is_some after_key
  begins_on b e = rw (drop-cons ks i 0 a, drop-cons s i 0 b, after_key, eq-eqb (get_or s i 0) (get_or ks i 0) e, add-one)

  pub begins_not : i < length s → (get_or s i 0 ≡ get_or ks i 0 → ⊥) → begins (drop i ks) (drop i s) ≡ false
  unfolding begins is_some after_key
  begins_not b e = rw (drop-cons ks i 0 a, drop-cons s i 0 b, after_key, ne_eqb (get_or s i 0) (get_or ks i 0) e)

  pub begins_short : length s ≤ i → begins (drop i ks) (drop i s) ≡ false
  unfolding begins is_some after_key
  begins_short b = rw (drop-cons ks i 0 a, drop_of_length-le s b)

pub begins_end : (ks s : List ℕ) (i : ℕ) → length ks ≤ i → begins (drop i ks) (drop i s) ≡ true
unfolding begins is_some after_key
begins_end ks s i a = rw (drop_of_length-le ks a)
