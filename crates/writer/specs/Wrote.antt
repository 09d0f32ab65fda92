-- What a writer promises, in a form that composes: text was put at `at`, up to r, and all else stays. Assumes nothing.
use Rattle.std.specs.Prelude.{List, [], ◌∷◌, ◌++◌, ◌≡◌, refl, ℕ, ◌+◌, ◌≤◌, ◌<◌, length, take, drop, set}
use Rattle.std.proofs.Common.{append_assoc, append-nil, sym, ap, ◌∙◌, subst, le_refl, add-one, arith, length-append, length-take, take-append-drop, drop-drop, drop-set-lt, take-suc-set}
use Rattle.std.proofs.lemmas.List.Edits.{drop-paste, take-paste}
use Rattle.std.proofs.Math.Seq.{paste, take-length}

pub record Wrote (entry exit : List ℕ) (at r : ℕ) (text : List ℕ) : Type 0 where
  pub next : r ≡ at + length text
  pub holds : take r exit ≡ take at entry ++ text
  -- what stands past the text stays
  pub rest : drop r exit ≡ drop r entry

-- one text after another
pub wrote_then : {a b c : List ℕ} {at m r : ℕ} {t u : List ℕ} → Wrote a b at m t → Wrote b c m r u → Wrote a c at r (t ++ u)
wrote_then {a} {b} {c} {at} {m} {r} {t} {u} x y =
    record {
      next = y.next ∙ ap (λ (k : ℕ). k + length u) x.next ∙ rw (length-append t u) (omega arith);
      holds = y.holds ∙ ap (λ (l : List ℕ). l ++ u) x.holds ∙ append_assoc (take at a) t u;
      rest = y.rest ∙ later;
    }
  where
    split : (l : List ℕ) → drop r l ≡ drop (length u) (drop m l)
    split l = ap (λ (k : ℕ). drop k l) y.next ∙ sym (drop-drop (length u) m l)

    later : drop r b ≡ drop r a
    later = split b ∙ ap (drop (length u)) x.rest ∙ sym (split a)

-- a byte
pub wrote_byte : (out : List ℕ) (at b : ℕ) → at < length out → Wrote out (set out at b) at (at + 1) (b ∷ [])
wrote_byte out at b h = record { next = refl; holds = rw add-one (take-suc-set out at b h); rest = drop-set-lt (at + 1) out at b (omega arith) }

-- nothing
pub wrote_none : (out : List ℕ) (at : ℕ) → Wrote out out at at []
wrote_none out at = record { next = omega arith; holds = sym (append-nil (take at out)); rest = refl }

-- a word that was copied
pub wrote_word : (out word : List ℕ) (at : ℕ) → at + length word ≤ length out → Wrote out (paste out at word (length word)) at (at + length word) word
wrote_word out word at h =
    record {
      next = refl;
      holds = take-paste out at word (length word) (omega arith) (le_refl (length word)) ∙ ap (λ (l : List ℕ). take at out ++ l) (take-length word);
      rest = drop-paste out at word (length word) (omega arith) (le_refl (length word));
    }

-- what was copied, by the copy's own promise
pub wrote_copy : (out word exit : List ℕ) (at : ℕ) → at + length word ≤ length out → exit ≡ paste out at word (length word) → Wrote out exit at (at + length word) word
wrote_copy out word exit at h e = subst (λ (l : List ℕ). Wrote out l at (at + length word) word) (sym e) (wrote_word out word at h)

-- what was written from the start on lies within the bytes
pub wrote_in : {a b : List ℕ} {n : ℕ} {t : List ℕ} → Wrote a b 0 n t → n ≤ length b
wrote_in {a} {b} {n} {t} w = omega (arith, w.next, sym (length-take n b) ∙ ap length w.holds)

-- and so they are the text, and past it what stood there before
pub wrote_whole : {a b : List ℕ} {n : ℕ} {t : List ℕ} → Wrote a b 0 n t → b ≡ t ++ drop n a
wrote_whole {a} {b} {n} {t} w = sym (take-append-drop n b) ∙ ap (λ (y : List ℕ). y ++ drop n b) w.holds ∙ ap (λ (y : List ℕ). t ++ y) w.rest
