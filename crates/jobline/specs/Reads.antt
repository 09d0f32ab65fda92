-- The ways through a line: each is a key with what follows it read. Assumes nothing.
use Rattle.std.specs.Prelude.{Option as Answer, Some, None, List, ℕ, ◌+◌, ◌-◌, ◌*◌, ◌/◌, ◌≤◌, ◌<◌, length, take, drop}
use Rattle.std.proofs.Math.Path.{◌≡◌, refl, ap}
use Rattle.std.proofs.Common.{◌∙◌, zero-le, arith, length-take, length-drop, take_all}
use Rattle.std.proofs.Math.Option.{some, none}
use Rattle.rules.specs.Job as rule
use Rattle.jobtext.specs.Text.{ListRead}
use Rattle.jobtext.specs.Lists.{drop_past}
use Rattle.jobline.specs.Lines.{line_as, listed, PlainRead, LineRead}
use Rattle.jobline.specs.Keys.{Numbered, Itemized}
use Rattle.jobline.specs.declared.Line.{Line}
use Rattle.jobtext.specs.Text.{value_of, list_of, count}

-- a number after its key of k bytes, of which f makes a line
module _ (s : List ℕ) {k : ℕ} {f : ℕ → rule.Line} (key : Numbered k f s) {rest : List ℕ} (is : rest ≡ drop k s) where
  pub value_line : (l : Answer Line) (n : ℕ) → some n ≡ rule.number rest → listed l ≡ 0 → ((read : List ℕ) → line_as l read ≡ f n) → PlainRead s l
  unfolding rule.with_number
  value_line l n v bare as_f = record { reads = λ read. as_f read ∙ ap (rule.with_number f) (v ∙ ap rule.number is) ∙ key.says; bare = bare }

  pub no_value : none ≡ rule.number rest → PlainRead s None
  unfolding rule.with_number
  no_value v = record { reads = λ read. ap (rule.with_number f) (v ∙ ap rule.number is) ∙ key.says; bare = refl }

-- a line that is a key alone, or none
pub plain_line : {s : List ℕ} {l : Answer Line} {x : rule.Line} → listed l ≡ 0 → ((read : List ℕ) → line_as l read ≡ x) → x ≡ rule.line_of s → PlainRead s l
plain_line bare as_x e = record { reads = λ read. as_x read ∙ e; bare = bare }

module _ (s into : List ℕ) (off : ℕ) (room : 2 * off + length s < 2 * length into) where
  -- a line without a list: storage is as it was
  pub plain : {l : Answer Line} → PlainRead s l → LineRead into into off s l
  plain p =
      record {
        reads = p.reads (drop off into);
        few = omega (arith, p.bare);
        within = omega (arith, p.bare);
        kept = refl;
        past = λ x. refl;
        beyond = refl;
      }

  -- a list after its key of k bytes, of which f makes a line, read into storage that is then `exit`
  module _ {k : ℕ} {f : List ℕ → rule.Line} (key : Itemized k f s) (k₁ : 1 ≤ k) {rest : List ℕ} (is : rest ≡ drop k s) where
    rest_length : length rest ≡ length s - k
    rest_length = ap length is ∙ length-drop k s

    module _ {exit : List ℕ} where
      list_beyond : {r : Answer ℕ} → ListRead into exit off rest r → drop (off + length s / 2) exit ≡ drop (off + length s / 2) into
      list_beyond read = drop_past (off + (length rest + 1) / 2) (off + length s / 2) exit into (omega (arith, k₁, key.within, rest_length)) read.beyond

      pub list_line : {n : ℕ} → ListRead into exit off rest (Some n) → (l : Answer Line) → listed l ≡ n → line_as l (drop off exit) ≡ f (take n (drop off exit)) → LineRead into exit off s l
      unfolding rule.with_list
      list_line read l ln as_f =
          record {
            reads = as_f ∙ ap (rule.with_list f) (read.reads ∙ ap rule.list is) ∙ key.says;
            few = omega (arith, ln, read.few, k₁, key.within, rest_length);
            within = omega (arith, ln, read.within);
            kept = read.kept;
            past = λ x. rw ln (read.past (λ y. let z : ◌≡◌ {A = ℕ} 0 1 = cc in absurd (omega arith)));
            beyond = list_beyond read;
          }

      pub no_list : ListRead into exit off rest None → LineRead into exit off s None
      unfolding rule.with_list
      no_list read =
          record {
            reads = ap (rule.with_list f) (read.reads ∙ ap rule.list is) ∙ key.says;
            few = zero-le;
            within = omega (arith, read.within);
            kept = read.kept;
            past = λ x. absurd (x refl);
            beyond = list_beyond read;
          }

-- a part that reaches to the end
tail : (s : List ℕ) (k : ℕ) → take (length s - k) (drop k s) ≡ drop k s
tail s k = take_all (length s - k) (drop k s) (rw (length-drop k s) (omega arith))

module _ (s : List ℕ) {k : ℕ} {f : ℕ → rule.Line} (key : Numbered k f s) (r : Answer ℕ)
    (read : value_of r ≡ rule.number (take (length s - k) (drop k s))) where
  number_of : value_of r ≡ rule.number (drop k s)
  number_of = read ∙ ap rule.number (tail s k)

module _ (s into : List ℕ) (off : ℕ) (room : 2 * off + length s < 2 * length into) where
  module _ {k : ℕ} {f : List ℕ → rule.Line} (key : Itemized k f s) (k₁ : 1 ≤ k) {exit : List ℕ} {r : Answer ℕ}
      (read : ListRead into exit off (take (length s - k) (drop k s)) r) where
    list_is : list_of r (drop off exit) ≡ rule.list (drop k s)
    list_is = read.reads ∙ ap rule.list (tail s k)

    short : 2 * count r ≤ length s
    short = omega (arith, k₁, key.within, simp (length-take, length-drop) at read.few)
