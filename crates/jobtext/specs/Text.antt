-- What the readers of this crate promise: where a line ends, and how an answer stands for document 01's numbers and lists (rules, Job).
-- Assumes nothing.
use Rattle.std.specs.Prelude.{List, [], ◌∷◌, ◌⊎◌, true, false, ◌≡◌, ℕ, zero, suc, ◌+◌, ◌*◌, ◌/◌, ◌%◌, ◌≤◌, ◌<◌, length, take, drop, leb, eqb}
use Rattle.std.specs.Prelude.{Option as Answer, Some, None}
use Rattle.std.proofs.Math.Option.{Option, some, none}
use Rattle.rules.specs.Text.{newline}
use Rattle.rules.specs.Model.{member}
use Rattle.rules.specs.Job.{list}

-- how many bytes stand before the first b, all of them where there is none
unfoldable pub before : ℕ → List ℕ → ℕ
before b [] = 0
before b (x ∷ l) = elim (eqb x b) [ true ↦ 0 | false ↦ suc (before b l) ]

-- "From any start it finds the first byte 10 there or later, or truly none" (document 02, M-102): its place, or the length where there is
-- none; so too from a start past the bytes
unfoldable pub line_end : List ℕ → ℕ → ℕ
line_end s from = elim (leb from (length s)) [ true ↦ from + before newline (drop from s) | false ↦ length s ]

-- the n lowest bytes of a number, the lowest first
unfoldable pub low_bytes : ℕ → ℕ → List ℕ
low_bytes zero w = []
low_bytes (suc n) w = (w % 256) ∷ low_bytes n (w / 256)

-- bytes as one number, the first lowest: 128 for each that is 10, 0 for every other
unfoldable pub marks : List ℕ → ℕ
marks [] = 0
marks (b ∷ l) = marks l * 256 + (elim (eqb b newline) [ true ↦ 128 | false ↦ 0 ])

-- a search for byte 10 begun at `from` may go on at i, and ends where it would have
pub record GoesOn (s : List ℕ) (from i : ℕ) : Type 0 where
  pub onward : from ≤ i
  pub within : i ≤ length s
  pub same_end : from + before newline (drop from s) ≡ i + before newline (drop i s)

-- it has passed over bytes without a 10, as far as n at a time go: of the next n one is 10, or fewer are left
pub record Passed (n : ℕ) (s : List ℕ) (from i : ℕ) : Type 0 where
  pub goes_on : GoesOn s from i
  pub no_further : (member newline (take n (drop i s)) ≡ true) ⊎ (length s < i + n)

-- the number that an answer tells
abbrev pub value_of : Answer ℕ → Option ℕ
value_of (Some n) = some n
value_of None = none

-- the list that an answer, its count, tells, its numbers standing at the start of `read`
abbrev pub list_of : Answer ℕ → List ℕ → Option (List ℕ)
list_of (Some n) read = some (take n read)
list_of None read = none

abbrev pub count : Answer ℕ → ℕ
count (Some n) = n
count None = 0

-- a list was read from the bytes s into storage from `off` on: it is document 01's, it lies within, and what stands before and past it
-- is as it was; of a malformed list some numbers may stand there, at most half as many as it has bytes
pub record ListRead (entry exit : List ℕ) (off : ℕ) (s : List ℕ) (r : Answer ℕ) : Type 0 where
  pub reads : list_of r (drop off exit) ≡ list s
  pub few : 2 * count r ≤ length s + 1
  pub within : off + count r ≤ length exit
  pub kept : take off exit ≡ take off entry
  pub past : (r ≡ None → ⊥) → drop (off + count r) exit ≡ drop (off + count r) entry
  pub beyond : drop (off + (length s + 1) / 2) exit ≡ drop (off + (length s + 1) / 2) entry
