-- What reading a line promises: how the code's answers stand for document 01's lines (rules, Job). Assumes nothing.
use Rattle.std.specs.Prelude.{Bool, true, false, List, ◌≡◌, ℕ, ◌+◌, ◌*◌, ◌/◌, ◌≤◌, length, take, drop}
use Rattle.std.specs.Prelude.{Option as Answer, Some, None}
use Rattle.std.proofs.Math.Option.{Option, some, none}
use Rattle.rules.specs.Job as rule
use Rattle.jobline.specs.declared.Line.{Line}
use Rattle.jobline.specs.declared.Line.TheVariants as line

-- the line s starts with the key ks
unfoldable pub is_some : Option (List ℕ) → Bool
is_some none = false
is_some (some l) = true

unfoldable pub begins : List ℕ → List ℕ → Bool
begins ks s = is_some (rule.after_key ks s)

-- the line s starts with no key of an add's lines
pub record NoAdd (s : List ℕ) : Type 0 where
  pub no_lane : begins rule.key_lane s ≡ false
  pub no_in : begins rule.key_in s ≡ false
  pub no_out : begins rule.key_out s ≡ false

-- the line that an answer tells, the numbers of its list standing at the start of `read`
abbrev pub line_as : Answer Line → List ℕ → rule.Line
line_as (Some (line.Parallelism n)) read = rule.parallelism_line n
line_as (Some (line.Places n)) read = rule.places_line n
line_as (Some (line.Set n)) read = rule.set_line n
line_as (Some (line.Lane n)) read = rule.lane_line n
line_as (Some (line.Inputs n)) read = rule.in_line (take n read)
line_as (Some (line.Outputs n)) read = rule.out_line (take n read)
line_as (Some line.Flush) read = rule.flush_line
line_as (Some line.Final) read = rule.final_line
line_as None read = rule.malformed

-- how many numbers its list has
abbrev pub listed : Answer Line → ℕ
listed (Some (line.Parallelism n)) = 0
listed (Some (line.Places n)) = 0
listed (Some (line.Set n)) = 0
listed (Some (line.Lane n)) = 0
listed (Some (line.Inputs n)) = n
listed (Some (line.Outputs n)) = n
listed (Some line.Flush) = 0
listed (Some line.Final) = 0
listed None = 0

-- the line s, which has no list, was read
pub record PlainRead (s : List ℕ) (r : Answer Line) : Type 0 where
  pub reads : (read : List ℕ) → line_as r read ≡ rule.line_of s
  pub bare : listed r ≡ 0

-- the line s was read, its list into storage from `off` on: it is document 01's, it lies within, and what stands before and past it is as
-- it was; of a malformed line some numbers may stand there, at most half as many as it has bytes
pub record LineRead (entry exit : List ℕ) (off : ℕ) (s : List ℕ) (r : Answer Line) : Type 0 where
  pub reads : line_as r (drop off exit) ≡ rule.line_of s
  pub few : 2 * listed r ≤ length s
  pub within : off + listed r ≤ length exit
  pub kept : take off exit ≡ take off entry
  pub past : (r ≡ None → ⊥) → drop (off + listed r) exit ≡ drop (off + listed r) entry
  pub beyond : drop (off + length s / 2) exit ≡ drop (off + length s / 2) entry
