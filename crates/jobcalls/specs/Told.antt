-- What reading a job call by call promises: the first call of some lines and the head of a job, as definitions over the rules' lines (rules,
-- Job), and what of the storage for numbers may have changed. What a run makes of them stands in Runs. Assumes nothing.
use Rattle.std.specs.Prelude.{List, [], ◌∷◌, ◌⊎◌, ◌≡◌, ℕ, suc, ◌+◌, ◌-◌, ◌*◌, ◌/◌, ◌≤◌, length, take, drop}
use Rattle.std.specs.Prelude.{Option as Answer, None}
use Rattle.std.proofs.Math.Option.{some, none}
use Rattle.rules.specs.Calls as calls
use Rattle.rules.specs.Job as rule
use Rattle.rules.specs.Job.{lines, ragged}
use Rattle.jobline.specs.declared.Line.{Line}
use Rattle.jobline.specs.Lines.{line_as, listed}
use Rattle.jobcalls.specs.declared.Call.{Call}
use Rattle.jobcalls.specs.declared.Call.TheVariants as call
use Rattle.jobcalls.specs.Next.{Next}
use Rattle.jobcalls.specs.Next as next
use Rattle.jobcalls.specs.Head.{Head}
use Rattle.jobcalls.specs.Head as head

-- what the first of some lines says, a missing one being malformed, and the others
unfoldable pub first_line : List (List ℕ) → rule.Line
first_line [] = rule.malformed
first_line (l ∷ ls) = rule.line_of l

unfoldable pub other_lines : List (List ℕ) → List (List ℕ)
other_lines [] = []
other_lines (l ∷ ls) = ls

-- the line of the job s at `at` was read, its list into storage from `off` on, and what follows it starts at `after`; past its list storage
-- is as it was, and of a malformed line at most half as many numbers have changed as the job has bytes from it on
pub record LineAt (s : List ℕ) (at : ℕ) (entry exit : List ℕ) (off : ℕ) (l : Answer Line) (after : ℕ) : Type 0 where
  pub reads : line_as l (drop off exit) ≡ first_line (lines (drop at s))
  pub others : lines (drop after s) ≡ other_lines (lines (drop at s))
  pub end : ragged (drop after s) ≡ ragged (drop at s)
  pub within : after ≤ length s
  pub past : (l ≡ None) ⊎ (at + 2 * listed l + 1 ≤ after)
  pub room : off + listed l ≤ length exit
  pub kept : take off exit ≡ take off entry
  pub into_past : (l ≡ None → ⊥) → drop (off + listed l) exit ≡ drop (off + listed l) entry
  pub into_beyond : drop (off + (length s - at) / 2) exit ≡ drop (off + (length s - at) / 2) entry

-- the first call of some lines: the call, the line that it is refused on and the lines after it; or the line of it that is missing or
-- malformed
pub data FirstCall : Type 0 where
  found : calls.Call → ℕ → List (List ℕ) → FirstCall
  malformed : ℕ → FirstCall

-- line n, which is l, must be the `out=` line of an add
unfoldable pub added : ℕ → ℕ → List ℕ → rule.Line → List (List ℕ) → FirstCall
added n lane ins l rest = elim (rule.outputs_of l) [ some outs ↦ found (calls.add lane ins outs) n rest | none ↦ malformed n ]

-- line n, which is l, must be the `in=` line of an add that has a lane line
unfoldable pub after_lane : ℕ → ℕ → rule.Line → List (List ℕ) → FirstCall
after_lane n lane l rest = elim (rule.inputs_of l) [ some ins ↦ added (suc n) lane ins (first_line rest) (other_lines rest) | none ↦ malformed n ]

-- a call must start with line n, which is l
unfoldable pub started : ℕ → rule.Line → List (List ℕ) → FirstCall
started n l rest =
    elim (rule.start_of l) [
      | some (rule.single c) ↦ found c n rest
      | some (rule.label lane) ↦ after_lane (suc n) lane (first_line rest) (other_lines rest)
      | some (rule.inputs ins) ↦ added (suc n) 0 ins (first_line rest) (other_lines rest)
      | some rule.last ↦ found calls.final n rest
      | none ↦ malformed n
    ]

unfoldable pub first_call : ℕ → List (List ℕ) → FirstCall
first_call n ls = started n (first_line ls) (other_lines ls)

-- the call that the code's tells, the numbers of its lists standing at the start of `read` with one number free between them, and how many
-- they take with that one
abbrev pub call_of : Call → List ℕ → calls.Call
call_of (call.Set x) read = calls.set x
call_of (call.Add lane i o) read = calls.add lane (take i read) (take o (drop (i + 1) read))
call_of call.Flush read = calls.flush

abbrev pub taken_by : Call → ℕ
taken_by (call.Set x) = 0
taken_by (call.Add lane i o) = i + 1 + o
taken_by call.Flush = 0

-- the first call that an answer tells
abbrev pub first_as : List ℕ → List ℕ → Next → FirstCall
first_as s read (next.Call c m after) = found (call_of c read) m (lines (drop after s))
first_as s read (next.Final m after) = found calls.final m (lines (drop after s))
first_as s read (next.Malformed m) = malformed m

-- what follows a call on line m, the last of those from line n on that stand at `at`, starts at `after`: within the job, and each line has
-- a byte
pub record Follows (s : List ℕ) (at n m after : ℕ) : Type 0 where
  pub end : ragged (drop after s) ≡ ragged (drop at s)
  pub within : after ≤ length s
  pub past : at + m + 1 ≤ after + n

abbrev pub follows : List ℕ → ℕ → ℕ → Next → Type 0
follows s at n (next.Call c m after) = Follows s at n m after
follows s at n (next.Final m after) = Follows s at n m after
follows s at n (next.Malformed m) = Unit {0}

-- past the numbers of a call's lists storage is as it was
abbrev pub keeps : Next → List ℕ → List ℕ → Type 0
keeps (next.Call c m after) entry read = (taken_by c ≤ length read) × (drop (taken_by c) read ≡ drop (taken_by c) entry)
keeps (next.Final m after) entry read = read ≡ entry
keeps (next.Malformed m) entry read = Unit {0}

-- the lists of a call have at most half as many numbers as the job has bytes, and one is free between them
abbrev pub few : List ℕ → Next → Type 0
few s (next.Call c m after) = 2 * taken_by c ≤ length s + 2
few s (next.Final m after) = Unit {0}
few s (next.Malformed m) = Unit {0}

-- the call of the job s at `at`, its first line having number n, was read; at most half as many numbers have changed as the job has bytes,
-- and the free one more, also where it is malformed
pub record NextCall (s : List ℕ) (at n : ℕ) (entry read : List ℕ) (r : Next) : Type 0 where
  pub is : first_call n (lines (drop at s)) ≡ first_as s read r
  pub next : follows s at n r
  pub into : keeps r entry read
  pub listed : few s r
  pub into_beyond : drop (length s / 2 + 1) read ≡ drop (length s / 2 + 1) entry

-- the lines at `at`, from line n on, begin an add: its lane is read, and its i inputs, which stand at the start of storage; its `out=` line
-- must be line m, at `after`; each line has a byte, and each number of a list two
pub record Begins (s : List ℕ) (at n : ℕ) (entry read : List ℕ) (lane i m after : ℕ) : Type 0 where
  pub is : first_call n (lines (drop at s)) ≡ added m lane (take i read) (first_line (lines (drop after s))) (other_lines (lines (drop after s)))
  pub end : ragged (drop after s) ≡ ragged (drop at s)
  pub past : at + 2 * i + m ≤ after + n
  pub into_past : drop i read ≡ drop i entry

-- the last line of an add was read, line m at `after`: so was the call, wherever its lines begin
abbrev pub AddRead : List ℕ → ℕ → ℕ → ℕ → ℕ → List ℕ → List ℕ → Next → Type 0
AddRead s after m lane i mid read r = (at n : ℕ) (entry : List ℕ) → Begins s at n entry mid lane i m after → NextCall s at n entry read r

-- the head of some lines: P, V and the lines after it, or the line of it that is missing or malformed
pub data Heading : Type 0 where
  sized : ℕ → ℕ → List (List ℕ) → Heading
  unsized : ℕ → Heading

-- line 2, which is l
unfoldable pub heading_2 : ℕ → rule.Line → List (List ℕ) → Heading
heading_2 P l rest = elim (rule.places_of l) [ some N ↦ sized P N rest | none ↦ unsized 2 ]

-- line 1
unfoldable pub heading_1 : rule.Line → List (List ℕ) → Heading
heading_1 l rest = elim (rule.parallelism_of l) [ some P ↦ heading_2 P (first_line rest) (other_lines rest) | none ↦ unsized 1 ]

unfoldable pub heading : List (List ℕ) → Heading
heading ls = heading_1 (first_line ls) (other_lines ls)

-- the heading that an answer tells
abbrev pub heading_as : List ℕ → Head → Heading
heading_as s (head.Sizes P N after) = sized P N (lines (drop after s))
heading_as s (head.Malformed n) = unsized n

-- what follows the head starts within the job; a refused line is one of the head's two
abbrev pub starts_in : List ℕ → Head → Type 0
starts_in s (head.Sizes P N after) = (2 ≤ after) × ((after ≤ length s) × (ragged (drop after s) ≡ ragged s))
starts_in s (head.Malformed n) = n ≤ 2

-- a head leaves the storage for numbers as it was; of a malformed one at most half as many have changed as the job has bytes
abbrev pub head_keeps : List ℕ → Head → List ℕ → List ℕ → Type 0
head_keeps s (head.Sizes P N after) entry exit = exit ≡ entry
head_keeps s (head.Malformed n) entry exit = drop (length s / 2) exit ≡ drop (length s / 2) entry

-- the head of the job s was read
pub record HeadRead (s : List ℕ) (h : Head) (entry exit : List ℕ) : Type 0 where
  pub is : heading (lines s) ≡ heading_as s h
  pub starts : starts_in s h
  pub into : head_keeps s h entry exit
