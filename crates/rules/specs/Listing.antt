-- Document 01, the listing of a job, its floor and lanes by document 02, and the whole program and the host's call as definitions: job bytes to
-- output bytes. Assumes nothing.
use Rattle.std.specs.Prelude.{List, [], ◌∷◌, ◌++◌, true, false, ℕ, zero, suc, ◌+◌, ◌*◌, ◌/◌, ◌%◌, min, length, drop, get_or, leb, ltb}
use Rattle.rules.specs.Limits.{program_listing_bytes, reply_radix}
use Rattle.rules.specs.Refusals as refusal
use Rattle.rules.specs.Text.{bytes, newline, zero_digit}
use Rattle.rules.specs.Guide.{Entry, tally}
use Rattle.rules.specs.Model.{Model}
use Rattle.rules.specs.Summary.{median}
use Rattle.rules.specs.Job.{Outcome, finished, rejected, outcome}

-- the digits of n, of which there are at most f
unfoldable pub digits : ℕ → ℕ → List ℕ
digits zero n = []
digits (suc f) n = elim (ltb n 10) [ true ↦ (zero_digit + n) ∷ [] | false ↦ digits f (n / 10) ++ ((zero_digit + n % 10) ∷ []) ]

-- a 64-bit number in decimal
unfoldable pub decimal : ℕ → List ℕ
decimal n = digits 20 n

-- the words
abbrev pub word_status : List ℕ
word_status = bytes "status="

abbrev pub word_line : List ℕ
word_line = bytes "line="

abbrev pub word_entries : List ℕ
word_entries = bytes "entries="

abbrev pub word_places : List ℕ
word_places = bytes "places="

abbrev pub word_floor : List ℕ
word_floor = bytes "floor="

abbrev pub word_median : List ℕ
word_median = bytes "median="

abbrev pub word_order : List ℕ
word_order = bytes "order="

abbrev pub word_added : List ℕ
word_added = bytes " added="

abbrev pub word_accepted : List ℕ
word_accepted = bytes " accepted="

abbrev pub word_parallelism : List ℕ
word_parallelism = bytes " parallelism="

abbrev pub word_written : List ℕ
word_written = bytes " written="

abbrev pub word_lane : List ℕ
word_lane = bytes " lane="

-- a word and its number, and the same as a line
unfoldable pub field : List ℕ → ℕ → List ℕ
field word n = word ++ decimal n

unfoldable pub line : List ℕ → ℕ → List ℕ
line word n = field word n ++ (newline ∷ [])

-- the smallest parallelism of some entries, 0 of none
unfoldable pub least : List Entry → ℕ
least [] = 0
least (e ∷ []) = e.parallelism
least (e ∷ (f ∷ es)) = min e.parallelism (least (f ∷ es))

-- of the entries from index i on, those whose index plus P is at most n
unfoldable pub before_run_out : ℕ → ℕ → ℕ → List Entry → List Entry
before_run_out P n i [] = []
before_run_out P n i (e ∷ es) = elim (leb (i + P) n) [ true ↦ e ∷ before_run_out P n (suc i) es | false ↦ before_run_out P n (suc i) es ]

-- floor (document 02, M-103): taken over those entries whose index plus P is at most the order's length; with no such entry it is 0
unfoldable pub floor : ℕ → List Entry → ℕ
floor P order = least (before_run_out P (length order) 0 order)

-- an entry's line: its order index, added, accepted and parallelism, its row's written, and its lane (document 02, M-104)
unfoldable pub entry_line : ℕ → Entry → ℕ → List ℕ
entry_line index e written =
    field word_order index
    ++ (field word_added e.item.added
    ++ (field word_accepted e.item.accepted
    ++ (field word_parallelism e.parallelism ++ (field word_written written ++ (field word_lane e.item.lane ++ (newline ∷ []))))))

-- the entries from index n on
unfoldable pub entry_lines : ℕ → List Entry → List ℕ → List ℕ
entry_lines n [] written = []
entry_lines n (e ∷ es) written = entry_line n e (get_or written e.item.added 0) ++ entry_lines (suc n) es written

-- an accepted job's listing
unfoldable pub listing : ℕ → Model → List ℕ
listing P k =
    line word_status 0
    ++ (line word_entries (length k.guide.order)
    ++ (line word_places k.recorded.places
    ++ (line word_floor (floor P k.guide.order)
    ++ (line word_median (median (tally P k.guide.order)) ++ entry_lines 0 k.guide.order k.recorded.written))))

-- what a refused job prints
unfoldable pub rejection : ℕ → ℕ → List ℕ
rejection n code = line word_status code ++ line word_line n

-- the answer where `room` listing bytes are lent: 17, on line 1, comes last
pub data Reply : Type 0 where
  listed : List ℕ → Reply
  refused : ℕ → ℕ → Reply

unfoldable pub fit : ℕ → List ℕ → Reply
fit room text = elim (ltb room (length text)) [ true ↦ refused 1 refusal.long_listing | false ↦ listed text ]

unfoldable pub told : ℕ → Outcome → Reply
told room (finished P k) = fit room (listing P k)
told room (rejected n code) = refused n code

unfoldable pub reply : ℕ → List ℕ → Reply
reply room job = told room (outcome job)

-- the program: job bytes to output bytes
unfoldable pub printed : Reply → List ℕ
printed (listed text) = text
printed (refused n code) = rejection n code

unfoldable pub program : List ℕ → List ℕ
program job = printed (reply program_listing_bytes job)

-- the host's call: its result, and the listing bytes after it
unfoldable pub result : Reply → ℕ
result (listed text) = reply_radix * length text
result (refused n code) = reply_radix * n + code

unfoldable pub bytes_after : Reply → List ℕ → List ℕ
bytes_after (listed text) room = text ++ drop (length text) room
bytes_after (refused n code) room = room
