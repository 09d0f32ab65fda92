-- Document 01, "Refused by the input, refused by the state": the numbers of the refusals, by name, and those that document
-- 02 adds. src/lib.rt has the same for code, and hosts/refusals.txt for hosts. Assumes nothing.
use Rattle.std.specs.Prelude.{ℕ}

-- "Refused by the input"
abbrev pub out_of_range : ℕ
out_of_range = 1

abbrev pub too_short : ℕ
too_short = 2

abbrev pub too_many_numbers : ℕ
too_many_numbers = 3

abbrev pub flagged_place : ℕ
flagged_place = 4

abbrev pub unknown_place : ℕ
unknown_place = 5

abbrev pub repeated_output : ℕ
repeated_output = 6

abbrev pub malformed : ℕ
malformed = 15

abbrev pub long_job : ℕ
long_job = 16

abbrev pub long_listing : ℕ
long_listing = 17

-- document 02, M-104: "18, lane over 255"
abbrev pub unknown_lane : ℕ
unknown_lane = 18

-- "Refused by the state"
abbrev pub closed : ℕ
closed = 7

abbrev pub taken_place : ℕ
taken_place = 8

abbrev pub too_many_registrations : ℕ
too_many_registrations = 9

abbrev pub full_pool : ℕ
full_pool = 10

abbrev pub too_many_flushes : ℕ
too_many_flushes = 11

abbrev pub still_waiting : ℕ
still_waiting = 12

-- document 02, M-105: "19, never accepted; 20, accepted but not waiting"
abbrev pub never_accepted : ℕ
never_accepted = 19

abbrev pub not_waiting : ℕ
not_waiting = 20

-- document 02, M-106: "21, a breach of the profile"
abbrev pub profile_breach : ℕ
profile_breach = 21

-- the guide alone
abbrev pub not_held : ℕ
not_held = 13

abbrev pub guide_exhausted : ℕ
guide_exhausted = 14
