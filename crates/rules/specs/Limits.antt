-- The limits of document 01, and of lanes (document 02), by name; src/lib.rt has the same for code. Assumes nothing.
use Rattle.std.specs.Prelude.{ℕ, ◌^◌}

-- "P is the desired parallelism, 1 to 64,999. V is the count of places and the greatest count of registrations, 1 to 16,777,216."
abbrev pub most_parallelism : ℕ
most_parallelism = 64999

abbrev pub most_places : ℕ
most_places = 16777216

-- "65,535 inputs or outputs", and "65,535 plain flushes"
abbrev pub most_in_a_list : ℕ
most_in_a_list = 65535

abbrev pub most_flushes : ℕ
most_flushes = 65535

-- "a place with bit 62 (witness) or 63 (placeholder)": the least number with one of them
abbrev pub least_flagged : ℕ
least_flagged = 2 ^ 62

-- "the last span number is 4,294,967,264 or more"
abbrev pub last_span_limit : ℕ
last_span_limit = 4294967264

-- "a 16-bit mark: 0 untracked, 32,768 written by a registration (with its location), 49,152 set"
abbrev pub mark_written : ℕ
mark_written = 32768

abbrev pub mark_set : ℕ
mark_set = 49152

-- "labels registrations with a lane, 0 to 255" (document 02, M-104)
abbrev pub most_lane : ℕ
most_lane = 255

-- "A location is a span number (32 bits) and a position (32 bits)": as one number, the span number times this plus the position
abbrev pub location_radix : ℕ
location_radix = 2 ^ 32

-- "the tally's sum divided by 65,000"; "the counts for 0 to 127 and 65 sums of thousands"
abbrev pub average_divisor : ℕ
average_divisor = 65000

abbrev pub low_counts : ℕ
low_counts = 128

abbrev pub sums_of_thousands : ℕ
sums_of_thousands = 65

-- "a job over 65,536 bytes"; the program "lends 65,536 listing bytes"
abbrev pub most_job_bytes : ℕ
most_job_bytes = 65536

abbrev pub program_listing_bytes : ℕ
program_listing_bytes = 65536

-- "The host's call returns 64 times the listing's length, or for a refusal 64 times the line plus the number"
abbrev pub reply_radix : ℕ
reply_radix = 64

-- "64 · (2^24 · input + place)" (document 02, M-105): no place reaches it
abbrev pub place_radix : ℕ
place_radix = 2 ^ 24

-- "Both lend storage for P ≤ 64, V ≤ 512, W = 4,096."
abbrev pub job_parallelism : ℕ
job_parallelism = 64

abbrev pub job_places : ℕ
job_places = 512

abbrev pub job_pool : ℕ
job_pool = 4096
