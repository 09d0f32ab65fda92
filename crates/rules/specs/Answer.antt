-- A refusal of code, by its number, and a call's answer: 0 where it is accepted, or its refusal's number.
use Rattle.std.specs.Prelude.{◌≢◌, ℕ, Result, Ok, Err}
use Rattle.std.proofs.Common.{arith}
use Rattle.rules.specs.declared.Refusal.{Refusal}
use Rattle.rules.specs.declared.Refusal.TheVariants.{OutOfRange, TooShort, TooManyNumbers, FlaggedPlace, UnknownPlace, RepeatedOutput, Closed}
use Rattle.rules.specs.declared.Refusal.TheVariants.{TakenPlace, TooManyRegistrations, FullPool, TooManyFlushes}
use Rattle.rules.specs.declared.Refusal.TheVariants.{StillWaiting, NotHeld, GuideExhausted, Malformed, LongJob, LongListing, UnknownLane, NeverAccepted, NotWaiting, ProfileBreach}
use Rattle.rules.specs.Refusals as refusal

abbrev pub number_of : Refusal → ℕ
number_of OutOfRange = refusal.out_of_range
number_of TooShort = refusal.too_short
number_of TooManyNumbers = refusal.too_many_numbers
number_of FlaggedPlace = refusal.flagged_place
number_of UnknownPlace = refusal.unknown_place
number_of RepeatedOutput = refusal.repeated_output
number_of Closed = refusal.closed
number_of TakenPlace = refusal.taken_place
number_of TooManyRegistrations = refusal.too_many_registrations
number_of FullPool = refusal.full_pool
number_of TooManyFlushes = refusal.too_many_flushes
number_of StillWaiting = refusal.still_waiting
number_of NotHeld = refusal.not_held
number_of GuideExhausted = refusal.guide_exhausted
number_of Malformed = refusal.malformed
number_of LongJob = refusal.long_job
number_of LongListing = refusal.long_listing
number_of UnknownLane = refusal.unknown_lane
number_of NeverAccepted = refusal.never_accepted
number_of NotWaiting = refusal.not_waiting
number_of ProfileBreach = refusal.profile_breach

abbrev pub number : {A : Type 0} → Result A Refusal → ℕ
number (Ok _) = 0
number (Err x) = number_of x

-- no refusal has the number of an acceptance
pub number_of_pos : (x : Refusal) → number_of x ≢ 0
number_of_pos OutOfRange = omega arith
number_of_pos TooShort = omega arith
number_of_pos TooManyNumbers = omega arith
number_of_pos FlaggedPlace = omega arith
number_of_pos UnknownPlace = omega arith
number_of_pos RepeatedOutput = omega arith
number_of_pos Closed = omega arith
number_of_pos TakenPlace = omega arith
number_of_pos TooManyRegistrations = omega arith
number_of_pos FullPool = omega arith
number_of_pos TooManyFlushes = omega arith
number_of_pos StillWaiting = omega arith
number_of_pos NotHeld = omega arith
number_of_pos GuideExhausted = omega arith
number_of_pos Malformed = omega arith
number_of_pos LongJob = omega arith
number_of_pos LongListing = omega arith
number_of_pos UnknownLane = omega arith
number_of_pos NeverAccepted = omega arith
number_of_pos NotWaiting = omega arith
number_of_pos ProfileBreach = omega arith
