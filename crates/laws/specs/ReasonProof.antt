-- Document 02, M-105, the proof of laws/Reason: a reason that is given for a registration is true, of every model between calls and so after
-- every list of calls on a fresh session; and a host reads the two places back from the number that it is told.
use Rattle.std.specs.Prelude.{◌≡◌, refl, List, [], ◌∷◌, ◌⊎◌, true, false, ℕ, ◌^◌, ◌/◌, ◌%◌, ◌≤◌, ◌<◌, length, eqb}
use mathlib.Core.List.Memᴰ
use Rattle.std.proofs.Common.{inl, inr, arith, leb-false}
use Rattle.std.proofs.lemmas.Bool.{false≢true, lt-leb, not-false}
use Rattle.rules.specs.Limits.{most_places, least_flagged, reply_radix, place_radix}
use Rattle.rules.specs.Model.{Pending, Model, member, marked, tracked, reg_of, greatest, ready, watermark, initial}
use Rattle.rules.specs.Checks.{verdict, any, taken, written_by, check_closed, check_places, check_set}
use Rattle.rules.specs.Calls.{Call, set, checks, answer, run}
use Rattle.rules.specs.Reason.{waits, check_reason, Reason, reason, because, reason_number}
use Rattle.laws.specs.ModelBase.{In, greatest_ge, watermark_stops, watermark_tracked}
use Rattle.laws.specs.History.{lt_or_le}
use Rattle.laws.specs.Accepted.{verdict_head, or_false}
use Rattle.laws.specs.Delaying.{not_ready, ready_off}
use Rattle.laws.specs.Sound.{Between, between, between_run}
use Rattle.laws.specs.Waits.{waits_not_ready, waits_unless_ready}
use Rattle.laws.specs.Promised.{not_true, held_down, still_registered, never_tracked}
use Rattle.laws.specs.Reason.{Holds}

-- the greatest of some numbers is one of them
greatest_in : (x : ℕ) (l : List ℕ) → In (greatest (x ∷ l)) (x ∷ l)
unfolding greatest
greatest_in x [] = let e : greatest (x ∷ []) ≡ x = omega arith in Memᴰ.head e
greatest_in x (y ∷ l) = go (lt_or_le x (greatest (y ∷ l))) (greatest_in y l)
  where
    go : (x < greatest (y ∷ l)) ⊎ (greatest (y ∷ l) ≤ x) → In (greatest (y ∷ l)) (y ∷ l) → In (greatest (x ∷ (y ∷ l))) (x ∷ (y ∷ l))
    go (inl h) i = let e : greatest (x ∷ (y ∷ l)) ≡ greatest (y ∷ l) = omega arith in rw e (Memᴰ.tail i)
    go (inr h) i = let e : greatest (x ∷ (y ∷ l)) ≡ x = omega arith in Memᴰ.head e

-- what is not ready has inputs
unready_in : (m : ℕ) (l : List ℕ) → ready m l ≡ false → In (greatest l) l
unfolding ready
unready_in m [] e = absurd (false≢true (cc e))
unready_in m (x ∷ l) e = greatest_in x l

-- nothing waits once the session is closed
none_waits : (r : ℕ) (ws : List Pending) → length ws ≡ 0 → any (λ (w : Pending). eqb w.reg r) ws ≡ false
unfolding any
none_waits r [] h = refl
none_waits r (w ∷ ws) h = absurd (omega arith)

pub closed_waits_none : {P N W : ℕ} {k : Model} → Between P N W k → k.closed ≡ true → (r : ℕ) → waits r k ≡ false
unfolding waits
closed_waits_none {k = k} b c r = none_waits r k.pending (b.sound.done c).1

-- an untracked place that no accepted registration writes is not taken
free : (k : Model) (x : ℕ) → tracked k x ≡ false → written_by x k.adds ≡ false → taken k x ≡ false
unfolding tracked taken
free k x t h = rw (or_false (member x k.sets) (marked x k.located) t).0 h

-- so a set of it is accepted
set_accepted : (N W x : ℕ) (k : Model) → N ≤ most_places → k.closed ≡ false → x < N → taken k x ≡ false → answer N W (set x) k ≡ 0
unfolding answer checks check_set check_closed check_places any verdict
set_accepted N W x k few unclosed inside untaken =
    rw (verdict, unclosed, lt-leb least_flagged x (omega arith), lt-leb N x inside, untaken)

-- who waits still waits while the lowest untracked place is untracked
lasting : (P N W : ℕ) → 1 ≤ P → (k : Model) → Between P N W k → (r : ℕ) → r < length k.adds → waits r k ≡ true
    → (later : List Call) → tracked (run P N W later k) (watermark N k) ≡ false → waits r (run P N W later k) ≡ true
lasting P N W hP k b r h w later e =
    let j = run P N W later k in
    let same = still_registered P N W hP later k b r h in
    let before : ready (watermark N k) (reg_of k r).ins ≡ false = waits_not_ready b r w in
    let down : watermark N j ≤ greatest (reg_of k r).ins = omega (arith, held_down N (watermark N k) j e, not_ready (watermark N k) (reg_of k r).ins before) in
    rw (waits_unless_ready (between_run P N W hP later k b) r same.0, same.1, ready_off (watermark N k) (watermark N j) (reg_of k r).ins down before)

pub reason_holds : (P N W : ℕ) → 1 ≤ P → (k : Model) → Between P N W k → (r : ℕ) → verdict (check_reason r k) ≡ 0 → Holds P N W k r (reason N r k)
unfolding check_reason reason
reason_holds P N W hP k b r h =
    let a = verdict_head _ _ h (omega arith) in
    let known : r < length k.adds = leb-false (length k.adds) r a.0 in
    let w : waits r k ≡ true = not-false (waits r k) (verdict_head _ _ a.1 (omega arith)).0 in
    let ins = (reg_of k r).ins in
    let unready : ready (watermark N k) ins ≡ false = waits_not_ready b r w in
    let one : In (greatest ins) ins = unready_in (watermark N k) ins unready in
    let under : watermark N k ≤ greatest ins = not_ready (watermark N k) ins unready in
    let low : greatest ins < N = (b.sound.inside.lists r).ins_below (greatest ins) one in
    let inside : watermark N k < N = omega arith in
    let untracked : tracked k (watermark N k) ≡ false = watermark_stops N k inside in
    let unclosed : k.closed ≡ false = not_true k.closed (λ c. false≢true (cc (w, closed_waits_none b c r))) in
    record {
      an_input = one;
      greatest = λ i y. greatest_ge i ins y;
      input_inside = low;
      untracked = untracked;
      lowest = λ i y. watermark_tracked N i k y;
      inside = inside;
      under = under;
      lasts = λ later e. lasting P N W hP k b r known w later e;
      promised = λ e later. never_tracked P N W hP k b untracked e later;
      not_closed = unclosed;
      settable = λ few e. set_accepted N W (watermark N k) k few unclosed inside (free k (watermark N k) untracked e);
    }

-- after every list of calls on a fresh session
pub reasons : (P N W : ℕ) → 1 ≤ P → (calls : List Call) (r : ℕ) → verdict (check_reason r (run P N W calls initial)) ≡ 0
    → Holds P N W (run P N W calls initial) r (reason N r (run P N W calls initial))
reasons P N W hP calls r h = reason_holds P N W hP (run P N W calls initial) (between P N W hP calls) r h

-- the number that a host is told for a reason: 0 for its refusal, and the two places; it fits 64 bits
pub record Told (x : Reason) : Type 0 where
  pub no_refusal : reason_number (because x) % reply_radix ≡ 0
  pub input_is : reason_number (because x) / reply_radix / place_radix ≡ x.input
  pub place_is : reason_number (because x) / reply_radix % place_radix ≡ x.place
  pub fits : reason_number (because x) < 2 ^ 54

pub read_back : (x : Reason) → x.input < place_radix → x.place < place_radix → Told x
unfolding reason_number
read_back x h i = record { no_refusal = omega arith; input_is = omega arith; place_is = omega arith; fits = omega arith }

-- for a true reason both do, V being at most 16,777,216
pub told : {P N W : ℕ} {k : Model} {r : ℕ} (x : Reason) → N ≤ most_places → Holds P N W k r x → Told x
told x few h = read_back x (omega (arith, h.input_inside)) (omega (arith, h.inside))
