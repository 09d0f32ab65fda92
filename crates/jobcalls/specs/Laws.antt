-- Laws of reading a job call by call: a line found or missing, a call of one line, an add's lines, and the head. Assumes nothing.
use Rattle.std.specs.Prelude.{Bool, true, false, ◌⊎◌}
use mathlib.Core.List.{List, [], ◌∷◌}
use Rattle.std.proofs.Math.Logic.{inl, inr}
use Rattle.std.specs.Prelude.{Option as Answer, Some, None}
use Rattle.std.proofs.Math.Option.{Option, some, none}
use Rattle.std.proofs.Math.Path.{◌≡◌, refl, sym, ap}
use Rattle.std.proofs.Common.{◌∙◌, subst, add-one, length-take, length-drop, take-take}
use Prim.Native.Nat.{ℕ, suc, ◌+◌, ◌-◌, ◌*◌, ◌/◌, ◌≤◌, ◌<◌}
use Rattle.std.proofs.Math.Decide.{dec_lt}
use native.Mathlib.Omega.{arith}
use Rattle.std.proofs.Math.ListN.{length, take, drop}
use Rattle.std.proofs.Math.Seq.{drop-drop}
use Rattle.rules.specs.Calls as calls
use Rattle.rules.specs.Job as rule
use Rattle.rules.specs.Job.{lines, ragged}
use Rattle.jobtext.specs.Text.{before}
use Rattle.jobtext.specs.Lists.{drop_past}
use Rattle.jobtext.specs.Pieces.{before_le, lines_more, lines_last, ragged_more, ragged_last}
use Rattle.jobline.specs.declared.Line.{Line}
use Rattle.jobline.specs.declared.Line.TheVariants as line
use Rattle.jobline.specs.Lines.{line_as, listed, LineRead}
use Rattle.jobcalls.specs.Told.{first_line, other_lines, LineAt, FirstCall, found, malformed, added, after_lane, started, first_call, Follows, NextCall, Begins, AddRead}
use Rattle.jobcalls.specs.Told.{heading_2, heading_1, heading, HeadRead}
use Rattle.jobcalls.specs.declared.Call.TheVariants as call
use Rattle.jobcalls.specs.Next.{Next}
use Rattle.jobcalls.specs.Next as next
use Rattle.jobcalls.specs.Head as head

-- the line that ends at e, or that nothing ends
module _ (s into : List ℕ) (at off e : ℕ) (inside : at ≤ length s) (half : 2 * off + length s ≤ 2 * length into + at) (found' : e ≡ at + before 10 (drop at s)) where
  pub line_missing : e ≡ length s → LineAt s at into into off None at
  unfolding lines first_line other_lines
  line_missing d =
      let n : lines (drop at s) ≡ [] = lines_last [] (drop at s) (rw (length-drop at s) (omega (arith, d, found'))) in
      record { reads = rw n; others = rw n; end = refl; within = inside; past = inl refl; room = omega arith; kept = refl; into_past = λ x. refl; into_beyond = refl }

  pub line_end : (e ≡ length s → ⊥) → e < length s
  line_end d = omega (arith, d, found', simp length-drop at (before_le 10 (drop at s)))

  pub line_found : (exit : List ℕ) (l : Answer Line) → (e ≡ length s → ⊥) → LineRead into exit off (take (e - at) (drop at s)) l → LineAt s at into exit off l (e + 1)
  unfolding lines first_line other_lines
  line_found exit l d r =
      let lt : before 10 (drop at s) < length (drop at s) = rw (length-drop at s) (omega (arith, line_end d, found')) in
      let k : at + suc (before 10 (drop at s)) ≡ e + 1 = omega (arith, found') in
      let j : e - at ≡ before 10 (drop at s) = omega (arith, found') in
      let f : drop (suc (before 10 (drop at s))) (drop at s) ≡ drop (e + 1) s = drop-drop (suc (before 10 (drop at s))) at s ∙ ap (λ (i : ℕ). drop i s) k in
      let n : lines (drop at s) ≡ take (e - at) (drop at s) ∷ lines (drop (e + 1) s) =
      lines_more [] (drop at s) lt ∙ ap (λ (x : List (List ℕ)). take (before 10 (drop at s)) (drop at s) ∷ x) (ap lines f)
      ∙ ap (λ (i : ℕ). take i (drop at s) ∷ lines (drop (e + 1) s)) (sym j)
      in
      record {
        reads = rw n r.reads;
        others = rw n;
        end = ap ragged (sym f) ∙ sym (ragged_more (drop at s) lt);
        within = omega (arith, line_end d);
        past = inr (omega (arith, found', line_end d, simp (length-take, length-drop) at r.few));
        room = r.within;
        kept = r.kept;
        into_past = r.past;
        into_beyond = drop_past (off + length (take (e - at) (drop at s)) / 2) (off + (length s - at) / 2) exit into
            (simp (length-take, length-drop) (omega (arith, line_end d))) r.beyond;
      }

-- a line by what is told of it
pub told_as : {s entry exit : List ℕ} {at off after : ℕ} {l m : Answer Line} → LineAt s at entry exit off l after → l ≡ m → LineAt s at entry exit off m after
told_as {s} {entry} {exit} {at} {off} {after} a e = subst (λ (x : Answer Line). LineAt s at entry exit off x after) e a

-- a line that is not malformed: how far it reaches, and what it has left alone
module _ {s entry exit : List ℕ} {at off after : ℕ} {l : Answer Line} (a : LineAt s at entry exit off l after) (well : l ≡ None → ⊥) where
  reaches : at + 2 * listed l + 1 ≤ after
  reaches = go a.past
    where
      go : (l ≡ None) ⊎ (at + 2 * listed l + 1 ≤ after) → at + 2 * listed l + 1 ≤ after
      go (inl e) = absurd (well e)
      go (inr h) = h

  keeps_past : (j : ℕ) → off + listed l ≤ j → drop j exit ≡ drop j entry
  keeps_past j h = drop_past (off + listed l) j exit entry h (a.into_past well)

module _ {s entry read : List ℕ} {at after : ℕ} where
  -- the first call, with the first line read
  starts_with : (n : ℕ) {l : Answer Line} → LineAt s at entry read 0 l after → first_call n (lines (drop at s)) ≡ started n (line_as l read) (lines (drop after s))
  unfolding first_call
  starts_with n {l} a =
      ap (λ (x : rule.Line). started n x (other_lines (lines (drop at s)))) (sym a.reads) ∙ ap (started n (line_as l read)) (sym a.others)

  beyond : (j : ℕ) → length s / 2 ≤ j → {l : Answer Line} → LineAt s at entry read 0 l after → drop j read ≡ drop j entry
  beyond j h a = drop_past (0 + (length s - at) / 2) j read entry (omega arith) a.into_beyond

  call_beyond : {l : Answer Line} → LineAt s at entry read 0 l after → drop (length s / 2 + 1) read ≡ drop (length s / 2 + 1) entry
  call_beyond a = beyond (length s / 2 + 1) (omega arith) a

  head_beyond : {l : Answer Line} → LineAt s at entry read 0 l after → drop (length s / 2) read ≡ drop (length s / 2) entry
  head_beyond a = beyond (length s / 2) (omega arith) a

  -- a call of one line, whose line has no list
  module _ (n : ℕ) {l : Answer Line} (a : LineAt s at entry read 0 l after) (well : l ≡ None → ⊥) (bare : listed l ≡ 0) where
    one_follows : Follows s at n n after
    one_follows = record { end = a.end; within = a.within; past = omega (arith, reaches a well) }

    one_keeps : read ≡ entry
    one_keeps = keeps_past a well 0 (omega (arith, bare))

  pub a_set : (n x : ℕ) → LineAt s at entry read 0 (Some (line.Set x)) after → NextCall s at n entry read (next.Call (call.Set x) n after)
  unfolding started
  a_set n x a =
      let well : Some (line.Set x) ≡ None → ⊥ = λ e. let z : ◌≡◌ {A = ℕ} 0 1 = cc in omega arith in
      record { is = starts_with n a; next = one_follows n a well refl; into = (omega arith, one_keeps n a well refl); listed = omega arith; into_beyond = call_beyond a }

  pub a_flush : (n : ℕ) → LineAt s at entry read 0 (Some line.Flush) after → NextCall s at n entry read (next.Call call.Flush n after)
  unfolding started
  a_flush n a =
      let well : Some line.Flush ≡ None → ⊥ = λ e. let z : ◌≡◌ {A = ℕ} 0 1 = cc in omega arith in
      record { is = starts_with n a; next = one_follows n a well refl; into = (omega arith, one_keeps n a well refl); listed = omega arith; into_beyond = call_beyond a }

  pub a_final : (n : ℕ) → LineAt s at entry read 0 (Some line.Final) after → NextCall s at n entry read (next.Final n after)
  unfolding started
  a_final n a =
      let well : Some line.Final ≡ None → ⊥ = λ e. let z : ◌≡◌ {A = ℕ} 0 1 = cc in omega arith in
      record { is = starts_with n a; next = one_follows n a well refl; into = one_keeps n a well refl; listed = tt; into_beyond = call_beyond a }

  -- a line with which no call starts
  pub no_start : (n : ℕ) {l : Answer Line} → ((r : List ℕ) → rule.start_of (line_as l r) ≡ none) → LineAt s at entry read 0 l after → NextCall s at n entry read (next.Malformed n)
  unfolding started
  no_start n e a = record { is = starts_with n a ∙ rw (started, e read); next = tt; into = tt; listed = tt; into_beyond = call_beyond a }

-- an add begins with its i inputs
module _ {s entry mid : List ℕ} {at after : ℕ} (i : ℕ) (a : LineAt s at entry mid 0 (Some (line.Inputs i)) after) where
  well_in : Some (line.Inputs i) ≡ None → ⊥
  well_in e = let z : ◌≡◌ {A = ℕ} 0 1 = cc in omega arith

  -- what reading its last line asks
  pub inputs_half : 2 * i ≤ after
  inputs_half = omega (arith, reaches a well_in)

  pub with_inputs : (n : ℕ) → Begins s at n entry mid 0 i (n + 1) after
  unfolding started
  with_inputs n =
      record {
        is = starts_with n a ∙ ap (λ (j : ℕ). added j 0 (take i mid) (first_line (lines (drop after s))) (other_lines (lines (drop after s)))) (sym (add-one n));
        end = a.end;
        past = omega (arith, reaches a well_in);
        into_past = keeps_past a well_in i (omega arith);
      }

-- an add begins with its lane: then its inputs must come
module _ {s entry mid : List ℕ} {at after : ℕ} (lane : ℕ) (a : LineAt s at entry mid 0 (Some (line.Lane lane)) after) where
  well_lane : Some (line.Lane lane) ≡ None → ⊥
  well_lane e = let z : ◌≡◌ {A = ℕ} 0 1 = cc in omega arith

  lane_keeps : mid ≡ entry
  lane_keeps = keeps_past a well_lane 0 (omega arith)

  module _ (n : ℕ) {read : List ℕ} {end : ℕ} {m : Answer Line} (b : LineAt s after mid read 0 m end) where
    goes_with : first_call n (lines (drop at s)) ≡ after_lane (n + 1) lane (line_as m read) (lines (drop end s))
    unfolding started
    goes_with =
        starts_with n a ∙ ap (λ (j : ℕ). after_lane j lane (first_line (lines (drop after s))) (other_lines (lines (drop after s)))) (sym (add-one n))
        ∙ ap (λ (x : rule.Line). after_lane (n + 1) lane x (other_lines (lines (drop after s)))) (sym b.reads)
        ∙ ap (after_lane (n + 1) lane (line_as m read)) (sym b.others)

    pub no_inputs : ((r : List ℕ) → rule.inputs_of (line_as m r) ≡ none) → NextCall s at n entry read (next.Malformed (n + 1))
    unfolding after_lane
    no_inputs e = record { is = goes_with ∙ rw (after_lane, e read); next = tt; into = tt; listed = tt; into_beyond = call_beyond b ∙ ap (drop (length s / 2 + 1)) lane_keeps }

  pub with_lane : (n : ℕ) {read : List ℕ} {end : ℕ} (i : ℕ) → LineAt s after mid read 0 (Some (line.Inputs i)) end → Begins s at n entry read lane i (n + 2) end
  unfolding after_lane
  with_lane n {read} {end} i b =
      let k : suc (n + 1) ≡ n + 2 = omega arith in
      record {
        is = goes_with n b ∙ ap (λ (j : ℕ). added j lane (take i read) (first_line (lines (drop end s))) (other_lines (lines (drop end s)))) k;
        end = b.end ∙ a.end;
        past = omega (arith, reaches a well_lane, reaches b (well_in i b));
        into_past = keeps_past b (well_in i b) i (omega arith) ∙ ap (drop i) lane_keeps;
      }

-- the last line of an add: its outputs go behind its i inputs and a free number
module _ {s mid read : List ℕ} {after end : ℕ} (m lane i : ℕ) (low : 2 * i ≤ after) (inside : after ≤ length s) where
  module _ {l : Answer Line} (b : LineAt s after mid read (i + 1) l end) {at n : ℕ} {entry : List ℕ} (a : Begins s at n entry mid lane i m after) where
    ends_with : first_call n (lines (drop at s)) ≡ added m lane (take i mid) (line_as l (drop (i + 1) read)) (lines (drop end s))
    ends_with =
        a.is ∙ ap (λ (x : rule.Line). added m lane (take i mid) x (other_lines (lines (drop after s)))) (sym b.reads)
        ∙ ap (added m lane (take i mid) (line_as l (drop (i + 1) read))) (sym b.others)

    begun_past : (j : ℕ) → i ≤ j → drop j mid ≡ drop j entry
    begun_past j h = drop_past i j mid entry h a.into_past

    -- the inputs were left alone
    inputs_stay : take i mid ≡ take i read
    inputs_stay = sym (take-take i (i + 1) mid (omega arith)) ∙ ap (take i) (sym b.kept) ∙ take-take i (i + 1) read (omega arith)

    both_beyond : drop (length s / 2 + 1) read ≡ drop (length s / 2 + 1) entry
    both_beyond =
        drop_past (i + 1 + (length s - after) / 2) (length s / 2 + 1) read mid (omega arith) b.into_beyond ∙ begun_past (length s / 2 + 1) (omega arith)

  pub no_outputs : {l : Answer Line} → LineAt s after mid read (i + 1) l end → ((r : List ℕ) → rule.outputs_of (line_as l r) ≡ none) → AddRead s after m lane i mid read (next.Malformed m)
  unfolding added
  no_outputs b e at n entry a = record { is = ends_with b a ∙ rw (added, e (drop (i + 1) read)); next = tt; into = tt; listed = tt; into_beyond = both_beyond b a }

  pub an_add : (o : ℕ) → LineAt s after mid read (i + 1) (Some (line.Outputs o)) end → AddRead s after m lane i mid read (next.Call (call.Add lane i o) m end)
  unfolding added
  an_add o b at n entry a =
      let well : Some (line.Outputs o) ≡ None → ⊥ = λ e. let z : ◌≡◌ {A = ℕ} 0 1 = cc in omega arith in
      record {
        is = ends_with b a ∙ ap (λ (y : List ℕ). found (calls.add lane y (take o (drop (i + 1) read))) m (lines (drop end s))) (inputs_stay b a);
        next = record { end = b.end ∙ a.end; within = b.within; past = omega (arith, a.past, reaches b well) };
        into = (b.room, keeps_past b well (i + 1 + o) (omega arith) ∙ begun_past b a (i + 1 + o) (omega arith));
        listed = omega (arith, low, reaches b well, b.within);
        into_beyond = both_beyond b a;
      }

-- a call by what is told of it
pub read_as : {s entry read : List ℕ} {at n : ℕ} {r x : Next} → NextCall s at n entry read r → r ≡ x → NextCall s at n entry read x
read_as {s} {entry} {read} {at} {n} c e = subst (λ (y : Next). NextCall s at n entry read y) e c

-- what follows a call, where nothing does and where something does: a line, or text without byte 10
abbrev pub SomeLeft : List (List ℕ) → Bool → Type 0
SomeLeft ls rag = ((ls ≡ []) × (rag ≡ true)) ⊎ ((l : List ℕ) × ((rest : List (List ℕ)) × (ls ≡ l ∷ rest)))

pub none_left : (l : List ℕ) → length l ≡ 0 → (lines l ≡ []) × (ragged l ≡ false)
unfolding lines rule.lines_from ragged
none_left [] e = (refl, refl)
none_left (b ∷ l) e = absurd (omega arith)

pub some_left : (l : List ℕ) → (length l ≡ 0 → ⊥) → SomeLeft (lines l) (ragged l)
unfolding lines
some_left [] h = absurd (h refl)
some_left (b ∷ l) h =
    elim (dec_lt (before 10 (b ∷ l)) (length (b ∷ l))) [
      | yes lt ↦ inr (_, (_, lines_more [] (b ∷ l) lt))
      | no ge ↦ inl (lines_last [] (b ∷ l) (omega arith), ragged_last b l (omega arith))
    ]

-- the line of a call is its first, or one of the two after it
abbrev pub line_of : FirstCall → ℕ
line_of (found c m rest) = m
line_of (malformed m) = m

abbrev pub Near : ℕ → FirstCall → Type 0
Near n f = (n ≤ line_of f) × (line_of f ≤ n + 2)

pub line_near : (n : ℕ) (ls : List (List ℕ)) → Near n (first_call n ls)
unfolding first_call started after_lane added
line_near n ls = near (rule.start_of (first_line ls)) (other_lines ls)
  where
    ends : (x : Option (List ℕ)) (m lane : ℕ) (ins : List ℕ) (rest : List (List ℕ)) → n ≤ m → m ≤ n + 2
        → Near n (elim x [ some outs ↦ found (calls.add lane ins outs) m rest | none ↦ malformed m ])
    ends none m lane ins rest a b = (a, b)
    ends (some outs) m lane ins rest a b = (a, b)

    goes_on : (x : Option (List ℕ)) (lane : ℕ) (rest : List (List ℕ))
        → Near n (elim x [ some ins ↦ added (suc (suc n)) lane ins (first_line rest) (other_lines rest) | none ↦ malformed (suc n) ])
    goes_on none lane rest = (omega arith, omega arith)
    goes_on (some ins) lane rest = ends (rule.outputs_of (first_line rest)) (suc (suc n)) lane ins (other_lines rest) (omega arith) (omega arith)

    near : (x : Option rule.Start) (rest : List (List ℕ))
        → Near n (
        elim x [
          | some (rule.single c) ↦ found c n rest
          | some (rule.label lane) ↦ after_lane (suc n) lane (first_line rest) (other_lines rest)
          | some (rule.inputs ins) ↦ added (suc n) 0 ins (first_line rest) (other_lines rest)
          | some rule.last ↦ found calls.final n rest
          | none ↦ malformed n
        ]
        )
    near none rest = (omega arith, omega arith)
    near (some (rule.single c)) rest = (omega arith, omega arith)
    near (some (rule.label lane)) rest = goes_on (rule.inputs_of (first_line rest)) lane (other_lines rest)
    near (some (rule.inputs ins)) rest = ends (rule.outputs_of (first_line rest)) (suc n) 0 ins (other_lines rest) (omega arith) (omega arith)
    near (some rule.last) rest = (omega arith, omega arith)

-- the head: line 1, then line 2
module _ {s entry mid : List ℕ} {after : ℕ} where
  heads_with : {l : Answer Line} → LineAt s 0 entry mid 0 l after → heading (lines s) ≡ heading_1 (line_as l mid) (lines (drop after s))
  unfolding heading
  heads_with {l} a = ap (λ (x : rule.Line). heading_1 x (other_lines (lines s))) (sym a.reads) ∙ ap (heading_1 (line_as l mid)) (sym a.others)

  pub no_line_1 : {l : Answer Line} → ((r : List ℕ) → rule.parallelism_of (line_as l r) ≡ none) → LineAt s 0 entry mid 0 l after → HeadRead s (head.Malformed 1) entry mid
  unfolding heading_1
  no_line_1 e a = record { is = heads_with a ∙ rw (heading_1, e mid); starts = omega arith; into = head_beyond a }

  module _ (P : ℕ) (a : LineAt s 0 entry mid 0 (Some (line.Parallelism P)) after) where
    well_1 : Some (line.Parallelism P) ≡ None → ⊥
    well_1 e = let z : ◌≡◌ {A = ℕ} 0 1 = cc in omega arith

    first_keeps : mid ≡ entry
    first_keeps = keeps_past a well_1 0 (omega arith)

    heads_on : {exit : List ℕ} {end : ℕ} {m : Answer Line} → LineAt s after mid exit 0 m end → heading (lines s) ≡ heading_2 P (line_as m exit) (lines (drop end s))
    unfolding heading_1
    heads_on {exit} {end} {m} b =
        heads_with a ∙ ap (λ (x : rule.Line). heading_2 P x (other_lines (lines (drop after s)))) (sym b.reads) ∙ ap (heading_2 P (line_as m exit)) (sym b.others)

    pub no_line_2 : {exit : List ℕ} {end : ℕ} {m : Answer Line} → ((r : List ℕ) → rule.places_of (line_as m r) ≡ none) → LineAt s after mid exit 0 m end → HeadRead s (head.Malformed 2) entry exit
    unfolding heading_2
    no_line_2 {exit} e b = record { is = heads_on b ∙ rw (heading_2, e exit); starts = omega arith; into = head_beyond b ∙ ap (drop (length s / 2)) first_keeps }

    pub the_head : {exit : List ℕ} {end : ℕ} (N : ℕ) → LineAt s after mid exit 0 (Some (line.Places N)) end → HeadRead s (head.Sizes P N end) entry exit
    unfolding heading_2
    the_head N b =
        let well_2 : Some (line.Places N) ≡ None → ⊥ = λ e. let z : ◌≡◌ {A = ℕ} 0 1 = cc in omega arith in
        record {
          is = heads_on b;
          starts = (omega (arith, reaches a well_1, reaches b well_2), (b.within, b.end ∙ a.end));
          into = keeps_past b well_2 0 (omega arith) ∙ first_keeps;
        }

-- a wrong program shut out: a well-formed head that writes to the storage for numbers
pub head_writes_none : {s : List ℕ} {P N after : ℕ} {a b : List ℕ} → HeadRead s (head.Sizes P N after) a b → b ≡ a
head_writes_none r = r.into
