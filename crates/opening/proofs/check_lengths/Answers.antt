-- The guide's checks come first, then the lengths of what there is for each place. Assumes nothing.
use Rattle.std.proofs.Common.{◌≡◌, rules}
use Rattle.rules.specs.Answer.{number, number_of, number_of_pos}
use Rattle.opening.specs.Opened.{sizes_of}
use Rattle.opening.specs.Refusal.{guide_refuses, short_rows, short_marks, short_locations, places_suffice}
use Rattle.opening.proofs.check_lengths.Goals as goal
use Rattle.opening.proofs.check_lengths.Goals.{then-l-v-via-then-l-v, then-l-v-via-else-l-v+then-l-v-2, then-l-v-via-else-l-v+else-l-v-2+then-l-v-3}

pub returns-in_err-check_open : goal.returns-in_err-check_open
returns-in_err-check_open c =
    let e : number c.from_residual.result ≡ number_of c.in_err-check_open.field-0.0 = search rules in
    rw e (guide_refuses _ _ (sizes_of c.args.l.spans c.args.l.order c.args.l.tally c.args.l.rows c.args.l.marks c.args.l.locations 0) c.in_err-check_open.ensures
    (number_of_pos c.in_err-check_open.field-0.0))

pub returns-then-l-v : goal.returns-then-l-v
returns-then-l-v c = let l = c.args.l in
    elim c.then-l-v.branch [
      | then-l-v-via-then-l-v w ↦ short_rows c.args.p c.args.v (sizes_of l.spans l.order l.tally l.rows l.marks l.locations 0) c.in_ok-check_open.ensures w.if-l-v.true
      | then-l-v-via-else-l-v+then-l-v-2 w ↦ short_marks c.args.p c.args.v (sizes_of l.spans l.order l.tally l.rows l.marks l.locations 0) c.in_ok-check_open.ensures w.if-l-v.false w.if-l-v-2.true
      | then-l-v-via-else-l-v+else-l-v-2+then-l-v-3 w ↦
          short_locations c.args.p c.args.v (sizes_of l.spans l.order l.tally l.rows l.marks l.locations 0) c.in_ok-check_open.ensures w.if-l-v.false w.if-l-v-2.false w.if-l-v-3.true
    ]

pub returns : goal.returns
returns c = let l = c.args.l in
    places_suffice c.args.p c.args.v (sizes_of l.spans l.order l.tally l.rows l.marks l.locations 0) c.in_ok-check_open.ensures c.if-l-v.false c.if-l-v-2.false c.if-l-v-3.false
