-- The lines of the entries passed are written, and those of the others are left. Assumes nothing.
use Rattle.std.proofs.Common.{◌≡◌, refl, ◌∙◌, arith}
use Rattle.entries.specs.Entries.{entry_at}
use Rattle.records.specs.Filling.{written_at}
use Rattle.listing.specs.Lines.{writing_begins, writes_on, written_all}
use Rattle.listing.proofs.put_entries.Goals as goal

pub loop-i-init : goal.loop-i-init
loop-i-init c = let a = c.args in
    (writing_begins a.order.now a.rows.now a.n a.w.now.at a.w.now.out.now, refl)

pub load-e-requires : goal.load-e-requires
load-e-requires c = omega (arith, c.requires.0.entries)

pub written_of-written-requires : goal.written_of-written-requires
written_of-written-requires c = rw c.load-e.ensures (c.requires.0.row c.loop-i.i c.loop-i-test.true)

pub put_entry-requires : goal.put_entry-requires
put_entry-requires c = (omega (arith, c.requires.0.few), omega (arith, c.loop-i.invariant.0.short, c.loop-i.invariant.0.same, c.requires.1))

pub loop-i-preserved : goal.loop-i-preserved
loop-i-preserved c = let o = c.args.order.now in
    let w : c.written_of-written.result ≡ written_at c.args.rows.now (entry_at o c.loop-i.i).added =
    rw c.load-e.ensures at c.written_of-written.ensures
    in
    let x = rw (c.load-e.ensures, w) at c.put_entry.ensures.0 in
    (writes_on c.loop-i.invariant.0 c.loop-i-test.true x.size x.wrote c.put_entry.ensures.1, x.same ∙ c.loop-i.invariant.1)

pub returns : goal.returns
returns c = record { wrote = written_all c.loop-i.invariant.0 c.loop-i-test.false; size = c.loop-i.invariant.0.same; same = c.loop-i.invariant.1 }
