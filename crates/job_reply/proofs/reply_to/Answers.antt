-- The answer is a law for each way: refused, a listing that does not fit, and one that does. Assumes nothing.
use Prim.Native.Nat.{ℕ, ◌≤◌}
use mathlib.Core.List.{List, ◌++◌}
use mathlib.Core.Path.{◌≡◌, ap, ◌∙◌}
use native.Mathlib.Omega.{arith}
use lib.ListN.{length, length-replicate, length-take, replicate, drop}
use Rattle.std.proofs.lemmas.Result.{err_from_is_err_and}
use Rattle.rules.specs.Limits.{program_listing_bytes}
use Rattle.jobturn.specs.Ends.{end_as}
use Rattle.job_reply.specs.Laws.{may_report, n_low, replied_long, replied_listed, replied_refused}
use Rattle.job_reply.proofs.reply_to.Goals as goal
use Rattle.job_reply.proofs.reply_to.Goals.{Else-listing-length}

-- the length of the page that was made
page-long : length (replicate {A = ℕ} program_listing_bytes 0) ≡ program_listing_bytes
page-long = length-replicate {A = ℕ} program_listing_bytes 0

pub returns-in_err-figures : goal.returns-in_err-figures
returns-in_err-figures c =
    let p = err_from_is_err_and c.from_residual.result c.from_residual.ensures.1 in
    rw (p.1, p.2) (replied_refused c.args.text.now c.args.listing.now _ _ _ c.run.ensures.ran (ap end_as c.in_err-figures.was))

pub report-length-requires : goal.report-length-requires
report-length-requires c = may_report c.run.ensures.ran (ap end_as c.in_ok-figures.was) _ page-long c.run.ensures.room.order

pub returns-then-listing-length : goal.returns-then-listing-length
returns-then-listing-length c = replied_long c.run.ensures.ran (ap end_as c.in_ok-figures.was) _ _ _ (c.report-length.auto.text ∙ page-long)
    c.report-length.ensures c.args.listing.now c.if-listing-length.true

-- the listing lies within the page
fits : (c : Else-listing-length) → c.report-length.result ≤ length c.report-length.new.text
fits c =
    let long = c.report-length.auto.text ∙ page-long in
    omega (arith, long, n_low c.run.ensures.ran (ap end_as c.in_ok-figures.was) _ _ _ long c.report-length.ensures)

pub slice_bounds-page-end : goal.slice_bounds-page-end
slice_bounds-page-end c = fits (goal.at.slice_bounds-page-end c).Else-listing-length

pub slice_bounds-copy_from_slice-end-3 : goal.slice_bounds-copy_from_slice-end-3
slice_bounds-copy_from_slice-end-3 c = simp length-take (omega (arith, fits (goal.at.slice_bounds-copy_from_slice-end-3 c).Else-listing-length))

pub copy_from_slice-requires : goal.copy_from_slice-requires
copy_from_slice-requires c = simp length-take (omega (arith, fits (goal.at.copy_from_slice-requires c).Else-listing-length, c.if-listing-length.false))

pub returns : goal.returns
returns c = replied_listed c.run.ensures.ran (ap end_as c.in_ok-figures.was) _ _ _ (c.report-length.auto.text ∙ page-long)
    c.report-length.ensures c.args.listing.now _ c.if-listing-length.false
    (ap (λ (l : List ℕ). l ++ drop c.report-length.result c.args.listing.now) c.copy_from_slice.ensures.after)
