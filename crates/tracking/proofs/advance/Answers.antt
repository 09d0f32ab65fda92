-- The marks ahead are looked at up to the first that is 0, so the run of tracked places ends there. Assumes nothing.
use Rattle.std.proofs.Common.{◌≡◌, ◌≤◌, ◌+◌, ◌-◌, ◌∙◌, ap, refl, arith, rules, tests, eqb, ltb, cond, Some, None, length, take, drop}
use Rattle.std.specs.List.{position_or_len}
use Rattle.std.specs.Option.{unwrap_or}
use Rattle.std.proofs.lemmas.Iterator.{YieldsList-from_slice}
use Rattle.std.proofs.lemmas.Iterator.Search.{position_from_yields_List}
use Rattle.tracking.specs.Tracking.{tracked_in}
use Rattle.tracking.specs.Loops.{run_most, run_found}
use Rattle.tracking.proofs.advance.Goals as goal

pub offset_bounds-marks-from : goal.offset_bounds-marks-from
offset_bounds-marks-from c = let h = run_most (tracked_in c.args.marks.now) c.args.v in let k : c.args.from ≤ c.args.v = omega arith in search rules

pub slice_bounds-ahead-count : goal.slice_bounds-ahead-count
slice_bounds-ahead-count c = omega (arith, run_most (tracked_in c.args.marks.now) c.args.v)

pub slice_bounds-ahead-start : goal.slice_bounds-ahead-start
slice_bounds-ahead-start c = let h = run_most (tracked_in c.args.marks.now) c.args.v in let k : c.args.from ≤ c.args.v = omega arith in search rules

pub returns : goal.returns
returns c = let a = c.args in
    let xs = take (a.v - a.from) (drop a.from a.marks.now) in
    let p : c.position.result ≡ cond (ltb (position_or_len (λ x. eqb x 0) xs) (length xs)) (Some (position_or_len (λ x. eqb x 0) xs)) None =
    position_from_yields_List (λ x. eqb x 0) _ _ c.position.result c.position.ensures.ran (YieldsList-from_slice xs c.iter.ensures.rest) (λ x b q k. search (rules, tests)) in
    ap (λ r. a.from + r) (c.unwrap_or.ensures ∙ ap (λ r. unwrap_or r (length xs)) p) ∙ run_found a.marks.now a.v a.from c.requires.0 c.requires.1 xs refl
