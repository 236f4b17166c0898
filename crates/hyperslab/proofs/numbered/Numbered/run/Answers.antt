use Rattle.std.proofs.Common.{◌≤◌, ◌*◌, ◌/◌, length, ap, ◌∙◌, refl, arith}
use Rattle.shapes.specs.RowMajor.{cell_count}
use Rattle.hyperslab.specs.Numbered.{sides_of, index_to, offset_to}
use Rattle.hyperslab.proofs.SideLemmas.{IsTurn}
use Rattle.hyperslab.proofs.BoxRunLemmas.{IsSmall, number_small, step_of, below_extent, all_long, run_ended, same_run}
use Rattle.hyperslab.proofs.numbered.Numbered.run.Goals.{After-get-low}
use Rattle.hyperslab.proofs.numbered.Numbered.run.Goals as goal

turn : (c : After-get-low) → IsTurn (sides_of c.args.self.now) c.loop-axis.axis (c.loop-axis.step / c.get-count.result) c.loop-axis.rest c.loop-axis.place c.loop-axis.offset
    (index_to (sides_of c.args.self.now) (c.args.number * c.args.self.now.len)) (offset_to (sides_of c.args.self.now) (c.args.number * c.args.self.now.len))
    c.get-count.result c.get-first.result c.get-extent.result c.get-wide.result c.get-start.result c.get-apart.result c.get-low.result
turn c =
    step_of c.args.self.now c.loop-axis.axis c.loop-axis.step _ _ _ _ _ _ _ _ _ _ _ _ _ c.requires.runs (omega arith)
    c.loop-axis.invariant.step c.loop-axis.invariant.rest c.loop-axis.invariant.place c.loop-axis.invariant.offset
    c.get-count.ensures c.get-first.ensures c.get-extent.ensures c.get-wide.ensures c.get-start.ensures c.get-apart.ensures c.get-low.ensures refl

small : (c : After-get-low) → IsSmall c.args.self.now c.args.number
small c = number_small c.args.self.now c.args.number c.requires.runs c.requires.below

pub overflow_mul-rest : goal.overflow_mul-rest
overflow_mul-rest c = omega (arith, (number_small c.args.self.now c.args.number c.requires.runs c.requires.below).total)

pub loop-axis-init : goal.loop-axis-init
loop-axis-init c =
    record {
      step = c.requires.runs.cells ∙ ap cell_count c.requires.runs.counts;
      rest = (number_small c.args.self.now c.args.number c.requires.runs c.requires.below).below;
      place = omega arith;
      offset = omega arith;
    }

pub get-first-requires : goal.get-first-requires
get-first-requires c = omega (arith, (all_long c.args.self.now c.requires.runs).firsts)

pub get-extent-requires : goal.get-extent-requires
get-extent-requires c = omega (arith, (all_long c.args.self.now c.requires.runs).extents)

pub get-wide-requires : goal.get-wide-requires
get-wide-requires c = omega (arith, (all_long c.args.self.now c.requires.runs).side)

pub get-start-requires : goal.get-start-requires
get-start-requires c = omega (arith, (all_long c.args.self.now c.requires.runs).starts)

pub get-apart-requires : goal.get-apart-requires
get-apart-requires c = omega (arith, (all_long c.args.self.now c.requires.runs).steps)

pub get-low-requires : goal.get-low-requires
get-low-requires c = omega (arith, (all_long c.args.self.now c.requires.runs).origin)

pub nonzero_div-step : goal.nonzero_div-step
nonzero_div-step c = omega (arith, (turn (goal.at.nonzero_div-step c).After-get-low).some_count)

pub nonzero_div-k : goal.nonzero_div-k
nonzero_div-k c = omega (arith, (turn (goal.at.nonzero_div-k c).After-get-low).some_step)

pub overflow_add-k : goal.overflow_add-k
overflow_add-k c =
    let known = turn (goal.at.overflow_add-k c).After-get-low in
    omega (arith, known.within, c.get-extent.ensures, below_extent c.args.self.now c.loop-axis.axis c.requires.runs (omega arith))

pub nonzero_rem-rest : goal.nonzero_rem-rest
nonzero_rem-rest c = omega (arith, (turn (goal.at.nonzero_rem-rest c).After-get-low).some_step)

pub overflow_mul-place : goal.overflow_mul-place
overflow_mul-place c =
    let at = (goal.at.overflow_mul-place c).After-get-low in
    omega (arith, (turn at).index_most, (small at).place)

pub overflow_add-place : goal.overflow_add-place
overflow_add-place c =
    let at = (goal.at.overflow_add-place c).After-get-low in
    omega (arith, (turn at).index_most, (small at).place)

pub overflow_mul-offset : goal.overflow_mul-offset
overflow_mul-offset c =
    let at = (goal.at.overflow_mul-offset c).After-get-low in
    omega (arith, (turn at).offset_most, (small at).offset)

pub overflow_mul-offset-in-loop-axis : goal.overflow_mul-offset-in-loop-axis
overflow_mul-offset-in-loop-axis c = omega (arith, (turn (goal.at.overflow_mul-offset-in-loop-axis c).After-get-low).most)

pub overflow_add-offset : goal.overflow_add-offset
overflow_add-offset c = omega (arith, (turn (goal.at.overflow_add-offset c).After-get-low).most)

pub overflow_sub-offset : goal.overflow_sub-offset
overflow_sub-offset c = omega (arith, (turn (goal.at.overflow_sub-offset c).After-get-low).low)

pub overflow_add-offset-in-loop-axis : goal.overflow_add-offset-in-loop-axis
overflow_add-offset-in-loop-axis c =
    let at = (goal.at.overflow_add-offset-in-loop-axis c).After-get-low in
    omega (arith, (turn at).offset_most, (small at).offset)

pub loop-axis-preserved : goal.loop-axis-preserved
loop-axis-preserved c =
    let known = turn (goal.at.loop-axis-preserved c).After-get-low in
    record { step = known.step_is; rest = known.less; place = known.indices; offset = known.offsets }

pub returns : goal.returns
returns c =
    let r = c.args.self.now in
    let past : length c.args.self.now.counts ≤ c.loop-axis.axis = omega arith in
    let ends = run_ended r c.loop-axis.axis c.loop-axis.rest c.loop-axis.place c.loop-axis.offset _ _ c.requires.runs past c.loop-axis.invariant.place c.loop-axis.invariant.offset in
    same_run _ _ _ _ r.stride r.len ends.0 ends.1
