use Rattle.std.proofs.Common.{◌≡◌, suc, ◌+◌, ◌-◌, ◌<◌, ◌≤◌, length, arith}
use Rattle.hyperslab.proofs.BoxRunLemmas.{all_long}
use Rattle.hyperslab.proofs.RowLemmas.{IsTail, IsNext, tail_first, tail_from, tail_next, step_fits, row_along}
use Rattle.hyperslab.proofs.numbered.Numbered.row.Goals.{After-get-wide}
use Rattle.hyperslab.proofs.numbered.Numbered.row.Goals as goal

within : (c : After-get-wide) → c.len-rank.result - 1 - c.loop-behind.behind < length c.args.self.now.counts
within c = omega arith

tail : (c : After-get-wide) → IsTail c.args.self.now (suc (c.len-rank.result - 1 - c.loop-behind.behind)) c.loop-behind.index_step c.loop-behind.offset_step
tail c =
    let e : c.len-rank.result - c.loop-behind.behind ≡ suc (c.len-rank.result - 1 - c.loop-behind.behind) = omega arith in
    tail_from c.args.self.now (c.len-rank.result - c.loop-behind.behind) (suc (c.len-rank.result - 1 - c.loop-behind.behind)) _ _ e c.loop-behind.invariant

next : (c : After-get-wide) → c.get-many.result ≤ 1
    → IsNext c.args.self.now (c.len-rank.result - 1 - c.loop-behind.behind) c.loop-behind.index_step c.loop-behind.offset_step c.get-extent.result c.get-wide.result
next c few =
    tail_next c.args.self.now (c.len-rank.result - 1 - c.loop-behind.behind) _ _ _ _ _ c.requires.runs (omega arith) (within c) (tail c) c.get-many.ensures few c.get-extent.ensures c.get-wide.ensures

pub get-index_step-requires : goal.get-index_step-requires
get-index_step-requires c = omega (arith, (all_long c.args.self.now c.requires.runs).extents)

pub get-offset_step-requires : goal.get-offset_step-requires
get-offset_step-requires c = omega (arith, (all_long c.args.self.now c.requires.runs).side)

pub loop-behind-init : goal.loop-behind-init
loop-behind-init c =
    let e : length c.args.self.now.counts ≡ suc (c.len-rank.result - 1) = omega arith in
    tail_first c.args.self.now (c.len-rank.result - 1) _ _ c.requires.runs e c.get-index_step.ensures c.get-offset_step.ensures

pub get-apart-requires : goal.get-apart-requires
get-apart-requires c = omega (arith, (all_long c.args.self.now c.requires.runs).steps)

pub get-extent-requires : goal.get-extent-requires
get-extent-requires c = omega (arith, (all_long c.args.self.now c.requires.runs).extents)

pub get-wide-requires : goal.get-wide-requires
get-wide-requires c = omega (arith, (all_long c.args.self.now c.requires.runs).side)

pub overflow_mul-result : goal.overflow_mul-result
overflow_mul-result c =
    let at = (goal.at.overflow_mul-result c).After-get-wide in
    omega (arith, step_fits c.args.self.now _ _ _ _ _ c.requires.runs (omega arith) (within at) (tail at) c.get-many.ensures (omega arith) c.get-apart.ensures)

pub returns-then-many-gt1 : goal.returns-then-many-gt1
returns-then-many-gt1 c =
    let at = (goal.at.returns-then-many-gt1 c).After-get-wide in
    row_along c.args.self.now _ _ _ _ _ c.requires.runs (within at) (tail at) c.get-many.ensures (omega arith) c.get-apart.ensures

pub overflow_mul-index_step : goal.overflow_mul-index_step
overflow_mul-index_step c = omega (arith, (next (goal.at.overflow_mul-index_step c).After-get-wide c.if-many-gt1.false).indices_fit)

pub overflow_mul-offset_step : goal.overflow_mul-offset_step
overflow_mul-offset_step c = omega (arith, (next (goal.at.overflow_mul-offset_step c).After-get-wide c.if-many-gt1.false).offsets_fit)

pub loop-behind-preserved : goal.loop-behind-preserved
loop-behind-preserved c =
    let e : c.len-rank.result - 1 - c.loop-behind.behind ≡ c.len-rank.result - (c.loop-behind.behind + 1) = omega arith in
    tail_from c.args.self.now (c.len-rank.result - 1 - c.loop-behind.behind) (c.len-rank.result - (c.loop-behind.behind + 1)) _ _ e (next (goal.at.loop-behind-preserved c).After-get-wide c.if-many-gt1.false).tail
