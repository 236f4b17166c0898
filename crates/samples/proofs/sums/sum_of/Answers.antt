use Rattle.std.proofs.Common.{◌≡◌, ◌∙◌, ◌%◌, ◌^◌, ap, arith}
use Rattle.serde_json.specs.Data.{Data}
use Rattle.serde_json.specs.View.{view}
use Rattle.samples.specs.Sums.{members, row_in, total_in}
use Rattle.samples.proofs.SumLemmas.{slab_is_sum, sum_all, sum_more}
use Rattle.samples.proofs.sums.sum_of.Goals as goal

total : (c : goal.After-loop-row) → c.loop-row.sum ≡ total_in (view c.args.tree.now) % 2 ^ 64
unfolding total_in
total c = sum_all row_in c.items_of-row-items.result.now (members (view c.args.tree.now)) c.loop-row.row-index c.loop-row.sum c.loop-row-test.false c.items_of-row-items.ensures c.loop-row.invariant

pub loop-row-preserved : goal.loop-row-preserved
loop-row-preserved c =
    let this : c.sum_of_row-sum.result % 2 ^ 64 ≡ row_in (view c.row-item.result) % 2 ^ 64 = omega (arith, c.sum_of_row-sum.ensures) in
    sum_more row_in c.items_of-row-items.result.now c.row-item.result c.loop-row.row-index c.loop-row.sum c.sum_of_row-sum.result c.loop-row-test.true c.row-item.is c.loop-row.invariant this

pub returns-clause-total : goal.returns-clause-total
returns-clause-total c = total c

pub returns-clause-slab : goal.returns-clause-slab
returns-clause-slab c n a is = total c ∙ (ap (λ (d : Data). total_in d % 2 ^ 64) is ∙ slab_is_sum n a)
