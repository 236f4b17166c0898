use Rattle.std.proofs.Common.{◌∙◌, ◌%◌, ◌^◌, ℕ, Option, ap}
use Rattle.std.specs.Prelude.{unwrap_or}
use Rattle.serde_json.specs.View.{view}
use Rattle.samples.specs.Sums.{members, number_in, row_in}
use Rattle.samples.proofs.SumLemmas.{sum_all, sum_more}
use Rattle.samples.proofs.sums.sum_of_row.Goals as goal

pub loop-number-preserved : goal.loop-number-preserved
loop-number-preserved c =
    let this = c.unwrap_or-sum.ensures ∙ ap (λ (o : Option ℕ). unwrap_or o 0) c.as_u64.ensures in
    sum_more number_in c.items_of-number-items.result.now c.number-item.result c.loop-number.number-index c.loop-number.sum c.unwrap_or-sum.result c.loop-number-test.true c.number-item.is
    c.loop-number.invariant (ap (λ (k : ℕ). k % 2 ^ 64) this)

pub returns : goal.returns
unfolding row_in
returns c = sum_all number_in c.items_of-number-items.result.now (members (view c.args.tree.now)) c.loop-number.number-index c.loop-number.sum c.loop-number-test.false c.items_of-number-items.ensures c.loop-number.invariant
