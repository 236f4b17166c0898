use Rattle.std.proofs.Common.{◌≡◌, ◌+◌, ◌*◌, ◌∙◌, ℕ, ap, arith}
use Rattle.serde_json.proofs.Views.{view-Array}
use Rattle.samples.specs.Values.Samples.{state}
use Rattle.samples.specs.Trees.{run_tree, value_tree}
use Rattle.samples.proofs.TreeLemmas.{made_more, rows_made}
use Rattle.samples.proofs.document.value_tree.Goals as goal

pub loop-row-preserved : goal.loop-row-preserved
loop-row-preserved c =
    let n = c.args.number in
    let row = c.loop-row.row in
    let before = c.loop-row.invariant in
    let next : c.loop-row.row * 1000 + 1000 ≡ (c.loop-row.row + 1) * 1000 = omega arith in
    record {
      left = c.in_ok-next_row.ensures.state n (row * 1000) before.left ∙ ap (state n) next;
      made = made_more (λ r. run_tree n 1000 (r * 1000)) row c.loop-row.rows.items c.push.new.self.items c.in_ok-next_row.field-0 before.made c.in_ok-push.ensures.items
          (c.in_ok-next_row.ensures.tree n (row * 1000) before.left);
    }

pub returns : goal.returns
returns c =
    let end : c.loop-row.row ≡ 1000 = omega arith in
    view-Array c.loop-row.rows
    ∙ rows_made c.args.number 1000 c.loop-row.row c.loop-row.elements c.loop-row.rows.items c.loop-row.invariant ∙ ap (λ (m : ℕ). value_tree c.args.number m 1000) end
