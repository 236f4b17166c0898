use Rattle.std.proofs.Common.{◌≡◌, ◌+◌, ◌∙◌, ℕ, ap, arith}
use Rattle.serde_json.proofs.Views.{view-Array}
use Rattle.samples.specs.Values.Samples.{element, state}
use Rattle.samples.specs.Trees.{run_tree, whole}
use Rattle.samples.proofs.TreeLemmas.{made_more, made_none, run_made}
use Rattle.samples.proofs.document.next_row.Goals as goal

pub loop-column-init : goal.loop-column-init
loop-column-init c = λ n k is. made_none n k c.args.elements.now c.in_ok-row.row.items is c.in_ok-row.ensures.items

pub loop-column-preserved : goal.loop-column-preserved
loop-column-preserved c = λ n k is.
    let before = c.loop-column.invariant n k is in
    let i = c.loop-column.column in
    let next : k + c.loop-column.column + 1 ≡ k + (c.loop-column.column + 1) = omega arith in
    record {
      left = c.next.ensures.state n (k + i) before.left ∙ ap (state n) next;
      made = made_more (λ j. whole (element n (k + j))) i c.loop-column.row.items c.push.new.self.items c.from.result before.made c.in_ok-push.ensures.items
          (c.from.ensures ∙ ap whole (c.next.ensures.element n (k + i) before.left));
    }

pub returns-clause-tree : goal.returns-clause-tree
returns-clause-tree c n k is =
    let end : c.loop-column.column ≡ 1000 = omega arith in
    view-Array c.loop-column.row
    ∙ run_made n k c.loop-column.column c.loop-column.elements c.loop-column.row.items (c.loop-column.invariant n k is) ∙ ap (λ (m : ℕ). run_tree n m k) end

pub returns-clause-state : goal.returns-clause-state
returns-clause-state c n k is =
    let end : k + c.loop-column.column ≡ k + 1000 = omega arith in
    (c.loop-column.invariant n k is).left ∙ ap (state n) end
