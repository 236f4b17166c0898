-- Item by item.
use Rattle.std.proofs.Common.{◌≡◌, [], None, Some, length, sym, ap, subst, ◌∙◌, arith, option_and_then}
use Rattle.json.specs.Json.{after_end_array}
use Rattle.json_trees.specs.Kept.{Begins}
use Rattle.json_trees.specs.Trees.{list_of}
use Rattle.shapes.specs.Spelled.{few_of}
use Rattle.shapes.proofs.KeptDimLemmas.{dims_after, dims_of_all}
use Rattle.json_trees.proofs.OfKept.StreamLemmas.{left_more, left_over}
use Rattle.shapes.proofs.kept_dims.next_list.Goals as goal

pub items-init : goal.items-init
items-init c = record {
  not_longer = omega arith;
  left = λ trees rest h. record { left = trees; here = h; holds = ap (λ ns. dims_after (Some ns) (list_of trees)) c.new.ensures };
}

pub items-preserved : goal.items-preserved
items-preserved c =
    let l = c.items in
    let going : (after_end_array l.reader ≡ None) × (c.take_end_array.new.self ≡ l.reader) = grind arith in
    record {
      not_longer = omega (arith, c.in_ok-dims.ensures.shorter, ap length going.1, l.invariant.not_longer);
      left = λ trees rest h.
          left_more (λ ds. dims_after l.dims ds ≡ dims_after (Some []) (list_of trees)) (λ ds. dims_after c.in_ok-dims.dims ds ≡ dims_after (Some []) (list_of trees)) l.reader _ rest (l.invariant.left trees rest h) going.0
          (λ tree mid begun.
          let found = c.in_ok-dims.ensures.told tree mid (subst (λ ts. Begins ts tree mid) (sym going.1) begun) in
          (found.0, λ ds is. ap (λ ns. dims_after ns ds) found.1 ∙ is));
    }

pub returns-clause-told : goal.returns-clause-told
returns-clause-told c trees rest h =
    let l = c.items in
    let closed : after_end_array l.reader ≡ Some c.take_end_array.new.self = grind arith in
    let over = left_over (λ ds. dims_after l.dims ds ≡ dims_after (Some []) (list_of trees)) l.reader c.take_end_array.new.self rest (l.invariant.left trees rest h) closed in
    (over.0, c.some_dims.ensures ∙ ap (option_and_then few_of) over.1 ∙ dims_of_all (list_of trees))
