-- Item by item.
use Rattle.std.proofs.Common.{◌≡◌, None, Some, length, sym, ap, subst, ◌∙◌, arith}
use Rattle.json.specs.Json.{after_end_array}
use Rattle.json_trees.specs.Begun.{AreItems}
use Rattle.json_trees.proofs.OfKept.PassLemmas.{an_item, items_passed}
use Rattle.json_trees.proofs.kept.passing.pass_items.Goals as goal

pub items-preserved : goal.items-preserved
items-preserved c =
    let l = c.items in
    let going : (after_end_array l.reader ≡ None) × (c.take_end_array.new.self ≡ l.reader) = grind arith in
    record {
      passed = λ rest h.
          let next = an_item c.take_end_array.new.self rest (subst (λ ts. AreItems ts rest) (sym going.1) (l.invariant.passed rest h)) (ap after_end_array going.1 ∙ going.0) in
          subst (λ ts. AreItems ts rest) (sym (c.in_ok-pass_value.ensures.passed next.mid next.first)) next.others;
      not_longer = omega (arith, c.in_ok-pass_value.ensures.shorter, ap length going.1, l.invariant.not_longer);
    }

pub returns-clause-passed : goal.returns-clause-passed
returns-clause-passed c rest h =
    let l = c.items in
    let closed : after_end_array l.reader ≡ Some c.take_end_array.new.self = grind arith in
    items_passed l.reader rest c.take_end_array.new.self (l.invariant.passed rest h) closed
