-- Item by item.
use Rattle.std.proofs.Common.{◌≡◌, Some, None, sym, ap, subst, ◌∙◌, arith}
use Rattle.std.proofs.Common.{length}
use Rattle.json.specs.Json.{after_end_array}
use Rattle.json_trees.specs.Begun.{IsValue}
use Rattle.hdf_values.proofs.OfKept.PartLemmas.{all_passed, none_passed, one_passed, outcome_of}
use Rattle.hdf_values.proofs.kept.parts.read_end.Goals as goal

pub items-init : goal.items-init
items-init c = record { not_longer = omega arith; passed = λ trees rest h. none_passed trees c.args.reader.now rest h }

pub items-preserved : goal.items-preserved
items-preserved c =
    let l = c.items in
    let going : (after_end_array l.reader ≡ None) × (c.take_end_array.new.self ≡ l.reader) = grind arith in
    record {
      not_longer = omega (arith, c.in_ok-pass_value.ensures.shorter, ap length going.1, l.invariant.not_longer);
      passed = λ trees rest h.
          one_passed l.has_more trees l.reader _ rest (l.invariant.passed trees rest h) going.0
          (λ mid is. c.in_ok-pass_value.ensures.passed mid (subst (λ ts. IsValue ts mid) (sym going.1) is));
    }

pub returns-then-has_more-clause-told : goal.returns-then-has_more-clause-told
returns-then-has_more-clause-told c trees rest h =
    let l = c.items in
    let closed : after_end_array l.reader ≡ Some c.take_end_array.new.self = grind arith in
    let all = all_passed l.has_more trees l.reader rest c.take_end_array.new.self (l.invariant.passed trees rest h) closed in
    (all.0, all.1 ∙ ap outcome_of c.if-has_more.true)

pub returns-else-has_more-clause-told : goal.returns-else-has_more-clause-told
returns-else-has_more-clause-told c trees rest h =
    let l = c.items in
    let closed : after_end_array l.reader ≡ Some c.take_end_array.new.self = grind arith in
    let all = all_passed l.has_more trees l.reader rest c.take_end_array.new.self (l.invariant.passed trees rest h) closed in
    (all.0, all.1 ∙ ap outcome_of c.if-has_more.false)
