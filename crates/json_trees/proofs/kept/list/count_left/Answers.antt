-- Item by item.
use Rattle.std.proofs.Common.{◌≡◌, ◌+◌, None, Some, length, sym, ap, subst, arith}
use Rattle.json.specs.Json.{after_end_array}
use Rattle.json_trees.specs.Kept.{Begins}
use Rattle.json_trees.specs.Trees.{list_of}
use Rattle.json_trees.proofs.OfKept.PassLemmas.{is_value}
use Rattle.json_trees.proofs.OfKept.StreamLemmas.{left_more, left_over}
use Rattle.json_trees.proofs.kept.list.count_left.Goals as goal

pub items-init : goal.items-init
items-init c trees rest h = record { left = trees; here = h; holds = omega arith }

pub items-smaller : goal.items-smaller
items-smaller c =
    let l = c.items in
    let going : (after_end_array l.reader ≡ None) × (c.take_end_array.new.self ≡ l.reader) = grind arith in
    omega (arith, c.in_ok-pass_value.ensures.shorter, ap length going.1)

pub items-preserved : goal.items-preserved
items-preserved c trees rest h =
    let l = c.items in
    let going : (after_end_array l.reader ≡ None) × (c.take_end_array.new.self ≡ l.reader) = grind arith in
    left_more (λ ds. l.count + length ds ≡ length (list_of trees)) (λ ds. c.in_ok-count.count + length ds ≡ length (list_of trees)) l.reader _ rest (l.invariant trees rest h) going.0
    (λ tree mid begun.
    (c.in_ok-pass_value.ensures.passed mid (is_value _ mid tree (subst (λ ts. Begins ts tree mid) (sym going.1) begun)), λ ds is. omega (arith, c.in_ok-count.ensures, is)))

pub returns : goal.returns
returns c trees rest h =
    let l = c.items in
    let closed : after_end_array l.reader ≡ Some c.take_end_array.new.self = grind arith in
    let over = left_over (λ ds. l.count + length ds ≡ length (list_of trees)) l.reader c.take_end_array.new.self rest (l.invariant trees rest h) closed in
    omega (arith, over.1)
