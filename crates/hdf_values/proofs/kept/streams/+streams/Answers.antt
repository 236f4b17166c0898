-- Value by value.
use Rattle.std.proofs.Common.{◌≡◌, ◌≢◌, ◌+◌, ◌-◌, ◌∷◌, [], length, drop, None, Some, refl, sym, ap, subst, ◌∙◌, arith}
use Rattle.std.proofs.lemmas.List.{length-drop, take_all}
use Rattle.std.proofs.lemmas.Result.{IfOk-weaker}
use Rattle.json.specs.Json.{after_end_array}
use Rattle.json.specs.Reads.{token_of}
use Rattle.json_trees.specs.Trees.{list_of}
use Rattle.hdf_types.specs.Views.{elem}
use Rattle.hdf_values.specs.Nested.{nested_from}
use Rattle.hdf_values.proofs.PieceLemmas.{none_left, some_left}
use Rattle.hdf_values.proofs.ReadLemmas.{no_list as not_a_list}
use Rattle.json_trees.specs.Kept.{Begins}
use Rattle.hdf_values.specs.Streamed.{MemberTold, Told}
use Rattle.json_trees.proofs.OfKept.PassLemmas.{no_array, is_value}
use Rattle.json_trees.proofs.OfKept.StreamLemmas.{a_list, no_list}
use Rattle.hdf_values.proofs.OfKept.MemberLemmas.{underway_first, underway_more, underway_over, wrong_count, right_count, list_told, no_extent, unwanted}
use Rattle.hdf_values.proofs.kept.streams.+streams.Goals as goal

pub read_axes-returns-then-is_empty-clause-told : goal.read_axes-returns-then-is_empty-clause-told
read_axes-returns-then-is_empty-clause-told t c =
    let e = elem c.args.kind.now in
    let none : c.args.extents.now ≡ [] = no_extent c.args.extents.now (none_left c.args.extents.now c.if-is_empty.ensures) in
    IfOk-weaker c.read_element.result _ _ (λ fault told tree rest h.
    let found = told tree rest (subst (λ ts. Begins ts tree rest) c.in-Some.ensures.value h) in
    (found.0, subst (λ dims. Told fault c.args.out.now.items c.read_element.new.out.items (nested_from e dims c.args.place tree)) (sym none) found.1)) c.read_element.ensures.told

pub read_axes-returns-in-BeginArray-clause-told : goal.read_axes-returns-in-BeginArray-clause-told
read_axes-returns-in-BeginArray-clause-told t c =
    let dims = c.args.extents.now in
    let some = some_left dims c.if-is_empty.ensures in
    let behind = take_all (length dims - 1) (drop 1 dims) (omega (arith, length-drop 1 dims)) in
    IfOk-weaker c.read_members.result _ _ (λ fault told tree rest h.
    let begun = subst (λ ts. Begins ts tree rest) (c.in-Some.ensures.value ∙ ap (λ k. token_of k ∷ c.next.new.self) c.in-BeginArray.is) h in
    let l = a_list c.next.new.self rest tree begun in
    let found = told l.trees rest l.items in
    (found.0, list_told (elem c.args.kind.now) dims _ c.args.place tree l.trees fault _ _ some behind l.is found.1)) c.read_members.ensures.told

pub read_axes-returns-in_ok-pass_rest-in_default-first : goal.read_axes-returns-in_ok-pass_rest-in_default-first
read_axes-returns-in_ok-pass_rest-in_default-first t c =
    let dims = c.args.extents.now in
    let some = some_left dims c.if-is_empty.ensures in
    record {
      told = λ tree rest h.
          let begun = subst (λ ts. Begins ts tree rest) c.in-Some.ensures.value h in (
            c.in_ok-pass_rest-in_default-first.ensures.passed rest (is_value _ rest tree begun),
            not_a_list (elem c.args.kind.now) dims c.args.place tree some (no_list (token_of c.in-Some.first) c.next.new.self rest tree (no_array c.in-Some.first c.in_default-first.not-BeginArray) begun),
          );
      shorter = omega (arith, c.in_ok-pass_rest-in_default-first.ensures.not_longer, ap length c.in-Some.ensures.value);
    }

pub read_members-items-init : goal.read_members-items-init
read_members-items-init t c = record {
  not_longer = omega arith;
  underway = λ trees rest h. underway_first (elem c.args.kind.now) c.args.extents.now c.args.want c.args.place trees rest c.args.out.now.items c.args.reader.now h;
}

pub read_members-items-preserved : goal.read_members-items-preserved
read_members-items-preserved t c =
    let l = c.items in
    let going : (after_end_array l.reader ≡ None) × (c.take_end_array.new.self ≡ l.reader) = grind arith in
    record {
      not_longer = omega (arith, c.in_ok-fault.ensures.shorter, ap length going.1, l.invariant.not_longer);
      underway = λ trees rest h.
          underway_more (elem c.args.kind.now) c.args.extents.now c.args.want c.args.place trees rest _ l.reader c.read_member.new.reader l.fault c.in_ok-fault.fault l.got c.in_ok-got.got l.next c.in_ok-next.next _ _ (l.invariant.underway trees rest h) going.0
          (λ tree mid begun. c.in_ok-fault.ensures.told tree mid (subst (λ ts. Begins ts tree mid) (sym going.1) begun)) c.in_ok-got.ensures (c.in_ok-next.ensures ∙ ap (λ s. l.next + s) c.in_ok-step.ensures);
    }

pub read_members-returns-then-got-want-clause-told : goal.read_members-returns-then-got-want-clause-told
read_members-returns-then-got-want-clause-told t c trees rest h =
    let l = c.items in
    let closed : after_end_array l.reader ≡ Some c.take_end_array.new.self = grind arith in
    let over = underway_over (elem c.args.kind.now) c.args.extents.now c.args.want c.args.place trees rest c.take_end_array.new.self _ l.reader l.fault l.got l.next _ (l.invariant.underway trees rest h) closed in
    let other : l.got ≢ c.args.want = c.if-got-want.true in
    (over.rest_is, wrong_count (elem c.args.kind.now) c.args.extents.now c.args.want c.args.place l.got (list_of trees) over.many other)

pub read_members-returns-clause-told : goal.read_members-returns-clause-told
read_members-returns-clause-told t c trees rest h =
    let l = c.items in
    let closed : after_end_array l.reader ≡ Some c.take_end_array.new.self = grind arith in
    let over = underway_over (elem c.args.kind.now) c.args.extents.now c.args.want c.args.place trees rest c.take_end_array.new.self _ l.reader l.fault l.got l.next _ (l.invariant.underway trees rest h) closed in
    let is : l.got ≡ c.args.want = c.if-got-want.false in
    (over.rest_is, right_count (elem c.args.kind.now) c.args.extents.now c.args.want c.args.place l.got (list_of trees) l.fault _ _ over.many is (over.told (omega (arith, is))))

pub read_member-returns-in-Some-clause-told : goal.read_member-returns-in-Some-clause-told
read_member-returns-in-Some-clause-told t c tree rest h = (c.in_ok-pass_value.ensures.passed rest (is_value _ rest tree h), λ w. subst (λ f. MemberTold f (Some c.in-Some.found) c.args.out.now.items c.args.out.now.items (nested_from (elem c.args.kind.now) c.args.extents.now c.args.place tree)) (sym c.in-Some.is) refl)

pub read_member-returns-then-not-is_wanted-clause-told : goal.read_member-returns-then-not-is_wanted-clause-told
read_member-returns-then-not-is_wanted-clause-told t c tree rest h = (c.in_ok-pass_value-2.ensures.passed rest (is_value _ rest tree h), λ w. absurd (unwanted c.args.is_wanted c.if-not-is_wanted.true w))

pub read_member-returns-clause-told : goal.read_member-returns-clause-told
read_member-returns-clause-told t c =
    IfOk-weaker c.read_axes.result _ _ (λ found told tree rest h.
    let r = told tree rest h in
    (r.0, λ w. subst (λ f. MemberTold f found c.args.out.now.items c.read_axes.new.out.items (nested_from (elem c.args.kind.now) c.args.extents.now c.args.place tree)) (sym c.in_default.is) r.1)) c.read_axes.ensures.told
