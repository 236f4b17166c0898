-- The descent meets the tests in their order.
use Rattle.std.proofs.Common.{◌≡◌, ◌+◌, ◌<◌, ◌≤◌, ◌∷◌, ℕ, suc, List, length, drop, map, Result, sym, ap, subst, ◌∙◌, arith}
use Rattle.std.proofs.lemmas.List.{length_push, length-map, drop_all, drop_more}
use Rattle.std.proofs.lemmas.Result.{err_from_is_err_and}
use Rattle.serde_json.specs.View.{view}
use Rattle.serde_json.specs.declared.value.Value.{Value}
use Rattle.hdf_types.specs.declared.TheConstants.{MAX_FIELDS}
use Rattle.hdf_types.specs.Views.{elem, field_list}
use Rattle.hdf_types.specs.Members.{member_of}
use Rattle.hdf_types.specs.Reading.{node_at, each_at}
use Rattle.hdf_types.specs.Elems.{FieldList, no_fields, field}
use Rattle.hdf_types.specs.Faults.{Fault, Gives}
use Rattle.hdf_types.proofs.FieldLemmas.{fields_deep, fields_many, fields_listed, fields_fail, each_more, field_list-push, joined, with_front, front_alone}
use Rattle.hdf_types.proofs.reading.+read.Goals as goal

pub compound-fields-requires : goal.compound-fields-requires
compound-fields-requires t c = (omega arith, c.requires)

pub member-node-requires : goal.member-node-requires
member-node-requires t c = (omega arith, omega (arith, ap length c.push.ensures, length_push c.args.path.now c.args.index))

pub fields-returns-then-levels-eq0 : goal.fields-returns-then-levels-eq0
fields-returns-then-levels-eq0 t c = rw c.refused.ensures (fields_deep c.args.levels c.args.path.now (map view c.args.items.now) (omega arith))

pub fields-returns-then-items-gt-MAX_FIELDS : goal.fields-returns-then-items-gt-MAX_FIELDS
fields-returns-then-items-gt-MAX_FIELDS t c =
    rw c.refused-then-items-gt-MAX_FIELDS.ensures
    (fields_many c.args.levels c.args.path.now (map view c.args.items.now) (omega arith) (rw (length-map c.args.items.now view) (omega arith)))

pub fields-returns : goal.fields-returns
fields-returns t c =
    let some : 0 < c.args.levels = omega arith in
    let few : length (map view c.args.items.now) ≤ MAX_FIELDS = rw (length-map c.args.items.now view) (omega arith) in
    let whole = fields_listed c.args.levels c.args.path.now (map view c.args.items.now) (field_list c.in_ok-list.list.items) some few c.in_ok-list.ensures.gives in
    let P = λ (r : Result FieldList Fault). Gives (λ fs. fs) c.distinct.result r in
    subst P (sym whole) c.distinct.ensures

pub fields-returns-in_err-list : goal.fields-returns-in_err-list
fields-returns-in_err-list t c =
    let p = err_from_is_err_and c.from_residual.result c.from_residual.ensures.1 in
    let some : 0 < c.args.levels = omega arith in
    let few : length (map view c.args.items.now) ≤ MAX_FIELDS = rw (length-map c.args.items.now view) (omega arith) in
    rw (p.1, p.2) (fields_fail c.args.levels c.args.path.now (map view c.args.items.now) c.in_err-list.field-0.0 some few c.in_err-list.ensures.gives)

pub each-loop-index-preserved : goal.each-loop-index-preserved
each-loop-index-preserved t c =
    let read = node_at c.args.levels in
    let path = c.args.path.now in
    let items = c.args.items.now in
    let i = c.loop-index.index in
    let item = c.index-items-index.result in
    let before = c.loop-index.list.items in
    let found = c.in_ok-member.field-0 in
    let rest = map view (drop (c.loop-index.index + 1) c.args.items.now) in
    let within : c.loop-index.index < length c.args.items.now = omega arith in
    let more = drop_more items i item within ∙ ap (λ (v : Value). v ∷ drop (i + 1) items) (sym c.index-items-index.is) in
    let grown = ap field_list c.in_ok-push.ensures.items ∙ field_list-push before found in
    let next : c.loop-index.index + 1 ≡ suc c.loop-index.index = omega arith in
    record {
      read =
          ap (λ (fs : FieldList). with_front fs (each_at read path (i + 1) rest)) grown
          ∙ ap (λ (k : ℕ). with_front (joined (field_list before) (field found.name (elem found.elem) no_fields)) (each_at read path k rest)) next
          ∙ sym (each_more read path i (view item) rest (field_list before) (member_of found) c.in_ok-member.ensures)
          ∙ sym (ap (λ (vs : List Value). with_front (field_list before) (each_at read path i (map view vs))) more)
          ∙ c.loop-index.invariant.read;
      count = omega (arith, ap length c.in_ok-push.ensures.items, length_push before found, c.loop-index.invariant.count);
    }

pub each-returns-clause-gives : goal.each-returns-clause-gives
each-returns-clause-gives t c =
    let read = node_at c.args.levels in
    let path = c.args.path.now in
    let front = field_list c.loop-index.list.items in
    let i = c.loop-index.index in
    sym c.loop-index.invariant.read ∙ ap (λ (vs : List Value). with_front front (each_at read path i (map view vs))) (drop_all i c.args.items.now (omega arith)) ∙ front_alone front
