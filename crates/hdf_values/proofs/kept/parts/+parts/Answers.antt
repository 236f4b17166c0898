-- Field by field.
use Rattle.std.proofs.Common.{◌≡◌, ◌∷◌, Some, None, sym, ap, subst, ◌∙◌, arith}
use Rattle.std.proofs.lemmas.Result.{IfOk-weaker}
use Rattle.json.specs.Json.{after_end_array}
use Rattle.json.specs.Reads.{token_of}
use Rattle.json_trees.specs.Begun.{AreTrees}
use Rattle.json_trees.specs.Kept.{Begins}
use Rattle.json_trees.specs.Trees.{list_of}
use Rattle.json_trees.proofs.OfKept.PassLemmas.{is_value, no_array}
use Rattle.hdf_types.specs.Elems.{compound}
use Rattle.hdf_types.specs.Views.{elem, field_list}
use Rattle.hdf_values.specs.Elements.{encoded, fields_encoded}
use Rattle.hdf_values.specs.Streamed.{Told}
use Rattle.hdf_values.proofs.OfKept.PartLemmas.{compound_told, ended_told, field_told, no_compound, no_field, none_told}
use Rattle.json_trees.proofs.OfKept.StreamLemmas.{a_list, a_tree, no_list, none_more}
use Rattle.hdf_values.proofs.kept.parts.+parts.Goals as goal

pub read_fields-returns-in_default-clause-told : goal.read_fields-returns-in_default-clause-told
read_fields-returns-in_default-clause-told t c =
    IfOk-weaker c.read_end.result _ _ (λ misfit told trees rest h.
    let found = told trees rest h in
    (found.0, none_told (field_list c.args.fields.now) misfit c.args.out.now.items trees (no_field c.args.fields.now c.in_default.ensures.cases) found.1)) c.read_end.ensures.told

pub read_fields-returns-then-take_end_array-clause-told : goal.read_fields-returns-then-take_end_array-clause-told
read_fields-returns-then-take_end_array-clause-told t c trees rest h =
    let closed : after_end_array c.args.reader.now ≡ Some c.take_end_array.new.self = grind arith in
    let last = none_more c.args.reader.now rest c.take_end_array.new.self trees h closed in
    (last.0, ended_told _ _ _ (field_list c.args.fields.now) trees (ap field_list c.in-Some.ensures.cases.0) last.1)

pub read_fields-returns-clause-told : goal.read_fields-returns-clause-told
read_fields-returns-clause-told t c trees rest h =
    let going : (after_end_array c.args.reader.now ≡ None) × (c.take_end_array.new.self ≡ c.args.reader.now) = grind arith in
    let all = field_list c.args.fields.now in
    let old = c.args.out.now.items in
    let first = a_tree c.args.reader.now rest trees h going.0 in
    let here = c.in_ok-here.ensures.told first.tree first.mid (subst (λ ts. Begins ts first.tree first.mid) (sym going.1 ∙ c.in-Some-next.ensures.value) first.first) in
    let later = c.in_ok-rest.ensures.told first.others rest (subst (λ ts. AreTrees ts first.others rest) (sym here.0) first.behind) in
    let told = field_told _ _ _ all trees first.others first.tree c.in_ok-here.here c.in_ok-rest.rest old _ _ (ap field_list c.in-Some.ensures.cases.0) first.are here.1 later.1 in
    (later.0, subst (λ m. Told m old c.read_fields.new.out.items (fields_encoded all (list_of trees))) (sym c.lower_of.ensures) told)

pub read_part-returns-in-Int-clause-told : goal.read_part-returns-in-Int-clause-told
read_part-returns-in-Int-clause-told t c =
    IfOk-weaker c.read_int.result _ _ (λ misfit told tree rest h.
    let found = told tree rest h in
    (found.0, subst (λ k. Told misfit c.args.out.now.items c.read_int.new.out.items (encoded k tree)) (sym (ap elem c.in-Int.is)) found.1)) c.read_int.ensures.told

pub read_part-returns-in-Text-clause-told : goal.read_part-returns-in-Text-clause-told
read_part-returns-in-Text-clause-told t c =
    IfOk-weaker c.read_text.result _ _ (λ misfit told tree rest h.
    let found = told tree rest h in
    (found.0, subst (λ k. Told misfit c.args.out.now.items c.read_text.new.out.items (encoded k tree)) (sym (ap elem c.in-Text.is)) found.1)) c.read_text.ensures.told

pub read_part-returns-in-BeginArray-clause-told : goal.read_part-returns-in-BeginArray-clause-told
read_part-returns-in-BeginArray-clause-told t c =
    let fields = field_list c.as_slice.result.now in
    let is : elem c.args.kind.now ≡ compound fields = ap elem c.in-Compound.is ∙ ap compound (sym c.as_slice.ensures) in
    IfOk-weaker c.read_fields.result _ _ (λ misfit told tree rest h.
    let begun = subst (λ k. Begins (token_of k ∷ c.args.reader.now) tree rest) c.in-BeginArray.is h in
    let l = a_list c.args.reader.now rest tree begun in
    let found = told l.trees rest l.items in
    (found.0, compound_told (elem c.args.kind.now) fields tree l.trees misfit _ _ is l.is found.1)) c.read_fields.ensures.told

pub read_part-returns-in_ok-pass_rest-in_default : goal.read_part-returns-in_ok-pass_rest-in_default
read_part-returns-in_ok-pass_rest-in_default t c = record {
  told = λ tree rest h. (
    c.in_ok-pass_rest-in_default.ensures.passed rest (is_value _ rest tree h),
    no_compound (elem c.args.kind.now) _ tree (ap elem c.in-Compound.is) (no_list (token_of c.args.first) c.args.reader.now rest tree (no_array c.args.first c.in_default.not-BeginArray) h),
  );
  not_longer = c.in_ok-pass_rest-in_default.ensures.not_longer;
}
