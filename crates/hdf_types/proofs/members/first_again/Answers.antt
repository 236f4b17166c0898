-- The names in front are those of the fields that were passed.
use Rattle.std.proofs.Common.{◌≡◌, ◌<◌, length, take, true, false, sym, ap, ◌∙◌, arith}
use Rattle.std.specs.List.{list_any}
use Rattle.std.specs.Str.{bytes_eq}
use Rattle.hdf_types.specs.Views.{field_names}
use Rattle.hdf_types.proofs.FieldLemmas.{again_here, again_next}
use Rattle.hdf_types.proofs.members.first_again.Goals as goal

pub returns-then-is_among : goal.returns-then-is_among
returns-then-is_among c =
    let within : c.loop-index.index < length c.args.fields.now = omega arith in
    let told : list_any (λ m. bytes_eq m c.text.result.now) (field_names (take c.loop-index.index c.args.fields.now)) ≡ true = sym c.is_among.ensures ∙ c.if-is_among.true in
    let earlier = ap (λ n. list_any (λ m. bytes_eq m n) (field_names (take c.loop-index.index c.args.fields.now))) (sym c.text.ensures) ∙ told in
    sym (again_here c.args.fields.now c.loop-index.index c.index-fields-index.result within c.index-fields-index.is earlier) ∙ c.loop-index.invariant

pub loop-index-preserved : goal.loop-index-preserved
loop-index-preserved c =
    let within : c.loop-index.index < length c.args.fields.now = omega arith in
    let told : list_any (λ m. bytes_eq m c.text.result.now) (field_names (take c.loop-index.index c.args.fields.now)) ≡ false = sym c.is_among.ensures ∙ c.if-is_among.false in
    let fresh = ap (λ n. list_any (λ m. bytes_eq m n) (field_names (take c.loop-index.index c.args.fields.now))) (sym c.text.ensures) ∙ told in
    sym (again_next c.args.fields.now c.loop-index.index c.index-fields-index.result within c.index-fields-index.is fresh) ∙ c.loop-index.invariant
