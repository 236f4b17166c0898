-- The first field's bytes are as many as its size, and the later fields' are the rest.
use Rattle.std.proofs.Common.{◌≡◌, take, drop, ap, sym, subst, ◌∙◌, arith}
use Rattle.std.proofs.lemmas.Bool.{false≢true}
use Rattle.hdf_types.specs.Reading.{size_of}
use Rattle.hdf_types.specs.Views.{elem, field_list}
use Rattle.hdf_values.specs.Elements.{IsEncoded, AreEncodedFields}
use Rattle.hdf_values.proofs.EncodedLemmas.{first_encoded, more_encoded, all_bytes, int_test, compound_test}
use Rattle.hdf_values.proofs.elements.+tests.Goals as goal

pub are_encoded_fields-returns-then-bytes-size : goal.are_encoded_fields-returns-then-bytes-size
are_encoded_fields-returns-then-bytes-size t c = (
  λ e. absurd (false≢true e),
  λ h.
      let first = first_encoded (field_list c.args.fields.now) _ _ _ c.args.bytes.now (ap field_list c.in-Some.ensures.cases.0) c.requires.formed h in
      absurd (omega (arith, first.long)),
)

pub are_encoded_fields-returns-then-is_encoded_part : goal.are_encoded_fields-returns-then-is_encoded_part
are_encoded_fields-returns-then-is_encoded_part t c =
    let size = size_of (elem c.in-Some.field.now.elem) in
    let later = field_list c.in-Some.later_fields.now in
    let front : c.split_at.result.0.now ≡ take size c.args.bytes.now = cc in
    let back : c.split_at.result.1.now ≡ drop size c.args.bytes.now = cc in
    let is = ap field_list c.in-Some.ensures.cases.0 in
    let given = c.is_encoded_part.ensures.0 c.if-is_encoded_part.true in (
      λ e. more_encoded (field_list c.args.fields.now) _ _ _ c.args.bytes.now is (subst (IsEncoded (elem c.in-Some.field.now.elem)) front given) (subst (AreEncodedFields later) back (c.are_encoded_fields.ensures.0 e)),
      λ h.
          let first = first_encoded (field_list c.args.fields.now) _ _ _ c.args.bytes.now is c.requires.formed h in
          c.are_encoded_fields.ensures.1 (subst (AreEncodedFields later) (sym back) first.later),
    )

pub are_encoded_fields-returns-else-is_encoded_part : goal.are_encoded_fields-returns-else-is_encoded_part
are_encoded_fields-returns-else-is_encoded_part t c =
    let size = size_of (elem c.in-Some.field.now.elem) in
    let front : c.split_at.result.0.now ≡ take size c.args.bytes.now = cc in (
      λ e. absurd (false≢true (sym c.if-is_encoded_part.false ∙ e)),
      λ h.
          let first = first_encoded (field_list c.args.fields.now) _ _ _ c.args.bytes.now (ap field_list c.in-Some.ensures.cases.0) c.requires.formed h in
          c.is_encoded_part.ensures.1 (subst (IsEncoded (elem c.in-Some.field.now.elem)) (sym front) first.first),
    )

pub is_encoded_part-returns-in-Int : goal.is_encoded_part-returns-in-Int
is_encoded_part-returns-in-Int t c =
    int_test (elem c.args.kind.now) c.in-Int.int c.args.bytes.now (ap elem c.in-Int.is) c.requires.formed (all_bytes c.args.bytes.now c.type_inv.bytes)

pub is_encoded_part-returns-in-Compound : goal.is_encoded_part-returns-in-Compound
is_encoded_part-returns-in-Compound t c =
    compound_test (elem c.args.kind.now) _ _ c.args.bytes.now c.are_encoded_fields.result (ap elem c.in-Compound.is) c.as_slice.ensures c.are_encoded_fields.ensures
