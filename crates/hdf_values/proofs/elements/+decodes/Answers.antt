-- Each field is lighter than its fields, and its bytes are the first of those that are left.
use Rattle.std.proofs.Common.{◌≡◌, ◌+◌, ◌≤◌, ◌++◌, map, take, drop, ap, sym, subst, ◌∙◌, arith}
use Rattle.serde_json.specs.View.{view}
use Rattle.hdf_types.specs.declared.TheConstants.{MAX_SIZE}
use Rattle.hdf_types.specs.Elems.{Elem, compound}
use Rattle.hdf_types.specs.Reading.{size_of}
use Rattle.hdf_types.specs.Types.{IsFormed}
use Rattle.hdf_types.specs.Views.{elem, field_list}
use Rattle.hdf_values.specs.Elements.{IsEncoded, AreEncodedFields, decoded, fields_decoded}
use Rattle.hdf_values.proofs.Weights.{weight, lighter}
use Rattle.hdf_values.proofs.EncodedLemmas.{length-encoded, compound_encoded}
use Rattle.hdf_values.proofs.DecodedLemmas.{next_field, values_more}
use Rattle.hdf_values.proofs.elements.+decodes.Goals as goal

pub decode_fields-split_at-requires : goal.decode_fields-split_at-requires
decode_fields-split_at-requires t c =
    let l = c.loop-field in
    let next = next_field c.args.fields.now l.field-index c.field-item.result l.left.now c.loop-field-test.true c.field-item.is l.invariant.formed l.invariant.small l.invariant.encoded in
    omega (arith, next.long)

pub decode_fields-decode_part-requires : goal.decode_fields-decode_part-requires
decode_fields-decode_part-requires t c =
    let l = c.loop-field in
    let next = next_field c.args.fields.now l.field-index c.field-item.result l.left.now c.loop-field-test.true c.field-item.is l.invariant.formed l.invariant.small l.invariant.encoded in
    let front : c.split_at.result.0.now ≡ take (size_of (elem c.field-item.result.elem)) l.left.now = cc in
    (omega (arith, lighter c.args.fields.now l.field-index c.field-item.result c.loop-field-test.true c.field-item.is), (next.formed, (next.small, subst (IsEncoded (elem c.field-item.result.elem)) (sym front) next.encoded)))

pub decode_fields-loop-field-preserved : goal.decode_fields-loop-field-preserved
decode_fields-loop-field-preserved t c =
    let l = c.loop-field in
    let e = elem c.field-item.result.elem in
    let later = field_list (drop (l.field-index + 1) c.args.fields.now) in
    let next = next_field c.args.fields.now l.field-index c.field-item.result l.left.now c.loop-field-test.true c.field-item.is l.invariant.formed l.invariant.small l.invariant.encoded in
    let front : c.split_at.result.0.now ≡ take (size_of e) l.left.now = cc in
    let back : c.split_at.result.1.now ≡ drop (size_of e) l.left.now = cc in
    record {
      formed = next.later_formed;
      small = next.later_small;
      encoded = subst (AreEncodedFields later) (sym back) next.later_encoded;
      values =
          ap (λ bs. map view c.push.new.self.items ++ fields_decoded later bs) back
          ∙ values_more l.list.items c.push.new.self.items c.in_ok-decode_part.field-0 _ _ _ _ c.in_ok-push.ensures.items (c.in_ok-decode_part.ensures ∙ ap (decoded e) front) next.values l.invariant.values;
    }

pub decode_part-decode_int-requires-clause-room : goal.decode_part-decode_int-requires-clause-room
decode_part-decode_int-requires-clause-room t c =
    length-encoded (elem c.args.kind.now) c.args.bytes.now c.requires.formed c.requires.encoded ∙ ap (λ k. size_of (elem k)) c.in-Int.is

pub decode_part-decode_fields-requires : goal.decode_part-decode_fields-requires
decode_part-decode_fields-requires t c =
    let fields = field_list c.as_slice.result.now in
    let is : elem c.args.kind.now ≡ compound fields = ap elem c.in-Compound.is ∙ ap compound (sym c.as_slice.ensures) in (
      omega (arith, ap weight is),
      (
        (subst IsFormed is c.requires.formed).3,
        (
          subst (λ (e : Elem). size_of e ≤ MAX_SIZE) is c.requires.small,
          (compound_encoded fields c.args.bytes.now).0 (subst (λ (e : Elem). IsEncoded e c.args.bytes.now) is c.requires.encoded),
        ),
      ),
    )
