-- Each field is lighter than its fields, and its bytes are the first of those that are left.
use Rattle.std.proofs.Common.{◌≡◌, ◌+◌, ◌≤◌, take, drop, ap, sym, subst, ◌∙◌, arith}
use Rattle.hdf_types.specs.declared.TheConstants.{MAX_SIZE}
use Rattle.hdf_types.specs.Elems.{Elem, compound}
use Rattle.hdf_types.specs.Reading.{size_of}
use Rattle.hdf_types.specs.Types.{IsFormed}
use Rattle.hdf_types.specs.Views.{elem, field_list}
use Rattle.hdf_values.specs.Elements.{IsEncoded, AreEncodedFields}
use Rattle.hdf_values.proofs.Weights.{weight, lighter}
use Rattle.hdf_values.proofs.EncodedLemmas.{length-encoded, compound_encoded}
use Rattle.hdf_values.proofs.DecodedLemmas.{next_field}
use Rattle.hdf_values.proofs.PrintLemmas.{underway_field}
use Rattle.hdf_values.proofs.printing.elements.+prints.Goals as goal

pub write_fields-split_at-requires : goal.write_fields-split_at-requires
write_fields-split_at-requires t c =
    let l = c.loop-field in
    let next = next_field c.args.fields.now l.field-index c.field-item.result l.left.now c.loop-field-test.true c.field-item.is l.invariant.formed l.invariant.small l.invariant.encoded in
    omega (arith, next.long)

pub write_fields-write_element-requires : goal.write_fields-write_element-requires
write_fields-write_element-requires t c =
    let l = c.loop-field in
    let next = next_field c.args.fields.now l.field-index c.field-item.result l.left.now c.loop-field-test.true c.field-item.is l.invariant.formed l.invariant.small l.invariant.encoded in
    let front : c.split_at.result.0.now ≡ take (size_of (elem c.field-item.result.elem)) l.left.now = cc in
    (omega (arith, lighter c.args.fields.now l.field-index c.field-item.result c.loop-field-test.true c.field-item.is), (next.formed, (next.small, subst (IsEncoded (elem c.field-item.result.elem)) (sym front) next.encoded)))

pub write_fields-loop-field-preserved : goal.write_fields-loop-field-preserved
write_fields-loop-field-preserved t c =
    let l = c.loop-field in
    let e = elem c.field-item.result.elem in
    let later = field_list (drop (l.field-index + 1) c.args.fields.now) in
    let next = next_field c.args.fields.now l.field-index c.field-item.result l.left.now c.loop-field-test.true c.field-item.is l.invariant.formed l.invariant.small l.invariant.encoded in
    let front : c.split_at.result.0.now ≡ take (size_of e) l.left.now = cc in
    let back : c.split_at.result.1.now ≡ drop (size_of e) l.left.now = cc in
    record {
      formed = next.later_formed;
      small = next.later_small;
      encoded = subst (AreEncodedFields later) (sym back) next.later_encoded;
      tokens = underway_field _ _ _ e later _ _ l.left.now _ _ front back next.values l.invariant.tokens c.in_ok-write_element.ensures;
    }

pub write_element-write_int-requires-clause-room : goal.write_element-write_int-requires-clause-room
write_element-write_int-requires-clause-room t c =
    length-encoded (elem c.args.kind.now) c.args.bytes.now c.requires.formed c.requires.encoded ∙ ap (λ k. size_of (elem k)) c.in-Int.is

pub write_element-write_fields-requires : goal.write_element-write_fields-requires
write_element-write_fields-requires t c =
    let fields = field_list c.as_slice.result.now in
    let is : elem c.args.kind.now ≡ compound fields = ap elem c.in-Compound.is ∙ ap compound (sym c.as_slice.ensures) in (
      omega (arith, ap weight is),
      (
        (subst IsFormed is c.requires.formed).3,
        (
          subst (λ (e : Elem). size_of e ≤ MAX_SIZE) is c.requires.small,
          (compound_encoded fields c.args.bytes.now).0 (subst (λ (e : Elem). IsEncoded e c.args.bytes.now) is c.requires.encoded),
        ),
      ),
    )
