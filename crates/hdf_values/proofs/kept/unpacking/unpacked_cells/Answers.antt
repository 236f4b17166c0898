-- Of the same extents: the same bytes, or those of the numbers in the other type.
use Rattle.std.proofs.Common.{Ok, ap, sym, ◌∙◌}
use Rattle.std.proofs.lemmas.Option.{IfSome_then}
use Rattle.std.proofs.lemmas.Result.{IfOk-weaker}
use Rattle.hdf_types.specs.Elems.{int}
use Rattle.hdf_types.specs.Views.{elem}
use Rattle.hdf_values.proofs.OfKept.UnpackLemmas.{same_extents, same_type, same_read, other_read}
use Rattle.hdf_values.proofs.kept.unpacking.unpacked_cells.Goals as goal

pub returns-then-eq : goal.returns-then-eq
returns-then-eq c =
    let packed = c.packed.inside in
    let dims = c.args.extents.now in
    let kind = ap elem c.in-Int.is ∙ ap int (sym (same_type c.in-Int-kind.from c.in-Int.to c.if-eq.ensures)) ∙ ap elem (sym c.in-Int-kind.is) in
    same_read (elem c.args.kind.now) (elem packed.kind) dims packed.extents packed.bytes.items c.args.packed.now kind
    (same_extents packed.extents dims c.if-ne.ensures) c.packed.view_is c.packed.invariant.0 c.packed.invariant.1
    ∙ ap (λ bs. Ok bs) (sym (c.in_ok-from_slice.ensures.items ∙ c.as_slice-bytes.ensures.value))

pub returns : goal.returns
returns c =
    let packed = c.packed.inside in
    let dims = c.args.extents.now in
    let same = same_extents packed.extents dims c.if-ne.ensures in
    IfOk-weaker c.converted.result _ _ (λ found h. IfSome_then found h (λ new k.
    other_read (elem c.args.kind.now) (elem packed.kind) c.in-Int.to c.in-Int-kind.from dims
    packed.extents packed.bytes.items c.as_slice-bytes.result.now new.items c.args.packed.now
    (ap elem c.in-Int.is) (ap elem c.in-Int-kind.is) same c.as_slice-bytes.ensures.value
    c.packed.view_is c.packed.invariant.0 c.packed.invariant.1 k)) c.converted.ensures
