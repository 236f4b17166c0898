use Rattle.hdf_values.proofs.OfKept.PackLemmas.{int_sound, packed_encoded}
use Rattle.hdf_values.proofs.kept.packed.nested.Goals as goal

pub invariant_of-result : goal.invariant_of-result
invariant_of-result c =
    let t = c.into_bytes-bytes.result.0 in
    let p = c.into_bytes-bytes.ensures in
    (int_sound t p.width, (packed_encoded t c.args.extents c.requires.has.0 c.args.numbers _ c.requires.has.1 p).0, c.requires.some)

pub returns : goal.returns
returns c tree h = (packed_encoded c.into_bytes-bytes.result.0 c.args.extents tree c.args.numbers _ h c.into_bytes-bytes.ensures).1
