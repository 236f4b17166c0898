-- What nests for a type has no other texts than its values'.
use Rattle.std.proofs.Common.{subst}
use Rattle.json_trees.specs.Trees.{AreTexts}
use Rattle.hdf_types.specs.Views.{elem}
use Rattle.hdf_values.specs.Nested.{nested_decoded}
use Rattle.hdf_values.proofs.NestedLemmas.{nested_fits}
use Rattle.hdf_values.proofs.OfKept.TreeLemmas.{nested_texts}
use Rattle.hdf_values.proofs.kept.unpacking.have_texts.Goals as goal

pub returns : goal.returns
returns c =
    let e = elem c.packed.inside.kind in
    let dims = c.packed.inside.extents in
    let bytes = c.packed.inside.bytes.items in
    subst AreTexts c.packed.view_is (nested_texts e dims (nested_decoded e dims bytes) (nested_fits e dims bytes c.packed.invariant.0 c.packed.invariant.1).0)
