-- The text of the numbers reads as their tree, which nests little.
use Rattle.std.proofs.Common.{◌≤◌, ap, ◌∙◌, arith}
use Rattle.serde_json.specs.Data.{depth}
use Rattle.serde_json.specs.Read.{max_depth, read}
use Rattle.hdf_types.specs.Views.{elem}
use Rattle.hdf_values.specs.Nested.{nested_decoded}
use Rattle.hdf_values.proofs.OfKept.TreeLemmas.{nested_deep, tree_again}
use Rattle.hdf_values.proofs.kept.unpacking.unpacked_tree.Goals as goal

pub returns-in-Ok : goal.returns-in-Ok
returns-in-Ok c =
    let e = elem c.packed.inside.kind in
    let dims = c.packed.inside.extents in
    let deep = nested_deep e dims c.as_slice-bytes.result.now in
    let shallow : depth (nested_decoded (elem c.packed.inside.kind) c.packed.inside.extents c.as_slice-bytes.result.now) ≤ max_depth =
    omega (arith, deep, c.len-axes.ensures.bounded, c.packed.invariant.0.nested) in
    tree_again c.as_bytes.result.now _ _ c.in-Ok.ensures.read (ap read c.as_bytes.ensures.value ∙ c.in_ok-text.ensures.reads_back shallow)
    ∙ ap (nested_decoded e dims) c.as_slice-bytes.ensures.value ∙ c.packed.view_is
