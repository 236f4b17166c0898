-- The tree nests by the extents, and has the bytes.
use Rattle.std.proofs.Common.{◌≡◌, Ok, sym, ap, ◌∙◌}
use Rattle.std.proofs.lemmas.Result.{IfOk-weaker}
use Rattle.serde_json.specs.View.{view}
use Rattle.hdf_types.specs.Views.{elem}
use Rattle.hdf_values.specs.Nested.{nested_decoded, nested_normal, nested_from}
use Rattle.hdf_values.proofs.NestedLemmas.{nested_back, decoded_read}
use Rattle.hdf_values.proofs.nested.write_nested.Goals as goal

pub returns-clause-reads_back : goal.returns-clause-reads_back
returns-clause-reads_back c =
    let e = elem c.args.kind.now in
    let dims = c.args.extents.now in
    let bytes = c.args.bytes.now in
    let made = rw c.as_slice.ensures at c.axes_tree.ensures in
    IfOk-weaker c.axes_tree.result (λ v. view v ≡ nested_decoded e dims bytes) (λ v. nested_from e dims 0 (view v) ≡ Ok bytes) (λ v h. ap (nested_from e dims 0) h ∙ decoded_read e dims bytes c.requires.sound c.requires.encoded) made

pub returns-clause-inverse : goal.returns-clause-inverse
returns-clause-inverse c d fits same =
    let e = elem c.args.kind.now in
    let dims = c.args.extents.now in
    let bytes = c.args.bytes.now in
    let made = rw c.as_slice.ensures at c.axes_tree.ensures in
    IfOk-weaker c.axes_tree.result (λ v. view v ≡ nested_decoded e dims bytes) (λ v. view v ≡ nested_normal e dims d) (λ v h. h ∙ ap (nested_decoded e dims) (sym same) ∙ nested_back e dims d c.requires.sound fits) made
