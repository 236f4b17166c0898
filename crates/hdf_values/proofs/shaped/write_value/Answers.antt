-- The tree is a value of the shape, and has the bytes.
use Rattle.std.proofs.Common.{◌≡◌, Ok, ap, ◌∙◌}
use Rattle.std.proofs.lemmas.Result.{IfOk-weaker}
use Rattle.serde_json.specs.View.{view}
use Rattle.hdf_types.specs.Views.{elem}
use Rattle.hdf_values.specs.Shaped.{value_tree, value_normal, value_from}
use Rattle.hdf_values.proofs.ShapedLemmas.{value_back, value_inverse}
use Rattle.hdf_values.proofs.shaped.write_value.Goals as goal

pub returns-clause-reads_back : goal.returns-clause-reads_back
returns-clause-reads_back c =
    let e = elem c.args.kind.now in
    let s = c.args.shape.now in
    let bs = c.args.bytes.now in
    IfOk-weaker c.bytes_tree.result (λ v. view v ≡ value_tree e s bs) (λ v. value_from e s (view v) ≡ Ok bs)
    (λ v h. ap (value_from e s) h ∙ value_back e s bs c.requires.sound c.requires.encoded) c.bytes_tree.ensures

pub returns-clause-inverse : goal.returns-clause-inverse
returns-clause-inverse c = λ d h.
    let e = elem c.args.kind.now in
    let s = c.args.shape.now in
    let bs = c.args.bytes.now in
    IfOk-weaker c.bytes_tree.result (λ v. view v ≡ value_tree e s bs) (λ v. view v ≡ value_normal e s d)
    (λ v k. k ∙ value_inverse e s d bs c.requires.sound h) c.bytes_tree.ensures
