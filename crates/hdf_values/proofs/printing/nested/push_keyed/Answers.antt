-- Bracket, key, tree, bracket.
use Rattle.hdf_types.specs.Views.{elem}
use Rattle.hdf_values.specs.Nested.{nested_decoded}
use Rattle.hdf_values.proofs.PrintLemmas.{keyed_added}
use Rattle.hdf_values.proofs.printing.nested.push_keyed.Goals as goal

pub returns : goal.returns
returns c =
    keyed_added c.end_object.result c.args.key.now (nested_decoded (elem c.args.kind.now) c.args.extents.now c.args.bytes.now) c.args.writer.now c.begin_object.new.self c.key.new.self c.push_nested.new.writer c.end_object.new.self
    c.in_ok-begin_object.ensures.ok c.begin_object.ensures.room.0 c.in_ok-key.ensures.ok c.key.ensures.room.0 c.in_ok-push_nested.ensures c.end_object.ensures
