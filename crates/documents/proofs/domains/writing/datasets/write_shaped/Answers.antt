use Rattle.hdf_types.specs.Views.{elem}
use Rattle.documents.proofs.OfDomains.WritingLemmas.{scalar_printed, simple_printed}
use Rattle.documents.proofs.domains.writing.datasets.write_shaped.Goals as goal

pub returns-in-Scalar : goal.returns-in-Scalar
returns-in-Scalar c =
    scalar_printed c.push_nested.result (elem c.args.kind.now) c.args.shape.now c.new.result c.args.bytes.now c.args.writer.now c.push_nested.new.writer c.in-Scalar.is c.new.ensures c.requires.sound c.requires.encoded c.push_nested.ensures

pub returns-in-Simple : goal.returns-in-Simple
returns-in-Simple c =
    simple_printed c.push_nested-in-Simple.result (elem c.args.kind.now) c.args.shape.now c.in-Simple.dims c.in-Simple.maxdims c.args.bytes.now c.args.writer.now c.push_nested-in-Simple.new.writer c.in-Simple.is c.requires.sound c.requires.encoded c.push_nested-in-Simple.ensures
