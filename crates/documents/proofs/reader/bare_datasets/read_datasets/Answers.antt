use Rattle.std.proofs.Common.{arith}
use Rattle.documents.proofs.OfReader.WalkLemmas.{object_refused}
use Rattle.documents.proofs.reader.bare_datasets.read_datasets.Goals as goal

pub returns-then-begins_object-clause-refused : goal.returns-then-begins_object-clause-refused
returns-then-begins_object-clause-refused c refused =
    object_refused 126 c.args.reader.now c.begins_object.new.reader (omega arith) (c.begins_object.ensures c.if-begins_object.true) (c.read_objects.ensures.refused refused)
