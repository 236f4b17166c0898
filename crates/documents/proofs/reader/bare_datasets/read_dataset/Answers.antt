use Rattle.std.proofs.Common.{arith}
use Rattle.documents.proofs.OfReader.WalkLemmas.{object_refused}
use Rattle.documents.proofs.reader.bare_datasets.read_dataset.Goals as goal

pub returns-in_err-read_members-clause-refused : goal.returns-in_err-read_members-clause-refused
returns-in_err-read_members-clause-refused c refused =
    object_refused 125 c.args.reader.now c.begins_object.new.reader (omega arith) (c.begins_object.ensures c.if-begins_object.true) (c.read_members.ensures.refused (grind arith))
