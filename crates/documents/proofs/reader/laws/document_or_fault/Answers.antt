-- The relation and the tests in order say the same.
use Rattle.documents.proofs.OfReader.DocumentLemmas.{fault_alone, no_json, one_document, text_complete, text_sound, too_long, tree_complete, tree_sound}
use Rattle.documents.proofs.reader.laws.document_or_fault.Goals as goal

pub returns-clause-tree : goal.returns-clause-tree
returns-clause-tree c = λ tree l. (tree_complete tree l, tree_sound tree l)

pub returns-clause-text : goal.returns-clause-text
returns-clause-text c = λ text l. (text_complete text l, text_sound text l)

pub returns-clause-one : goal.returns-clause-one
returns-clause-one c = one_document

pub returns-clause-not_both : goal.returns-clause-not_both
returns-clause-not_both c = fault_alone

pub returns-clause-too_long : goal.returns-clause-too_long
returns-clause-too_long c = too_long

pub returns-clause-no_json : goal.returns-clause-no_json
returns-clause-no_json c = no_json
