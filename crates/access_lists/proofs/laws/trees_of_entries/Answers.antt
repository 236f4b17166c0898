use Rattle.access_lists.proofs.EntryLaws.{entry_is, is_entry, is_other, other_is}
use Rattle.access_lists.proofs.Members.{get-list_tree, list_back}
use Rattle.access_lists.proofs.laws.trees_of_entries.Goals as goal

pub returns-clause-entry : goal.returns-clause-entry
returns-clause-entry c = λ d entry. (entry_is d entry, is_entry d entry)

pub returns-clause-other : goal.returns-clause-other
returns-clause-other c = λ d. (other_is d, is_other d)

pub returns-clause-named : goal.returns-clause-named
returns-clause-named c = get-list_tree

pub returns-clause-list_back : goal.returns-clause-list_back
returns-clause-list_back c = list_back
