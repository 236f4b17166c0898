use Rattle.std.proofs.Common.{◌≡◌, ◌++◌, map}
use Rattle.serde_json.specs.View.{view}
use Rattle.object_ids.specs.NamedEntries.{named_entries}
use Rattle.access_lists.specs.EntryTrees.{acl_tree}
use Rattle.access_lists.proofs.json.acls.Given as goal

-- what is listed so far, in front of what is left
abbrev pub invariant-loop-named : goal.invariant-loop-named
invariant-loop-named l = map view l.acls.items ++ map (λ e. acl_tree e.0 e.1) (named_entries l.named-iterator) ≡ map (λ e. acl_tree e.0 e.1) (named_entries l.entries.entries)
