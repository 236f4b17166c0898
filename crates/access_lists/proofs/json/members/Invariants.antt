use Rattle.std.proofs.Common.{◌≡◌}
use Rattle.serde_json.specs.View.{members_view}
use Rattle.serde_json.specs.Data.{no_members}
use Rattle.object_ids.specs.NamedEntries.{named_entries}
use Rattle.access_lists.specs.EntryTrees.{put_all}
use Rattle.access_lists.proofs.json.members.Given as goal

-- what is left, put behind what is there
abbrev pub invariant-loop-named : goal.invariant-loop-named
invariant-loop-named l = put_all (named_entries l.named-iterator) (members_view l.members.entries) ≡ put_all (named_entries l.entries.entries) no_members
