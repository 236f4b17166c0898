use Rattle.std.proofs.Common.{◌≡◌}
use Rattle.std.specs.FinMap.{empty}
use Rattle.serde_json.specs.View.{members_view, view}
use Rattle.documents.specs.Reader.Collections.{group_step, each_member}
use Rattle.documents.proofs.reader.collections.all_groups.Given as goal

-- what is read so far, with what is left
abbrev pub invariant-loop-id : goal.invariant-loop-id
invariant-loop-id l = each_member (group_step (view l.document)) l.groups (members_view l.id-iterator) ≡ each_member (group_step (view l.document)) empty (members_view l.objects.entries)
