use Rattle.std.proofs.Common.{◌≡◌}
use Rattle.std.specs.FinMap.{empty}
use Rattle.serde_json.specs.View.{members_view}
use Rattle.documents.specs.Reader.Collections.{each_member}
use Rattle.documents.specs.Reader.Kept.{kept_step}
use Rattle.documents.proofs.reader.collections.all_datasets.Given as goal

-- what is read so far, with what is left
abbrev pub invariant-loop-id : goal.invariant-loop-id
invariant-loop-id l = each_member (kept_step l.values) l.datasets (members_view l.id-iterator) ≡ each_member (kept_step l.values) empty (members_view l.objects.entries)
