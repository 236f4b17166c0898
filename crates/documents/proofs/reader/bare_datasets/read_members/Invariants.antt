use Rattle.std.proofs.Common.{◌≡◌, length}
use Rattle.std.specs.Prelude.{codes}
use Rattle.serde_json.specs.Data.{Members}
use Rattle.serde_json.specs.Find.{get_member}
use Rattle.serde_json.specs.View.{members_view}
use Rattle.documents.specs.Reader.Bare.{bare_member, each_changed}
use Rattle.documents.proofs.OfReader.WalkLemmas.{IsUnderway}
use Rattle.documents.proofs.reader.bare_datasets.read_members.Given as goal

abbrev pub invariant-members : goal.invariant-members
invariant-members l = (before : Members) × IsUnderway 124 l.fn.reader l.reader before × (members_view l.tree.entries ≡ each_changed bare_member before) × (l.value ≡ get_member (codes "value") before)

abbrev pub decreases-members : goal.decreases-members
decreases-members l = length l.reader
