use Rattle.std.proofs.Common.{◌≡◌, length}
use Rattle.serde_json.specs.Data.{Members}
use Rattle.serde_json.specs.View.{members_view}
use Rattle.documents.specs.Reader.Bare.{AreKept, bare_dataset, each_changed}
use Rattle.documents.proofs.OfReader.BareLemmas.{IsRising}
use Rattle.documents.proofs.OfReader.WalkLemmas.{IsUnderway}
use Rattle.documents.proofs.reader.bare_datasets.read_objects.Given as goal

abbrev pub invariant-members : goal.invariant-members
invariant-members l = (before : Members) × IsUnderway 125 l.fn.reader l.reader before × (members_view l.tree.entries ≡ each_changed bare_dataset before) × AreKept l.values before × IsRising before

abbrev pub decreases-members : goal.decreases-members
decreases-members l = length l.reader
