use Rattle.std.proofs.Common.{◌+◌, ◌*◌, ◌≤◌, List, length}
use Rattle.json.specs.Token.{Token}
use Rattle.serde_json.specs.Data.{Items}
use Rattle.hdf_types.specs.Views.{elem}
use Rattle.json_trees.specs.Begun.{AreTrees}
use Rattle.hdf_values.proofs.OfKept.MemberLemmas.{IsUnderway}
use Rattle.hdf_values.proofs.kept.streams.+streams.Given as goal

abbrev pub decreases-read_axes : goal.decreases-read_axes
decreases-read_axes l = 3 * length l.extents.now

abbrev pub decreases-read_member : goal.decreases-read_member
decreases-read_member l = 3 * length l.extents.now + 1

abbrev pub decreases-read_members : goal.decreases-read_members
decreases-read_members l = 3 * length l.extents.now + 2

-- some members were read, and the others are left
abbrev pub invariant-read_members-items : goal.invariant-read_members-items
invariant-read_members-items l = record {
  not_longer : length l.reader ≤ length l.fn.reader;
  underway : (trees : Items) (rest : List Token) → AreTrees l.fn.reader trees rest → IsUnderway (elem l.kind) l.extents l.want l.place trees rest l.fn.out.items l.reader l.fault l.got l.next l.out.items;
}

abbrev pub decreases-read_members-items : goal.decreases-read_members-items
decreases-read_members-items l = length l.reader
