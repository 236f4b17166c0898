use Rattle.std.proofs.Common.{List, length}
use Rattle.json.specs.Token.{Token}
use Rattle.serde_json.specs.Data.{Members, no_members}
use Rattle.json_trees.specs.Begun.{AreReadMembers}
use Rattle.json_trees.proofs.OfKept.KeyLemmas.{IsSought}
use Rattle.json_trees.proofs.kept.members.last_at.Given as goal

-- of the members before, this is the last at the key
abbrev pub invariant-members : goal.invariant-members
invariant-members l = (all : Members) (rest : List Token) → AreReadMembers l.fn.reader no_members all rest → IsSought l.key all rest l.reader l.found

abbrev pub decreases-members : goal.decreases-members
decreases-members l = length l.reader
