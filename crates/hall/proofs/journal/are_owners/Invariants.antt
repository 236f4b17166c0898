use Rattle.std.proofs.Common.{◌≡◌, ℕ, ◌<◌, Some}
use Rattle.std.specs.Prelude.{slice_get}
use Rattle.chunk_owner.specs.Lanes.{Lane}
use Rattle.service_histories.specs.Markings.{IsOwner}
use Rattle.hall.proofs.journal.are_owners.Given as goal

abbrev pub invariant-loop-lane : goal.invariant-loop-lane
invariant-loop-lane l = (k : ℕ) (owner : Lane) → k < l.lane → slice_get l.owners.owners k ≡ Some owner → IsOwner owner
