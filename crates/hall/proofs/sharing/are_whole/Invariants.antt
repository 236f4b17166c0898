use Rattle.std.proofs.Common.{◌≡◌, ℕ, ◌<◌, Some}
use Rattle.std.specs.Prelude.{slice_get}
use Rattle.chunk_owner.specs.Lanes.{IsWhole, Lane}
use Rattle.hall.proofs.sharing.are_whole.Given as goal

abbrev pub invariant-loop-owner : goal.invariant-loop-owner
invariant-loop-owner l = (k : ℕ) (owner : Lane) → k < l.owner-index → slice_get l.owners k ≡ Some owner → IsWhole owner
