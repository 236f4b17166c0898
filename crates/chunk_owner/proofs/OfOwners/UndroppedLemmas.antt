-- Lanes of which no object was removed.
use Rattle.std.proofs.Common.{◌≡◌, ℕ, zero, suc, List, [], ◌∷◌, ◌++◌, get_or, subst}
use Rattle.std.specs.Prelude.{slice_set}
use Rattle.std.specs.FinMap.{empty}
use Rattle.chunk_owner.specs.Slots.Bodies.{IsUndropped}
use Rattle.chunk_owner.proofs.OfSlots.Placed.{undropped_none}
use Rattle.chunk_owner.specs.Lanes.{Lane}
use Rattle.chunk_owner.specs.Owners.Records.{AreUndropped}

-- one lane changes
pub undropped_set : (l new : Lane) → (IsUndropped l.slots → IsUndropped new.slots) → (i : ℕ) (ls : List Lane) → get_or ls i l ≡ l → AreUndropped ls → AreUndropped (slice_set ls i new)
undropped_set l new keeps i [] is were = were
undropped_set l new keeps zero (x ∷ ls) is were = (keeps (subst (λ (y : Lane). IsUndropped y.slots) is were.0), were.1)
undropped_set l new keeps (suc i) (x ∷ ls) is were = (were.0, undropped_set l new keeps i ls is were.1)

-- one more lane, without objects
pub undropped_push : (ls : List Lane) (l : Lane) → AreUndropped ls → l.slots ≡ empty → AreUndropped (ls ++ l ∷ [])
undropped_push [] l were none = (undropped_none l.slots none, tt)
undropped_push (x ∷ ls) l were none = (were.0, undropped_push ls l were.1 none)
