use Rattle.chunk_owner.proofs.OfSlots.Listing.{none_listed}
use Rattle.chunk_owner.proofs.slots.changes.Changes.clear.Goals as goal

pub returns : goal.returns
returns c = record { none = none_listed c.new.result c.new.ensures }
