use Rattle.chunk_owner.proofs.OfSlots.Listing.{put_keeps, put_listed}
use Rattle.chunk_owner.proofs.slots.changes.Changes.list.Goals as goal

pub returns-in_default-clause-here : goal.returns-in_default-clause-here
returns-in_default-clause-here c = put_listed c.args.self.now.all c.args.self.now.listed c.put.new.self c.args.id.now _ c.in_default.ensures.ok

pub returns-in_default-clause-more : goal.returns-in_default-clause-more
returns-in_default-clause-more c = put_keeps c.args.self.now.all c.args.self.now.listed c.put.new.self c.args.id.now _ c.in_default.ensures.ok
