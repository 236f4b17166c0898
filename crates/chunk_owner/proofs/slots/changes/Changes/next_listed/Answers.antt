use Rattle.std.specs.Option.{option_copied}
use Rattle.chunk_owner.proofs.OfSlots.Listing.{look_all, look_listed}
use Rattle.chunk_owner.proofs.slots.changes.Changes.next_listed.Goals as goal

pub returns-then-self-clause-look : goal.returns-then-self-clause-look
returns-then-self-clause-look c = λ listed. look_all c.args.slots.now (option_copied c.args.after) c.next_id.result c.next_id.ensures.least

pub returns-else-self-clause-look : goal.returns-else-self-clause-look
returns-else-self-clause-look c = look_listed c.args.self.now c.args.slots.now (option_copied c.args.after) c.next_id-else-self.result c.if-self.false c.next_id-else-self.ensures.least
