use Rattle.std.proofs.Common.{subst}
use Rattle.std.specs.Option.{option_copied}
use Rattle.containers.specs.TextMaps.Nexts.{IsKeyStep, IsNext}
use Rattle.chunk_owner.specs.Slots.Slots.{objects_of}
use Rattle.chunk_owner.specs.Lanes.{Lane}
use Rattle.chunk_owner.proofs.NextLemmas.{next_step}
use Rattle.chunk_owner.proofs.owner.Owner.next_id.Goals as goal

pub returns-clause-least : goal.returns-clause-least
returns-clause-least c = subst (λ (l : Lane). IsNext l.objects (option_copied c.args.after) c.next_id.result) c.self.view_is c.next_id.ensures

pub returns-clause-step : goal.returns-clause-step
returns-clause-step c =
    subst (λ (l : Lane). IsKeyStep l.objects (option_copied c.args.after) c.next_id.result) c.self.view_is
    (next_step (objects_of c.self.inside.slots) (option_copied c.args.after) c.next_id.result c.next_id.ensures)
