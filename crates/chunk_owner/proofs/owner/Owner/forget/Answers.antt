use Rattle.std.proofs.Common.{subst}
use Rattle.chunk_owner.specs.Slots.Slots.{StillSays, objects_of}
use Rattle.chunk_owner.specs.Lanes.{Forgets, Lane}
use Rattle.chunk_owner.proofs.LaneLemmas.{forgets_objects, owned_without}
use Rattle.chunk_owner.proofs.owner.Owner.forget.Goals as goal

pub forget-requires : goal.forget-requires
forget-requires c = c.self.invariant.0.kinds

pub note_domain-requires : goal.note_domain-requires
note_domain-requires c = c.forget.ensures.kinds

pub invariant_of-self : goal.invariant_of-self
invariant_of-self c =
    owned_without c.self.inside.lane c.self.inside.lanes c.self.inside.slots c.forget.new.slots c.self.inside.changes c.note_domain.new.changes c.args.number c.forget.ensures.same_ids c.forget.ensures.others
    c.note_domain.ensures.noted c.note_domain.ensures.more c.forget.ensures.kinds c.self.invariant

pub returns-clause-rest : goal.returns-clause-rest
returns-clause-rest c =
    subst (λ (l : Lane). Forgets c.args.number l.objects (objects_of c.forget.new.slots)) c.self.view_is
    (forgets_objects c.args.number c.self.inside.slots c.forget.new.slots c.forget.ensures.rest)

pub returns-clause-says : goal.returns-clause-says
returns-clause-says c = subst (λ (l : Lane). StillSays l.slots c.forget.new.slots) c.self.view_is c.forget.ensures.says
