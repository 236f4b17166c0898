use Rattle.std.proofs.Common.{◌≡◌, ◌≢◌, None, OnErr, OnOk, sym, subst, ◌∙◌}
use Rattle.std.specs.FinMap.{get, insert}
use Rattle.object_ids.specs.Ids.{lane_of}
use Rattle.object_ids.specs.declared.ids.Kind.TheVariants.{Dataset}
use Rattle.object_acts.specs.Objects.{unmarked}
use Rattle.chunk_owner.specs.Slots.Bodies.{IsUndropped}
use Rattle.chunk_owner.specs.Slots.Slots.{StillSays, objects_of}
use Rattle.chunk_owner.proofs.OfSlots.Placed.{undropped_put}
use Rattle.chunk_owner.proofs.OfSlots.Standing.{get-objects_of}
use Rattle.chunk_owner.specs.Lanes.{Lane, lane_with}
use Rattle.chunk_owner.proofs.LaneLemmas.{lane_stays, objects_put, owned_at}
use Rattle.chunk_owner.proofs.owner.Owner.put_object.Goals as goal

pub put-done-requires-clause-new : goal.put-done-requires-clause-new
put-done-requires-clause-new c = sym (get-objects_of c.self.inside.slots c.args.id) ∙ subst (λ (l : Lane). get l.objects c.args.id ≡ None) (sym c.self.view_is) c.requires.new

pub put-done-requires-clause-kinds : goal.put-done-requires-clause-kinds
put-done-requires-clause-kinds c = c.self.invariant.0.kinds

pub note-requires : goal.note-requires
note-requires c = c.put-done.ensures.kinds

pub invariant_of-self : goal.invariant_of-self
invariant_of-self c =
    owned_at c.self.inside.lane c.self.inside.lanes c.self.inside.slots c.put-done.new.slots c.self.inside.changes c.note.new.self c.args.id
    (subst (λ (l : Lane). lane_of l.lanes c.args.id ≡ l.lane) (sym c.self.view_is) c.requires.lane) c.put-done.ensures.others
    (record { range = c.note.ensures.range; here = record { still = c.note.ensures.still; spelled = c.note.ensures.spelled }; more = c.note.ensures.more }) c.put-done.ensures.kinds c.self.invariant

pub returns-clause-ok : goal.returns-clause-ok
returns-clause-ok c =
    subst (λ (l : Lane). OnOk c.put-done.result (objects_of c.put-done.new.slots ≡ insert l.objects c.args.id (unmarked c.args.object))) c.self.view_is
    (objects_put c.put-done.result c.self.inside.slots c.put-done.new.slots c.args.id c.args.object c.put-done.ensures.there c.put-done.ensures.others)

pub returns-clause-err : goal.returns-clause-err
returns-clause-err c =
    subst (λ (l : Lane). OnErr c.put-done.result (lane_with c.self.inside.lane c.self.inside.lanes c.put-done.new.slots ≡ l)) c.self.view_is
    (lane_stays c.put-done.result c.self.inside.lane c.self.inside.lanes c.self.inside.slots c.put-done.new.slots c.put-done.ensures.err)

pub returns-clause-free : goal.returns-clause-free
returns-clause-free c =
    subst (λ (l : Lane). OnErr c.put-done.result (c.args.id.kind ≢ Dataset → get l.slots c.args.id ≡ None)) c.self.view_is c.put-done.ensures.free

pub returns-clause-says : goal.returns-clause-says
returns-clause-says c = subst (λ (l : Lane). StillSays l.slots c.put-done.new.slots) c.self.view_is c.put-done.ensures.says

pub returns-clause-undropped : goal.returns-clause-undropped
returns-clause-undropped c =
    subst (λ (l : Lane). IsUndropped l.slots → IsUndropped c.put-done.new.slots) c.self.view_is
    (undropped_put c.put-done.result c.self.inside.slots c.put-done.new.slots c.args.id (unmarked c.args.object) c.put-done.ensures.there c.put-done.ensures.others c.put-done.ensures.err)
