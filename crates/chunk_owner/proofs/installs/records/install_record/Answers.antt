use Rattle.std.proofs.Common.{List, ℕ, OnOk, sym, subst}
use Rattle.object_records.specs.Keys.Keys.{IsSubject}
use Rattle.chunk_owner.specs.declared.installs.keys.LaneKey.{LaneKey}
use Rattle.chunk_owner.specs.Installs.Records.{IsOfLane}
use Rattle.chunk_owner.specs.Installs.Walks.{Installs, InstallsObject, subject_of}
use Rattle.chunk_owner.specs.Lanes.{AreSlotsOf}
use Rattle.chunk_owner.proofs.OfInstalls.Records.{object_slots, object_still}
use Rattle.chunk_owner.proofs.installs.records.install_record.Goals as goal

pub returns-in-Object-clause-done : goal.returns-in-Object-clause-done
returns-in-Object-clause-done c =
    subst (λ (k : LaneKey). OnOk c.install_object.result (Installs c.args.run c.args.next (subject_of k) c.args.body.items c.args.slots.now c.install_object.new.slots)) (sym c.in-Object.is)
    (subst (λ (b : List ℕ). OnOk c.install_object.result (InstallsObject c.args.run c.args.next c.in-Object.id b c.args.slots.now c.install_object.new.slots)) c.as_slice.ensures.value c.install_object.ensures.done)

pub returns-in-Object-clause-own : goal.returns-in-Object-clause-own
returns-in-Object-clause-own c =
    let range = subst (λ (k : LaneKey). IsSubject (subject_of k)) c.in-Object.is c.requires in
    subst (λ (k : LaneKey). (lane lanes : ℕ) → IsOfLane lanes lane (subject_of k) → AreSlotsOf lane lanes c.args.slots.now → AreSlotsOf lane lanes c.install_object.new.slots) (sym c.in-Object.is)
    (λ lane lanes. object_slots c.args.run c.args.next c.in-Object.id c.as_slice.result.now c.args.slots.now c.install_object.new.slots c.install_object.result c.install_object.ensures.done c.install_object.ensures.err lane lanes range)

pub returns-in-Object-clause-still : goal.returns-in-Object-clause-still
returns-in-Object-clause-still c =
    object_still c.args.run c.args.next c.in-Object.id c.as_slice.result.now c.args.slots.now c.install_object.new.slots c.install_object.result c.install_object.ensures.done c.install_object.ensures.err

pub returns-in-Chunk-clause-own : goal.returns-in-Chunk-clause-own
returns-in-Chunk-clause-own c = λ lane lanes own were. c.install_chunk.ensures.own lane lanes were
