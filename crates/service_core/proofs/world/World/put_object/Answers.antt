use Rattle.std.proofs.Common.{inl, List, length, sym, subst, ap, ◌∙◌, OnOk, OnErr, ◌≡◌}
use Rattle.std.specs.FinMap.{insert}
use Rattle.object_acts.specs.Objects.{unmarked}
use Rattle.chunk_owner.specs.Lanes.{Lane}
use Rattle.chunk_owner.specs.Owners.Joined.{AreLanes, whole}
use Rattle.chunk_owner.specs.Owners.Records.{AreUndropped, LanesStillSay}
use Rattle.chunk_owner.specs.Slots.Slots.{IsMarkedIn}
use Rattle.chunk_owner.specs.declared.slots.slot.Mark.TheVariants.{Changed}
use Rattle.service_core.specs.Marking.{AddsLaneMarks, AddsWorldMarks}
use Rattle.service_core.specs.Records.{WorldStillSays}
use Rattle.service_core.specs.Steps.{IsGiven}
use Rattle.service_core.specs.Worlds.{IsBuilt, State}
use Rattle.service_core.proofs.TurnMarks.{both_marks}
use Rattle.service_core.proofs.RecordLemmas.{both_still}
use Rattle.service_core.proofs.WorldLemmas.{built_put, state_stays, written}
use Rattle.service_core.proofs.world.World.put_object.Goals as goal

pub invariant_of-self : goal.invariant_of-self
invariant_of-self c =
    let left = c.put_in.new.owners in
    let items = c.self.inside.owners.items in
    let value = c.as_mut_slice.ensures.value in
    let lanes = subst (λ (ls : List Lane). AreLanes (length ls) 0 left) value c.put_in.ensures.lanes in
    let ok = subst (λ (ls : List Lane). OnOk c.put_in.result (whole left ≡ insert (whole ls) c.args.id (unmarked c.args.object))) value c.put_in.ensures.ok in
    let err = subst (λ (ls : List Lane). OnErr c.put_in.result (left ≡ ls)) value c.put_in.ensures.err in
    let given = subst (λ (s : State). IsGiven s.register c.args.id) (sym c.self.view_is) c.requires.given in
    subst (IsBuilt c.self.inside.register) (sym (written _ left _ (c.put_in.auto.owners ∙ c.as_mut_slice.ensures.len)))
    (built_put c.self.inside.register items left c.args.id (unmarked c.args.object) c.put_in.result c.self.invariant given (c.put_in.auto.owners ∙ ap length value) lanes ok err)

pub returns-clause-says : goal.returns-clause-says
returns-clause-says c =
    let left = c.put_in.new.owners in
    let register = c.self.inside.register in
    let lanes = subst (λ (ls : List Lane). LanesStillSay ls left) c.as_mut_slice.ensures.value c.put_in.ensures.says in
    subst (λ (ls : List Lane). WorldStillSays c.args.self.now (record { register = register; lanes = ls })) (sym (written _ left _ (c.put_in.auto.owners ∙ c.as_mut_slice.ensures.len)))
    (subst (λ (s : State). WorldStillSays s (record { register = register; lanes = left })) c.self.view_is (both_still register register c.self.inside.owners.items left (λ held said. said) lanes))

pub returns-clause-undropped : goal.returns-clause-undropped
returns-clause-undropped c =
    let left = c.put_in.new.owners in
    let lanes = subst (λ (ls : List Lane). AreUndropped ls → AreUndropped left) c.as_mut_slice.ensures.value c.put_in.ensures.undropped in
    subst (λ (ls : List Lane). AreUndropped c.args.self.now.lanes → AreUndropped ls) (sym (written _ left _ (c.put_in.auto.owners ∙ c.as_mut_slice.ensures.len)))
    (subst (λ (s : State). AreUndropped s.lanes → AreUndropped left) c.self.view_is lanes)

pub returns-clause-alone : goal.returns-clause-alone
returns-clause-alone c =
    let left = c.put_in.new.owners in
    let register = c.self.inside.register in
    let items = c.self.inside.owners.items in
    let lanes = subst (λ (ls : List Lane). AddsLaneMarks (IsMarkedIn c.args.id Changed c.args.object.body) ls left) c.as_mut_slice.ensures.value c.put_in.ensures.alone in
    subst (λ (ls : List Lane). AddsWorldMarks (IsMarkedIn c.args.id Changed c.args.object.body) c.args.self.now (record { register = register; lanes = ls }))
    (sym (written _ left _ (c.put_in.auto.owners ∙ c.as_mut_slice.ensures.len)))
    (subst (λ (s : State). AddsWorldMarks (IsMarkedIn c.args.id Changed c.args.object.body) s (record { register = register; lanes = left })) c.self.view_is
    (both_marks (λ key. ⊥) (IsMarkedIn c.args.id Changed c.args.object.body) (IsMarkedIn c.args.id Changed c.args.object.body) register register items left
    (λ key none. absurd none) (λ key p. p) (λ key was. inl was) lanes))

pub returns-clause-err : goal.returns-clause-err
returns-clause-err c =
    let left = c.put_in.new.owners in
    let register = c.self.inside.register in
    let err = subst (λ (ls : List Lane). OnErr c.put_in.result (left ≡ ls)) c.as_mut_slice.ensures.value c.put_in.ensures.err in
    subst (λ (ls : List Lane). OnErr c.put_in.result (record { register = register; lanes = ls } ≡ c.args.self.now)) (sym (written _ left _ (c.put_in.auto.owners ∙ c.as_mut_slice.ensures.len)))
    (subst (λ (s : State). OnErr c.put_in.result (record { register = register; lanes = left } ≡ s)) c.self.view_is (state_stays register c.self.inside.owners.items left c.put_in.result err))
