use Rattle.std.proofs.Common.{List, length, sym, subst, ap, ◌∙◌}
use Rattle.chunk_owner.specs.Lanes.{Lane}
use Rattle.chunk_owner.specs.Owners.Joined.{AreLanes, whole}
use Rattle.chunk_owner.specs.Owners.Records.{LanesStillSay}
use Rattle.service_core.specs.Marking.{AddsRequestMarks, MarksVerdict}
use Rattle.service_core.specs.Records.{WorldStillSays}
use Rattle.service_core.specs.Steps.{Obeys}
use Rattle.service_core.specs.Turns.{IsServable}
use Rattle.service_core.specs.Worlds.{IsBuilt, State, seen}
use Rattle.service_core.proofs.TurnMarks.{request_marked}
use Rattle.service_core.proofs.RecordLemmas.{both_still}
use Rattle.service_core.proofs.WorldLemmas.{built_after, servable_now, steps_said, written}
use Rattle.service_core.proofs.world.World.step.Goals as goal

pub obey-what-requires-clause-ready : goal.obey-what-requires-clause-ready
obey-what-requires-clause-ready c =
    subst (λ (ls : List Lane). IsServable (length ls) c.args.request.now.op c.decide-verdict.result (whole ls)) (sym c.as_mut_slice.ensures.value)
    (servable_now c.self.inside.register c.self.inside.owners.items c.args.caller.now c.args.request.now c.is_sound.ensures.register c.is_sound.ensures.catalogue c.self.invariant
    c.decide-verdict.result c.decide-verdict.new.self c.decide-verdict.ensures.decides)

pub invariant_of-self : goal.invariant_of-self
invariant_of-self c =
    let left = c.obey-what.new.owners in
    let items = c.self.inside.owners.items in
    let value = c.as_mut_slice.ensures.value in
    let obeys = subst (λ (ls : List Lane). Obeys c.args.request.now.op c.decide-verdict.result (whole ls) c.obey-what.result (whole left)) value c.obey-what.ensures.obeys in
    let lanes = subst (λ (ls : List Lane). AreLanes (length ls) 0 left) value c.obey-what.ensures.lanes in
    subst (IsBuilt c.decide-verdict.new.self) (sym (written _ left _ (c.obey-what.auto.owners ∙ c.as_mut_slice.ensures.len)))
    (built_after c.self.inside.register items c.args.caller.now c.args.request.now c.is_sound.ensures.register c.is_sound.ensures.catalogue c.self.invariant
    c.decide-verdict.result c.obey-what.result c.decide-verdict.new.self left c.decide-verdict.ensures.decides obeys (c.obey-what.auto.owners ∙ ap length value) lanes)

pub returns-clause-steps : goal.returns-clause-steps
returns-clause-steps c =
    let left = c.obey-what.new.owners in
    let value = c.as_mut_slice.ensures.value in
    let obeys = subst (λ (ls : List Lane). Obeys c.args.request.now.op c.decide-verdict.result (whole ls) c.obey-what.result (whole left)) value c.obey-what.ensures.obeys in
    steps_said c.self.inside.register c.decide-verdict.new.self c.self.inside.owners.items left _ (seen c.args.self.now) c.args.caller.now c.args.request.now c.decide-verdict.result
    (record { place = c.places-place.result; what = c.obey-what.result }) (ap seen c.self.view_is) (written _ left _ (c.obey-what.auto.owners ∙ c.as_mut_slice.ensures.len))
    c.places-place.ensures c.decide-verdict.ensures.decides obeys

pub returns-clause-says : goal.returns-clause-says
returns-clause-says c =
    let left = c.obey-what.new.owners in
    let lanes = subst (λ (ls : List Lane). LanesStillSay ls left) c.as_mut_slice.ensures.value c.obey-what.ensures.says in
    subst (λ (ls : List Lane). WorldStillSays c.args.self.now (record { register = c.decide-verdict.new.self; lanes = ls })) (sym (written _ left _ (c.obey-what.auto.owners ∙ c.as_mut_slice.ensures.len)))
    (subst (λ (s : State). WorldStillSays s (record { register = c.decide-verdict.new.self; lanes = left })) c.self.view_is
    (both_still c.self.inside.register c.decide-verdict.new.self c.self.inside.owners.items left c.decide-verdict.ensures.says lanes))

pub returns-clause-alone : goal.returns-clause-alone
returns-clause-alone c =
    let d = c.self.inside.register in
    let items = c.self.inside.owners.items in
    let new = c.decide-verdict.new.self in
    let left = c.obey-what.new.owners in
    let request = c.args.request.now in
    let caller = c.args.caller.now in
    let value = c.as_mut_slice.ensures.value in
    let obeys = subst (λ (ls : List Lane). Obeys request.op c.decide-verdict.result (whole ls) c.obey-what.result (whole left)) value c.obey-what.ensures.obeys in
    let lanes = subst (λ (ls : List Lane). MarksVerdict request.op c.decide-verdict.result ls c.obey-what.result left) value c.obey-what.ensures.alone in
    subst (λ (ls : List Lane). AddsRequestMarks c.args.self.now caller request c.obey-what.result (record { register = new; lanes = ls }))
    (sym (written _ left _ (c.obey-what.auto.owners ∙ c.as_mut_slice.ensures.len)))
    (subst (λ (s : State). AddsRequestMarks s caller request c.obey-what.result (record { register = new; lanes = left })) c.self.view_is
    (request_marked d caller request new items left c.decide-verdict.result c.obey-what.result c.decide-verdict.ensures.decides obeys lanes))
