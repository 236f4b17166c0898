use Rattle.std.proofs.Common.{◌≢◌, sym, subst, ap, ◌∙◌, arith}
use Rattle.std.specs.Option.{option_copied}
use Rattle.std.specs.Prelude.{slice_get}
use Rattle.std.proofs.lemmas.Option.{slice_get_within}
use mathlib.Core.Logic.{dite}
use native.Mathlib.Decide.{ℕ_discrete}
use Rattle.service_histories.specs.Markings.{IsOwner}
use Rattle.hall.proofs.CuttingLemmas.{owner_of}
use Rattle.hall.proofs.SharingLemmas.{same_value}
use Rattle.hall.proofs.journal.are_owners.Goals as goal

pub loop-lane-preserved : goal.loop-lane-preserved
loop-lane-preserved c = λ k owner below at.
    let owners = c.args.owners.now.owners in
    let i = c.loop-lane.lane in
    dite (ℕ_discrete k i)
    (λ e. subst IsOwner (same_value c.in-Some.owner.now owner
    (sym (ap option_copied c.in-Some.is) ∙ c.lane.ensures ∙ ap (slice_get owners) (sym e) ∙ at))
    (owner_of c.in-Some.owner.now c.is_whole.ensures.own c.is_described.ensures.whole c.is_described.ensures.described))
    (λ ne. c.loop-lane.invariant k owner (let apart : k ≢ i = ne in omega (arith, below, apart)) at)

pub returns : goal.returns
returns c = λ lane owner at.
    let few = slice_get_within c.args.owners.now.owners lane owner at in
    let all = c.requires in
    let over = c.loop-lane-test.false in
    c.loop-lane.invariant lane owner (omega (arith, few, all, over)) at
