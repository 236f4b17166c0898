use Rattle.std.proofs.Common.{◌≢◌, refl, sym, subst, ap, ◌∙◌, length, arith}
use Rattle.std.specs.Prelude.{slice_get}
use Rattle.std.proofs.lemmas.Option.{slice_get_read, slice_get_within}
use mathlib.Core.Logic.{dite}
use native.Mathlib.Decide.{ℕ_discrete}
use Rattle.chunk_owner.specs.Lanes.{IsWhole}
use Rattle.hall.proofs.SharingLemmas.{same_value}
use Rattle.hall.proofs.sharing.are_whole.Goals as goal

pub loop-owner-preserved : goal.loop-owner-preserved
loop-owner-preserved c = λ k owner below at.
    let ls = c.args.owners.now in
    let i = c.loop-owner.owner-index in
    dite (ℕ_discrete k i)
    (λ e. subst IsWhole (same_value _ owner (sym (slice_get_read ls (length ls) i c.owner-item.result refl c.loop-owner-test.true c.owner-item.is)
    ∙ ap (slice_get ls) (sym e) ∙ at)) c.is_whole.ensures.own)
    (λ ne. c.loop-owner.invariant k owner (let apart : k ≢ i = ne in omega arith) at)

pub returns : goal.returns
returns c = λ k owner at.
    let few = slice_get_within c.args.owners.now k owner at in
    let over = c.loop-owner-test.false in
    c.loop-owner.invariant k owner (omega arith) at
