use Rattle.std.proofs.Common.{◌+◌, List, length, arith, sym, subst, ap, ◌∙◌}
use Rattle.std.proofs.lemmas.List.{length_push}
use Rattle.chunk_owner.specs.Lanes.{Lane}
use Rattle.chunk_owner.specs.Owners.Walks.{AreNew}
use Rattle.chunk_owner.proofs.OfOwners.WalkLemmas.{new_push}
use Rattle.chunk_owner.proofs.owners.installs.new_owners.Goals as goal

pub loop-lane-preserved : goal.loop-lane-preserved
loop-lane-preserved c =
    let i = c.loop-lane.invariant in
    let ls = c.loop-lane.owners.items in
    let put = c.in_ok-push.ensures.items in (
      ap length put ∙ length_push ls c.new.result ∙ ap (λ n. n + 1) i.0,
      subst (λ (xs : List Lane). AreNew c.args.lanes 0 xs) (sym put) (new_push c.args.lanes 0 c.loop-lane.lane ls c.new.result i.1 (omega (arith, i.0)) c.new.ensures),
    )
