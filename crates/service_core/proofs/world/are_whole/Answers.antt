use Rattle.std.proofs.Common.{◌≡◌, ◌∷◌, ◌++◌, ◌+◌, [], List, take, sym, subst, ap, ◌∙◌}
use Rattle.std.proofs.lemmas.List.{take_all, take_more}
use Rattle.chunk_owner.specs.Lanes.{AreOfKind, AreShown, Lane}
use Rattle.chunk_owner.proofs.Eaches.{KindAt, each_empty}
use Rattle.chunk_owner.proofs.LaneLemmas.{kinds_of}
use Rattle.chunk_owner.specs.Owners.Joined.{whole}
use Rattle.chunk_owner.proofs.OfOwners.WholeLemmas.{each_push, shown_none, shown_push}
use Rattle.service_core.proofs.world.are_whole.Goals as goal

pub loop-owner-init : goal.loop-owner-init
loop-owner-init c = (each_empty KindAt, shown_none)

pub loop-owner-preserved : goal.loop-owner-preserved
loop-owner-preserved c =
    let ls = c.args.owners.now in
    let i = c.loop-owner.owner-index in
    let l = c.owner-item.result in
    let taken : take (i + 1) ls ≡ take i ls ++ l ∷ [] = take_more ls i l c.loop-owner-test.true ∙ ap (λ x. take i ls ++ x ∷ []) (sym c.owner-item.is) in
    let kinds = kinds_of l.lane l.lanes l.objects c.is_whole.ensures.own.own in (
      subst (λ (xs : List Lane). AreOfKind (whole xs)) (sym taken) (each_push KindAt (take i ls) l c.loop-owner.invariant.0 kinds),
      subst (λ (xs : List Lane). AreShown (whole xs)) (sym taken) (shown_push (take i ls) l c.loop-owner.invariant.1 c.is_whole.ensures.shown),
    )

pub returns-clause-kinds : goal.returns-clause-kinds
returns-clause-kinds c =
    let all : take c.loop-owner.owner-index c.args.owners.now ≡ c.args.owners.now = take_all c.loop-owner.owner-index c.args.owners.now c.loop-owner-test.false in
    subst (λ (ls : List Lane). AreOfKind (whole ls)) all c.loop-owner.invariant.0
