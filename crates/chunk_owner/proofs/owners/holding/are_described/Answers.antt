use Rattle.std.proofs.Common.{◌≡◌, ◌∷◌, ◌++◌, ◌+◌, [], List, length, refl, take, sym, subst, ap, ◌∙◌}
use Rattle.std.specs.List.{AllByRecursion}
use Rattle.std.proofs.lemmas.List.{take_all, take_more}
use Rattle.chunk_owner.specs.Lanes.{AreWholeObjects, Lane}
use Rattle.chunk_owner.specs.Owners.Joined.{whole}
use Rattle.chunk_owner.proofs.Eaches.{each_empty}
use Rattle.chunk_owner.proofs.OfOwners.HoldingLemmas.{IsTold, WholeAt, all_described}
use Rattle.chunk_owner.proofs.OfOwners.WholeLemmas.{each_push}
use Rattle.chunk_owner.proofs.owners.holding.are_described.Goals as goal
use Rattle.json_trees.proofs.ListLemmas.{all_append}

pub loop-owner-init : goal.loop-owner-init
loop-owner-init c = (tt, each_empty WholeAt)

pub loop-owner-preserved : goal.loop-owner-preserved
loop-owner-preserved c =
    let ls = c.args.owners.now in
    let i = c.loop-owner.owner-index in
    let l = c.owner-item.result in
    let taken : take (i + 1) ls ≡ take i ls ++ l ∷ [] = take_more ls i l c.loop-owner-test.true ∙ ap (λ x. take i ls ++ x ∷ []) (sym c.owner-item.is) in (
      subst (λ (xs : List Lane). AllByRecursion IsTold xs) (sym taken) (all_append IsTold (take i ls) (l ∷ []) c.loop-owner.invariant.0 (c.is_described.ensures.described, tt)),
      subst (λ (xs : List Lane). AreWholeObjects (whole xs)) (sym taken) (each_push WholeAt (take i ls) l c.loop-owner.invariant.1 c.is_described.ensures.whole),
    )

pub returns-clause-described : goal.returns-clause-described
returns-clause-described c =
    let ls = c.args.owners.now in
    let all : take c.loop-owner.owner-index ls ≡ ls = take_all c.loop-owner.owner-index ls c.loop-owner-test.false in
    all_described (length ls) ls refl c.requires.some c.requires.lanes (subst (λ (xs : List Lane). AllByRecursion IsTold xs) all c.loop-owner.invariant.0)

pub returns-clause-whole : goal.returns-clause-whole
returns-clause-whole c =
    let ls = c.args.owners.now in
    let all : take c.loop-owner.owner-index ls ≡ ls = take_all c.loop-owner.owner-index ls c.loop-owner-test.false in
    subst (λ (xs : List Lane). AreWholeObjects (whole xs)) all c.loop-owner.invariant.1
