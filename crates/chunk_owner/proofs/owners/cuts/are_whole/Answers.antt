use Rattle.std.proofs.Common.{◌≡◌, ◌∷◌, ◌++◌, ◌+◌, [], List, take, sym, subst, ap, ◌∙◌}
use Rattle.std.specs.List.{AllByRecursion}
use Rattle.std.proofs.lemmas.List.{take_all, take_more}
use Rattle.chunk_owner.specs.Lanes.{IsWhole, Lane}
use Rattle.chunk_owner.proofs.owners.cuts.are_whole.Goals as goal
use Rattle.json_trees.proofs.ListLemmas.{all_append}

pub loop-owner-preserved : goal.loop-owner-preserved
loop-owner-preserved c =
    let ls = c.args.owners.now in
    let i = c.loop-owner.owner-index in
    let l = c.owner-item.result in
    let taken : take (i + 1) ls ≡ take i ls ++ l ∷ [] = take_more ls i l c.loop-owner-test.true ∙ ap (λ x. take i ls ++ x ∷ []) (sym c.owner-item.is) in
    subst (λ (xs : List Lane). AllByRecursion IsWhole xs) (sym taken) (all_append IsWhole (take i ls) (l ∷ []) c.loop-owner.invariant (c.is_whole.ensures.own, tt))

pub returns : goal.returns
returns c =
    let all : take c.loop-owner.owner-index c.args.owners.now ≡ c.args.owners.now = take_all c.loop-owner.owner-index c.args.owners.now c.loop-owner-test.false in
    subst (λ (ls : List Lane). AllByRecursion IsWhole ls) all c.loop-owner.invariant
