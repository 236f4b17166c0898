use Rattle.std.proofs.Common.{◌≡◌, ◌∷◌, ◌++◌, ◌+◌, [], List, Option, take, sym, subst, ap, ◌∙◌}
use Rattle.std.proofs.lemmas.List.{take_all, take_more}
use Rattle.std.specs.Option.{option_copied}
use Rattle.containers.specs.TextMaps.Nexts.{IsNext}
use Rattle.object_ids.specs.IdValues.{Id}
use Rattle.chunk_owner.specs.Lanes.{Lane}
use Rattle.chunk_owner.specs.Owners.Joined.{whole}
use Rattle.service_core.specs.Worlds.{lesser}
use Rattle.chunk_owner.proofs.NextLemmas.{next_step}
use Rattle.service_core.proofs.NextLemmas.{next_none, next_push}
use Rattle.service_core.proofs.world.next_in.Goals as goal

pub loop-owner-init : goal.loop-owner-init
loop-owner-init c = next_none (option_copied c.args.after)

pub loop-owner-preserved : goal.loop-owner-preserved
loop-owner-preserved c =
    let ls = c.args.owners.now in
    let i = c.loop-owner.owner-index in
    let l = c.owner-item.result in
    let after = option_copied c.args.after in
    let taken : take (i + 1) ls ≡ take i ls ++ l ∷ [] = take_more ls i l c.loop-owner-test.true ∙ ap (λ x. take i ls ++ x ∷ []) (sym c.owner-item.is) in
    subst (λ (r : Option Id). IsNext (whole (take (i + 1) ls)) after r) (sym c.lesser-least.ensures)
    (subst (λ (xs : List Lane). IsNext (whole xs) after (lesser c.loop-owner.least c.next_id.result)) (sym taken)
    (next_push (take i ls) l after c.loop-owner.least c.next_id.result c.loop-owner.invariant c.next_id.ensures.least))

pub returns-clause-step : goal.returns-clause-step
returns-clause-step c =
    let ls = c.args.owners.now in
    let after = option_copied c.args.after in
    let all : take c.loop-owner.owner-index ls ≡ ls = take_all c.loop-owner.owner-index ls c.loop-owner-test.false in
    next_step (whole ls) after c.loop-owner.least (subst (λ (xs : List Lane). IsNext (whole xs) after c.loop-owner.least) all c.loop-owner.invariant)
