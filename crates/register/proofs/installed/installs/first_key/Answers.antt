use Rattle.std.proofs.Common.{◌∷◌, [], List, ℕ, Option, Some, None, sym, ap, subst, ◌∙◌}
use denote.Ref.{Bor}
use Rattle.std.specs.Option.{option_copied}
use Rattle.std.proofs.lemmas.Option.{none-some, same_Some}
use Rattle.containers.specs.TextMaps.Keyed.{text_order}
use Rattle.containers.specs.TextMaps.Nexts.{IsNext}
use Rattle.object_records.specs.Keys.Keys.{node_key}
use Rattle.object_ids.specs.Paths.{root_path}
use Rattle.containers.proofs.Passing.{contrary}
use Rattle.register.proofs.OfInstalled.RegisterFaults.{first_alone, first_between, first_root}
use Rattle.register.proofs.OfInstalled.RegisterWalks.{copied_none, copied_some}
use Rattle.register.proofs.installed.installs.first_key.Goals as goal

pub returns-then-is_some : goal.returns-then-is_some
returns-then-is_some c = first_alone c.args.kept.now (copied_some c.get.result _ c.get.ensures (sym c.is_some.ensures ∙ c.if-is_some.true))

pub returns-in_default : goal.returns-in_default
returns-in_default c = first_root c.args.kept.now None (copied_none c.get.result _ c.get.ensures (sym c.is_some.ensures ∙ c.if-is_some.false))
    (subst (λ (o : Option (Bor (List ℕ))). IsNext c.args.kept.now (Some (2 ∷ [])) (option_copied o)) c.in_default.is c.next_key.ensures.least) (λ key is. absurd (none-some key is))

pub returns-then-is_before : goal.returns-then-is_before
returns-then-is_before c = first_between c.args.kept.now c.in-Some.key.now (copied_none c.get.result _ c.get.ensures (sym c.is_some.ensures ∙ c.if-is_some.false))
    (subst (λ (o : Option (Bor (List ℕ))). IsNext c.args.kept.now (Some (2 ∷ [])) (option_copied o)) c.in-Some.is c.next_key.ensures.least) (c.is_before.ensures.0 c.if-is_before.true)

pub returns-else-is_before : goal.returns-else-is_before
returns-else-is_before c = first_root c.args.kept.now (Some c.in-Some.key.now) (copied_none c.get.result _ c.get.ensures (sym c.is_some.ensures ∙ c.if-is_some.false))
    (subst (λ (o : Option (Bor (List ℕ))). IsNext c.args.kept.now (Some (2 ∷ [])) (option_copied o)) c.in-Some.is c.next_key.ensures.least)
    (λ key is low. contrary c.is_before.result ⊥ (c.is_before.ensures.1 (ap (λ k. text_order k (node_key root_path)) (same_Some c.in-Some.key.now key is) ∙ low)) c.if-is_before.false)
