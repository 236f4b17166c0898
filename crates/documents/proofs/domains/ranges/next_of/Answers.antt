use denote.Enum.Bare.{sameb}
use Rattle.std.proofs.Common.{◌≡◌, true, not, refl, sym, ap, ◌∙◌, arith}
use Rattle.containers.proofs.Passing.{contrary}
use Rattle.object_ids.specs.IdValues.{Id}
use Rattle.object_ids.specs.contracts.ids.Kind.{the_type}
use Rattle.object_ids.specs.declared.ids.Kind.{Kind}
use Rattle.object_ids.specs.declared.ids.Kind.TheVariants.{Group, Dataset, Datatype}
use Rattle.documents.proofs.OfDomains.RangeLemmas.{past_domain, past_kind}
use Rattle.documents.proofs.domains.ranges.next_of.Goals as goal

itself : (k : Kind) → sameb the_type k k ≡ true
itself Group = refl
itself Dataset = refl
itself Datatype = refl

differ : (a b : Kind) → not (sameb the_type a b) ≡ true → a ≡ b → ⊥
differ a b apart same = contrary (not (sameb the_type a a)) ⊥ (ap (λ k. not (sameb the_type a k)) same ∙ apart) (ap not (itself a))

pub returns-then-ne : goal.returns-then-ne
returns-then-ne g c =
    past_kind (g.S.ObjectStore.objects c.args.store.now) c.args.home.now c.args.after.now c.in_ok-id.id c.in_ok-id.ensures
    (λ same. differ c.id.inside.kind c.after.inside.kind (sym c.ne.ensures ∙ c.if-ne.true)
    (ap (λ (id : Id). id.kind) c.id.view_is ∙ same ∙ sym (ap (λ (id : Id). id.kind) c.after.view_is)))

pub returns-then-id-home : goal.returns-then-id-home
returns-then-id-home g c =
    past_domain (g.S.ObjectStore.objects c.args.store.now) c.args.home.now c.args.after.now c.in_ok-id.id c.in_ok-id.ensures
    (omega (arith, ap (λ (id : Id). id.domain) c.id.view_is))
