-- The step of a walk over objects.
use Rattle.std.proofs.Common.{◌≡◌, true, false, IsSome, is_some, Option, Some, None, Ordering, Less, Equal, Greater, option_map, refl, sym, ap, subst, ◌∙◌}
use Rattle.std.specs.Ordering.{ordering_reverse}
use Rattle.std.specs.FinMap.{entries, get}
use Rattle.containers.specs.TextMaps.Nexts.{IsKeyStep, IsNext, first, left}
use Rattle.containers.proofs.TextMaps.Walks.{found_key}
use Rattle.object_ids.specs.IdValues.{Id}
use Rattle.object_ids.specs.IdOrder.{id_order}
use Rattle.object_ids.proofs.IdOrders.{id_order_once, id_order_total}
use Rattle.object_acts.specs.declared.objects.Object.{Object}
use Rattle.object_acts.specs.Objects.{Objects}

same_or : (r : Ordering) (P : Type 0) → (r ≡ Less → P) → (r ≡ Equal → P) → (r ≡ Greater → P) → P
same_or Less P l e g = l refl
same_or Equal P l e g = e refl
same_or Greater P l e g = g refl

none_some : (o : Option Object) → o ≡ None → IsSome o → ⊥
none_some o none some = let both : false ≡ true = sym (ap is_some none) ∙ some in absurd (cc)

-- there is one next id at most
next_once : (m : Objects) (after a b : Option Id) → IsNext m after a → IsNext m after b → a ≡ b
next_once m after None None x y = refl
next_once m after None (Some b) x y = absurd (none_some (get m b) (x b y.0) y.1)
next_once m after (Some a) None x y = absurd (none_some (get m a) (y a x.0) x.1)
next_once m after (Some a) (Some b) x y = same_or (id_order a b) (Some a ≡ Some b)
    (λ l. absurd (none_some (get m a) (y.2 a x.0 l) x.1))
    (λ e. ap (λ (i : Id). Some i) (id_order_once a b e))
    (λ g. absurd (none_some (get m b) (x.2 b y.0 (id_order_total.antisymm b a ∙ ap ordering_reverse g)) y.1))

-- behind the next id the walk goes on
pub next_step : (m : Objects) (after r : Option Id) → IsNext m after r → IsKeyStep m after r
next_step m after r next =
    let found = found_key id_order_total m after (option_map (λ e. e.0) (first (left id_order after (entries m)))) refl in
    subst (λ (k : Option Id). IsKeyStep m after k) (next_once m after _ r found.0 next) found.1
