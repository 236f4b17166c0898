-- The least id of all lanes.
use Rattle.std.proofs.Common.{◌≡◌, Bool, true, false, cond, List, [], ◌∷◌, ◌++◌, IsSome, is_some, Option, Some, None, Ordering, Less, Equal, Greater, refl, ap, ◌∙◌}
use Rattle.std.specs.Ordering.{is_lt, ordering_reverse}
use Rattle.std.specs.FinMap.{get, get-empty}
use Rattle.containers.specs.TextMaps.Nexts.{IsNext}
use Rattle.object_ids.specs.IdValues.{Id}
use Rattle.object_ids.specs.IdOrder.{id_order}
use Rattle.object_ids.proofs.IdOrders.{id_order_once, id_order_total}
use Rattle.object_acts.specs.declared.objects.Object.{Object}
use Rattle.chunk_owner.specs.Lanes.{Lane}
use Rattle.chunk_owner.specs.Owners.Joined.{whole}
use Rattle.service_core.specs.Worlds.{lesser}
use Rattle.chunk_owner.proofs.OfOwners.WholeLemmas.{get-push, or_else}
use Rattle.containers.proofs.Passing.{lt_less}
use Rattle.object_acts.specs.Objects.{Objects}

module _ (m one other : Objects) (is : (q : Id) → get m q ≡ or_else (get one q) (get other q)) (after : Option Id) where
  none_in : (q : Id) → get one q ≡ None → get other q ≡ None → get m q ≡ None
  none_in q a b = is q ∙ ap (λ p. or_else p (get other q)) a ∙ b

  some_or : (p j : Option Object) → IsSome p → IsSome (or_else p j)
  some_or (Some x) j h = refl
  some_or None j h = absurd (let both : false ≡ true = h in cc)

  in_one : (k : Id) → IsSome (get one k) → IsSome (get m k)
  in_one k h = ap is_some (is k) ∙ some_or (get one k) (get other k) h

  in_other : (k : Id) → get one k ≡ None → IsSome (get other k) → IsSome (get m k)
  in_other k none h = ap is_some (is k ∙ ap (λ p. or_else p (get other k)) none) ∙ h

  before : (q a b : Id) → id_order q a ≡ Less → (r : Ordering) → id_order b a ≡ r → is_lt r ≡ false → id_order q b ≡ Less
  before q a b lt Less e far = absurd (let both : true ≡ false = far in cc)
  before q a b lt Equal e far = ap (id_order q) (id_order_once b a e) ∙ lt
  before q a b lt Greater e far = id_order_total.trans q a b lt (id_order_total.antisymm a b ∙ ap ordering_reverse e)

  -- of two ids that are each the least of their objects, the lesser is the least of all
  lesser_or : (a b : Id) (t : Bool) → is_lt (id_order b a) ≡ t → IsNext one after (Some a) → IsNext other after (Some b) → IsNext m after (cond t (Some b) (Some a))
  lesser_or a b true e x y =
      let lt = lt_less (id_order b a) e in
      (y.0, in_other b (x.2 b y.0 lt) y.1, λ q behind below. none_in q (x.2 q behind (id_order_total.trans q b a below lt)) (y.2 q behind below))
  lesser_or a b false e x y =
      (x.0, in_one a x.1, λ q behind below. none_in q (x.2 q behind below) (y.2 q behind (before q a b below (id_order b a) refl e)))

  next_or : (a b : Option Id) → IsNext one after a → IsNext other after b → IsNext m after (lesser a b)
  next_or None None x y = λ q behind. none_in q (x q behind) (y q behind)
  next_or None (Some b) x y = (y.0, in_other b (x b y.0) y.1, λ q behind below. none_in q (x q behind) (y.2 q behind below))
  next_or (Some a) None x y = (x.0, in_one a x.1, λ q behind below. none_in q (x.2 q behind below) (y q behind))
  next_or (Some a) (Some b) x y = lesser_or a b (is_lt (id_order b a)) refl x y

pub next_push : (ls : List Lane) (l : Lane) (after a b : Option Id) → IsNext (whole ls) after a → IsNext l.objects after b → IsNext (whole (ls ++ l ∷ [])) after (lesser a b)
next_push ls l after a b x y = next_or (whole (ls ++ l ∷ [])) (whole ls) l.objects (get-push ls l) after a b x y

pub next_none : (after : Option Id) → IsNext (whole []) after None
next_none after q behind = get-empty id_order q
