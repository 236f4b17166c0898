-- The order of ids is total, and only equal ids tie.
use Rattle.std.proofs.Common.{◌≡◌, true, Ordering, Less, Equal, Greater, is_eq, refl, ap, rules, arith}
use Rattle.std.specs.Cmp.{IsTotalOrder, Equal-is}
use Rattle.std.specs.Cmp.Rules.{comparing}
use Rattle.std.specs.FinMap.{IsAntisymmetric, nat_cmp-IsAntisymmetric}
use Rattle.std.specs.Ordering.{eq_by_cmp, nat_cmp, ordering_then}
use Rattle.std.proofs.lemmas.Cmp.{tied_itself}
use Rattle.std.proofs.lemmas.Bool.{and_from, eq-eqb}
use Rattle.object_ids.specs.IdOrder.{id_order, kind_rank, id_eq}
use Rattle.object_ids.specs.IdValues.{Id}
use Rattle.object_ids.specs.declared.ids.Kind.{Kind}
use Rattle.object_ids.specs.declared.ids.Kind.TheVariants.{Group, Dataset, Datatype}

pub id_order_total : IsTotalOrder id_order
id_order_total = search (comparing, rules) depth 9

pub rank_once : (a b : Kind) → kind_rank a ≡ kind_rank b → a ≡ b
rank_once Group Group e = refl
rank_once Group Dataset e = absurd (omega arith)
rank_once Group Datatype e = absurd (omega arith)
rank_once Dataset Group e = absurd (omega arith)
rank_once Dataset Dataset e = refl
rank_once Dataset Datatype e = absurd (omega arith)
rank_once Datatype Group e = absurd (omega arith)
rank_once Datatype Dataset e = absurd (omega arith)
rank_once Datatype Datatype e = refl

pub both_equal : (a b : Ordering) → ordering_then a b ≡ Equal → (a ≡ Equal) × (b ≡ Equal)
both_equal Less b e = absurd (cc)
both_equal Equal b e = (refl, e)
both_equal Greater b e = absurd (cc)

pub id_order_once : IsAntisymmetric id_order
id_order_once x y e =
    let a = both_equal (nat_cmp (kind_rank x.kind) (kind_rank y.kind)) _ e in
    let b = both_equal (nat_cmp x.domain y.domain) _ a.1 in
    let c = both_equal (nat_cmp x.run y.run) _ b.1 in
    let kind = rank_once x.kind y.kind (nat_cmp-IsAntisymmetric _ _ a.0) in
    let domain = nat_cmp-IsAntisymmetric x.domain y.domain b.0 in
    let run = nat_cmp-IsAntisymmetric x.run y.run c.0 in
    let serial = nat_cmp-IsAntisymmetric x.serial y.serial c.1 in
    λ i. record { kind = kind i; domain = domain i; run = run i; serial = serial i }

-- an id ties with itself
pub itself : (id : Id) → eq_by_cmp id_order id id ≡ true
itself id = ap is_eq (tied_itself id_order_total id)

-- only an id ties with it
pub tied_ids : (x y : Id) → eq_by_cmp id_order x y ≡ true → x ≡ y
tied_ids x y e = id_order_once x y ((Equal-is (id_order x y)).0 e)

pub same_itself : (x : Id) → id_eq x x ≡ true
same_itself x =
    and_from _ _ (eq-eqb (kind_rank x.kind) (kind_rank x.kind) refl) (and_from _ _ (eq-eqb x.domain x.domain refl) (and_from _ _ (eq-eqb x.run x.run refl) (eq-eqb x.serial x.serial refl)))
