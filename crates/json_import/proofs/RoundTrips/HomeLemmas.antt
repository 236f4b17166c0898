-- Ids and their texts, kinds, and the members of a domain's document.
use Rattle.std.proofs.Common.{◌≡◌, ◌≢◌, ◌==◌, Bool, true, false, ◌&&◌, cond, length, nat_le, nat_lt, Option, Some, None, IsSome, is_some, refl, sym, ap, subst, ◌∙◌, arith}
use Rattle.std.proofs.lemmas.Bool.{and_parts, eq-eqb, eqb-true, ne_eqb, and_from}
use Rattle.std.proofs.lemmas.List.{length-append}
use Rattle.std.specs.FinMap.{get}
use Rattle.uuid.proofs.TextLemmas.{by_index_length}
use Rattle.hdf_types.specs.Elems as elems
use Rattle.object_ids.specs.IdOrder.{id_eq, kind_rank}
use Rattle.object_ids.specs.IdValues.{Id}
use Rattle.object_ids.specs.Ids.{prefix_of, text_of_id, uuid_of}
use Rattle.object_ids.specs.declared.ids.Kind.{Kind}
use Rattle.object_ids.specs.declared.ids.Kind.TheVariants as kind
use Rattle.object_acts.specs.Objects.{empty_group, Objects}
use Rattle.object_acts.specs.declared.objects.Object.{Object}
use Rattle.documents.specs.Domains.Domains.{object_or_root, object_at}
use Rattle.documents.specs.Domains.Laws.{member_at}
use Rattle.documents.specs.declared.domains.home.Home.{Home}
use Rattle.documents.specs.Reader.Objects.{is_length}
use Rattle.object_ids.proofs.IdOrders.{rank_once}

-- ---- the texts of ids

prefix_long : (k : Kind) → length (prefix_of k) ≡ 2
prefix_long kind.Group = refl
prefix_long kind.Dataset = refl
prefix_long kind.Datatype = refl

id_long : (id : Id) → length (text_of_id id) ≡ 38
id_long id =
    let uuid : length (uuid_of id) ≡ 36 = by_index_length 36 _ in
    omega (arith, length-append (prefix_of id.kind) (uuid_of id), prefix_long id.kind, uuid)

pub id_length : (id : Id) → is_length (text_of_id id) ≡ true
id_length id = ap (λ n. nat_lt 0 n && nat_le n 255) (id_long id)

-- ---- kinds

pub other_rank : (a b : Kind) → kind_rank a ≢ kind_rank b → a ≡ b → ⊥
other_rank a b other same = other (ap kind_rank same)

-- ---- the members of a domain

module _ (m : Objects) (h : Home) where
  pub member_is : (k : Kind) (id : Id) (o : Object) → id.kind ≡ k → id.domain ≡ h.number → object_or_root h id (get m id) ≡ Some o
      → member_at m h k id ≡ Some o
  member_is k id o kinds numbers there =
      let number = eq-eqb id.domain h.number numbers in
      ap (λ b. cond b (object_at m h id) None) (and_from _ _ (eq-eqb (kind_rank id.kind) (kind_rank k) (ap kind_rank kinds)) number)
      ∙ ap (λ b. cond b (object_or_root h id (get m id)) None) number ∙ there

  pub no_member : (k : Kind) (id : Id) → kind_rank id.kind ≢ kind_rank k → member_at m h k id ≡ None
  no_member k id other = ap (λ b. cond (b && (id.domain == h.number)) (object_at m h id) None) (ne_eqb (kind_rank id.kind) (kind_rank k) other)

  -- what a member is, where the root is held
  pub record IsMemberOf (k : Kind) (id : Id) (o : Object) : Type 0 where
    pub same_kind : id.kind ≡ k
    pub number : id.domain ≡ h.number
    pub found : object_or_root h id (get m id) ≡ Some o

  pub member_told : (k : Kind) (id : Id) (o : Object) → member_at m h k id ≡ Some o → IsMemberOf k id o
  member_told k id o is = at (kind_rank id.kind == kind_rank k) (id.domain == h.number) refl refl is where
    at : (a b : Bool) → (kind_rank id.kind == kind_rank k) ≡ a → (id.domain == h.number) ≡ b
        → cond (a && b) (cond b (object_or_root h id (get m id)) None) None ≡ Some o → IsMemberOf k id o
    at true true p q e = record { same_kind = rank_once id.kind k (eqb-true _ _ p); number = eqb-true _ _ q; found = e }
    at true false p q e = let none : None ≡ Some o = e in absurd (cc)
    at false b p q e = let none : None ≡ Some o = e in absurd (cc)

  pub same_id : (x y : Id) → id_eq x y ≡ true → x ≡ y
  same_id x y e =
      let a = and_parts (kind_rank x.kind == kind_rank y.kind) _ e in
      let b = and_parts (x.domain == y.domain) _ a.1 in
      let c = and_parts (x.run == y.run) (x.serial == y.serial) b.1 in
      let kinds = rank_once x.kind y.kind (eqb-true _ _ a.0) in
      let domains = eqb-true x.domain y.domain b.0 in
      let runs = eqb-true x.run y.run c.0 in
      let serials = eqb-true x.serial y.serial c.1 in
      λ i. record { kind = kinds i; domain = domains i; run = runs i; serial = serials i }

  pub there_told : (id : Id) (o : Object) → IsSome (get m h.root) → object_or_root h id (get m id) ≡ Some o → get m id ≡ Some o
  there_told id o root is = at (get m id) refl is where
    first : (b : Bool) → id_eq id h.root ≡ b → get m id ≡ None → cond b (Some empty_group) None ≡ Some o → get m id ≡ Some o
    first true tie none e =
        let there : IsSome (get m id) = subst (λ q. IsSome (get m q)) (sym (same_id id h.root tie)) root in
        let clash : is_some (get m id) ≡ false = ap is_some none in
        let never : true ≡ false = sym there ∙ clash in
        absurd (cc)
    first false tie none e = let never : None ≡ Some o = e in absurd (cc)

    at : (found : Option Object) → get m id ≡ found → object_or_root h id found ≡ Some o → get m id ≡ Some o
    at None there e = first (id_eq id h.root) refl there e
    at (Some x) there e = there ∙ e
