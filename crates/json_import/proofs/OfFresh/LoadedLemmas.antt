-- What is read from a document has each text for one object.
use Rattle.std.proofs.Common.{◌≡◌, ℕ, ◌⊎◌, inl, inr, List, [], ◌∷◌, Bool, true, false, cond, Option, Some, None, IsSome, is_some, Ordering, Less, Equal, Greater, codes, refl, sym, ap, subst, ◌∙◌}
use Rattle.std.specs.Prelude.{option_and_then}
use Rattle.std.specs.Cmp.{Equal-is}
use Rattle.std.specs.Cmp.Lexicographic.{nat_list_cmp_total, slice_cmp}
use Rattle.std.specs.List.{AllZip}
use Rattle.std.specs.Ordering.{eq_by_cmp, match_ordering, nat_cmp}
use Rattle.std.specs.FinMap.{FinMap, empty, get as at_key, get-empty, get-insert, insert}
use Rattle.std.proofs.lemmas.Option.{none-some}
use Rattle.serde_json.specs.Data.{Data, Members, array, boolean, member, no_members, null, number, object, string}
use Rattle.serde_json.specs.Find.{as_object, get, get_member}
use Rattle.containers.specs.TextMaps.Keyed.{text_order, with_entries}
use Rattle.containers.proofs.TextMaps.KeyedMaps.{exact_texts}
use Rattle.documents.specs.Parts.Ids.{has_id}
use Rattle.documents.specs.Reader.Loads.{AreMembers, IsCollection, IsDataset, IsDatatype, IsGroup, IsMember, IsNeeded, IsPart, Loads}
use Rattle.documents.specs.declared.reader.loaded.Dataset.{Dataset}
use Rattle.documents.specs.declared.reader.loaded.Datatype.{Datatype}
use Rattle.documents.specs.declared.reader.loaded.Group.{Group}
use Rattle.documents.specs.declared.reader.loaded.Loaded.{Loaded}
use Rattle.json_import.specs.Fresh.Laws.{StandForOne}
use Rattle.json_trees.specs.Trees.{pairs_of}

module _ {X : Type 0} (R : List ℕ → Data → X → Type 0) where
  -- a member has the key, and some tree spells the value
  abbrev Spells : List ℕ → X → Bool → Type 0
  Spells k x has = (has ≡ true) × (d : Data) × R k d x

  abbrev passed : List ℕ → Ordering → Data → Members → Bool
  passed k o d ms = is_some (match_ordering o (get_member k ms) (Some d) (get_member k ms))

  later : (k : List ℕ) (o : Ordering) (d : Data) (ms : Members) → is_some (get_member k ms) ≡ true → passed k o d ms ≡ true
  later k Less d ms has = has
  later k Equal d ms has = refl
  later k Greater d ms has = has

  here : (k : List ℕ) (o : Ordering) (d : Data) (ms : Members) → o ≡ Equal → passed k o d ms ≡ true
  here k o d ms is = ap (λ r. passed k r d ms) is

  -- what is found was there, or is the value of a member
  put_found : (ms : Members) (ps : List (List ℕ × X)) (m : FinMap text_order X) → AllZip (IsMember R) (pairs_of ms) ps → (k : List ℕ) (x : X) → at_key (with_entries m ps) k ≡ Some x
      → (at_key m k ≡ Some x) ⊎ Spells k x (is_some (get_member k ms))
  put_found no_members [] m h k x e = inl e
  put_found no_members (p ∷ ps) m h k x e = absurd h
  put_found (member id d ms) [] m h k x e = absurd h
  put_found (member id d ms) (p ∷ ps) m h k x e = next (put_found ms ps (insert m p.0 p.1) h.1 k x e) where
    at : (b : Bool) → eq_by_cmp text_order k p.0 ≡ b → cond b (Some p.1) (at_key m k) ≡ Some x
        → (at_key m k ≡ Some x) ⊎ Spells k x (passed k (slice_cmp nat_cmp k id) d ms)
    at true tie is =
        let same : k ≡ id = exact_texts k p.0 ((Equal-is (text_order k p.0)).0 tie) ∙ h.0.0 in
        let both : Some p.1 ≡ Some x = is in
        let value : p.1 ≡ x = cc in
        let tied : slice_cmp nat_cmp k id ≡ Equal = ap (slice_cmp nat_cmp k) (sym h.0.0) ∙ (Equal-is (text_order k p.0)).0 tie in
        inr (here k (slice_cmp nat_cmp k id) d ms tied, d, subst (λ t. R t d x) (sym same) (subst (R id d) value h.0.1))
    at false tie is = inl is

    next : (at_key (insert m p.0 p.1) k ≡ Some x) ⊎ Spells k x (is_some (get_member k ms)) → (at_key m k ≡ Some x) ⊎ Spells k x (passed k (slice_cmp nat_cmp k id) d ms)
    next (inl there) = at (eq_by_cmp text_order k p.0) refl (sym (get-insert nat_list_cmp_total m p.0 p.1 k) ∙ there)
    next (inr s) = inr (later k (slice_cmp nat_cmp k id) d ms s.0, s.1, s.2)

  only_spelled : (k : List ℕ) (x : X) (has : Bool) → (at_key (empty {X = X} {R = text_order}) k ≡ Some x) ⊎ Spells k x has → Spells k x has
  only_spelled k x has (inl e) = absurd (none-some x (sym (get-empty text_order k) ∙ e))
  only_spelled k x has (inr s) = s

  members_found : (ms : Members) (m : FinMap text_order X) → AreMembers R ms m → (k : List ℕ) (x : X) → at_key m k ≡ Some x → Spells k x (is_some (get_member k ms))
  members_found ms m are k x e = only_spelled k x _ (put_found ms are.pairs empty are.each k x (ap (λ n. at_key n k) (sym are.all) ∙ e))

  found_in : (d : Data) (m : FinMap text_order X) → IsCollection R (as_object d) m → (k : List ℕ) (x : X) → at_key m k ≡ Some x → Spells k x (is_some (get k d))
  found_in null m are k x e = absurd are
  found_in (boolean b) m are k x e = absurd are
  found_in (number n) m are k x e = absurd are
  found_in (string s) m are k x e = absurd are
  found_in (array ds) m are k x e = absurd are
  found_in (object ms) m are k x e = members_found ms m are k x e

  pub part_found : (o : Option Data) (m : FinMap text_order X) → IsPart R o m → (k : List ℕ) (x : X) → at_key m k ≡ Some x → Spells k x (is_some (option_and_then (get k) o))
  part_found None m are k x e = absurd (none-some x (sym (get-empty text_order k) ∙ ap (λ n. at_key n k) (sym are) ∙ e))
  part_found (Some d) m are k x e = found_in d m are k x e

  pub needed_found : (o : Option Data) (m : FinMap text_order X) → IsNeeded R o m → (k : List ℕ) (x : X) → at_key m k ≡ Some x → Spells k x (is_some (option_and_then (get k) o))
  needed_found None m are k x e = absurd are
  needed_found (Some d) m are k x e = found_in d m are k x e

module _ (tree : Data) (l : Loaded) (loads : Loads tree l) where
  apart : (b : Bool) → b ≡ false → b ≡ true → ⊥
  apart b lacks has = let both : false ≡ true = sym lacks ∙ has in absurd (cc)

  none_where : {X : Type 0} (o : Option X) → ((x : X) → o ≡ Some x → ⊥) → o ≡ None
  none_where None never = refl
  none_where (Some x) never = absurd (never x refl)

  some_where : {X P : Type 0} (o : Option X) → IsSome o → ((x : X) → o ≡ Some x → P) → P
  some_where None there use_it = absurd (let both : false ≡ true = there in cc)
  some_where (Some x) there use_it = use_it x refl

  dataset_there : (k : List ℕ) (x : Dataset) → at_key l.datasets k ≡ Some x → has_id (codes "datasets") k tree ≡ true
  dataset_there k x e = (part_found IsDataset (get (codes "datasets") tree) l.datasets loads.datasets k x e).0

  datatype_there : (k : List ℕ) (x : Datatype) → at_key l.datatypes k ≡ Some x → has_id (codes "datatypes") k tree ≡ true
  datatype_there k x e = (part_found (IsDatatype tree) (get (codes "datatypes") tree) l.datatypes loads.datatypes k x e).0

  group_at : (k : List ℕ) (x : Group) → at_key l.groups k ≡ Some x → (d : Data) × IsGroup tree k d x
  group_at k x e = let found = needed_found (IsGroup tree) (get (codes "groups") tree) l.groups loads.groups k x e in (found.1, found.2)

  datatype_at : (k : List ℕ) (x : Datatype) → at_key l.datatypes k ≡ Some x → (d : Data) × IsDatatype tree k d x
  datatype_at k x e = let found = part_found (IsDatatype tree) (get (codes "datatypes") tree) l.datatypes loads.datatypes k x e in (found.1, found.2)

  pub stand_for_one : StandForOne l
  stand_for_one = record {
    root = loads.there;
    datasets = λ k there. some_where (at_key l.groups k) there (λ g is.
        none_where (at_key l.datasets k) (λ x held. apart _ (group_at k g is).1.no_dataset (dataset_there k x held)));
    datatypes = λ k there. some_where (at_key l.groups k) there (λ g is.
        none_where (at_key l.datatypes k) (λ x held. apart _ (group_at k g is).1.no_datatype (datatype_there k x held)));
    types = λ k there. some_where (at_key l.datasets k) there (λ x is.
        none_where (at_key l.datatypes k) (λ t held. apart _ (datatype_at k t held).1.no_dataset (dataset_there k x is)));
  }
