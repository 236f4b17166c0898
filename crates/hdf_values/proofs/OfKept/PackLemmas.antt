-- Lists of whole numbers that were read, built up from their parts.
use Rattle.std.proofs.Common.{◌≡◌, ℕ, suc, ◌+◌, ◌-◌, ◌≤◌, ℤ, Bool, true, false, not, List, [], ◌∷◌, ◌++◌, map, Option, Some, None, Result, Ok, Err, IfOk, IfSome, option_map, inl, inr, refl, sym, ap, subst, ◌∙◌, arith, append-nil, append_assoc}
use Rattle.std.specs.Option.{option_map_or}
use Rattle.std.specs.Str.{bytes_eq}
use Rattle.std.specs.List.{AllByRecursion, flat_map}
use Rattle.std.proofs.lemmas.Grind.{flat_map-append}
use Rattle.json.specs.Json as json
use Rattle.json.specs.Json.{after_end_array}
use Rattle.json.specs.Token.{Token, begin_array, number as number_token}
use Rattle.serde_json.specs.Data.{Data, number, array, Items, no_items, item}
use Rattle.serde_json.specs.Find.{of_integer}
use Rattle.serde_json.specs.Read.{number_of}
use Rattle.serde_json.specs.View.{items_of}
use Rattle.json_trees.specs.Copied.{ReadsItems}
use Rattle.json_trees.specs.Trees.{list_of, list_in}
use Rattle.json_trees.proofs.OfKept.ReadLemmas.{one_read, array_read, items_ended, item_before}
use Rattle.json_trees.proofs.TableLemmas.{same_bytes}
use Rattle.hdf_types.specs.declared.IntType.{IntType}
use Rattle.hdf_types.specs.Elems.{int}
use Rattle.hdf_types.specs.Types.{IsWidth, IsSoundType}
use Rattle.shapes.specs.RowMajor.{cell_count}
use Rattle.hdf_values.specs.Integers.{IsInRange, integer_in, int_bytes}
use Rattle.hdf_values.specs.Nested.{AreEncoded, FitsNested, nested_bytes, nested_decoded, nested_normal}
use Rattle.hdf_values.specs.Packed.{AreSome, ArePacked, HasNumbers, HaveNumbers, Packs, PacksItems}
use Rattle.hdf_values.proofs.ElementLemmas.{integer_in-number}
use Rattle.hdf_values.proofs.NestedLemmas.{are_encoded, bytes_listed, nested_back}
use Rattle.hdf_values.proofs.PieceLemmas.{all_parts}

-- ---- what is read

pub number_packed : (most : ℕ) (s : List ℕ) (z : ℤ) (rest : List Token) (old new : List ℤ) → number_of s ≡ Some (of_integer z) → new ≡ old ++ z ∷ []
    → Packs most (number_token s ∷ rest) [] old new rest
number_packed most s z rest old new e added = record {
  tree = number (of_integer z);
  numbers = z ∷ [];
  read = one_read most (json.number s) (number (of_integer z)) (number_token s) (number_token s ∷ rest) rest refl refl (ap (option_map number) e) refl;
  has = (z, refl, refl);
  some = tt;
  added = added;
}

pub items_closed : (most : ℕ) (from rest : List Token) (dims : List ℕ) (old : List ℤ) → after_end_array from ≡ Some rest
    → PacksItems most from dims 0 old old rest
items_closed most from rest dims old e = record {
  trees = no_items;
  numbers = [];
  read = items_ended most from rest e;
  many = refl;
  have = refl;
  added = sym (append-nil old);
}

pub item_packed : (most : ℕ) (from mid rest : List Token) (dims : List ℕ) (more count : ℕ) (old now new : List ℤ) → count ≡ suc more
    → Packs most from dims old now mid → PacksItems most mid dims more now new rest → PacksItems most from dims count old new rest
item_packed most from mid rest dims more count old now new e h k = record {
  trees = item h.tree k.trees;
  numbers = h.numbers ++ k.numbers;
  read = item_before most from mid rest h.tree k.trees h.read k.read;
  many = ap suc k.many ∙ sym e;
  have = (h.numbers, k.numbers, refl, h.has, k.have);
  added = k.added ∙ ap (λ x. x ++ k.numbers) h.added ∙ append_assoc old h.numbers k.numbers;
}

pub list_packed : (most : ℕ) (from rest : List Token) (dims all : List ℕ) (count : ℕ) (old new : List ℤ) → 1 ≤ count → AreSome dims
    → all ≡ count ∷ dims → PacksItems most from dims count old new rest → Packs (most + 1) (begin_array ∷ from) all old new rest
list_packed most from rest dims all count old new some others is h =
    let same : most ≡ most + 1 - 1 = omega arith in
    record {
      tree = array h.trees;
      numbers = h.numbers;
      read = array_read (most + 1) (begin_array ∷ from) from rest h.trees (omega arith) refl (subst (λ (k : ℕ). ReadsItems k from h.trees rest) same h.read);
      has = subst (λ ns. HasNumbers ns (array h.trees) h.numbers) (sym is) (h.trees, refl, h.many, h.have);
      some = subst AreSome (sym is) (some, others);
      added = h.added;
    }

-- lists of the same extents
not_other : (b : Bool) → false ≡ not b → b ≡ true
not_other true e = refl
not_other false e = absurd (cc)

pub same_extents : (xs ys : List ℕ) → false ≡ not (bytes_eq xs ys) → xs ≡ ys
same_extents xs ys e = same_bytes xs ys (not_other (bytes_eq xs ys) e)

-- a row at the depth that is left
pub row_told : {E : Type 0} (r : Result (Option (List ℕ)) E) (most : ℕ) (from next rest : List Token) (s : List ℕ) (old new : List ℤ) → 1 ≤ most
    → from ≡ number_token s ∷ next
    → IfOk r (λ found. IfSome found (λ dims. (k : ℕ) → Packs (k + 1) (begin_array ∷ number_token s ∷ next) dims old new rest))
    → IfOk r (λ found. IfSome found (λ dims. Packs most (begin_array ∷ from) dims old new rest))
row_told (Err f) most from next rest s old new some is h = tt
row_told (Ok None) most from next rest s old new some is h = tt
row_told (Ok (Some dims)) most from next rest s old new some is h =
    let all : most - 1 + 1 ≡ most = omega (arith, some) in
    subst (λ ts. Packs most (begin_array ∷ ts) dims old new rest) (sym is)
    (subst (λ (k : ℕ). Packs k (begin_array ∷ number_token s ∷ next) dims old new rest) all (h (most - 1)))

-- a list at its extents, where there is room for them
pub list_told : (o : Option (List ℕ)) (most : ℕ) (from rest : List Token) (dims : List ℕ) (count : ℕ) (old new : List ℤ)
    → 1 ≤ count → AreSome dims → IfSome o (λ more. more ≡ count ∷ dims) → PacksItems most from dims count old new rest
    → IfSome o (λ more. Packs (most + 1) (begin_array ∷ from) more old new rest)
list_told None most from rest dims count old new some others is h = tt
list_told (Some more) most from rest dims count old new some others is h = list_packed most from rest dims more count old new some others is h

-- ---- the bytes of a tree's numbers stand for the tree

record AreBytes (t : IntType) (dims : List ℕ) (d : Data) (zs : List ℤ) : Type 0 where
  fits : FitsNested (int t) dims d
  bytes : nested_bytes (int t) dims d ≡ flat_map (int_bytes t) zs
  same : nested_normal (int t) dims d ≡ d

record AreEachBytes (t : IntType) (dims : List ℕ) (ds : List Data) (zs : List ℤ) : Type 0 where
  fits : AllByRecursion (FitsNested (int t) dims) ds
  bytes : flat_map (nested_bytes (int t) dims) ds ≡ flat_map (int_bytes t) zs
  same : map (nested_normal (int t) dims) ds ≡ ds

each_bytes : (t : IntType) (dims : List ℕ) → ((d : Data) (zs : List ℤ) → HasNumbers dims d zs → AllByRecursion (IsInRange t) zs → AreBytes t dims d zs)
    → (ds : List Data) (zs : List ℤ) → HaveNumbers (HasNumbers dims) ds zs → AllByRecursion (IsInRange t) zs → AreEachBytes t dims ds zs
each_bytes t dims one [] zs h r = record { fits = tt; bytes = ap (flat_map (int_bytes t)) (sym h); same = refl }
each_bytes t dims one (d ∷ ds) zs h r =
    let parts = all_parts (IsInRange t) h.0 h.1 (subst (AllByRecursion (IsInRange t)) h.2 r) in
    let first = one d h.0 h.3 parts.0 in
    let others = each_bytes t dims one ds h.1 h.4 parts.1 in
    record {
      fits = (first.fits, others.fits);
      bytes = ap (λ x. x ++ flat_map (nested_bytes (int t) dims) ds) first.bytes ∙ ap (λ x. flat_map (int_bytes t) h.0 ++ x) others.bytes
          ∙ sym (flat_map-append (int_bytes t) h.0 h.1) ∙ ap (flat_map (int_bytes t)) (sym h.2);
      same = ap (λ x. x ∷ map (nested_normal (int t) dims) ds) first.same ∙ ap (λ x. d ∷ x) others.same;
    }

items_back : (items : Items) → items_of (list_of items) ≡ items
items_back no_items = refl
items_back (item d ds) = ap (item d) (items_back ds)

are_bytes : (t : IntType) (dims : List ℕ) (d : Data) (zs : List ℤ) → HasNumbers dims d zs → AllByRecursion (IsInRange t) zs → AreBytes t dims d zs
are_bytes t [] d zs h r =
    let found : integer_in d ≡ Some h.0 = ap integer_in h.1 ∙ integer_in-number h.0 in
    record {
      fits = (h.0, found, (subst (AllByRecursion (IsInRange t)) h.2 r).0);
      bytes = ap (λ o. option_map_or (int_bytes t) o [] ++ []) found ∙ ap (flat_map (int_bytes t)) (sym h.2);
      same = ap (λ o. option_map_or (λ z. number (of_integer z)) o d) found ∙ sym h.1;
    }
are_bytes t (n ∷ ns) d zs h r =
    let items = h.0 in
    let is_list : list_in d ≡ Some (list_of h.0) = ap list_in h.1 in
    let each = each_bytes t ns (λ x ys k q. are_bytes t ns x ys k q) (list_of h.0) zs h.3 r in
    record {
      fits = (h.0, h.1, h.2, each.fits);
      bytes = bytes_listed (int t) n ns d (list_of items) is_list ∙ each.bytes;
      same = ap (λ o. option_map_or (λ ds. array (items_of (map (nested_normal (int t) ns) ds))) o d) is_list
          ∙ ap (λ ds. array (items_of ds)) each.same ∙ ap array (items_back items) ∙ sym h.1;
    }

pub int_sound : (t : IntType) → IsWidth t.bits → IsSoundType (int t)
int_sound t (inl e) = record { formed = inl e; nested = omega arith; small = omega (arith, e) }
int_sound t (inr (inl e)) = record { formed = inr (inl e); nested = omega arith; small = omega (arith, e) }
int_sound t (inr (inr (inl e))) = record { formed = inr (inr (inl e)); nested = omega arith; small = omega (arith, e) }
int_sound t (inr (inr (inr e))) = record { formed = inr (inr (inr e)); nested = omega arith; small = omega (arith, e) }

pub packed_encoded : (t : IntType) (dims : List ℕ) (d : Data) (zs : List ℤ) (bs : List ℕ) → HasNumbers dims d zs → ArePacked t bs zs
    → AreEncoded (int t) (cell_count dims) bs × (nested_decoded (int t) dims bs ≡ d)
packed_encoded t dims d zs bs h p =
    let sound = int_sound t p.width in
    let b = are_bytes t dims d zs h p.fit in
    let same : nested_bytes (int t) dims d ≡ bs = b.bytes ∙ sym p.bytes in
    let bytes = subst (AreEncoded (int t) (cell_count dims)) same (are_encoded (int t) dims d sound b.fits) in
    (bytes, ap (nested_decoded (int t) dims) (sym same) ∙ nested_back (int t) dims d sound b.fits ∙ b.same)
