-- What a tree is read as is what the grammar relates to it.
use Rattle.std.proofs.Common.{◌≡◌, ℕ, ◌≤◌, inl, inr, List, [], ◌∷◌, Option, Some, None, option_and_then, nat_le, codes, refl, sym, ap, subst, ◌∙◌}
use Rattle.std.proofs.lemmas.Bool.{leb-true, le-leb}
use Rattle.serde_json.specs.Data.{Data}
use Rattle.json_trees.specs.Trees.{list_of, list_in, whole_in, is_text, all_in}
use Rattle.std.specs.List.{AllZip}
use Rattle.json_trees.proofs.TreeLemmas.{is_text_true, whole_in_number, list_in_array, and_then_some, map_some, AllZip-all_in, all_in-AllZip}
use Rattle.json_trees.proofs.FaultLemmas.{chosen}
use Rattle.shapes.specs.declared.TheConstants.{MAX_EXTENT}
use Rattle.shapes.specs.Extents.{IsExtent, IsLimit, SpellsList, SpellsDims, small, extent_in, limit_in, extents_in, limits_in, dims_from, dims_in}

small_some : (m n : ℕ) → small m ≡ Some n → (m ≡ n) × (m ≤ MAX_EXTENT)
small_some m n e = elim (chosen (nat_le m MAX_EXTENT) (Some m) None (Some n) e) [ inl p ↦ (cc, leb-true m MAX_EXTENT p.0) | inr p ↦ cc ]

pub extent_told : (d : Data) (n : ℕ) → extent_in d ≡ Some n → IsExtent d n
extent_told d n e =
    let found = and_then_some small (whole_in d) n e in
    let parts = small_some found.0 n found.2 in
    let P = λ (m : ℕ). IsExtent d m in
    subst P parts.0 (whole_in_number d found.0 found.1, parts.1)

pub extent_read : (d : Data) (n : ℕ) → IsExtent d n → extent_in d ≡ Some n
extent_read d n h = ap extent_in h.0 ∙ rw (le-leb n MAX_EXTENT h.1)

pub limit_told : (d : Data) (n : ℕ) → limit_in d ≡ Some n → IsLimit d n
limit_told d n e = elim (chosen (is_text (codes "H5S_UNLIMITED") d) (Some 0) (extent_in d) (Some n) e) [
  | inl p ↦ inr (is_text_true (codes "H5S_UNLIMITED") d p.0, cc)
  | inr p ↦ inl (extent_told d n p.1)
]

pub limit_read : (d : Data) (n : ℕ) → IsLimit d n → limit_in d ≡ Some n
limit_read d n (inl h) = ap limit_in h.0 ∙ rw (le-leb n MAX_EXTENT h.1)
limit_read d n (inr h) = ap limit_in h.0 ∙ ap Some (sym h.1)

list_told : (f : Data → Option ℕ) (R : Data → ℕ → Type 0) → ((d : Data) (n : ℕ) → f d ≡ Some n → R d n) → (d : Data) (ns : List ℕ) → option_and_then (all_in f) (list_in d) ≡ Some ns → SpellsList R d ns
list_told f R each d ns e =
    let found = and_then_some (all_in f) (list_in d) ns e in
    let items = list_in_array d found.0 found.1 in
    let P = λ (ds : List Data). AllZip R ds ns in
    (items.0, items.1, subst P (sym items.2) (AllZip-all_in f R each found.0 ns found.2))

list_read : (f : Data → Option ℕ) (R : Data → ℕ → Type 0) → ((d : Data) (n : ℕ) → R d n → f d ≡ Some n) → (d : Data) (ns : List ℕ) → SpellsList R d ns → option_and_then (all_in f) (list_in d) ≡ Some ns
list_read f R each d ns h = ap (λ t. option_and_then (all_in f) (list_in t)) h.1 ∙ all_in-AllZip f R each (list_of h.0) ns h.2

pub extents_told : (d : Data) (ns : List ℕ) → extents_in d ≡ Some ns → SpellsList IsExtent d ns
extents_told = list_told extent_in IsExtent extent_told

pub extents_read : (d : Data) (ns : List ℕ) → SpellsList IsExtent d ns → extents_in d ≡ Some ns
extents_read = list_read extent_in IsExtent extent_read

pub limits_told : (d : Data) (ns : List ℕ) → limits_in d ≡ Some ns → SpellsList IsLimit d ns
limits_told = list_told limit_in IsLimit limit_told

pub limits_read : (d : Data) (ns : List ℕ) → SpellsList IsLimit d ns → limits_in d ≡ Some ns
limits_read = list_read limit_in IsLimit limit_read

dims_told_at : (o : Option (List Data)) (d : Data) (ns : List ℕ) → list_in d ≡ o → dims_from o d ≡ Some ns → SpellsDims d ns
dims_told_at None d ns is e =
    let found = map_some (λ n. n ∷ []) (extent_in d) ns e in
    inr (found.0, extent_told d found.0 found.1, sym found.2)
dims_told_at (Some ds) d ns is e = inl (extents_told d ns (ap (option_and_then (all_in extent_in)) is ∙ e))

pub dims_told : (d : Data) (ns : List ℕ) → dims_in d ≡ Some ns → SpellsDims d ns
dims_told d ns e = dims_told_at (list_in d) d ns refl e

pub dims_read : (d : Data) (ns : List ℕ) → SpellsDims d ns → dims_in d ≡ Some ns
dims_read d ns (inl h) = ap dims_in h.1 ∙ all_in-AllZip extent_in IsExtent extent_read (list_of h.0) ns h.2
dims_read d ns (inr h) = ap dims_in h.1.0 ∙ rw (le-leb h.0 MAX_EXTENT h.1.1) (ap Some (sym h.2))
