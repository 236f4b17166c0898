-- The parts of an element, one after another.
use Rattle.std.proofs.Common.{◌≡◌, ◌++◌, ◌∷◌, ℕ, Bool, true, false, List, [], length, Option, Some, None, Result, Ok, Err, option_and_then, option_map, refl, sym, ap, subst, ◌∙◌, append_assoc, append-nil, arith}
use Rattle.json.specs.Json.{after_end_array}
use Rattle.json.specs.Token.{Token, number as number_token, string as string_token}
use Rattle.serde_json.specs.Data.{Data, Items, no_items, item, array}
use Rattle.serde_json.specs.Find.{as_integer}
use Rattle.json_trees.specs.Begun.{AreTrees, IsValue}
use Rattle.json_trees.specs.Kept.{Begins}
use Rattle.json_trees.specs.Trees.{list_in, list_of}
use Rattle.json_trees.proofs.OfKept.PassLemmas.{is_value}
use Rattle.hdf_types.specs.declared.types.Field.{Field}
use Rattle.hdf_types.specs.declared.IntType.{IntType}
use Rattle.hdf_types.specs.declared.TextType.{TextType}
use Rattle.hdf_types.specs.Elems.{Elem, compound, int as int_type, text as text_type, FieldList, no_fields, field}
use Rattle.hdf_types.specs.Views.{field_list}
use Rattle.hdf_values.specs.declared.faults.Misfit.{Misfit}
use Rattle.hdf_values.specs.declared.faults.Misfit.TheVariants.{NotOfType}
use Rattle.hdf_values.specs.Elements.{encoded, fields_encoded, int_encoded, joined, listed_or, misfit_or, text_encoded}
use Rattle.hdf_values.specs.Faults.{at_place}
use Rattle.hdf_values.specs.Nested.{placed}
use Rattle.hdf_values.specs.Streamed.{Told, lowest}
use Rattle.json_trees.proofs.OfKept.StreamLemmas.{a_tree, no_number, no_text, none_more}

-- a token of another value than the type has
pub no_int : (int : IntType) (t : Token) (ts rest : List Token) (tree : Data) → ((s : List ℕ) → t ≡ number_token s → ⊥) → Begins (t ∷ ts) tree rest → encoded (int_type int) tree ≡ Err NotOfType
no_int int t ts rest tree other h = ap (λ n. int_encoded int (option_and_then as_integer n)) (no_number t ts rest tree other h)

pub no_chars : (kind : TextType) (t : Token) (ts rest : List Token) (tree : Data) → ((s : List ℕ) → t ≡ string_token s → ⊥) → Begins (t ∷ ts) tree rest → encoded (text_type kind) tree ≡ Err NotOfType
no_chars kind t ts rest tree other h = ap (text_encoded kind) (no_text t ts rest tree other h)

-- a part, and those behind it
pub part_joined : (here rest : Option Misfit) (old mid new : List ℕ) (r k : Result (List ℕ) Misfit) → Told here old mid r → Told rest mid new k → Told (lowest here rest) old new (joined r k)
part_joined None None old mid new r k h g =
    (h.0 ++ g.0, ap (λ x. joined x k) h.1 ∙ ap (joined (Ok h.0)) g.1, g.2 ∙ ap (λ x. x ++ g.0) h.2 ∙ append_assoc old h.0 g.0)
part_joined None (Some n) old mid new r k h g = ap (λ x. joined x k) h.1 ∙ ap (joined (Ok h.0)) g
part_joined (Some m) None old mid new r k h g = ap (λ x. joined x k) h ∙ ap (joined (Err m)) g.1
part_joined (Some m) (Some n) old mid new r k h g = ap (λ x. joined x k) h ∙ ap (joined (Err m)) g

-- a field, and those behind it
pub field_told : (n : List ℕ) (e : Elem) (fs all : FieldList) (trees others : Items) (tree : Data) (here rest : Option Misfit) (old mid new : List ℕ)
    → all ≡ field n e fs → trees ≡ item tree others → Told here old mid (encoded e tree) → Told rest mid new (fields_encoded fs (list_of others)) → Told (lowest here rest) old new (fields_encoded all (list_of trees))
field_told n e fs all trees others tree here rest old mid new are is h g =
    let both = part_joined here rest old mid new (encoded e tree) (fields_encoded fs (list_of others)) h g in
    subst (λ x. Told (lowest here rest) old new (fields_encoded x (list_of trees))) (sym are) (subst (λ x. Told (lowest here rest) old new (fields_encoded (field n e fs) (list_of x))) (sym is) both)

-- a list that ends before a field
pub ended_told : (n : List ℕ) (e : Elem) (fs all : FieldList) (trees : Items) → all ≡ field n e fs → trees ≡ no_items → fields_encoded all (list_of trees) ≡ Err NotOfType
ended_told n e fs all trees are none = ap (λ x. fields_encoded x (list_of trees)) are ∙ ap (λ x. fields_encoded (field n e fs) (list_of x)) none

-- ---- behind the last field

abbrev pub AreMore : Bool → Items → Items → Type 0
AreMore false trees left = trees ≡ left
AreMore true trees left = fields_encoded no_fields (list_of trees) ≡ Err NotOfType

pub record ArePassed (more : Bool) (trees : Items) (from rest : List Token) : Type 0 where
  pub left : Items
  pub here : AreTrees from left rest
  pub are : AreMore more trees left

more_are : (more : Bool) (trees left others : Items) (tree : Data) → AreMore more trees left → left ≡ item tree others → AreMore true trees others
more_are false trees left others tree same is = ap (λ x. fields_encoded no_fields (list_of x)) (same ∙ is)
more_are true trees left others tree more is = more

pub none_passed : (trees : Items) (from rest : List Token) → AreTrees from trees rest → ArePassed false trees from rest
none_passed trees from rest h = record { left = trees; here = h; are = refl }

pub one_passed : (more : Bool) (trees : Items) (from after rest : List Token) → ArePassed more trees from rest → after_end_array from ≡ None → ((mid : List Token) → IsValue from mid → after ≡ mid) → ArePassed true trees after rest
one_passed more trees from after rest p going passed =
    let t = a_tree from rest p.left p.here going in record {
      left = t.others;
      here = subst (λ ts. AreTrees ts t.others rest) (sym (passed t.mid (is_value from t.mid t.tree t.first))) t.behind;
      are = more_are more trees p.left t.others t.tree p.are t.are;
    }

abbrev pub outcome_of : Bool → Result (List ℕ) Misfit
outcome_of true = Err NotOfType
outcome_of false = Ok []

are_told : (more : Bool) (trees left : Items) → AreMore more trees left → left ≡ no_items → fields_encoded no_fields (list_of trees) ≡ outcome_of more
are_told false trees left same none = ap (λ x. fields_encoded no_fields (list_of x)) (same ∙ none)
are_told true trees left more none = more

pub all_passed : (more : Bool) (trees : Items) (from rest r : List Token) → ArePassed more trees from rest → after_end_array from ≡ Some r → (r ≡ rest) × (fields_encoded no_fields (list_of trees) ≡ outcome_of more)
all_passed more trees from rest r p closed =
    let last = none_more from rest r p.left p.here closed in
    (last.0, are_told more trees p.left p.are last.1)

pub no_field : (fs : List Field) → length fs ≡ 0 → field_list fs ≡ no_fields
no_field [] e = refl
no_field (f ∷ fs) e = absurd (omega arith)

end_told : (misfit : Option Misfit) (old : List ℕ) → Told misfit old old (misfit_or misfit [])
end_told None old = ([], refl, sym (append-nil old))
end_told (Some m) old = refl

pub none_told : (all : FieldList) (misfit : Option Misfit) (old : List ℕ) (trees : Items) → all ≡ no_fields → fields_encoded no_fields (list_of trees) ≡ misfit_or misfit [] → Told misfit old old (fields_encoded all (list_of trees))
none_told all misfit old trees none is = subst (Told misfit old old) (sym (ap (λ x. fields_encoded x (list_of trees)) none ∙ is)) (end_told misfit old)

-- ---- a compound

pub compound_told : (kind : Elem) (fs : FieldList) (tree : Data) (trees : Items) (misfit : Option Misfit) (old new : List ℕ) → kind ≡ compound fs → tree ≡ array trees → Told misfit old new (fields_encoded fs (list_of trees)) → Told misfit old new (encoded kind tree)
compound_told kind fs tree trees misfit old new are is h =
    subst (λ k. Told misfit old new (encoded k tree)) (sym are) (subst (λ d. Told misfit old new (encoded (compound fs) d)) (sym is) h)

pub no_compound : (kind : Elem) (fs : FieldList) (tree : Data) → kind ≡ compound fs → list_in tree ≡ None → encoded kind tree ≡ Err NotOfType
no_compound kind fs tree are none = ap (λ k. encoded k tree) are ∙ ap (listed_or (fields_encoded fs)) none

-- ---- an element at its place

pub placed_told : (misfit : Option Misfit) (p : ℕ) (old new : List ℕ) (r : Result (List ℕ) Misfit) → Told misfit old new r → Told (option_map (at_place p) misfit) old new (placed p r)
placed_told None p old new r h = (h.0, ap (placed p) h.1, h.2)
placed_told (Some m) p old new r h = ap (placed p) h
