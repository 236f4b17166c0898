-- What is printed spells the type again.
use Rattle.std.proofs.Common.{◌≡◌, ℕ, ◌≤◌, Bool, true, false, Some, Ok, refl, sym, ap, subst, ◌∙◌, inl, inr}
use Rattle.serde_json.specs.Data.{Data, string}
use Rattle.serde_json.specs.View.{items_of}
use Rattle.json_trees.specs.Trees.{list_of}
use Rattle.json_trees.specs.Tables.{look_up}
use Rattle.hdf_types.specs.declared.IntType.{IntType}
use Rattle.hdf_types.specs.declared.TextType.{TextType}
use Rattle.hdf_types.specs.declared.Pad.{Pad}
use Rattle.hdf_types.specs.declared.Pad.TheVariants.{NullTerm, NullPad, SpacePad}
use Rattle.hdf_types.specs.declared.TheConstants.{MAX_TEXT}
use Rattle.hdf_types.specs.Elems.{Elem, int, text, compound, FieldList, no_fields, field}
use Rattle.hdf_types.specs.Reading.{int_type, int_named, sets, pads, type_of}
use Rattle.hdf_types.specs.Types.{IsTextObject, IsTypeOf, AreFields, IsWidth, IsFormed, AreFormed, IsSoundType}
use Rattle.hdf_types.specs.Printed.{int_name, set_name, pad_name, int_tree, text_tree, type_tree, fields_trees}
use Rattle.hdf_types.proofs.TypeLemmas.{type_read}

-- an integer that its name gives back
abbrev IsNamed : IntType → Type 0
IsNamed t = int_named (int_name t) ≡ Some t

each_named : (P : Bool → Bool → Type 0) → P true true → P true false → P false true → P false false → (a b : Bool) → P a b
each_named P both first second none true true = both
each_named P both first second none true false = first
each_named P both first second none false true = second
each_named P both first second none false false = none

-- the integers of one width
abbrev AreNamed : ℕ → Type 0
AreNamed bits = (signed big : Bool) → IsNamed (int_type signed bits big)

width_named : (bits : ℕ) → IsWidth bits → AreNamed bits
unfolding int_named int_name
width_named bits (inl e) = subst AreNamed (sym e) (each_named (λ s b. IsNamed (int_type s 8 b)) refl refl refl refl)
width_named bits (inr (inl e)) = subst AreNamed (sym e) (each_named (λ s b. IsNamed (int_type s 16 b)) refl refl refl refl)
width_named bits (inr (inr (inl e))) = subst AreNamed (sym e) (each_named (λ s b. IsNamed (int_type s 32 b)) refl refl refl refl)
width_named bits (inr (inr (inr e))) = subst AreNamed (sym e) (each_named (λ s b. IsNamed (int_type s 64 b)) refl refl refl refl)

int_printed : (t : IntType) → IsWidth t.bits → IsTypeOf (int_tree t) (int t)
int_printed t h = inr (refl, (string (int_name t), refl, (int_name t, refl, width_named t.bits h t.signed t.big)))

set_again : (u : Bool) → look_up (set_name u) sets ≡ Some u
set_again true = refl
set_again false = refl

pad_again : (p : Pad) → look_up (pad_name p) pads ≡ Some p
pad_again NullTerm = refl
pad_again NullPad = refl
pad_again SpacePad = refl

text_printed : (t : TextType) → 1 ≤ t.len → t.len ≤ MAX_TEXT → IsTextObject (text_tree t) t
text_printed t some short = record {
  class = refl;
  char_set = (set_name t.utf8, refl, set_again t.utf8);
  padding = (pad_name t.pad, refl, pad_again t.pad);
  length_given = refl;
  some_length = some;
  short = short;
}

mutual
  type_printed : (e : Elem) → IsFormed e → IsTypeOf (type_tree e) e
  type_printed (int t) h = int_printed t h
  type_printed (text t) h = text_printed t h.0 h.1
  type_printed (compound fs) h = (refl, (items_of (fields_trees fs), refl, fields_printed fs h.3), h.0, h.1, h.2)

  fields_printed : (fs : FieldList) → AreFormed fs → AreFields (list_of (items_of (fields_trees fs))) fs
  fields_printed no_fields h = tt
  fields_printed (field n e rest) h = (refl, h.0, h.1, (type_tree e, refl, type_printed e h.2), fields_printed rest h.3)

pub reads_back : (e : Elem) (t : Data) → IsSoundType e → t ≡ type_tree e → type_of t ≡ Ok e
reads_back e t h is = ap type_of is ∙ type_read (type_tree e) e (type_printed e h.formed, h.nested, h.small)
