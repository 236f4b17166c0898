-- A value of a shape is read as its bytes, and these stand for it.
use Rattle.std.proofs.Common.{◌≡◌, ℕ, List, [], Ok, refl, sym, ap, ◌∙◌, arith}
use Rattle.std.proofs.lemmas.List.{append-nil, nil_from_length}
use Rattle.serde_json.specs.Data.{Data}
use Rattle.hdf_types.specs.Elems.{Elem}
use Rattle.hdf_types.specs.Types.{IsSoundType}
use Rattle.shapes.specs.declared.Shape.{Shape}
use Rattle.shapes.specs.declared.Shape.TheVariants.{Null, Scalar, Simple}
use Rattle.shapes.specs.Shapes.{count_of}
use Rattle.hdf_values.specs.Elements.{bytes_of}
use Rattle.hdf_values.specs.Nested.{nested_bytes, nested_decoded, AreEncoded}
use Rattle.hdf_values.specs.Shaped.{IsValue, value_from, null_from, value_tree, value_normal}
use Rattle.hdf_values.proofs.ElementLemmas.{decoded-bytes_of}
use Rattle.hdf_values.proofs.NestedLemmas.{nested_read, nested_back, decoded_read}

-- one element is the bytes of the list of it
pub one_bytes : (e : Elem) (d : Data) → nested_bytes e [] d ≡ bytes_of e d
one_bytes e d = append-nil (bytes_of e d)

pub value_read : (e : Elem) (s : Shape) (d : Data) (bs : List ℕ) → IsValue e s d bs → value_from e s d ≡ Ok bs
value_read e Null d bs h = ap null_from h.0 ∙ ap Ok (sym h.1)
value_read e Scalar d bs h = nested_read e [] 0 d h.0 ∙ ap Ok (one_bytes e d ∙ sym h.1)
value_read e (Simple dims limits) d bs h = nested_read e dims 0 d h.0 ∙ ap Ok (sym h.1)

pub value_back : (e : Elem) (s : Shape) (bs : List ℕ) → IsSoundType e → AreEncoded e (count_of s) bs → value_from e s (value_tree e s bs) ≡ Ok bs
value_back e Null bs w h = ap Ok (sym (nil_from_length bs (omega (arith, h.whole))))
value_back e Scalar bs w h = decoded_read e [] bs w h
value_back e (Simple dims limits) bs w h = decoded_read e dims bs w h

pub value_inverse : (e : Elem) (s : Shape) (d : Data) (bs : List ℕ) → IsSoundType e → IsValue e s d bs → value_tree e s bs ≡ value_normal e s d
value_inverse e Null d bs w h = refl
value_inverse e Scalar d bs w h = ap (value_tree e Scalar) h.1 ∙ decoded-bytes_of e d w.formed h.0
value_inverse e (Simple dims limits) d bs w h = ap (nested_decoded e dims) h.1 ∙ nested_back e dims d w h.0
