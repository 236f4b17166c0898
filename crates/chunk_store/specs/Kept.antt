-- What the map of a plain array keeps.
use Rattle.std.specs.Prelude.{◌≡◌, ℕ, List, Bool, true, false, cond, Option, Some, None}
use Rattle.std.specs.BTreeMap.{BTreeMap}
use Rattle.std.specs.declared.vec.Vec.{Vec}
use Rattle.std.specs.declared.alloc.Global.{Global}
use Rattle.hdf_types.specs.Elems.{Elem}
use Rattle.hdf_types.specs.Reading.{size_of}
use Rattle.hdf_types.specs.Types.{IsSoundType}
use Rattle.hdf_values.specs.Elements.{IsEncoded, bytes_of, zero_of}
use Rattle.shapes.specs.declared.Shape.{Shape}
use Rattle.shapes.specs.Shapes.{IsSound, LiesIn, dims_of}
use Rattle.chunk_layout.specs.Layouts.{Fits}
use Rattle.chunk_store.specs.Cells.{has, value_in}

-- the fill, where one was given
abbrev pub given_fill : Bool → List ℕ → Option (List ℕ)
given_fill given blank = cond given (Some blank) None

pub record IsKept (e : Elem) (s : Shape) (chunk : List ℕ) (given : Bool) (blank : List ℕ) (size : ℕ) (cells : BTreeMap (List ℕ) (Vec ℕ Global)) : Type 0 where
  pub kind : IsSoundType e
  pub shape : IsSound s
  pub layout : Fits (size_of e) (dims_of s) chunk
  pub sized : size ≡ size_of e
  pub unwritten : given ≡ false → blank ≡ bytes_of e (zero_of e)
  pub blank_encoded : IsEncoded e blank
  pub encoded : (q : List ℕ) → IsEncoded e (value_in cells blank q)
  pub inside : (q : List ℕ) → has cells q ≡ true → LiesIn q s
