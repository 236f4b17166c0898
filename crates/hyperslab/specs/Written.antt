-- A selection written out as a text.
use Rattle.std.specs.Prelude.{ℕ, List, [], ◌∷◌, ◌++◌}
use Rattle.std.specs.Fmt.{decimal}
use Rattle.hyperslab.specs.declared.Slab.{Slab}
use Rattle.hyperslab.specs.Selected.{Axis, axes_of}

-- `start:stop:step`
abbrev pub written_axis : Axis → List ℕ
written_axis x = decimal x.lo ++ 58 ∷ (decimal x.hi ++ 58 ∷ decimal x.by)

-- with commas between the axes
abbrev pub written_axes : List Axis → List ℕ
written_axes [] = []
written_axes (x ∷ []) = written_axis x
written_axes (x ∷ (y ∷ ys)) = written_axis x ++ 44 ∷ written_axes (y ∷ ys)

-- in brackets
abbrev pub written : Slab → List ℕ
written s = 91 ∷ (written_axes (axes_of s) ++ 93 ∷ [])
