-- The order of lists of numbers: by length, then by the numbers from the front.
use Rattle.std.specs.Prelude.{ℕ, List, length}
use Rattle.std.specs.declared.cmp.Ordering.{Ordering}
use Rattle.std.specs.Ordering.{nat_cmp, on, then_cmp}
use Rattle.std.specs.Cmp.Lexicographic.{slice_cmp}

abbrev pub list_order : List ℕ → List ℕ → Ordering
list_order = then_cmp (on length nat_cmp) (slice_cmp nat_cmp)
