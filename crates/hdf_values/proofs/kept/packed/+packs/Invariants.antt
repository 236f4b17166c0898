use Rattle.std.proofs.Common.{◌≡◌, ◌+◌, ◌*◌, ℕ, ℤ, List, ◌∷◌}
use Rattle.json.specs.Token.{Token, begin_array}
use Rattle.hdf_values.specs.Packed.{PacksItems}
use Rattle.hdf_values.proofs.kept.packed.+packs.Given as goal

abbrev pub decreases-read_list : goal.decreases-read_list
decreases-read_list l = 2 * l.depth

abbrev pub decreases-read_lists : goal.decreases-read_lists
decreases-read_lists l = 2 * l.depth + 1

-- what ends the list well from here ends it well from its first list
abbrev pub invariant-read_lists-loop-got : goal.invariant-read_lists-loop-got
invariant-read_lists-loop-got l =
    (count more : ℕ) (rest : List Token) (new : List ℤ) → count ≡ l.got + more → PacksItems l.depth l.reader l.extents more l.numbers new rest
    → PacksItems l.depth (begin_array ∷ l.fn.reader) l.extents count l.fn.numbers new rest
