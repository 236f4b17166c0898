use Rattle.std.proofs.Common.{◌≡◌, ◌+◌, ℕ, ℤ, List, [], ◌∷◌}
use Rattle.json.specs.Token.{Token, number as number_token}
use Rattle.hdf_values.specs.Packed.{PacksItems}
use Rattle.hdf_values.proofs.kept.packed.read_row.Given as goal

-- what ends the row well from here ends it well from its first number
abbrev pub invariant-loop-got : goal.invariant-loop-got
invariant-loop-got l =
    (most count more : ℕ) (rest : List Token) (new : List ℤ) → count ≡ l.got + more → PacksItems most l.reader [] more l.numbers new rest
    → PacksItems most (number_token l.first ∷ l.fn.reader) [] count l.fn.numbers new rest
