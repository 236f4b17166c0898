-- A text that is read from a source.
use Rattle.std.specs.Prelude.{◌≡◌, ℕ, ◌<◌, ◌≤◌, List, ◌++◌, length, Option}
use Rattle.std.specs.Io.KnownBytes.{Consumes, IsAtEnd}

-- the text is all that the source had, and within the limit
pub record IsWholeText (most : ℕ) (old new : Option (List ℕ)) (text : List ℕ) : Type 0 where
  pub taken : Consumes old new text
  pub end : IsAtEnd new
  pub within : length text ≤ most

-- the source had more than the limit
abbrev pub IsLongText : ℕ → Option (List ℕ) → Option (List ℕ) → Type 0
IsLongText most old new = (front : List ℕ) × Consumes old new front × (most < length front)

-- no more was done than that some bytes were taken from the front
abbrev pub IsTaken : Option (List ℕ) → Option (List ℕ) → Type 0
IsTaken old new = (front : List ℕ) × Consumes old new front

-- n bytes moved from the source to the end of the text; none is its end
abbrev pub Gained : Option (List ℕ) → Option (List ℕ) → List ℕ → List ℕ → ℕ → Type 0
Gained old new before now n =
    (bytes : List ℕ) × (length bytes ≡ n) × (now ≡ before ++ bytes) × Consumes old new bytes × (n ≡ 0 → IsAtEnd new)
