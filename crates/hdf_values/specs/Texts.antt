-- Texts of a fixed length.
use Rattle.std.specs.Prelude.{◌≡◌, ◌≢◌, ℕ, ◌-◌, ◌<◌, ◌≤◌, ◌&&◌, not, false, List, [], ◌∷◌, ◌++◌, length, replicate, Option, Some, None, nat_lt, nat_le, nat_eq, if◌then◌else◌}
use Rattle.std.specs.List.{AllByRecursion, list_any}
use Rattle.hdf_types.specs.declared.TextType.{TextType}
use Rattle.hdf_types.specs.declared.Pad.{Pad}
use Rattle.hdf_types.specs.declared.Pad.TheVariants.{NullTerm, NullPad, SpacePad}
use Rattle.hdf_values.specs.declared.faults.Misfit.{Misfit}
use Rattle.hdf_values.specs.declared.faults.Misfit.TheVariants.{TooLong, NotAscii, Nul}

-- the byte that fills up
abbrev pub fill : Pad → ℕ
fill NullTerm = 0
fill NullPad = 0
fill SpacePad = 32

-- how many bytes of a length a text may have
abbrev pub most_of : Pad → ℕ → ℕ
most_of NullTerm len = len - 1
most_of NullPad len = len
most_of SpacePad len = len

abbrev pub IsNoNul : List ℕ → Type 0
IsNoNul s = AllByRecursion (λ b. b ≢ 0) s

-- a text of this type
pub record FitsText (t : TextType) (s : List ℕ) : Type 0 where
  pub short : length s ≤ most_of t.pad t.len
  pub ascii : t.utf8 ≡ false → AllByRecursion (λ b. b < 128) s
  pub no_nul : IsNoNul s

-- the first of the tests that a text fails
unfoldable pub text_misfit : TextType → List ℕ → Option Misfit
text_misfit t s =
    if nat_lt (most_of t.pad t.len) (length s) then Some TooLong
    else (if not t.utf8 && list_any (λ b. nat_le 128 b) s then Some NotAscii
    else (if list_any (λ b. nat_eq b 0) s then Some Nul else None))

-- the bytes of a text, filled up
abbrev pub padded : TextType → List ℕ → List ℕ
padded t s = s ++ replicate (t.len - length s) (fill t.pad)

abbrev pub kept : ℕ → ℕ → List ℕ → List ℕ
kept f b [] = if nat_eq b f then [] else b ∷ []
kept f b (c ∷ rest) = b ∷ c ∷ rest

-- without the bytes at the end that are `f`
abbrev pub without_end : ℕ → List ℕ → List ℕ
without_end f [] = []
without_end f (b ∷ bs) = kept f b (without_end f bs)
