-- Paths: keys and list indexes, joined by slashes.
use Rattle.std.specs.Prelude.{◌≡◌, ℕ, List, ◌++◌, ◌<◌, ◌≤◌, take, codes}
use Rattle.std.specs.Str.{IsCharBoundary}

-- a path, and what stands below it at a key
abbrev pub under : List ℕ → List ℕ → List ℕ
under path key = path ++ codes "/" ++ key

-- the most bytes of a path that a fault shows
abbrev pub most_shown : ℕ
most_shown = 1024

-- at most so many bytes of a path, up to the last end of a character that is there
pub record IsShown (path text : List ℕ) : Type 0 where
  pub end : ℕ
  pub is : text ≡ take end path
  pub within : end ≤ most_shown
  pub whole : IsCharBoundary path end
  pub most : (i : ℕ) → end < i → i ≤ most_shown → ¬ (IsCharBoundary path i)
