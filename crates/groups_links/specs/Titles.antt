-- Titles of links.
use Rattle.std.specs.Prelude.{◌≢◌, ◌≤◌, ℕ, List, All, length}

-- the most bytes of a title
abbrev pub most_of_title : ℕ
most_of_title = 255

-- at most so many bytes, and none of them a slash
pub record IsGoodTitle (title : List ℕ) : Type 0 where
  pub short : length title ≤ most_of_title
  pub one_part : All (λ byte. byte ≢ 47) title
