-- The links of a group.
use Rattle.std.specs.Prelude.{◌≡◌, ◌≤◌, ℕ, List, true, Some}
use Rattle.std.specs.FinMap.{FinMap, get, len}
use Rattle.object_ids.specs.Names.{is_name}
use Rattle.containers.specs.TextMaps.Keyed.{text_order}
use Rattle.groups_links.specs.Targets.{IsSoundLink}
use Rattle.groups_links.specs.Titles.{IsGoodTitle, most_of_title}
use Rattle.groups_links.specs.declared.target.LinkTo.{LinkTo}

-- the most links of a group
abbrev pub most_links : ℕ
most_links = 65536

abbrev pub Titles : Type 0
Titles = FinMap text_order LinkTo

-- what holds of the links of each group: how many there are, and that each title and each link can be read again
pub record AreLinks (links : FinMap text_order LinkTo) : Type 0 where
  pub few : len links ≤ most_links
  pub titled : (title : List ℕ) (link : LinkTo) → get links title ≡ Some link → IsGoodTitle title
  pub named : (title : List ℕ) (link : LinkTo) → get links title ≡ Some link → is_name most_of_title title ≡ true
  pub sound : (title : List ℕ) (link : LinkTo) → get links title ≡ Some link → IsSoundLink link
