-- The links of a group of a document: a finite map from titles.
use Rattle.std.specs.Prelude.{◌≡◌, ◌≤◌, ℕ, List, Some}
use Rattle.std.specs.FinMap.{FinMap, get, len}
use Rattle.containers.specs.TextMaps.Keyed.{text_order}
use Rattle.groups_links.specs.GroupLinks.{most_links}
use Rattle.groups_links.specs.Targets.{IsText}
use Rattle.groups_links.specs.Titles.{IsGoodTitle}
use Rattle.documents.specs.declared.parts.targets.Target.{Target}
use Rattle.documents.specs.declared.parts.targets.Target.TheVariants.{Hard, Soft, External}

abbrev pub TargetMap : Type 0
TargetMap = FinMap text_order Target

-- a path and a file are names that a link may have
abbrev pub IsSoundTarget : Target → Type 0
IsSoundTarget (Hard id) = Unit {0}
IsSoundTarget (Soft path) = IsText path
IsSoundTarget (External path file) = IsText path × IsText file

-- what holds of the links of each group
pub record AreTargets (links : TargetMap) : Type 0 where
  pub few : len links ≤ most_links
  pub titled : (title : List ℕ) (target : Target) → get links title ≡ Some target → IsGoodTitle title
  pub sound : (title : List ℕ) (target : Target) → get links title ≡ Some target → IsSoundTarget target
