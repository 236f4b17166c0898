-- The objects of one kind in a domain, whose ids stand one behind another; for private clauses.
--     IsFirstOf k h id      no id of the kind in the domain comes before this one
--     IsNextOf m h after id      the least id behind one is this; where none is given, none behind it is of that one's kind in the domain
use Rattle.std.specs.Prelude.{◌≡◌, ◌≤◌, false, Option, Some, None}
use Rattle.std.specs.FinMap.{entries}
use Rattle.std.specs.List.{AllByRecursion}
use Rattle.containers.specs.TextMaps.Nexts.{IsKeyStep, left}
use Rattle.object_ids.specs.IdOrder.{id_order}
use Rattle.object_ids.specs.IdValues.{Id}
use Rattle.object_ids.specs.Ids.{InRange}
use Rattle.object_ids.specs.declared.ids.Kind.{Kind}
use Rattle.object_acts.specs.Objects.{Objects}
use Rattle.documents.specs.Domains.Documents.{is_of}
use Rattle.documents.specs.declared.domains.home.Home.{Home}

pub record IsFirstOf (k : Kind) (h : Home) (id : Id) : Type 0 where
  pub kind : id.kind ≡ k
  pub domain : id.domain ≤ h.number
  pub run : id.run ≡ 0
  pub serial : id.serial ≡ 0
  pub range : InRange id

pub record IsStepTo (m : Objects) (after id : Id) : Type 0 where
  pub step : IsKeyStep m (Some after) (Some id)
  pub kind : id.kind ≡ after.kind
  pub range : InRange id

abbrev pub IsNextOf : Objects → Home → Id → Option Id → Type 0
IsNextOf m h after None = AllByRecursion (λ e. is_of after.kind h e.0 ≡ false) (left id_order (Some after) (entries m))
IsNextOf m h after (Some id) = IsStepTo m after id
