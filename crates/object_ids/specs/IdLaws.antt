-- What holds of the texts of all ids.
use Rattle.std.specs.Prelude.{◌≡◌}
use Rattle.containers.specs.TextMaps.Keyed.{text_order}
use Rattle.object_ids.specs.IdOrder.{id_order}
use Rattle.object_ids.specs.Ids.{InRange, text_of_id}
use Rattle.object_ids.specs.IdValues.{Id}

-- within a kind, the texts of ids stand in the order of the ids
abbrev pub TextsInOrder : Type 0
TextsInOrder = (a b : Id) → InRange a → InRange b → a.kind ≡ b.kind → text_order (text_of_id a) (text_of_id b) ≡ id_order a b

-- no two ids have one text
abbrev pub OneIdEachText : Type 0
OneIdEachText = (a b : Id) → InRange a → InRange b → text_of_id a ≡ text_of_id b → a ≡ b
