-- A tree that may be lent, seen as data.
use Rattle.std.specs.Prelude.{Option, option_map}
use Rattle.std.specs.Borrow.{Bor}
use Rattle.serde_json.specs.Data.{Data}
use Rattle.serde_json.specs.View.{view}
use Rattle.serde_json.specs.declared.value.Value.{Value}

abbrev pub shown : Option (Bor Value) → Option Data
shown tree = option_map (λ v. view v.now) tree
