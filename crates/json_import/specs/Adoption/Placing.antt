-- Objects that are put into the domain of a number, one after another, each at the next serial.
use Rattle.std.specs.Prelude.{ℕ, List, [], ◌∷◌}
use Rattle.std.specs.FinMap.{insert}
use Rattle.object_ids.specs.IdValues.{Id}
use Rattle.object_ids.specs.declared.ids.Kind.{Kind}
use Rattle.object_acts.specs.Objects.{kind_of_body}
use Rattle.object_acts.specs.declared.objects.Object.{Object}
use Rattle.register.specs.Decided.{RegisterState}
use Rattle.service_core.specs.Steps.{World}
use Rattle.json_import.specs.Adoption.Adopted.{drawn}

abbrev pub next_id : RegisterState → ℕ → Kind → Id
next_id d number kind = record { kind = kind; domain = number; run = d.run; serial = d.serial }

abbrev pub placed : ℕ → World → Object → World
placed number w o = record { register = drawn w.register 1; objects = insert w.objects (next_id w.register number (kind_of_body o.body)) o }

abbrev pub placed_each : ℕ → World → List Object → World
placed_each number w [] = w
placed_each number w (o ∷ os) = placed_each number (placed number w o) os
