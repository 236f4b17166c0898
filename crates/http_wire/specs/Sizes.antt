-- The search for an only value.
use Rattle.std.specs.Prelude.{ℕ, List, ◌∷◌, Option, Some, None, Result, Ok, Err}
use Rattle.std.proofs.Common.{Bor}
use Rattle.std.specs.Option.{option_copied}
use Rattle.http_wire.specs.declared.message_fault.MessageFault.{MessageFault}

-- a borrowed value as plain bytes
abbrev pub copied : Result (Option (Bor (List ℕ))) MessageFault → Result (Option (List ℕ)) MessageFault
copied (Ok found) = Ok (option_copied found)
copied (Err fault) = Err fault

-- a value that was found, in front of those that are left
abbrev pub before : Option (List ℕ) → List (List ℕ) → List (List ℕ)
before None values = values
before (Some value) values = value ∷ values
