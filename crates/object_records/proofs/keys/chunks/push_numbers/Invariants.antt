use Rattle.std.proofs.Common.{◌≡◌, ◌++◌, drop}
use Rattle.object_records.specs.Keys.Numbers.{number_bytes}
use Rattle.object_records.proofs.keys.chunks.push_numbers.Given as goal

-- what is written so far, in front of what is left
abbrev pub invariant-loop-n : goal.invariant-loop-n
invariant-loop-n l = l.key.items ++ number_bytes (drop l.n-index l.numbers) ≡ l.fn.key.items ++ number_bytes l.numbers
