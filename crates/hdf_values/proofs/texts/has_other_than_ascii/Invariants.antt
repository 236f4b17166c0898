-- What is left decides.
use Rattle.std.proofs.Common.{◌≡◌, nat_le, drop}
use Rattle.std.specs.List.{list_any}
use Rattle.hdf_values.proofs.texts.has_other_than_ascii.Given as goal

abbrev pub invariant-loop-byte : goal.invariant-loop-byte
invariant-loop-byte l = list_any (λ b. nat_le 128 b) (drop l.byte-index l.bytes) ≡ list_any (λ b. nat_le 128 b) l.bytes
