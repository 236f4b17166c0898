-- What is left decides.
use Rattle.std.proofs.Common.{◌≡◌, nat_eq, drop}
use Rattle.std.specs.List.{list_any}
use Rattle.hdf_values.proofs.texts.has_nul.Given as goal

abbrev pub invariant-loop-byte : goal.invariant-loop-byte
invariant-loop-byte l = list_any (λ b. nat_eq b 0) (drop l.byte-index l.bytes) ≡ list_any (λ b. nat_eq b 0) l.bytes
