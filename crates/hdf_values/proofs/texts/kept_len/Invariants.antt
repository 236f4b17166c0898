-- What is behind fills up.
use Rattle.std.proofs.Common.{◌≡◌, ◌≤◌, length, take}
use Rattle.hdf_values.specs.Texts.{without_end}
use Rattle.hdf_values.proofs.texts.kept_len.Given as goal

abbrev pub invariant-loop-len : goal.invariant-loop-len
invariant-loop-len l = record {
  within : l.len ≤ length l.bytes;
  front : without_end l.fill (take l.len l.bytes) ≡ without_end l.fill l.bytes;
}

abbrev pub decreases-loop-len : goal.decreases-loop-len
decreases-loop-len l = l.len
