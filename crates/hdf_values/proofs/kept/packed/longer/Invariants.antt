use Rattle.std.proofs.Common.{◌≡◌, ◌++◌, ◌∷◌, drop}
use Rattle.hdf_values.proofs.kept.packed.longer.Given as goal

-- with the extents that are left there will be all
abbrev pub invariant-loop-n : goal.invariant-loop-n
invariant-loop-n l = record {
  items : l.n-items ≡ l.extents;
  all : l.more ++ drop l.n-index l.n-items ≡ l.extent ∷ l.extents;
}
