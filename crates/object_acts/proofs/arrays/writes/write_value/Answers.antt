use Rattle.std.proofs.Common.{sym, ap, subst}
use Rattle.object_ops.specs.declared.ops.Part.{Part}
use Rattle.object_acts.specs.Arrays.Marked.{AddsFew, cells_in}
use Rattle.object_acts.specs.Arrays.Writes.{region_of}
use Rattle.object_acts.proofs.arrays.writes.write_value.Goals as goal

pub returns-in-Slab-clause-few : goal.returns-in-Slab-clause-few
returns-in-Slab-clause-few c = λ done.
    let same = ap (λ (p : Part). region_of p c.args.array.now.grid.shape) c.in-Slab.is in
    subst (λ r. AddsFew c.args.array.now (cells_in r)) (sym same) (c.write_lists.ensures.few done)
