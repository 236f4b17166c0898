-- Few cells in all, so small extents.
use Rattle.std.proofs.Common.{◌≤◌, length, arith}
use Rattle.hyperslab.proofs.SelectLemmas.{within_self, below_room}
use Rattle.hyperslab.proofs.selected.grid.Goals as goal

pub returns-else-rank-eq0-clause-sound : goal.returns-else-rank-eq0-clause-sound
returns-else-rank-eq0-clause-sound c =
    let some : 1 ≤ length c.args.extents = omega arith in
    record {
      fitting = record { some_axis = some; few_axes = c.requires.rank; within = within_self c.args.extents; room = omega (arith, c.requires.room) };
      small_dims = λ k d h. omega (arith, below_room c.args.extents k d h, c.requires.room);
      small_limits = λ k d h. omega (arith, below_room c.args.extents k d h, c.requires.room);
    }
