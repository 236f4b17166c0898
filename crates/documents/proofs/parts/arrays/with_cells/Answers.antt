use Rattle.std.proofs.Common.{arith}
use Rattle.shapes.specs.Shapes.{count_of}
use Rattle.documents.proofs.parts.arrays.with_cells.Goals as goal

pub write_places-requires : goal.write_places-requires
write_places-requires c = (count_of c.args.array.grid.shape, omega arith, c.requires.encoded)

-- src/parts/arrays.rt:124:1
pub returns-clause-written : goal.returns-clause-written
returns-clause-written c = c.in_ok-write_places.ensures.done (count_of c.args.array.grid.shape) c.requires.encoded
