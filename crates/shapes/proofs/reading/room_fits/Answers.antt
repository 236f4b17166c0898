-- The cap stands above the most cells.
use Rattle.std.proofs.Common.{ap, ◌∙◌, nat_le}
use Rattle.shapes.specs.declared.TheConstants.{MAX_CELLS}
use Rattle.shapes.specs.RowMajor.{room_of}
use Rattle.shapes.proofs.SpelledLemmas.{cap_hides_none}
use Rattle.shapes.proofs.reading.room_fits.Goals as goal

pub returns : goal.returns
returns c = ap (λ n. nat_le n MAX_CELLS) c.room.ensures ∙ cap_hides_none (room_of c.args.dims.now)
