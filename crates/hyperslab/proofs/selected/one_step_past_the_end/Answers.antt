-- Cells by what their axes select.
use Rattle.hyperslab.proofs.AlikeLemmas.{cells_alike}
use Rattle.hyperslab.proofs.selected.one_step_past_the_end.Goals as goal

pub returns : goal.returns
returns c = cells_alike
