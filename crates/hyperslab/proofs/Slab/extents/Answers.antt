-- The division counts the numbers that are selected.
use Rattle.std.proofs.Common.{◌∙◌}
use Rattle.hyperslab.specs.Selected.{axes_of}
use Rattle.hyperslab.proofs.SelectLemmas.{on_counts}
use Rattle.hyperslab.proofs.Slab.extents.Goals as goal

pub returns-clause-counted : goal.returns-clause-counted
returns-clause-counted c = c.extents_of.ensures ∙ on_counts (axes_of c.args.self.now) c.requires.sound
