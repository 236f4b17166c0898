use Rattle.std.proofs.Common.{ap, ◌∙◌}
use Rattle.std.specs.FinMap.{remove}
use Rattle.register.proofs.Marking.{one_less}
use Rattle.register.proofs.marks.Marks.take_back.Goals as goal

pub invariant_of-self : goal.invariant_of-self
invariant_of-self c = one_less c.self.inside.paths c.args.path.now c.self.invariant c.remove.new.self (c.remove.ensures.rest ∙ ap (remove c.self.inside.paths) c.text.ensures.value)
