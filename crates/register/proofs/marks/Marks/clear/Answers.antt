use Rattle.register.proofs.Marking.{none_marked}
use Rattle.register.proofs.marks.Marks.clear.Goals as goal

pub invariant_of-self : goal.invariant_of-self
invariant_of-self c = none_marked c.new.result c.new.ensures
