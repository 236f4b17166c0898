use Rattle.register.proofs.Marking.{none_marked}
use Rattle.register.proofs.marks.Marks.all.Goals as goal

pub invariant_of-result : goal.invariant_of-result
invariant_of-result c = none_marked c.new.result c.new.ensures
