use Rattle.object_acts.proofs.OfArrays.LawLemmas.{points_back, spelled_inside}
use Rattle.object_acts.proofs.arrays.laws.points_read_back.Goals as goal

pub returns : goal.returns
returns c = λ g points d ps whole spelled once fits done.
    points_back g points d ps whole ((c.points_or_fault.ensures.spelled points g.shape ps).0 spelled) (spelled_inside points g.shape ps spelled) once fits done
