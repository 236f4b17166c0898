use Rattle.serde_json.specs.View.{view}
use Rattle.hdf_types.specs.Reading.{type_of}
use Rattle.request_bodies.proofs.MakeLemmas.{class_answers}
use Rattle.request_bodies.proofs.makes.type_of.Goals as goal

pub returns-in-Err-clause-exact : goal.returns-in-Err-clause-exact
returns-in-Err-clause-exact c =
    rw (c.class_of.ensures.exact, c.in-Some.is) (class_answers c.in-Err.fault (type_of (view c.in-Some.tree.now)) c.in-Err.ensures.first)
