-- The tests in order agree with the relation.
use Rattle.std.proofs.Common.{Result, subst}
use Rattle.serde_json.specs.View.{view}
use Rattle.hdf_types.specs.Elems.{Elem}
use Rattle.hdf_types.specs.Faults.{Fault, Gives}
use Rattle.hdf_types.specs.Views.{elem}
use Rattle.hdf_types.proofs.TypeLemmas.{gives_type, type_read}
use Rattle.hdf_types.proofs.SoundLemmas.{gives_sound}
use Rattle.hdf_types.proofs.reading.read_type.Goals as goal

pub returns-clause-spelled : goal.returns-clause-spelled
returns-clause-spelled c = gives_type c.first_of.result (view c.args.tree.now) c.first_of.ensures

pub returns-clause-only : goal.returns-clause-only
returns-clause-only c = λ e h.
    let P = λ (r : Result Elem Fault). Gives elem c.first_of.result r in
    subst P (type_read (view c.args.tree.now) e h) c.first_of.ensures

pub returns-clause-sound : goal.returns-clause-sound
returns-clause-sound c = gives_sound c.first_of.result (view c.args.tree.now) (gives_type c.first_of.result (view c.args.tree.now) c.first_of.ensures)
