use Rattle.std.proofs.Common.{refl}
use Rattle.hdf_types.specs.Printed.{type_tree}
use Rattle.shapes.specs.Printed.{shape_tree}
use Rattle.shapes.specs.declared.printing.Form.TheVariants.{Document}
use Rattle.object_acts.specs.Arrays.Creation.{creation_tree}
use Rattle.documents.specs.Domains.Entries.{cells_tree, dataset_tree}
use Rattle.json_import.proofs.RoundTrips.EntryLemmas.{attributes_again}
use Rattle.json_import.proofs.RoundTrips.PartLemmas.{array_again, kind_again, shape_again}
use Rattle.json_import.proofs.RoundTrips.ValueLemmas.{value_again}
use Rattle.json_import.proofs.round_trips.laws.parts_read_back.Goals as goal

pub returns-clause-types : goal.returns-clause-types
returns-clause-types c = kind_again

pub returns-clause-shapes : goal.returns-clause-shapes
returns-clause-shapes c = shape_again

pub returns-clause-values : goal.returns-clause-values
returns-clause-values c = λ e s read bytes sound is. (value_again e s read bytes sound.formed is).again

pub returns-clause-attributes : goal.returns-clause-attributes
returns-clause-attributes c = attributes_again

pub returns-clause-arrays : goal.returns-clause-arrays
returns-clause-arrays c = λ read attributes g is.
    let printed = dataset_tree attributes (creation_tree g) (shape_tree g.shape Document) (type_tree g.kind) (cells_tree g) in
    array_again c.creation_or_fault.ensures c.reads_of_cells.ensures.back c.cells_have_elements.ensures read printed g is refl refl refl refl
