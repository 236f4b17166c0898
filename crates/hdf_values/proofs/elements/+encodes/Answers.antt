-- What passes the test of a whole number is one of the type.
use Rattle.std.proofs.Common.{ap}
use Rattle.serde_json.specs.View.{view}
use Rattle.hdf_types.specs.Views.{elem}
use Rattle.hdf_values.proofs.EncodedLemmas.{int_fits}
use Rattle.hdf_values.proofs.elements.+encodes.Goals as goal

pub encode_part-returns-in-Int-clause-fits : goal.encode_part-returns-in-Int-clause-fits
encode_part-returns-in-Int-clause-fits t c =
    int_fits (elem c.args.kind.now) c.in-Int.int (view c.args.tree.now) c.encode_int.result c.encode_int.new.out (ap elem c.in-Int.is) c.encode_int.ensures.exact
