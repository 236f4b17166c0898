-- A tree that nests is read as its bytes, and these stand for it.
use Rattle.hdf_values.proofs.NestedLemmas.{nested_read, nested_back, nested_fits}
use Rattle.hdf_values.proofs.RowLemmas.{in_rows, row_bytes}
use Rattle.hdf_values.proofs.ExactlyLemmas.{exactly_nested}
use Rattle.hdf_values.proofs.laws.nested_or_fault.Goals as goal

pub returns-clause-value : goal.returns-clause-value
returns-clause-value c = nested_read

pub returns-clause-fault : goal.returns-clause-fault
returns-clause-fault c e dims p d f h k = cc (nested_read e dims p d k)

pub returns-clause-back : goal.returns-clause-back
returns-clause-back c = nested_back

pub returns-clause-rows : goal.returns-clause-rows
returns-clause-rows c = in_rows

pub returns-clause-bytes : goal.returns-clause-bytes
returns-clause-bytes c = row_bytes

pub returns-clause-fits : goal.returns-clause-fits
returns-clause-fits c = nested_fits

pub returns-clause-texts : goal.returns-clause-texts
returns-clause-texts c = exactly_nested
