use Rattle.hdf_values.proofs.RowLemmas.{element_found, value_found}
use Rattle.hdf_values.proofs.ListLemmas.{list_decoded, list_read}
use Rattle.hdf_values.proofs.laws.values_in_rows.Goals as goal

pub returns-clause-nested : goal.returns-clause-nested
returns-clause-nested c = λ e dims coords bs h k. element_found e dims coords bs h.whole k

pub returns-clause-shaped : goal.returns-clause-shaped
returns-clause-shaped c = value_found

pub returns-clause-points : goal.returns-clause-points
returns-clause-points c = list_decoded

pub returns-clause-read : goal.returns-clause-read
returns-clause-read c = list_read
