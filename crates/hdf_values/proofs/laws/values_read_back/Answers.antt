use Rattle.hdf_values.proofs.ElementLemmas.{length-bytes_of, decoded-bytes_of, normal_fits, bytes_of-normal, zero_fits}
use Rattle.hdf_values.proofs.laws.values_read_back.Goals as goal

pub returns-clause-size : goal.returns-clause-size
returns-clause-size c = λ e d s h. length-bytes_of e d s.formed h

pub returns-clause-back : goal.returns-clause-back
returns-clause-back c = λ e d s h. decoded-bytes_of e d s.formed h

pub returns-clause-again : goal.returns-clause-again
returns-clause-again c = λ e d s h. (normal_fits e d h, bytes_of-normal e d h)

pub returns-clause-zero : goal.returns-clause-zero
returns-clause-zero c = λ e s. zero_fits e s.formed
