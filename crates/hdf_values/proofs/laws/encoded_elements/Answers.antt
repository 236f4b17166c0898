-- What holds of elements one after another.
use Rattle.hdf_values.proofs.PieceLemmas.{encoded_each, no_element, one_element, joined_encoded, gathered_encoded, sliced_encoded, element_replaced, replaced_encoded, decoded_fits}
use Rattle.hdf_values.proofs.laws.encoded_elements.Goals as goal

pub returns-clause-each : goal.returns-clause-each
returns-clause-each c = encoded_each

pub returns-clause-none : goal.returns-clause-none
returns-clause-none c = no_element

pub returns-clause-one : goal.returns-clause-one
returns-clause-one c = one_element

pub returns-clause-joined : goal.returns-clause-joined
returns-clause-joined c = joined_encoded

pub returns-clause-gathered : goal.returns-clause-gathered
returns-clause-gathered c = gathered_encoded

pub returns-clause-slice : goal.returns-clause-slice
returns-clause-slice c = sliced_encoded

pub returns-clause-replaced : goal.returns-clause-replaced
returns-clause-replaced c = element_replaced

pub returns-clause-all_replaced : goal.returns-clause-all_replaced
returns-clause-all_replaced c = replaced_encoded

pub returns-clause-fits : goal.returns-clause-fits
returns-clause-fits c = λ e bs s h. decoded_fits e bs s h
