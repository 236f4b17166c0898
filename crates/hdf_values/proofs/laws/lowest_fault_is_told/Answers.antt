use Rattle.hdf_values.proofs.LowestLemmas.{lowest_where, value_faultless}
use Rattle.hdf_values.proofs.laws.lowest_fault_is_told.Goals as goal

pub returns-clause-lowest : goal.returns-clause-lowest
returns-clause-lowest c = lowest_where

pub returns-clause-none : goal.returns-clause-none
returns-clause-none c = value_faultless
