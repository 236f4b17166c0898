use Rattle.hdf_values.proofs.ExactLemmas.{first_where, first_behind}
use Rattle.hdf_values.proofs.laws.first_fault_is_told.Goals as goal

pub returns-clause-first : goal.returns-clause-first
returns-clause-first c = first_where

pub returns-clause-behind : goal.returns-clause-behind
returns-clause-behind c = first_behind
