use Rattle.hdf_values.proofs.JoinLemmas.{replaced_piece, kept_piece, replaced_length}
use Rattle.hdf_values.proofs.laws.pieces_replaced.Goals as goal

pub returns-clause-inside : goal.returns-clause-inside
returns-clause-inside c = replaced_piece

pub returns-clause-outside : goal.returns-clause-outside
returns-clause-outside c = kept_piece

pub returns-clause-long : goal.returns-clause-long
returns-clause-long c = replaced_length
