use Rattle.hdf_values.proofs.JoinLemmas.{joined_piece, joined_whole}
use Rattle.hdf_values.proofs.laws.pieces_of_joins.Goals as goal

pub returns-clause-joined : goal.returns-clause-joined
returns-clause-joined c = λ _ f xs none k i h q. joined_piece k i f xs none h q

pub returns-clause-whole : goal.returns-clause-whole
returns-clause-whole c = λ _ f xs none k bs len each. joined_whole k f xs none bs len each
