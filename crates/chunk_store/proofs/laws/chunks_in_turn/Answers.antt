use Rattle.std.proofs.Common.{inr}
use Rattle.chunk_store.proofs.NextLemmas.{covers_next, covers_end, recorded_cut}
use Rattle.chunk_store.proofs.laws.chunks_in_turn.Goals as goal

pub returns-clause-first : goal.returns-clause-first
returns-clause-first c = λ is_meant. λ i meant. inr tt

pub returns-clause-next : goal.returns-clause-next
returns-clause-next c = covers_next

pub returns-clause-all : goal.returns-clause-all
returns-clause-all c = λ is_meant done after i covers none meant. covers_end is_meant done after covers none i meant

pub returns-clause-recorded : goal.returns-clause-recorded
returns-clause-recorded c = recorded_cut
