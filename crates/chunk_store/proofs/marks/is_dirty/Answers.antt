use Rattle.std.proofs.Common.{option_map, sym, ap}
use Rattle.chunk_store.specs.Marks.{flagged}
use Rattle.chunk_store.proofs.BufferLemmas.{found_in}
use Rattle.chunk_store.proofs.marks.is_dirty.Goals as goal

pub returns-in-Some : goal.returns-in-Some
returns-in-Some c = sym (ap (λ o. flagged (option_map (λ h. h.dirty) o)) (found_in c.args.chunks.now c.args.index.now _ c.in-Some.ensures.value))

pub returns-in-None : goal.returns-in-None
returns-in-None c = sym (ap (λ o. flagged (option_map (λ h. h.dirty) o)) (found_in c.args.chunks.now c.args.index.now _ c.in-None.ensures.value))
