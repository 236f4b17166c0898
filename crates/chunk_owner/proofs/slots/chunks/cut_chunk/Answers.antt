use Rattle.std.proofs.Common.{ℕ, List, ◌<◌, ◌∙◌, length, sym, subst}
use Rattle.chunk_owner.proofs.OfSlots.KeyFacts.{short_chunk_key}
use Rattle.chunk_owner.proofs.slots.chunks.cut_chunk.Goals as goal

pub add_record-requires-clause-short_key : goal.add_record-requires-clause-short_key
add_record-requires-clause-short_key c =
    subst (λ (key : List ℕ). length key < 65536) (sym (c.as_slice.ensures.value ∙ c.in_ok-key.ensures.key)) (short_chunk_key c.args.id.now c.args.index.now c.in_ok-key.ensures.chunk.numbers)
