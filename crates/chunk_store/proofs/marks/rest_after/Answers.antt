use Rattle.std.proofs.Common.{option_map, arith}
use Rattle.chunk_store.proofs.MarkLemmas.{later_all, later_behind}
use Rattle.chunk_store.proofs.marks.rest_after.Goals as goal

pub returns-then-len-clause-same : goal.returns-then-len-clause-same
returns-then-len-clause-same g c = λ test flag. rw (c.in-Some.is, c.entries_from.ensures.from) (later_behind flag test c.in-Some.after.now c.in-Some-first_key_value.least.now c.args.chunks.now.entries (omega (arith, c.len.ensures.count, c.len-in-Some-first_key_value.ensures.count, c.if-len.true)) c.in-Some-first_key_value.ensures.all_from)

pub returns-clause-same : goal.returns-clause-same
returns-clause-same g c = λ test flag. rw c.entries_from-2.ensures.from (later_all flag test (option_map (λ d. d.now) c.args.after) c.args.chunks.now.entries)
