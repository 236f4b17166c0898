use Rattle.std.proofs.Common.{ap, sym, is_some, Some, ◌∙◌}
use Rattle.chunk_store.proofs.AdditionLemmas.{noted_held, noted_new}
use Rattle.chunk_store.proofs.GrowthLemmas.{unheld}
use Rattle.chunk_store.proofs.KeyLemmas.{find-get, find-updated}
use Rattle.chunk_store.proofs.additions.note_new.Goals as goal

pub returns-then-contains_key : goal.returns-then-contains_key
returns-then-contains_key c = noted_held c.args.chunks.now c.args.new.now c.args.index.now (sym (ap is_some (find-get c.args.chunks.now c.args.index.now)) ∙ sym c.contains_key.ensures ∙ c.if-contains_key.true)

pub returns-in-Ok : goal.returns-in-Ok
returns-in-Ok c =
    noted_new c.args.chunks.now c.args.new.now c.insert.new.self c.args.index.now _ (unheld c.args.chunks.now c.args.index.now c.contains_key.result c.contains_key.ensures c.if-contains_key.false) (find-updated c.args.new.now c.insert.new.self c.args.index.now (Some _) c.in-Ok.ensures.updates)
