use Rattle.std.proofs.Common.{rules}
use Rattle.shapes.specs.Shapes.{dims_of}
use Rattle.chunk_store.specs.Truncation.{IsTruncated}
use Rattle.chunk_store.proofs.EntryLemmas.{callable, each_changed}
use Rattle.chunk_store.proofs.TruncationLemmas.{all_cells, all_flags, all_full, ready_to_truncate}
use Rattle.chunk_store.proofs.truncating.truncate.Goals as goal

pub retain-requires : goal.retain-requires
retain-requires c = callable _ (λ f k v b w f' t. search rules) _ _ c.args.chunks.now.entries c.len-many.ensures.ordered (λ k v found p q p_is q_is.
    let ready = ready_to_truncate c.args.chunks.now c.args.frame.now c.args.old.now c.args.new.now c.requires.frame c.requires.full c.requires.indexes c.requires.sound c.requires.ranks c.requires.resized k p.now v q.now found p_is q_is in
    search (rules, ready))

pub returns-clause-full : goal.returns-clause-full
returns-clause-full c =
    let m = c.args.chunks.now in
    let f = c.args.frame.now in
    let old = c.args.old.now in
    let new = c.args.new.now in
    all_full m c.retain.new.self f old new (each_changed _ (IsTruncated f (dims_of old) new) _ (λ k v b w f' t. search rules) m.entries c.retain.new.self.entries c.retain.ensures.filtered)

pub returns-clause-flags : goal.returns-clause-flags
returns-clause-flags c =
    let m = c.args.chunks.now in
    let f = c.args.frame.now in
    let old = c.args.old.now in
    let new = c.args.new.now in
    all_flags m c.retain.new.self f old new (each_changed _ (IsTruncated f (dims_of old) new) _ (λ k v b w f' t. search rules) m.entries c.retain.new.self.entries c.retain.ensures.filtered)

pub returns-clause-cells : goal.returns-clause-cells
returns-clause-cells c =
    let m = c.args.chunks.now in
    let f = c.args.frame.now in
    let old = c.args.old.now in
    let new = c.args.new.now in
    all_cells m c.retain.new.self f old new c.requires.frame c.requires.sound c.requires.ranks c.requires.resized c.requires.indexes c.requires.outside
    (each_changed _ (IsTruncated f (dims_of old) new) _ (λ k v b w f' t. search rules) m.entries c.retain.new.self.entries c.retain.ensures.filtered)
