use Rattle.std.proofs.Common.{◌≡◌, ◌+◌, length, ap, ◌∙◌, arith, inl, inr}
use Rattle.std.proofs.lemmas.List.{with_items_is}
use Rattle.hdf_values.specs.Nested.{piece_at}
use Rattle.chunk_store.proofs.stretches.put.Goals as goal

pub returns-clause-put : goal.returns-clause-put
returns-clause-put c = λ j low.
    let size : length c.copy_strided.new.out ≡ c.args.held.now.len = omega (arith, c.copy_strided.ensures.len, ap length c.as_mut_slice.ensures.value, c.args.held.now.ok.0) in
    let first = c.args.stretch.now.offset in
    ap (piece_at c.args.size (first + j)) (with_items_is c.args.held.now c.copy_strided.new.out size)
    ∙ ap (λ n. piece_at c.args.size n c.copy_strided.new.out) (omega arith)
    ∙ c.copy_strided.ensures.copied j low
    ∙ ap (λ n. piece_at c.args.size n c.args.bytes.now) (omega arith)

pub returns-clause-kept : goal.returns-clause-kept
returns-clause-kept c = λ j apart.
    let size : length c.copy_strided.new.out ≡ c.args.held.now.len = omega (arith, c.copy_strided.ensures.len, ap length c.as_mut_slice.ensures.value, c.args.held.now.ok.0) in
    ap (piece_at c.args.size j) (with_items_is c.args.held.now c.copy_strided.new.out size)
    ∙ c.copy_strided.ensures.kept j (λ i low same. elim apart [ inl before ↦ omega (arith, same, before) | inr behind ↦ omega (arith, same, behind, low) ])
    ∙ ap (piece_at c.args.size j) c.as_mut_slice.ensures.value
