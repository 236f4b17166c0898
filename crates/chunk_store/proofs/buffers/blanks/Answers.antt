use Rattle.std.proofs.Common.{◌≡◌, ℕ, ◌<◌, length, sym, ◌∙◌, ap, subst, arith, List}
use Rattle.std.proofs.lemmas.List.{with_items_is}
use Rattle.hdf_values.specs.Nested.{piece_at}
use Rattle.shapes.specs.RowMajor.{cell_count}
use Rattle.chunk_store.proofs.BufferLemmas.{all_blank}
use Rattle.chunk_store.proofs.buffers.blanks.Goals as goal

pub returns-clause-each : goal.returns-clause-each
returns-clause-each c =
    let f = c.args.frame.now in
    let size : length c.copy_strided.new.out ≡ c.in_ok-bytes.bytes.len = omega (arith, c.copy_strided.ensures.len, ap length c.as_mut_slice.ensures.value, c.in_ok-bytes.bytes.ok.0) in
    let items = with_items_is c.in_ok-bytes.bytes c.copy_strided.new.out size in
    subst (λ (bs : List ℕ). (k : ℕ) → k < cell_count f.layout.chunk → piece_at f.size k bs ≡ f.blank.items) (sym items)
    (λ k h. all_blank c.cell_number-many.result f.size c.as_slice-blank.result.now c.copy_strided.new.out (ap length c.as_slice-blank.ensures.value ∙ c.requires.blank) c.copy_strided.ensures.copied k (omega (arith, h, c.cell_number-many.ensures)) ∙ c.as_slice-blank.ensures.value)
