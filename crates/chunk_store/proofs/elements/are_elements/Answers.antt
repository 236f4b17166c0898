use Rattle.std.proofs.Common.{◌/◌, length, eq-eqb, eqb-true, ap, ◌∙◌, arith}
use Rattle.hdf_types.specs.Views.{elem as kind_of}
use Rattle.hdf_values.proofs.PieceLemmas.{some_size}
use Rattle.chunk_store.proofs.ChunkLemmas.{as_many}
use Rattle.chunk_store.proofs.elements.are_elements.Goals as goal

pub nonzero_div-number : goal.nonzero_div-number
nonzero_div-number c = omega (arith, some_size (kind_of c.args.elem.now) c.requires.formed, c.size.ensures)

pub returns-else-number-many : goal.returns-else-number-many
returns-else-number-many c = (
  λ told. absurd (c.if-number-many.false (eqb-true (length c.args.bytes.now / c.size.result) c.args.many told)),
  λ enc. eq-eqb (length c.args.bytes.now / c.size.result) c.args.many (ap (λ n. length c.args.bytes.now / n) c.size.ensures ∙ as_many (kind_of c.args.elem.now) c.args.many c.args.bytes.now c.requires.formed enc),
)
