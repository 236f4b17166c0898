use Rattle.std.proofs.Common.{◌/◌, length, sym, ap, subst, ◌∙◌, arith}
use Rattle.hdf_types.specs.Views.{elem as kind_of}
use Rattle.hdf_values.specs.Nested.{AreEncoded}
use Rattle.hdf_values.proofs.PieceLemmas.{some_size}
use Rattle.chunk_store.specs.Marks.{Stored}
use Rattle.chunk_store.proofs.ChunkLemmas.{as_many}
use Rattle.chunk_store.proofs.array.Array.elements_in.Goals as goal

pub nonzero_div-result : goal.nonzero_div-result
nonzero_div-result c =
    let a = c.self.inside in
    omega (arith, some_size (kind_of a.elem) c.self.invariant.0.kind.formed, c.self.invariant.0.sized)

pub returns : goal.returns
returns c = λ many enc.
    let a = c.self.inside in
    ap (λ n. length c.args.bytes.now / n) c.self.invariant.0.sized
    ∙ as_many (kind_of a.elem) many c.args.bytes.now c.self.invariant.0.kind.formed (subst (λ (s : Stored). AreEncoded s.grid.kind many c.args.bytes.now) (sym c.self.view_is) enc)
