use Rattle.std.proofs.Common.{◌≤◌, ◌+◌, ℕ, sym, subst, ◌∙◌}
use Rattle.hdf_values.specs.Nested.{AreEncoded}
use Rattle.shapes.specs.Shapes.{count_of}
use Rattle.chunk_store.proofs.PickLemmas.{cells_from_length}
use Rattle.chunk_store.proofs.array.Array.write_places.Goals as goal

pub write-requires-clause-encoded : goal.write-requires-clause-encoded
write-requires-clause-encoded c =
    let same = c.elements_in-many.ensures c.requires.0 c.requires.2 in
    let there = subst (λ (n : ℕ). c.args.from + n ≤ count_of c.args.self.now.grid.shape) (sym same) c.requires.1 in
    subst (λ (n : ℕ). AreEncoded c.args.self.now.grid.kind n c.args.bytes.now) (sym same ∙ cells_from_length c.args.from c.elements_in-many.result c.args.self.now.grid.shape there) c.requires.2
