use Rattle.std.proofs.Common.{ℕ, subst, sym, IfOk}
use Rattle.hdf_values.specs.Nested.{AreEncoded}
use Rattle.chunk_store.proofs.PickLemmas.{cells_from_length}
use Rattle.chunk_store.proofs.array.Array.read_places.Goals as goal

pub returns-clause-encoded : goal.returns-clause-encoded
returns-clause-encoded c = subst (λ (n : ℕ). IfOk c.read.result (λ v. AreEncoded c.args.self.now.grid.kind n v.items)) (sym (cells_from_length c.args.from c.args.many c.args.self.now.grid.shape c.requires)) c.read.ensures.encoded
