use Rattle.std.proofs.Common.{ℕ, Ok, subst}
use Rattle.serde_json.specs.View.{view}
use Rattle.shapes.specs.Shapes.{dims_of}
use Rattle.chunk_layout.specs.Asked.{IsAnswer, asked_of}
use Rattle.object_ops.proofs.OfCreation.CreationLemmas.{chunk_answered}
use Rattle.object_ops.proofs.creation.reading.layout_in.Goals as goal

pub returns-clause-first : goal.returns-clause-first
returns-clause-first c =
    let dims = dims_of c.args.shape.now in
    chunk_answered _ dims _ c.in_ok-read_layout.field-0
    (subst (λ (n : ℕ). IsAnswer dims n (asked_of (view c.args.tree.now) dims n) (Ok c.in_ok-read_layout.field-0)) c.size.ensures c.in_ok-read_layout.ensures.first)
