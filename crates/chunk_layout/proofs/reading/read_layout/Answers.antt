-- The tests agree with the relation.
use Rattle.std.proofs.lemmas.Result.{IfOk-weaker}
use Rattle.serde_json.specs.View.{view}
use Rattle.shapes.specs.Shapes.{dims_of}
use Rattle.chunk_layout.specs.declared.Layout.{Layout}
use Rattle.chunk_layout.specs.Chunks.{IsChunk}
use Rattle.chunk_layout.specs.Layouts.{SpellsChunk, Fits}
use Rattle.chunk_layout.proofs.DefaultLemmas.{fits_chunk}
use Rattle.chunk_layout.proofs.LayoutLemmas.{answer_told, answer_only, spells_fits}
use Rattle.chunk_layout.proofs.reading.read_layout.Goals as goal

pub returns-clause-spelled : goal.returns-clause-spelled
returns-clause-spelled c = answer_told (view c.args.properties.now) (dims_of c.args.shape.now) c.args.size c.first_of.result c.first_of.ensures

pub returns-clause-only : goal.returns-clause-only
returns-clause-only c = λ chunk h. answer_only (view c.args.properties.now) (dims_of c.args.shape.now) c.args.size chunk c.first_of.result c.first_of.ensures h

pub returns-clause-fits : goal.returns-clause-fits
returns-clause-fits c =
    let d = view c.args.properties.now in
    let P = λ (layout : Layout). SpellsChunk d (dims_of c.args.shape.now) c.args.size layout.chunk in
    let Q = λ (layout : Layout). Fits c.args.size (dims_of c.args.shape.now) layout.chunk in
    IfOk-weaker c.first_of.result P Q (λ layout h. spells_fits d c.args.shape.now c.args.size layout.chunk c.requires h) (answer_told d (dims_of c.args.shape.now) c.args.size c.first_of.result c.first_of.ensures)

pub returns-clause-chunk : goal.returns-clause-chunk
returns-clause-chunk c = λ some.
    let d = view c.args.properties.now in
    let P = λ (layout : Layout). SpellsChunk d (dims_of c.args.shape.now) c.args.size layout.chunk in
    let Q = λ (layout : Layout). IsChunk layout.chunk in
    IfOk-weaker c.first_of.result P Q (λ layout h. fits_chunk c.args.size c.args.shape.now layout.chunk c.requires (spells_fits d c.args.shape.now c.args.size layout.chunk c.requires h) some) (answer_told d (dims_of c.args.shape.now) c.args.size c.first_of.result c.first_of.ensures)
