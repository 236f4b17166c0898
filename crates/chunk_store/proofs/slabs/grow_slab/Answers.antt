use Rattle.std.proofs.Common.{◌≡◌, ◌≤◌, ◌<◌, List, ℕ, refl, ap, ◌∙◌, arith}
use Rattle.hyperslab.specs.Selected.{FitsIn, selected}
use Rattle.chunk_store.specs.Buffers.{IsGrown}
use Rattle.chunk_store.specs.Marks.{touches}
use Rattle.chunk_store.specs.Touched.{touched_at, touched_count}
use Rattle.chunk_store.proofs.ChangeLemmas.{keeps_both}
use Rattle.chunk_store.proofs.TouchLemmas.{same_count, same_at}
use Rattle.chunk_store.proofs.SlabLemmas.{chunk_touched, grow_first, grow_more, held_more, held_done}
use Rattle.chunk_store.proofs.slabs.grow_slab.Goals.{After-add_chunk}
use Rattle.chunk_store.proofs.slabs.grow_slab.Goals as goal

same : (c : After-add_chunk) → c.index-index.result ≡ touched_at c.args.slab.now c.args.frame.now.layout.chunk c.loop-number.number
same c = c.index-index.ensures.same ∙ same_at c.new-touched.result c.args.slab.now c.args.frame.now.layout.chunk c.loop-number.number c.new-touched.ensures.slab c.new-touched.ensures.chunk

grown : (c : After-add_chunk) → (dims : List ℕ) → FitsIn c.args.slab.now dims → IsGrown c.args.chunks.now c.add_chunk.new.chunks c.args.frame.now (selected c.args.slab.now dims)
grown c dims fits =
    let s = c.args.slab.now in
    let f = c.args.frame.now in
    let t = c.new-touched.ensures in
    let low : c.loop-number.number < touched_count c.args.slab.now c.args.frame.now.layout.chunk = omega (arith, c.loop-number-test.true, c.many-number-end.ensures, same_count c.new-touched.result s f.layout.chunk t.slab t.chunk) in
    grow_more c.args.chunks.now c.loop-number.chunks c.add_chunk.new.chunks f (selected s dims) c.index-index.result
    (ap (touches f.layout.chunk (selected s dims)) (same c) ∙ chunk_touched s f.layout.chunk c.loop-number.number c.requires.slab t.touched low dims fits)
    (c.loop-number.invariant.grown dims fits) c.add_chunk.ensures.same c.add_chunk.ensures.full c.add_chunk.ensures.noted

pub loop-number-init : goal.loop-number-init
loop-number-init c = record {
  full = c.requires.full;
  grown = λ dims fits. grow_first c.args.chunks.now c.args.frame.now (selected c.args.slab.now dims) c.requires.full;
  held = λ b low. absurd (omega (arith, low));
  undone = λ before was. was;
  keeps = record { all = refl; more = λ i there. there };
  listed = λ b low. absurd (omega (arith, low));
}

pub add_chunk-requires-clause-full : goal.add_chunk-requires-clause-full
add_chunk-requires-clause-full c = c.loop-number.invariant.full

pub loop-number-preserved : goal.loop-number-preserved
loop-number-preserved c =
    let at = goal.at.loop-number-preserved c in
    record {
      full = c.add_chunk.ensures.full;
      grown = grown at.After-add_chunk;
      held = held_more c.loop-number.chunks c.add_chunk.new.chunks c.args.slab.now c.args.frame.now.layout.chunk c.index-index.result c.loop-number.number (same at.After-add_chunk) c.loop-number.invariant.held c.add_chunk.ensures.more c.in_ok-add_chunk.ensures.there;
      undone = λ before was. c.add_chunk.ensures.undone before (c.loop-number.invariant.undone before was);
      keeps = keeps_both c.args.changes.now c.loop-number.changes c.add_chunk.new.changes c.loop-number.invariant.keeps c.add_chunk.ensures.keeps;
      listed = held_more c.loop-number.changes.listed c.add_chunk.new.changes.listed c.args.slab.now c.args.frame.now.layout.chunk c.index-index.result c.loop-number.number (same at.After-add_chunk) c.loop-number.invariant.listed c.add_chunk.ensures.keeps.more c.in_ok-add_chunk.ensures.listed;
    }

pub returns-clause-grown : goal.returns-clause-grown
returns-clause-grown c = c.loop-number.invariant.grown

pub returns-clause-there : goal.returns-clause-there
returns-clause-there c =
    let s = c.args.slab.now in
    let f = c.args.frame.now in
    let t = c.new-touched.ensures in
    let all : touched_count c.args.slab.now c.args.frame.now.layout.chunk ≤ c.loop-number.number = omega (arith, c.loop-number-test.false, c.many-number-end.ensures, same_count c.new-touched.result s f.layout.chunk t.slab t.chunk) in
    held_done c.loop-number.chunks f s c.loop-number.number c.requires.slab t.touched all c.loop-number.invariant.held

pub returns-in_err-add_chunk-clause-undone : goal.returns-in_err-add_chunk-clause-undone
returns-in_err-add_chunk-clause-undone c = λ before was. c.add_chunk.ensures.undone before (c.loop-number.invariant.undone before was)

pub returns-clause-listed : goal.returns-clause-listed
returns-clause-listed c =
    let s = c.args.slab.now in
    let f = c.args.frame.now in
    let t = c.new-touched.ensures in
    let all : touched_count c.args.slab.now c.args.frame.now.layout.chunk ≤ c.loop-number.number = omega (arith, c.loop-number-test.false, c.many-number-end.ensures, same_count c.new-touched.result s f.layout.chunk t.slab t.chunk) in
    held_done c.loop-number.changes.listed f s c.loop-number.number c.requires.slab t.touched all c.loop-number.invariant.listed

pub returns-in_err-add_chunk-clause-keeps : goal.returns-in_err-add_chunk-clause-keeps
returns-in_err-add_chunk-clause-keeps c = keeps_both c.args.changes.now c.loop-number.changes c.add_chunk.new.changes c.loop-number.invariant.keeps c.add_chunk.ensures.keeps
