use Rattle.std.proofs.Common.{◌+◌, ◌++◌, ap, ◌∙◌, arith}
use Rattle.std.proofs.lemmas.Nat.{mul-le}
use Rattle.std.proofs.lemmas.Result.{on_ok_weaker}
use Rattle.shapes.specs.RowMajor.{cell_count}
use Rattle.chunk_store.proofs.BufferLemmas.{found_full, found_in}
use Rattle.chunk_store.proofs.StretchLemmas.{on_added, stretch_blank, stretch_read}
use Rattle.chunk_store.proofs.stretches.read_stretch.Goals as goal

pub elements-requires-clause-full : goal.elements-requires-clause-full
elements-requires-clause-full c = found_full c.args.chunks.now c.args.frame.now c.args.stretch.now.index c.in-Some.held.now c.requires.full (found_in c.args.chunks.now c.args.stretch.now.index _ c.in-Some.ensures.value)

pub returns-in-Some : goal.returns-in-Some
returns-in-Some c =
    on_added c.extend_from_slice.result c.args.out.now.items c.elements.result.now c.extend_from_slice.new.self.items c.extend_from_slice.ensures.items (λ added ats on.
    let m = c.args.chunks.now in
    let f = c.args.frame.now in
    let t = c.args.stretch.now in
    let h = c.in-Some.held.now in
    let there = found_in m t.index _ c.in-Some.ensures.value in
    let wide = mul-le (t.offset + t.len) f.size (cell_count f.layout.chunk) f.size c.requires.room (omega arith) in
    let full = found_full m f t.index h c.requires.full there in
    added ∙ ap (λ l. c.args.out.now.items ++ l) (c.elements.ensures ∙ stretch_read m f t h ats on there (omega (arith, wide, full))))

pub returns-in-None : goal.returns-in-None
returns-in-None c =
    on_ok_weaker c.add_blanks.result
    (λ added ats on. added ats on.many ∙ ap (λ l. c.args.out.now.items ++ l) (stretch_blank c.args.chunks.now c.args.frame.now c.args.stretch.now ats on (found_in c.args.chunks.now c.args.stretch.now.index _ c.in-None.ensures.value)))
    c.add_blanks.ensures
