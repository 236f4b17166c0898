use Rattle.std.proofs.Common.{Some, is_some, ap, ◌∙◌}
use Rattle.std.specs.Option.{option_copied_mut}
use Rattle.chunk_store.proofs.KeyLemmas.{find-get, find-updated, not_gone}
use Rattle.chunk_store.proofs.BufferLemmas.{found_full, found_in}
use Rattle.chunk_store.proofs.StretchLemmas.{stretch_written}
use Rattle.chunk_store.proofs.stretches.write_stretch.Goals as goal

pub unreachable-requires : goal.unreachable-requires
unreachable-requires c = not_gone c.args.chunks.now c.args.stretch.now.index _ c.get_mut.ensures.value c.requires.there (ap (λ o. is_some (option_copied_mut o)) c.in_default.is)

pub overwrite-requires-clause-full : goal.overwrite-requires-clause-full
overwrite-requires-clause-full c = found_full c.args.chunks.now c.args.frame.now c.args.stretch.now.index c.in-Some.held.now c.requires.full (found_in c.args.chunks.now c.args.stretch.now.index _ c.in-Some.ensures.value)

pub returns : goal.returns
returns c = λ ats on.
    let m = c.args.chunks.now in
    let index = c.args.stretch.now.index in
    let w = c.overwrite.new.held in
    let n = c.get_mut.follows.lender w in
    let is = find-updated m n index (Some w) ((c.get_mut.follows.holds w).3 (ap is_some (find-get m index) ∙ c.requires.there)) in
    stretch_written m n c.args.frame.now c.args.stretch.now ats c.args.bytes.now c.in-Some.held.now w c.requires.frame on (found_in m index _ c.in-Some.ensures.value) is c.overwrite.ensures.put c.overwrite.ensures.kept c.requires.full c.overwrite.ensures.full c.overwrite.ensures.dirty
