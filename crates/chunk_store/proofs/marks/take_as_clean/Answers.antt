use Rattle.std.proofs.Common.{Some, false, is_some, refl, ap, ◌∙◌}
use Rattle.std.specs.Option.{option_copied_mut}
use Rattle.chunk_store.specs.Cells.{find_in}
use Rattle.chunk_store.proofs.BufferLemmas.{Chunks, found_in}
use Rattle.chunk_store.proofs.ChangeLemmas.{cleaned_none, cleaned_put}
use Rattle.chunk_store.proofs.KeyLemmas.{find-get, find-updated}
use Rattle.chunk_store.proofs.marks.take_as_clean.Goals as goal

pub returns-in-Some : goal.returns-in-Some
returns-in-Some c =
    let m = c.args.chunks.now in
    let k = c.args.index.now in
    let there = found_in m k _ c.in-Some.ensures.value in
    let w = record c.in-Some.held.now { dirty = false } in
    let n = c.get_mut.follows.lender w in
    cleaned_put m n k c.in-Some.held.now w there refl (find-updated m n k (Some w) ((c.get_mut.follows.holds w).3 (ap is_some (find-get m k ∙ there))))

pub returns-in_default : goal.returns-in_default
returns-in_default c = λ i.
    ap (λ (m : Chunks). find_in m i) c.get_mut.follows.holds-at-none
    ∙ cleaned_none c.args.chunks.now c.args.index.now (found_in c.args.chunks.now c.args.index.now _ c.get_mut.ensures.value ∙ ap option_copied_mut c.in_default.is) i
