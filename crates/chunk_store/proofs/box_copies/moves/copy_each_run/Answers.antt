use Rattle.std.proofs.Common.{◌≡◌, ◌≤◌, ◌+◌, ◌++◌, ◌∷◌, [], length, drop, refl, sym, ap, subst, ◌∙◌, arith}
use Rattle.std.proofs.lemmas.List.{length-drop, length_push}
use Rattle.hyperslab.specs.declared.runs.Run.{Run}
use Rattle.chunk_store.specs.StridedCopies.Strides.{AreCopied, AreOthersKept, Fit}
use Rattle.chunk_store.specs.declared.strided_copies.copies.Strided.{Strided}
use Rattle.chunk_store.specs.BoxCopies.Moves.{AreMovedTo, source_of, target_of}
use Rattle.chunk_store.proofs.BoxCopies.MoveLemmas.{IsNext, next_run, moved_first, moved_next, moved_all}
use Rattle.chunk_store.proofs.box_copies.moves.copy_each_run.Goals.{In-Some}
use Rattle.chunk_store.proofs.box_copies.moves.copy_each_run.Goals as goal

next : (c : In-Some) → IsNext c.args.runs c.next.new.self c.in-Some.run' (length c.loop-run.yielded)
next c = next_run c.args.runs c.next.new.self c.in-Some.run' (length c.loop-run.yielded) (c.loop-run.invariant.left ∙ c.in-Some.ensures.steps)

pub loop-run-init : goal.loop-run-init
loop-run-init c = record {
  left = sym c.into_iter-run-iterator.ensures.into_iter_gives;
  few = omega arith;
  moved = moved_first (target_of c.args.way) (source_of c.args.way) c.args.runs c.args.size c.args.from.now c.args.out.now;
  len = refl;
}

pub copy_strided-requires-clause-apart : goal.copy_strided-requires-clause-apart
copy_strided-requires-clause-apart c =
    let at = next (goal.at.copy_strided-requires-clause-apart c).In-Some in
    subst (λ (s : Strided). 1 ≤ s.stride) (sym (c.target-to.ensures ∙ ap (target_of c.args.way) at.is)) (c.requires.distinct.apart (length c.loop-run.yielded) at.there)

pub copy_strided-requires-clause-out : goal.copy_strided-requires-clause-out
copy_strided-requires-clause-out c =
    let at = next (goal.at.copy_strided-requires-clause-out c).In-Some in
    let way = c.args.way in
    let x = c.in-Some.run' in
    let size = c.args.size in
    let fit = subst (λ (r : Run). Fit (target_of way r) r.len size (length c.args.out.now)) (sym at.is) (c.requires.out (length c.loop-run.yielded) at.there) in
    subst (λ n. Fit c.target-to.result x.len size n) (sym c.loop-run.invariant.len) (subst (λ (s : Strided). Fit s x.len size (length c.args.out.now)) (sym c.target-to.ensures) fit)

pub copy_strided-requires-clause-from : goal.copy_strided-requires-clause-from
copy_strided-requires-clause-from c =
    let at = next (goal.at.copy_strided-requires-clause-from c).In-Some in
    let way = c.args.way in
    let x = c.in-Some.run' in
    let size = c.args.size in
    let fit = subst (λ (r : Run). Fit (source_of way r) r.len size (length c.args.from.now)) (sym at.is) (c.requires.from (length c.loop-run.yielded) at.there) in
    subst (λ (s : Strided). Fit s x.len size (length c.args.from.now)) (sym c.source-at.ensures) fit

pub loop-run-preserved : goal.loop-run-preserved
loop-run-preserved c =
    let at = next (goal.at.loop-run-preserved c).In-Some in
    let way = c.args.way in
    let x = c.in-Some.run' in
    let n = length c.loop-run.yielded in
    let size = c.args.size in
    let from = c.args.from.now in
    let new = c.copy_strided.new.out in
    let more : length (c.loop-run.yielded ++ c.in-Some.run' ∷ []) ≡ length c.loop-run.yielded + 1 = length_push c.loop-run.yielded x ∙ omega arith in
    let copied : AreCopied (target_of c.args.way c.in-Some.run') (source_of c.args.way c.in-Some.run') c.in-Some.run'.len c.args.size c.args.from.now c.copy_strided.new.out =
    subst (λ (s : Strided). AreCopied s (source_of way x) x.len size from new) c.target-to.ensures (subst (λ (s : Strided). AreCopied c.target-to.result s x.len size from new) c.source-at.ensures c.copy_strided.ensures.copied) in
    let kept : AreOthersKept (target_of c.args.way c.in-Some.run') c.in-Some.run'.len c.args.size c.loop-run.out c.copy_strided.new.out =
    subst (λ (s : Strided). AreOthersKept s x.len size c.loop-run.out new) c.target-to.ensures c.copy_strided.ensures.kept in
    record {
      left = subst (λ m. drop m c.args.runs ≡ c.next.new.self) (sym more) at.left;
      few = omega (arith, more, at.there);
      moved = subst (λ m. AreMovedTo (target_of way) (source_of way) m c.args.runs size from c.args.out.now new) (sym more)
          (moved_next (target_of way) (source_of way) n c.args.runs size from c.args.out.now c.loop-run.out new at.there c.requires.distinct c.loop-run.invariant.moved
          (subst (λ (r : Run). AreCopied (target_of way r) (source_of way r) r.len size from new) at.is copied)
          (subst (λ (r : Run). AreOthersKept (target_of way r) r.len size c.loop-run.out new) at.is kept));
      len = c.copy_strided.ensures.len ∙ c.loop-run.invariant.len;
    }

pub returns-clause-moved : goal.returns-clause-moved
returns-clause-moved c =
    let none = ap length (c.loop-run.invariant.left ∙ c.in-None.ensures.steps.0) in
    let ends : length c.loop-run.yielded ≡ length c.args.runs = omega (arith, none, length-drop (length c.loop-run.yielded) c.args.runs, c.loop-run.invariant.few) in
    moved_all (target_of c.args.way) (source_of c.args.way) (length c.loop-run.yielded) c.args.runs c.args.size c.args.from.now c.args.out.now c.loop-run.out ends c.loop-run.invariant.moved
