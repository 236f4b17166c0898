-- Each axis in turn.
use Rattle.std.proofs.Common.{◌≡◌, ◌<◌, ◌+◌, ◌++◌, ◌∷◌, [], List, ℕ, length, get_or, map, sym, ap, ◌∙◌, arith}
use Rattle.std.proofs.lemmas.List.{length_push, append_assoc}
use Rattle.hyperslab.specs.Selected.{Axis, extent}
use Rattle.hyperslab.proofs.AxisLemmas.{axis_at, same_axis, axes_from, axes_more}
use Rattle.hyperslab.proofs.selected.extents_of.Goals as goal

pub extent-n-requires : goal.extent-n-requires
extent-n-requires c =
    let s = c.args.slab.now in
    let i = c.loop-axis.axis in
    let a : c.loop-axis.axis < length c.args.slab.now.start = omega arith in
    let good = rw (axes_more i s.start s.stop s.step a (omega (arith, c.requires.ranked.stops)) (omega (arith, c.requires.ranked.steps))) at c.loop-axis.invariant.good in
    omega (arith, good.0.2, c.get-in-loop-axis-2.ensures)

pub loop-axis-preserved : goal.loop-axis-preserved
loop-axis-preserved c =
    let s = c.args.slab.now in
    let i = c.loop-axis.axis in
    let a : c.loop-axis.axis < length c.args.slab.now.start = omega arith in
    let more = axes_more i s.start s.stop s.step a (omega (arith, c.requires.ranked.stops)) (omega (arith, c.requires.ranked.steps)) in
    let rest = axes_from (i + 1) s.start s.stop s.step in
    let good = rw more at c.loop-axis.invariant.good in
    let n = extent (axis_at i s.start s.stop s.step) in
    let here = same_axis _ _ _ (get_or s.start i 0) (get_or s.stop i 0) (get_or s.step i 0) c.get.ensures c.get-in-loop-axis.ensures c.get-in-loop-axis-2.ensures in
    let pushed : c.push.new.self ≡ c.loop-axis.found ++ n ∷ [] = c.push.ensures ∙ ap (λ (m : ℕ). c.loop-axis.found ++ m ∷ []) (c.extent-n.ensures ∙ ap extent here) in
    record {
      found = ap (λ (ns : List ℕ). ns ++ map extent rest) pushed
          ∙ append_assoc c.loop-axis.found (n ∷ []) (map extent rest)
          ∙ ap (λ (xs : List Axis). c.loop-axis.found ++ map extent xs) (sym more)
          ∙ c.loop-axis.invariant.found;
      many = ap length pushed ∙ length_push c.loop-axis.found n ∙ omega (arith, c.loop-axis.invariant.many);
      good = good.1;
    }
