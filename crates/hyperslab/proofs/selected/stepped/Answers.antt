-- Each axis in turn.
use Rattle.std.proofs.Common.{refl, ◌≡◌, ◌<◌, ◌≤◌, ◌+◌, ◌*◌, ◌++◌, ◌∷◌, [], List, ℕ, length, drop, get_or, map, sym, ap, ◌∙◌, arith}
use Rattle.std.proofs.lemmas.List.{length_push, append_assoc, append-nil, drop_more}
use Rattle.hyperslab.specs.Selected.{Axis, extent, point}
use Rattle.hyperslab.proofs.AxisLemmas.{axis_at, axes_from, axes_more, axes_end}
use Rattle.hyperslab.proofs.SelectLemmas.{inside_some, point_end}
use Rattle.hyperslab.proofs.selected.stepped.Goals as goal

pub loop-axis-preserved : goal.loop-axis-preserved
loop-axis-preserved c =
    let s = c.args.slab.now in
    let at = c.args.at.now in
    let i = c.loop-axis.axis in
    let a : c.loop-axis.axis < length c.args.slab.now.start = omega arith in
    let more = axes_more i s.start s.stop s.step a (omega (arith, c.requires.ranked.stops)) (omega (arith, c.requires.ranked.steps)) in
    let rest = axes_from (i + 1) s.start s.stop s.step in
    let good = rw more at c.loop-axis.invariant.good in
    let lies = rw more at c.loop-axis.invariant.inside in
    let some = inside_some i at (extent (axis_at i s.start s.stop s.step)) (map extent rest) lies in
    let split = drop_more at i 0 some in
    let inside = rw split at lies in
    let n = get_or s.start i 0 + get_or at i 0 * get_or s.step i 0 in
    let step : c.get.result + c.get-in-loop-axis.result * c.get-in-loop-axis-2.result ≡ n = rw (c.get.ensures, c.get-in-loop-axis.ensures, c.get-in-loop-axis-2.ensures) refl in
    let pushed : c.push.new.self ≡ c.loop-axis.coords ++ n ∷ [] = c.push.ensures ∙ ap (λ (m : ℕ). c.loop-axis.coords ++ m ∷ []) step in
    record {
      found = ap (λ (ns : List ℕ). ns ++ point (drop (i + 1) at) rest) pushed
          ∙ append_assoc c.loop-axis.coords (n ∷ []) (point (drop (i + 1) at) rest)
          ∙ ap (λ (ks : List ℕ). c.loop-axis.coords ++ point ks (axis_at i s.start s.stop s.step ∷ rest)) (sym split)
          ∙ ap (λ (xs : List Axis). c.loop-axis.coords ++ point (drop i at) xs) (sym more)
          ∙ c.loop-axis.invariant.found;
      many = ap length pushed ∙ length_push c.loop-axis.coords n ∙ omega (arith, c.loop-axis.invariant.many);
      good = good.1;
      inside = inside.1;
    }

pub returns : goal.returns
returns c =
    let s = c.args.slab.now in
    let i = c.loop-axis.axis in
    let done : length c.args.slab.now.start ≤ c.loop-axis.axis = omega arith in
    sym (append-nil c.loop-axis.coords)
    ∙ ap (λ (ns : List ℕ). c.loop-axis.coords ++ ns) (sym (point_end (drop i c.args.at.now) (axes_from i s.start s.stop s.step) (axes_end i s.start s.stop s.step done)))
    ∙ c.loop-axis.invariant.found
