-- Each coordinate is what the step of its axis leaves of the number.
use Rattle.std.proofs.Common.{◌≡◌, ◌<◌, ◌≤◌, ◌/◌, List, ℕ, length, get_or, subst, ap, arith}
use Rattle.std.proofs.lemmas.List.{length_push}
use Rattle.std.proofs.lemmas.Nat.{mod_below}
use Rattle.shapes.specs.RowMajor.{IsInside, linear_index}
use Rattle.shapes.proofs.RowMajorLemmas.{step_next, step_above, goes_next, goes_end}
use Rattle.shapes.proofs.row_major.coords_in.Goals as goal

pub loop-n-preserved : goal.loop-n-preserved
loop-n-preserved c =
    let items = c.as_slice-n-items.result.now in
    let i = c.loop-n.n-index in
    let before = c.loop-n.invariant in
    let within : c.loop-n.n-index < length c.as_slice-n-items.result.now = omega arith in
    record {
      step = step_next c.loop-n.step c.loop-n.rest i items within before.step before.rest;
      rest = mod_below c.loop-n.rest (c.loop-n.step / get_or items i 0) (step_above c.loop-n.step c.loop-n.rest i items within before.step before.rest);
      short = omega (arith, ap length c.push.ensures, length_push c.loop-n.coords (c.loop-n.rest / (c.loop-n.step / get_or items i 0)), before.short);
      goes_on = rw c.push.ensures (goes_next items c.loop-n.coords c.loop-n.step c.loop-n.rest i c.args.number within before.step before.rest before.goes_on);
    }

pub returns-clause-inside : goal.returns-clause-inside
returns-clause-inside c =
    let items = c.as_slice-n-items.result.now in
    let before = c.loop-n.invariant in
    let past : length c.as_slice-n-items.result.now ≤ c.loop-n.n-index = omega arith in
    let P = λ (ds : List ℕ). IsInside c.loop-n.coords ds in
    subst P c.as_slice-n-items.ensures (goes_end items c.loop-n.coords c.loop-n.step c.loop-n.rest c.loop-n.n-index c.args.number past before.step before.rest before.goes_on).0

pub returns-clause-index : goal.returns-clause-index
returns-clause-index c =
    let items = c.as_slice-n-items.result.now in
    let before = c.loop-n.invariant in
    let past : length c.as_slice-n-items.result.now ≤ c.loop-n.n-index = omega arith in
    let P = λ (ds : List ℕ). linear_index c.loop-n.coords ds ≡ c.args.number in
    subst P c.as_slice-n-items.ensures (goes_end items c.loop-n.coords c.loop-n.step c.loop-n.rest c.loop-n.n-index c.args.number past before.step before.rest before.goes_on).1
