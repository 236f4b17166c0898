-- Where no axis has a fault, the axes are sound and their room is at most the dims'.
use Rattle.std.proofs.Common.{sym, ◌∙◌, arith}
use Rattle.hyperslab.specs.Selected.{axes_of}
use Rattle.hyperslab.proofs.AxisLemmas.{length-axes, sound_axes}
use Rattle.hyperslab.proofs.judging.judged_in.Goals as goal

pub bounded-requires-clause-axes : goal.bounded-requires-clause-axes
bounded-requires-clause-axes c =
    let s = c.args.slab.now in
    let same = length-axes s.start s.stop s.step (omega arith) (omega arith) in
    (sound_axes 0 c.args.dims.now (axes_of s) c.requires.small (omega (arith, same)) (sym c.first_fault.ensures ∙ c.in_default.is)).0

pub bounded-requires-clause-room : goal.bounded-requires-clause-room
bounded-requires-clause-room c =
    let s = c.args.slab.now in
    let same = length-axes s.start s.stop s.step (omega arith) (omega arith) in
    let low = (sound_axes 0 c.args.dims.now (axes_of s) c.requires.small (omega (arith, same)) (sym c.first_fault.ensures ∙ c.in_default.is)).1 in
    omega (arith, low, c.requires.room)
