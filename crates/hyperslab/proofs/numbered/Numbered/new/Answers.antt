use Rattle.std.proofs.Common.{◌≤◌, ◌+◌, ◌-◌, ◌++◌, map, drop, get_or, length, sym, ap, ◌∙◌, arith}
use Rattle.std.proofs.lemmas.List.{length_push}
use Rattle.shapes.specs.RowMajor.{cell_count, room_of}
use Rattle.hyperslab.specs.Selected.{axes_of}
use Rattle.hyperslab.specs.Numbered.{sides, first_of, count_of}
use Rattle.hyperslab.proofs.SideLemmas.{sided, IsRead, IsSideRead, side_read, IsCounted, side_counted, push_next, push_end, cells_next, cells_end, room_next, last_counts, last_steps, parts_whole, some_part}
use Rattle.hyperslab.proofs.numbered.Numbered.new.Goals.{After-min, After-steps_below-past}
use Rattle.hyperslab.proofs.numbered.Numbered.new.Goals as goal

read : (c : After-min) → IsSideRead c.args.slab.now c.args.origin.now c.args.chunk.now c.loop-axis.axis c.get-start.result c.get-stop.result c.get-step.result c.get-low.result c.get-wide.result
read c =
    let known : IsRead c.args.slab.now c.args.origin.now c.args.chunk.now c.loop-axis.axis c.get-start.result c.get-stop.result c.get-step.result c.get-low.result c.get-wide.result =
    record { start = c.get-start.ensures; stop = c.get-stop.ensures; step = c.get-step.ensures; low = c.get-low.ensures; wide = c.get-wide.ensures } in
    side_read c.args.slab.now c.args.origin.now c.args.chunk.now c.requires.slab c.requires.origin_rank c.requires.chunk_rank c.requires.ends _ _ _ _ _ _ (omega arith) known

counted : (c : After-steps_below-past) → IsSideRead c.args.slab.now c.args.origin.now c.args.chunk.now c.loop-axis.axis c.get-start.result c.get-stop.result c.get-step.result c.get-low.result c.get-wide.result
    → IsCounted (sides (axes_of c.args.slab.now) c.args.origin.now c.args.chunk.now) c.loop-axis.axis c.steps_below-first.result c.steps_below-past.result
counted c known =
    side_counted c.args.slab.now c.args.origin.now c.args.chunk.now _ _ _ _ _ _ _ _ _ _ known c.min.ensures c.min-in-loop-axis.ensures c.steps_below-first.ensures c.steps_below-past.ensures

pub loop-axis-init : goal.loop-axis-init
loop-axis-init c =
    let parts = sided c.args.slab.now c.args.origin.now c.args.chunk.now c.requires.slab c.requires.origin_rank c.requires.chunk_rank in
    let ss = sides (axes_of c.args.slab.now) c.args.origin.now c.args.chunk.now in
    record {
      firsts_so = ap (λ ns. ns ++ map first_of ss) c.new-firsts.ensures;
      counts_so = ap (λ ns. ns ++ map count_of ss) c.new-counts.ensures;
      long_firsts = ap length c.new-firsts.ensures;
      long_counts = ap length c.new-counts.ensures;
      cells_so = omega arith;
      room = omega (arith, ap room_of parts.extents, c.requires.slab.room);
    }

pub steps_below-first-requires : goal.steps_below-first-requires
steps_below-first-requires c = (read (goal.at.steps_below-first-requires c).After-min).some_step

pub steps_below-past-requires : goal.steps_below-past-requires
steps_below-past-requires c = (read (goal.at.steps_below-past-requires c).After-min).some_step

pub overflow_sub-count : goal.overflow_sub-count
overflow_sub-count c =
    let at = goal.at.overflow_sub-count c in
    (counted at.After-steps_below-past (read at.After-min)).up

pub overflow_mul-cells : goal.overflow_mul-cells
overflow_mul-cells c =
    let at = goal.at.overflow_mul-cells c in
    let known = counted at.After-steps_below-past (read at.After-min) in
    let ss = sides (axes_of c.args.slab.now) c.args.origin.now c.args.chunk.now in
    let inside = (read at.After-min).inside in
    omega (arith, (room_next ss c.loop-axis.axis c.loop-axis.cells (c.steps_below-past.result - c.steps_below-first.result) _ inside known.few c.loop-axis.invariant.room).1)

pub loop-axis-preserved : goal.loop-axis-preserved
loop-axis-preserved c =
    let at = goal.at.loop-axis-preserved c in
    let known = counted at.After-steps_below-past (read at.After-min) in
    let inside = (read at.After-min).inside in
    let ss = sides (axes_of c.args.slab.now) c.args.origin.now c.args.chunk.now in
    let i = c.loop-axis.axis in
    let first = c.steps_below-first.result in
    let gap = c.steps_below-past.result - c.steps_below-first.result in
    record {
      firsts_so = ap (λ ns. ns ++ map first_of (drop (i + 1) ss)) c.push.ensures ∙ push_next first_of ss i first c.loop-axis.firsts _ inside known.first c.loop-axis.invariant.firsts_so;
      counts_so = ap (λ ns. ns ++ map count_of (drop (i + 1) ss)) c.push-in-loop-axis.ensures ∙ push_next count_of ss i gap c.loop-axis.counts _ inside known.count c.loop-axis.invariant.counts_so;
      long_firsts = ap length c.push.ensures ∙ length_push c.loop-axis.firsts first ∙ omega (arith, c.loop-axis.invariant.long_firsts);
      long_counts = ap length c.push-in-loop-axis.ensures ∙ length_push c.loop-axis.counts gap ∙ omega (arith, c.loop-axis.invariant.long_counts);
      cells_so = cells_next ss i c.loop-axis.cells gap _ inside known.count c.loop-axis.invariant.cells_so;
      room = (room_next ss i c.loop-axis.cells gap _ inside known.few c.loop-axis.invariant.room).0;
    }

pub returns-clause-runs : goal.returns-clause-runs
returns-clause-runs c =
    let ss = sides (axes_of c.args.slab.now) c.args.origin.now c.args.chunk.now in
    let parts = sided c.args.slab.now c.args.origin.now c.args.chunk.now c.requires.slab c.requires.origin_rank c.requires.chunk_rank in
    let past : length (sides (axes_of c.args.slab.now) c.args.origin.now c.args.chunk.now) ≤ c.loop-axis.axis = omega (arith, parts.long) in
    let counts_are = push_end count_of ss c.loop-axis.axis c.loop-axis.counts _ past c.loop-axis.invariant.counts_so in
    let cells_are = cells_end ss c.loop-axis.axis c.loop-axis.cells _ past c.loop-axis.invariant.cells_so in
    let len_is = c.last_or_one-len.ensures ∙ ap (λ ns. get_or ns (length ns - 1) 1) counts_are ∙ last_counts ss in
    record {
      slab = c.requires.slab;
      chunk = c.requires.chunk;
      origin_rank = c.requires.origin_rank;
      chunk_rank = c.requires.chunk_rank;
      extents = c.extents-extents.ensures.divided;
      firsts = push_end first_of ss c.loop-axis.axis c.loop-axis.firsts _ past c.loop-axis.invariant.firsts_so;
      counts = counts_are;
      cells = cells_are ∙ ap cell_count (sym counts_are);
      len = len_is;
      stride = c.last_or_one-stride.ensures ∙ ap (λ ns. get_or ns (length ns - 1) 1) parts.steps ∙ last_steps ss;
      many = parts_whole ss c.loop-axis.cells c.last_or_one-len.result c.parts_of-many.result cells_are len_is c.parts_of-many.ensures.none c.parts_of-many.ensures.some;
      some_len = some_part c.last_or_one-len.result c.parts_of-many.result c.parts_of-many.ensures.none;
    }
