use Rattle.std.proofs.Common.{◌≤◌, ◌+◌, ◌++◌, map, drop, get_or, length, ap, ◌∙◌, arith}
use Rattle.std.proofs.lemmas.List.{length_push, length-map}
use Rattle.shapes.specs.RowMajor.{room_of}
use Rattle.hyperslab.specs.Numbered.{extent_of}
use Rattle.hyperslab.proofs.SideLemmas.{push_next, push_end, room_next}
use Rattle.chunk_store.specs.Touched.{slots_of, layers}
use Rattle.chunk_store.proofs.TouchLemmas.{layered, layer, IsLayer, IsCounted, counted, product_next, product_end, touched}
use Rattle.chunk_store.proofs.touched.Touched.new.Goals.{After-get-wide, After-slots_on-found}
use Rattle.chunk_store.proofs.touched.Touched.new.Goals as goal

known : (c : After-get-wide) → IsLayer c.args.slab.now c.args.chunk.now c.loop-axis.axis c.get-start.result c.get-stop.result c.get-step.result c.get-wide.result
known c =
    layer c.args.slab.now c.args.chunk.now c.requires.slab c.requires.chunk c.requires.rank c.loop-axis.axis c.get-start.result c.get-stop.result c.get-step.result c.get-wide.result (omega arith)
    c.get-start.ensures c.get-stop.ensures c.get-step.ensures c.get-wide.ensures

pub loop-axis-init : goal.loop-axis-init
loop-axis-init c =
    let ss = layers c.args.slab.now c.args.chunk.now in
    let parts = layered c.args.slab.now c.args.chunk.now c.requires.slab c.requires.rank in
    record {
      slots_so = ap (λ ns. ns ++ map slots_of ss) c.new-slots.ensures;
      long = ap length c.new-slots.ensures;
      many_so = omega arith;
      room = omega (arith, ap room_of parts.extents, c.requires.slab.room);
    }

pub get-requires : goal.get-requires
get-requires c =
    let parts = layered c.args.slab.now c.args.chunk.now c.requires.slab c.requires.rank in
    let one = length-map (layers c.args.slab.now c.args.chunk.now) extent_of in
    omega (arith, ap length c.extents-extents.ensures.divided, ap length parts.extents, one, parts.long)

pub slots_on-found-requires-clause-axis : goal.slots_on-found-requires-clause-axis
slots_on-found-requires-clause-axis c = (known (goal.at.slots_on-found-requires-clause-axis c).After-get-wide).axis

pub slots_on-found-requires-clause-extent : goal.slots_on-found-requires-clause-extent
slots_on-found-requires-clause-extent c =
    c.get.ensures ∙ ap (λ ns. get_or ns c.loop-axis.axis 0) c.extents-extents.ensures.divided ∙ (known (goal.at.slots_on-found-requires-clause-extent c).After-get-wide).extent

found : (c : After-slots_on-found) → IsLayer c.args.slab.now c.args.chunk.now c.loop-axis.axis c.get-start.result c.get-stop.result c.get-step.result c.get-wide.result
    → IsCounted c.args.slab.now c.args.chunk.now c.loop-axis.axis c.slots_on-found.result
found c read = counted c.args.slab.now c.args.chunk.now c.loop-axis.axis _ _ _ _ c.slots_on-found.result read c.slots_on-found.ensures

pub overflow_mul-many : goal.overflow_mul-many
overflow_mul-many c =
    let at = goal.at.overflow_mul-many c in
    let so = found at.After-slots_on-found (known at.After-get-wide) in
    omega (arith, (room_next (layers c.args.slab.now c.args.chunk.now) c.loop-axis.axis c.loop-axis.many c.slots_on-found.result _ so.inside so.few c.loop-axis.invariant.room).1)

pub loop-axis-preserved : goal.loop-axis-preserved
loop-axis-preserved c =
    let at = goal.at.loop-axis-preserved c in
    let so = found at.After-slots_on-found (known at.After-get-wide) in
    let ss = layers c.args.slab.now c.args.chunk.now in
    let i = c.loop-axis.axis in
    let n = c.slots_on-found.result in
    record {
      slots_so = ap (λ ns. ns ++ map slots_of (drop (i + 1) ss)) c.push.ensures ∙ push_next slots_of ss i n c.loop-axis.slots _ so.inside so.is c.loop-axis.invariant.slots_so;
      long = ap length c.push.ensures ∙ length_push c.loop-axis.slots n ∙ omega (arith, c.loop-axis.invariant.long);
      many_so = product_next slots_of ss i c.loop-axis.many n _ so.inside so.is c.loop-axis.invariant.many_so;
      room = (room_next ss i c.loop-axis.many n _ so.inside so.few c.loop-axis.invariant.room).0;
    }

pub returns-clause-slots : goal.returns-clause-slots
returns-clause-slots c =
    let ss = layers c.args.slab.now c.args.chunk.now in
    let parts = layered c.args.slab.now c.args.chunk.now c.requires.slab c.requires.rank in
    let past : length (layers c.args.slab.now c.args.chunk.now) ≤ c.loop-axis.axis = omega (arith, parts.long) in
    record {
      slab = c.requires.slab;
      chunk = c.requires.chunk;
      rank = c.requires.rank;
      slots = push_end slots_of ss c.loop-axis.axis c.loop-axis.slots _ past c.loop-axis.invariant.slots_so;
      many = product_end slots_of ss c.loop-axis.axis c.loop-axis.many _ past c.loop-axis.invariant.many_so;
    }

pub returns-clause-touched : goal.returns-clause-touched
returns-clause-touched c = touched c.args.slab.now c.args.chunk.now c.requires.slab c.requires.chunk c.requires.rank
