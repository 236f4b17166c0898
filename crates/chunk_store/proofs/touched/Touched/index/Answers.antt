use Rattle.std.proofs.Common.{◌<◌, ◌≤◌, ◌+◌, ◌/◌, ◌%◌, ◌++◌, ◌∷◌, [], map, drop, length, refl, sym, ap, subst, ◌∙◌, arith}
use Rattle.std.proofs.lemmas.List.{length_push, length-map}
use Rattle.shapes.specs.RowMajor.{digits_by}
use Rattle.hyperslab.proofs.SideLemmas.{got}
use Rattle.chunk_store.specs.Indexes.{IsIndex}
use Rattle.chunk_store.specs.Touched.{slots_of, chunk_at, chunks_to, layers, touched_at}
use Rattle.chunk_store.proofs.TouchLemmas.{layered, layer, IsLayer, IsIndexed, index_step, index_end, touched_index}
use Rattle.chunk_store.proofs.touched.Touched.index.Goals.{After-get-wide, After-get-slots}
use Rattle.chunk_store.proofs.touched.Touched.index.Goals as goal

known : (c : After-get-wide) → IsLayer c.args.self.now.slab c.args.self.now.chunk c.loop-axis.axis c.get-start.result c.get-stop.result c.get-step.result c.get-wide.result
known c =
    layer c.args.self.now.slab c.args.self.now.chunk c.requires.slots.slab c.requires.slots.chunk c.requires.slots.rank c.loop-axis.axis c.get-start.result c.get-stop.result c.get-step.result c.get-wide.result (omega arith)
    c.get-start.ensures c.get-stop.ensures c.get-step.ensures c.get-wide.ensures

step : (c : After-get-slots) → c.loop-axis.axis < length (layers c.args.self.now.slab c.args.self.now.chunk)
    → IsIndexed (layers c.args.self.now.slab c.args.self.now.chunk) c.loop-axis.axis (c.loop-axis.left / c.get-slots.result) c.loop-axis.rest c.get-slots.result c.loop-axis.index (touched_at c.args.self.now.slab c.args.self.now.chunk c.args.number)
step c inside =
    let ss = layers c.args.self.now.slab c.args.self.now.chunk in
    index_step ss c.loop-axis.axis c.loop-axis.left (c.loop-axis.left / c.get-slots.result) c.loop-axis.rest c.get-slots.result c.loop-axis.index _ inside
    (c.get-slots.ensures ∙ got slots_of ss c.args.self.now.slots c.loop-axis.axis c.requires.slots.slots inside)
    c.loop-axis.invariant.left_so c.loop-axis.invariant.rest_so refl c.loop-axis.invariant.index_so

pub loop-axis-init : goal.loop-axis-init
loop-axis-init c =
    let slots = c.requires.slots in
    record {
      left_so = slots.many;
      rest_so = omega (arith, c.requires.below, slots.many);
      long = ap length c.new-index.ensures;
      index_so = ap (λ ns. ns ++ touched_at c.args.self.now.slab c.args.self.now.chunk c.args.number) c.new-index.ensures;
    }

pub get-slots-requires : goal.get-slots-requires
get-slots-requires c =
    let parts = layered c.args.self.now.slab c.args.self.now.chunk c.requires.slots.slab c.requires.slots.rank in
    let one = length-map (layers c.args.self.now.slab c.args.self.now.chunk) slots_of in
    omega (arith, ap length c.requires.slots.slots, one, parts.long)

pub nonzero_div-left : goal.nonzero_div-left
nonzero_div-left c =
    let at = goal.at.nonzero_div-left c in
    let so = step at.After-get-slots (known at.After-get-wide).inside in
    omega (arith, so.some_slot)

pub nonzero_div-rest : goal.nonzero_div-rest
nonzero_div-rest c =
    let at = goal.at.nonzero_div-rest c in
    let so = step at.After-get-slots (known at.After-get-wide).inside in
    omega (arith, so.some_step)

pub chunk_on-found-requires-clause-axis : goal.chunk_on-found-requires-clause-axis
chunk_on-found-requires-clause-axis c = (known (goal.at.chunk_on-found-requires-clause-axis c).After-get-wide).axis

pub chunk_on-found-requires-clause-wide : goal.chunk_on-found-requires-clause-wide
chunk_on-found-requires-clause-wide c = (known (goal.at.chunk_on-found-requires-clause-wide c).After-get-wide).wide

pub chunk_on-found-requires-clause-slot : goal.chunk_on-found-requires-clause-slot
chunk_on-found-requires-clause-slot c =
    let at = goal.at.chunk_on-found-requires-clause-slot c in
    let l = known at.After-get-wide in
    let so = step at.After-get-slots l.inside in
    let ss = layers c.args.self.now.slab c.args.self.now.chunk in
    let many = c.get-slots.ensures ∙ got slots_of ss c.args.self.now.slots c.loop-axis.axis c.requires.slots.slots l.inside in
    omega (arith, so.slot, many, ap slots_of l.same)

pub nonzero_rem-rest : goal.nonzero_rem-rest
nonzero_rem-rest c =
    let at = goal.at.nonzero_rem-rest c in
    let so = step at.After-get-slots (known at.After-get-wide).inside in
    omega (arith, so.some_step)

pub loop-axis-preserved : goal.loop-axis-preserved
loop-axis-preserved c =
    let at = goal.at.loop-axis-preserved c in
    let l = known at.After-get-wide in
    let so = step at.After-get-slots l.inside in
    let ss = layers c.args.self.now.slab c.args.self.now.chunk in
    let i = c.loop-axis.axis in
    let rest = c.loop-axis.rest in
    let left = c.loop-axis.left / c.get-slots.result in
    let here = c.chunk_on-found.ensures ∙ ap (λ s. chunk_at s (rest / left)) l.same in
    let tail = chunks_to (drop (i + 1) ss) (digits_by (map slots_of (drop (i + 1) ss)) (rest % left)) in
    record {
      left_so = so.step_is;
      rest_so = so.less;
      long = ap length c.push.ensures ∙ length_push c.loop-axis.index c.chunk_on-found.result ∙ omega (arith, c.loop-axis.invariant.long);
      index_so = ap (λ ns. ns ++ tail) c.push.ensures ∙ ap (λ n. (c.loop-axis.index ++ n ∷ []) ++ tail) here ∙ so.next;
    }

pub returns-clause-same : goal.returns-clause-same
returns-clause-same c =
    let ss = layers c.args.self.now.slab c.args.self.now.chunk in
    let parts = layered c.args.self.now.slab c.args.self.now.chunk c.requires.slots.slab c.requires.slots.rank in
    let past : length (layers c.args.self.now.slab c.args.self.now.chunk) ≤ c.loop-axis.axis = omega (arith, parts.long) in
    index_end ss c.loop-axis.axis c.loop-axis.rest c.loop-axis.index _ past c.loop-axis.invariant.index_so

pub returns-clause-index : goal.returns-clause-index
returns-clause-index c =
    let slots = c.requires.slots in
    let ss = layers c.args.self.now.slab c.args.self.now.chunk in
    let parts = layered c.args.self.now.slab c.args.self.now.chunk c.requires.slots.slab c.requires.slots.rank in
    let past : length (layers c.args.self.now.slab c.args.self.now.chunk) ≤ c.loop-axis.axis = omega (arith, parts.long) in
    let same = index_end ss c.loop-axis.axis c.loop-axis.rest c.loop-axis.index _ past c.loop-axis.invariant.index_so in
    subst (IsIndex c.args.self.now.chunk) (sym same) (touched_index c.args.self.now.slab c.args.self.now.chunk c.args.number slots.slab slots.chunk slots.rank c.requires.below)
