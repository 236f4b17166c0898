-- Number by number.
use Rattle.std.proofs.Common.{◌≡◌, ◌≤◌, ◌*◌, ◌-◌, ◌/◌, suc, [], length, drop, sym, subst, arith, FitsSigned, ◌∙◌}
use Rattle.std.specs.Int.{w128}
use Rattle.std.proofs.lemmas.Int.{to_z-of_z}
use Rattle.std.proofs.lemmas.List.{length-drop}
use Rattle.hdf_types.specs.Elems.{int}
use Rattle.hdf_types.specs.Reading.{int_size}
use Rattle.hdf_values.specs.Elements.{decoded}
use Rattle.hdf_values.specs.Integers.{int_value}
use Rattle.hdf_values.specs.KeptValues.{Converts}
use Rattle.hdf_values.proofs.ElementLemmas.{integer_in-number}
use Rattle.hdf_values.proofs.IntegerLemmas.{range_test}
use Rattle.hdf_values.proofs.OfKept.UnpackLemmas.{converts_more, converts_none, number_put, room_for}
use Rattle.hdf_values.proofs.kept.unpacking.converted.Goals as goal

pub loop-init : goal.loop-init
loop-init c rest q =
    let from = c.args.from.now in
    let to = c.args.to.now in
    let bytes = c.args.bytes.now in
    let all : rest ≡ length c.args.bytes.now / int_size c.args.from.now.bits = omega arith in (
      room_for rest (int_size from.bits) (length bytes) all,
      λ new h. subst (λ n. Converts from to n bytes [] new) all (subst (λ old. Converts from to rest bytes old new) c.in_ok-out.ensures.items h),
    )

pub split_at-requires : goal.split_at-requires
split_at-requires c =
    let here = c.loop.invariant (suc (length c.args.bytes.now / int_size c.args.from.now.bits - c.loop.counter - 1)) (omega arith) in
    omega (arith, here.0)

pub push_int-requires-clause-fits : goal.push_int-requires-clause-fits
push_int-requires-clause-fits c =
    let low : FitsSigned w128 c.least-low.result = record { sfits = c.least-low.type_inv } in
    let high : FitsSigned w128 c.greatest-high.result = record { sfits = c.greatest-high.type_inv } in
    sym (range_test c.args.to.now _ _ _ _ low high c.least-low.ensures c.greatest-high.ensures c.is_between.ensures) ∙ c.if-not-is_between.false

pub loop-preserved : goal.loop-preserved
loop-preserved c rest q =
    let from = c.args.from.now in
    let to = c.args.to.now in
    let size = int_size from.bits in
    let left = c.loop.left.now in
    let here = c.loop.invariant (suc rest) (omega arith) in
    let low : FitsSigned w128 c.least-low.result = record { sfits = c.least-low.type_inv } in
    let high : FitsSigned w128 c.greatest-high.result = record { sfits = c.greatest-high.type_inv } in
    let fits : FitsSigned w128 c.whole_number-value.result = record { sfits = c.whole_number-value.type_inv } in
    let within = sym (range_test to _ _ _ _ low high c.least-low.ensures c.greatest-high.ensures c.is_between.ensures) ∙ c.if-not-is_between.false in
    let front = c.split_at.result.0.now in
    let whole = integer_in-number (int_value from front) in
    let value = to_z-of_z w128 c.whole_number-value.result fits ∙ c.whole_number-value.ensures in
    let done = number_put to (decoded (int from) front) _ _ c.loop.out.items c.push_int.new.out.items within value whole c.in_ok-push_int.ensures in
    let behind : rest * int_size c.args.from.now.bits ≤ length (drop (int_size c.args.from.now.bits) c.loop.left.now) =
    omega (arith, here.0, length-drop size left) in
    rw c.split_at.ensures.back (
      behind,
      λ new h. here.1 new (converts_more from to rest front left c.loop.out.items c.push_int.new.out.items new c.split_at.ensures.front done.0 done.1 h),
    )

pub returns : goal.returns
returns c =
    let here = c.loop.invariant 0 (omega arith) in
    here.1 c.loop.out.items (converts_none c.args.from.now c.args.to.now c.loop.left.now c.loop.out.items)
