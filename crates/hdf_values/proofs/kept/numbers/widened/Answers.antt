-- Number by number.
use Rattle.std.proofs.Common.{suc, ◌-◌, ◌*◌, ◌/◌, ◌≤◌, ◌++◌, true, false, length, drop, ap, ◌∙◌, arith}
use Rattle.std.specs.Int.{w64}
use Rattle.std.proofs.lemmas.Int.{to_z-of_z}
use Rattle.std.proofs.lemmas.List.{length-drop}
use Rattle.hdf_values.specs.Integers.{int_bytes, int_value}
use Rattle.hdf_values.specs.Packed.{plain}
use Rattle.hdf_values.proofs.OfKept.NumberLemmas.{none_widened, one_widened, all_widened}
use Rattle.hdf_values.proofs.kept.numbers.widened.Goals as goal

pub loop-init : goal.loop-init
loop-init c rest e = (omega (arith, e), λ zs h. none_widened zs c.args.bytes.now _ rest h c.in_ok-wide.ensures.items (omega (arith, e)))

pub split_at-requires : goal.split_at-requires
split_at-requires c =
    let here = c.loop.invariant (suc (length c.args.bytes.now / 4 - c.loop.counter - 1)) (omega arith) in
    omega (arith, here.0)

pub loop-preserved : goal.loop-preserved
loop-preserved c rest e =
    let left = c.loop.left.now in
    let here = c.loop.invariant (suc rest) (omega arith) in
    let behind : rest * 4 ≤ length (drop 4 c.loop.left.now) = omega (arith, here.0, length-drop 4 left) in
    let z = c.narrow.result in
    let number = c.narrow.ensures ∙ ap (int_value (plain false)) c.split_at.ensures.front in
    let added = c.in_ok-push_wide.ensures ∙ ap (λ y. c.loop.wide.items ++ int_bytes (plain true) y) (to_z-of_z w64 z (record { sfits = c.narrow.type_inv })) in
    rw c.split_at.ensures.back (behind, λ zs h. one_widened zs left c.loop.wide.items c.push_wide.new.bytes.items z rest (here.1 zs h) number added)

pub returns : goal.returns
returns c zs h = all_widened zs c.loop.left.now c.loop.wide.items ((c.loop.invariant 0 (omega arith)).1 zs h)
