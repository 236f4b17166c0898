-- A number of 64 bits, or of 32, or the first of 64.
use Rattle.std.proofs.Common.{FitsSigned, true, false, refl, sym, ap, subst, ◌∙◌}
use Rattle.std.specs.Int.{w32, w64}
use Rattle.std.proofs.lemmas.Int.{to_z-of_z}
use Rattle.hdf_values.specs.Packed.{ArePacked, plain}
use Rattle.hdf_values.proofs.OfKept.NumberLemmas.{IsAdded, numbers_back, added, narrow_fits, wide_fits}
use Rattle.hdf_values.proofs.kept.numbers.Numbers.push.Goals as goal

wide : (c : goal.After-push_wide) → IsAdded c.push_wide.result (plain c.self.inside.is_wide) c.push_wide.new.bytes.items c.args.self.now c.args.number
wide c =
    let z = c.args.number in
    let fits = c.ranges.number in
    added c.push_wide.result _ (plain true) c.self.inside.bytes.items _ c.args.self.now _ z (ap plain c.if-self.true)
    (to_z-of_z w64 z fits) c.self.invariant c.self.view_is (wide_fits z fits) c.push_wide.ensures

pub invariant_of-self : goal.invariant_of-self
invariant_of-self c = (wide c).packed

pub returns-then-self : goal.returns-then-self
returns-then-self c = (wide c).seen

small : (c : goal.After-push_narrow) → IsAdded c.push_narrow.result (plain c.self.inside.is_wide) c.push_narrow.new.bytes.items c.args.self.now c.args.number
small c =
    let z = c.args.number in
    let given = to_z-of_z w64 z c.ranges.number in
    let fits = subst (FitsSigned w32) given c.in-Ok.ensures.0 in
    let same = c.in-Ok.ensures.1 ∙ given in
    let back = to_z-of_z w32 c.in-Ok.small (subst (FitsSigned w32) (sym same) fits) ∙ same in
    added c.push_narrow.result _ (plain false) c.self.inside.bytes.items _ c.args.self.now _ z (ap plain c.if-self.false) back c.self.invariant c.self.view_is
    (narrow_fits z fits) c.push_narrow.ensures

pub invariant_of-self-in-Ok : goal.invariant_of-self-in-Ok
invariant_of-self-in-Ok c = (small c).packed

pub returns-in-Ok : goal.returns-in-Ok
returns-in-Ok c = (small c).seen

first_wide : (c : goal.After-push_wide-in-Err) → IsAdded c.push_wide-in-Err.result (plain true) c.push_wide-in-Err.new.bytes.items c.args.self.now c.args.number
first_wide c =
    let z = c.args.number in
    let fits = c.ranges.number in
    let zs = c.self.invariant.0 in
    let h = c.self.invariant.1 in
    let held = c.self.inside.bytes.items in
    let narrow =
    subst (λ t. ArePacked t c.as_slice.result.now zs) (ap plain c.if-self.false)
    (subst (λ bs. ArePacked (plain c.self.inside.is_wide) bs zs) (sym c.as_slice.ensures.value) h) in
    let bs = c.in_ok-self-inside-in-Err.field-0.items in
    let all = c.in_ok-self-inside-in-Err.ensures zs narrow in
    let seen = numbers_back (plain true) bs zs all ∙ sym (numbers_back (plain c.self.inside.is_wide) held zs h) ∙ c.self.view_is in
    added c.push_wide-in-Err.result (plain true) (plain true) bs _ c.args.self.now _ z refl (to_z-of_z w64 z fits) (zs, all) seen
    (wide_fits z fits) c.push_wide-in-Err.ensures

pub invariant_of-self-in-Err : goal.invariant_of-self-in-Err
invariant_of-self-in-Err c = (first_wide c).packed

pub returns-in_ok-self-inside-in-Err : goal.returns-in_ok-self-inside-in-Err
returns-in_ok-self-inside-in-Err c = (first_wide c).seen
