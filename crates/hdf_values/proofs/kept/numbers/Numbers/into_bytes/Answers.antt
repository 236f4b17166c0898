use Rattle.std.proofs.Common.{sym, subst, ◌∙◌}
use Rattle.hdf_values.specs.Packed.{ArePacked, plain}
use Rattle.hdf_values.proofs.OfKept.NumberLemmas.{numbers_back}
use Rattle.hdf_values.proofs.kept.numbers.Numbers.into_bytes.Goals as goal

pub returns : goal.returns
returns c =
    let s = c.self.inside in
    let t = plain c.self.inside.is_wide in
    let h = c.self.invariant in
    let is = sym (numbers_back t s.bytes.items h.0 h.1) ∙ c.self.view_is in
    subst (λ k. ArePacked k s.bytes.items c.args.self) (sym c.plain.ensures) (subst (ArePacked t s.bytes.items) is h.1)
