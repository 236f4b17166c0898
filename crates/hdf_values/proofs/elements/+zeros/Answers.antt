-- What was filled with 0 is the bytes of 0, and the fields' zeros are the compound's.
use Rattle.std.proofs.Common.{◌≡◌, replicate, rules, ap, sym, ◌∙◌}
use Rattle.hdf_types.specs.Reading.{size_of}
use Rattle.hdf_types.specs.Views.{elem}
use Rattle.hdf_values.specs.Elements.{fields_bytes, zeros_of}
use Rattle.hdf_values.proofs.EncodedLemmas.{zero_int, zero_compound}
use Rattle.hdf_values.proofs.elements.+zeros.Goals as goal

pub zero_part-returns-in-Int : goal.zero_part-returns-in-Int
zero_part-returns-in-Int t c =
    let filled : c.fill.new.self ≡ replicate (size_of (elem c.args.kind.now)) 0 = search rules in
    filled ∙ sym (zero_int _ _ (ap elem c.in-Int.is))

pub zero_part-returns-in-Compound : goal.zero_part-returns-in-Compound
zero_part-returns-in-Compound t c =
    c.zero_fields.ensures ∙ ap (λ fs. fields_bytes fs (zeros_of fs)) c.as_slice.ensures ∙ sym (zero_compound _ _ (ap elem c.in-Compound.is))
