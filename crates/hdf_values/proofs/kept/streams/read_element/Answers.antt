-- The misfit of an element is told at its place.
use Rattle.std.proofs.Common.{Err, option_map, sym, ap, subst, ◌∙◌}
use Rattle.hdf_types.specs.Views.{elem}
use Rattle.hdf_values.specs.Elements.{encoded}
use Rattle.hdf_values.specs.Faults.{at_place}
use Rattle.hdf_values.specs.Nested.{placed}
use Rattle.hdf_values.specs.Streamed.{Told}
use Rattle.hdf_values.proofs.OfKept.PartLemmas.{placed_told}
use Rattle.hdf_values.proofs.kept.streams.read_element.Goals as goal

pub returns-in-None-clause-told : goal.returns-in-None-clause-told
returns-in-None-clause-told c tree rest h =
    let found = c.in_ok-read_part.ensures.told tree rest h in
    let r = encoded (elem c.args.kind.now) tree in
    (found.0, subst (λ m. Told (option_map (at_place c.args.place) m) c.args.out.now.items c.read_part.new.out.items (placed c.args.place r)) c.in-None.is (placed_told c.in_ok-read_part.field-0 c.args.place _ _ r found.1))

pub returns-in-Some-clause-told : goal.returns-in-Some-clause-told
returns-in-Some-clause-told c tree rest h =
    let found = c.in_ok-read_part.ensures.told tree rest h in
    let r = encoded (elem c.args.kind.now) tree in
    let told = subst (λ m. Told (option_map (at_place c.args.place) m) c.args.out.now.items c.read_part.new.out.items (placed c.args.place r)) c.in-Some.is (placed_told c.in_ok-read_part.field-0 c.args.place _ _ r found.1) in
    (found.0, told ∙ ap (λ x. Err x) (sym c.at.ensures))
