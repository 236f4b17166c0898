use Rattle.std.proofs.Common.{List, ◌∙◌, ap, subst, sym}
use Rattle.std.specs.FinMap.{empty}
use Rattle.object_ids.specs.IdValues.{Id}
use Rattle.register.specs.Decided.{RegisterState}
use Rattle.service_core.specs.Steps.{World}
use Rattle.service_core.specs.Worlds.{seen}
use Rattle.service_core.specs.Journals.Groups.{MayHaveGroups, roots_of}
use Rattle.service_core.proofs.OfJournals.GroupLemmas.{first_may}
use Rattle.service_core.proofs.journals.first_world.first_world.Goals as goal

pub put_groups-requires : goal.put_groups-requires
put_groups-requires c =
    let ids = c.as_slice.ensures.value ∙ c.in_ok-roots.ensures in
    let bare : RegisterState → World = λ d. record { register = d; objects = empty } in
    let world = c.in_ok-world.ensures.world ∙ ap bare c.new.ensures.opened in
    subst (λ (l : List Id). MayHaveGroups (seen c.in_ok-world.world) l) (sym ids)
    (subst (λ (w : World). MayHaveGroups w (roots_of c.args.catalogue)) (sym world)
    (first_may c.args.catalogue c.args.lanes c.next_number-next.ensures.valid c.requires.roots))

pub returns-clause-says : goal.returns-clause-says
returns-clause-says c = c.in_ok-put_groups.ensures.says empty (c.in_ok-world.ensures.says c.new.ensures.says)
