use Rattle.std.proofs.Common.{ap, ◌∙◌}
use Rattle.std.specs.FinMap.{get}
use Rattle.service_core.specs.Worlds.{seen}
use Rattle.json_import.proofs.OfFresh.LawLemmas.{others_stay}
use Rattle.json_import.specs.Adoption.Adopted.{root_at}
use Rattle.json_import.proofs.OfAdoption.DocumentLemmas.{has_room, is_free, read_back}
use Rattle.json_import.proofs.OfAdoption.DomainLemmas.{domain_there}
use Rattle.json_import.proofs.adoption.adoption.adopt.Goals as goal

pub make_domain-requires-clause-free : goal.make_domain-requires-clause-free
make_domain-requires-clause-free c = is_free c.args.world.now.register c.args.path.now c.args.loaded c.in_ok-may_adopt.ensures

pub make_domain-requires-clause-room : goal.make_domain-requires-clause-room
make_domain-requires-clause-room c =
    (has_room c.args.world.now.register c.args.path.now c.args.loaded c.is_whole.ensures.roots c.in_ok-may_adopt.ensures).left

pub returns-clause-domain : goal.returns-clause-domain
returns-clause-domain c =
    domain_there c.args.world.now.register c.make_domain.new.world.register c.args.path.now c.args.owner.now c.args.loaded c.in_ok-make_domain.ensures.register

pub returns-clause-others : goal.returns-clause-others
returns-clause-others c = λ q other.
    let old = c.args.world.now in
    ap (λ m. get m q) c.in_ok-make_domain.ensures.objects ∙ others_stay c.args.loaded (root_at old.register) (seen old).objects q other

pub returns-clause-document : goal.returns-clause-document
returns-clause-document c =
    let old = c.args.world.now in
    let new = c.make_domain.new.world in
    read_back c.documents_read_back.ensures.same (seen old) (seen new) c.args.path.now c.args.owner.now c.args.loaded c.is_whole.ensures.objects c.is_whole.ensures.roots c.in_ok-may_adopt.ensures
    (domain_there old.register new.register c.args.path.now c.args.owner.now c.args.loaded c.in_ok-make_domain.ensures.register) c.in_ok-make_domain.ensures.objects
