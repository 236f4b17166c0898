use Rattle.std.proofs.Common.{◌≡◌, ◌+◌, ◌<◌, ◌≤◌, ◌^◌, length, IfSome, sym, ap, subst, ◌∙◌, arith}
use Rattle.std.specs.FinMap.{get}
use Rattle.std.proofs.lemmas.Result.{on_ok_weaker}
use Rattle.object_ids.specs.IdValues.{Id}
use Rattle.object_acts.specs.Objects.{kind_of_body}
use Rattle.register.specs.Decided.{RegisterState, domain_added, serial_limit}
use Rattle.service_core.specs.Steps.{IsGiven}
use Rattle.service_core.specs.Worlds.{State, seen}
use Rattle.json_import.specs.Fresh.Names.{names_of, with_root}
use Rattle.json_import.specs.Fresh.Renamed.{other_count, other_objects, root_object}
use Rattle.json_import.specs.Adoption.Placing.{placed_each}
use Rattle.json_import.proofs.OfAdoption.DomainLemmas.{adopted_objects, adopted_register, below_next, root_given, root_kind, root_new}
use Rattle.json_import.proofs.adoption.adoption.make_domain.Goals as goal

pub rename-requires : goal.rename-requires
rename-requires c = record {
  room = subst (λ (id : Id). id.serial + other_count c.args.loaded < 2 ^ 40) (sym c.in_ok-root.ensures.root) c.requires.room;
}

pub put_root-requires-clause-given : goal.put_root-requires-clause-given
put_root-requires-clause-given c =
    let old = c.args.world.now in
    subst (λ (s : State). IsGiven s.register c.in_ok-root.root) (sym c.in_ok-root.ensures.ok)
    (subst (λ (id : Id). IsGiven (domain_added old.register c.args.path.now c.args.owner.now) id) (sym c.in_ok-root.ensures.root)
    (root_given old.register c.args.path.now c.args.owner.now))

pub put_root-requires-clause-new : goal.put_root-requires-clause-new
put_root-requires-clause-new c =
    (λ i. get (seen (c.in_ok-root.ensures.ok i)).objects (c.in_ok-root.ensures.root i)) ∙ root_new (seen c.args.world.now) c.is_whole.ensures.objects.given

pub put_root-requires-clause-kind : goal.put_root-requires-clause-kind
put_root-requires-clause-kind c =
    let l = c.args.loaded in
    let root = c.in_ok-root.root in
    subst (λ o. IfSome o (λ x. kind_of_body x.body ≡ root.kind)) (sym c.in_ok-renamed.ensures.root)
    (subst (λ k. IfSome (root_object l root) (λ x. kind_of_body x.body ≡ k)) (sym (ap (λ (id : Id). id.kind) c.in_ok-root.ensures.root))
    (root_kind (names_of l root) root (get l.groups l.root)))

pub put_others-requires-clause-room : goal.put_others-requires-clause-room
put_others-requires-clause-room c =
    let old = c.args.world.now in
    let register = c.in_ok-put_root.ensures.register ∙ ap (λ (s : State). s.register) c.in_ok-root.ensures.ok in
    subst (λ (d : RegisterState). d.serial + length c.in_ok-renamed.renamed.others ≤ serial_limit) (sym register) (omega (arith, c.in_ok-renamed.ensures.many, c.requires.room))

pub put_others-requires-clause-number : goal.put_others-requires-clause-number
put_others-requires-clause-number c =
    let old = c.args.world.now in
    let added = domain_added old.register c.args.path.now c.args.owner.now in
    let register = c.in_ok-put_root.ensures.register ∙ ap (λ (s : State). s.register) c.in_ok-root.ensures.ok in
    let number = ap (λ (id : Id). id.domain) (c.root.view_is ∙ c.in_ok-root.ensures.root) in
    subst (λ (d : RegisterState). c.root.inside.domain < d.catalogue.next) (sym register)
    (subst (λ n. n < added.catalogue.next) (sym number) (below_next old.register.catalogue.next))

pub returns-clause-register : goal.returns-clause-register
returns-clause-register c =
    let old = c.args.world.now in
    let mid = seen c.put_root.new.world in
    let new = seen c.put_others.new.world in
    let others = c.in_ok-renamed.renamed.others in
    let number = ap (λ (id : Id). id.domain) (c.root.view_is ∙ c.in_ok-root.ensures.root) in
    let register = c.in_ok-put_root.ensures.register ∙ ap (λ (s : State). s.register) c.in_ok-root.ensures.ok in
    on_ok_weaker c.put_others.result
    (λ (put : new ≡ placed_each c.root.inside.domain mid others). adopted_register old c.args.path.now c.args.owner.now c.args.loaded mid new others register c.in_ok-renamed.ensures.many
    (put ∙ ap (λ n. placed_each n mid others) number))
    c.put_others.ensures.world

pub returns-clause-objects : goal.returns-clause-objects
returns-clause-objects c =
    let old = c.args.world.now in
    let l = c.args.loaded in
    let mid = seen c.put_root.new.world in
    let new = seen c.put_others.new.world in
    let others = c.in_ok-renamed.renamed.others in
    let number = ap (λ (id : Id). id.domain) (c.root.view_is ∙ c.in_ok-root.ensures.root) in
    let register = c.in_ok-put_root.ensures.register ∙ ap (λ (s : State). s.register) c.in_ok-root.ensures.ok in
    let top = c.in_ok-renamed.ensures.root ∙ ap (root_object l) c.in_ok-root.ensures.root in
    let root = c.in_ok-put_root.ensures.objects ∙ (λ i. with_root (seen (c.in_ok-root.ensures.ok i)).objects (c.in_ok-root.ensures.root i) (top i)) in
    on_ok_weaker c.put_others.result
    (λ (put : new ≡ placed_each c.root.inside.domain mid others). adopted_objects old c.args.path.now c.args.owner.now l mid new others register root
    (c.in_ok-renamed.ensures.others ∙ ap (other_objects l) c.in_ok-root.ensures.root)
    (put ∙ ap (λ n. placed_each n mid others) number))
    c.put_others.ensures.world

pub returns-clause-says : goal.returns-clause-says
returns-clause-says c = λ held told. c.put_others.ensures.says held (c.in_ok-put_root.ensures.says held (c.in_ok-root.ensures.says held told))
