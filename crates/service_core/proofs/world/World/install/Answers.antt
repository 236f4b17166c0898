use Rattle.std.proofs.Common.{ℕ, ◌-◌, ap, ◌∙◌}
use Rattle.domains.specs.Contents.{Contents}
use Rattle.register.specs.Kept.{IsUsedUp}
use Rattle.service_core.proofs.InstallLemmas.{built, lane_fault_handed, named_by, named_handed, named_used, none_installed, of_stray, register_named, used_handed, world_of}
use Rattle.service_core.proofs.OfStrays.StrayLemmas.{least_before, none_before}
use Rattle.service_core.proofs.world.World.install.Goals as goal

pub returns-in_err-register-clause-named : goal.returns-in_err-register-clause-named
returns-in_err-register-clause-named c =
    register_named c.args.kept c.args.lanes c.in_err-register.field-0.0 c.from_residual.result c.from_residual.ensures.1 c.in_err-register.ensures.fault c.in_err-register.ensures.used

pub returns-in_err-owners-clause-fault : goal.returns-in_err-owners-clause-fault
returns-in_err-owners-clause-fault c =
    let is = c.in_ok-register.ensures.described in
    let runs = ap (λ (n : ℕ). n - 1) c.run.ensures in
    let nexts = c.next_number-next.ensures.value ∙ ap (λ (x : Contents). x.next) c.catalogue.ensures in
    lane_fault_handed c.args.kept c.args.lanes c.in_ok-register.register is (c.run.result - 1) c.next_number-next.result runs nexts c.from_residual-in_err-owners.result c.in_err-owners.field-0.0 c.from_residual-in_err-owners.ensures.1 c.in_err-owners.ensures.fault

pub returns-in-Some-clause-fault : goal.returns-in-Some-clause-fault
returns-in-Some-clause-fault c =
    let is = c.in_ok-register.ensures.described in
    let runs = ap (λ (n : ℕ). n - 1) c.run.ensures in
    let nexts = c.next_number-next.ensures.value ∙ ap (λ (x : Contents). x.next) c.catalogue.ensures in
    of_stray c.args.kept c.args.lanes c.in_ok-register.register is (c.run.result - 1) c.next_number-next.result runs nexts c.in-Some.key.now c.bad_record.result c.in_ok-owners.ensures.faultless
    (least_before c.args.kept c.install_lanes.new.kept c.in_ok-owners.ensures.others c.in-Some.key.now c.in-Some.ensures) c.bad_record.ensures

pub invariant_of-result : goal.invariant_of-result
invariant_of-result c =
    let is = c.in_ok-register.ensures.described in
    let runs = ap (λ (n : ℕ). n - 1) c.run.ensures in
    let nexts = c.next_number-next.ensures.value ∙ ap (λ (x : Contents). x.next) c.catalogue.ensures in
    built c.args.kept c.args.lanes c.in_ok-register.register is (c.run.result - 1) c.next_number-next.result runs nexts c.in_ok-owners.owners.items c.in_ok-owners.ensures.given c.in_ok-owners.ensures.count c.in_ok-owners.ensures.lanes

pub returns-clause-described : goal.returns-clause-described
returns-clause-described c =
    let is = c.in_ok-register.ensures.described in
    let runs = ap (λ (n : ℕ). n - 1) c.run.ensures in
    let nexts = c.next_number-next.ensures.value ∙ ap (λ (x : Contents). x.next) c.catalogue.ensures in
    world_of c.args.kept c.args.lanes c.in_ok-register.register is (c.run.result - 1) c.next_number-next.result runs nexts c.in_ok-owners.owners.items c.in_ok-owners.ensures.given c.in_ok-owners.ensures.described
    (none_before c.args.kept c.install_lanes.new.kept c.in_ok-owners.ensures.others c.in-None.ensures)

pub returns-clause-says : goal.returns-clause-says
returns-clause-says c = record {
  register = c.in_ok-register.ensures.says;
  lanes = c.in_ok-owners.ensures.says;
  strays = none_before c.args.kept c.install_lanes.new.kept c.in_ok-owners.ensures.others c.in-None.ensures;
}

pub returns-in_err-owners-clause-named : goal.returns-in_err-owners-clause-named
returns-in_err-owners-clause-named c =
    named_handed _ c.args.kept c.args.lanes c.from_residual-in_err-owners.result c.from_residual-in_err-owners.ensures.1 (returns-in_err-owners-clause-fault c)
    (used_handed (IsUsedUp c.args.kept) c.in_err-owners.field-0.0 c.from_residual-in_err-owners.result c.from_residual-in_err-owners.ensures.1)

pub returns-in-Some-clause-named : goal.returns-in-Some-clause-named
returns-in-Some-clause-named c =
    named_by c.args.kept c.args.lanes c.bad_record.result (returns-in-Some-clause-fault c) (named_used (IsUsedUp c.args.kept) c.in-Some.key.now c.bad_record.result c.bad_record.ensures)

pub returns-clause-named : goal.returns-clause-named
returns-clause-named c =
    let is = c.in_ok-register.ensures.described in
    let runs = ap (λ (n : ℕ). n - 1) c.run.ensures in
    let nexts = c.next_number-next.ensures.value ∙ ap (λ (x : Contents). x.next) c.catalogue.ensures in
    none_installed c.args.kept c.args.lanes c.in_ok-register.register is (c.run.result - 1) c.next_number-next.result runs nexts c.in_ok-owners.ensures.faultless
    (none_before c.args.kept c.install_lanes.new.kept c.in_ok-owners.ensures.others c.in-None.ensures)
