use Rattle.std.proofs.Common.{List, ℕ, subst}
use Rattle.domains.specs.declared.records.faults.NodeFault.TheVariants.{BadNode}
use Rattle.object_records.specs.Keys.Keys.{next_key}
use Rattle.register.specs.Installed.Walks.{Names}
use Rattle.register.proofs.OfInstalled.RegisterFaults.{least_next, named}
use Rattle.register.proofs.OfInstalled.RegisterWalks.{described, given_number}
use Rattle.register.proofs.installed.installs.install.Goals as goal

pub returns-in_default-next-clause-fault : goal.returns-in_default-next-clause-fault
returns-in_default-next-clause-fault c = named c.args.kept.now next_key BadNode c.fault_at-in_default-next.result (subst (λ (k : List ℕ). Names k BadNode c.fault_at-in_default-next.result) c.next_key.ensures c.fault_at-in_default-next.ensures)
    (least_next c.args.kept.now c.in-Some.run' c.in-Some.ensures c.in_ok-catalogue.ensures.root c.in_ok-catalogue.ensures.rules c.in_default-next.ensures)

pub set_next-requires-clause-above : goal.set_next-requires-clause-above
set_next-requires-clause-above c = given_number c.args.kept.now c.in_ok-catalogue.catalogue c.in-Some-next.next c.in-Some-next.ensures c.in_ok-catalogue.ensures.nodes c.in_ok-catalogue.ensures.rules

pub returns-clause-described : goal.returns-clause-described
returns-clause-described c = described c.args.kept.now c.in-Some.run' c.in-Some-next.next c.in_ok-catalogue.catalogue c.set_next.new.self c.in-Some.ensures c.in-Some-next.ensures c.in_ok-catalogue.ensures.nodes
    c.in_ok-catalogue.ensures.root c.in_ok-catalogue.ensures.rules c.set_next.ensures
