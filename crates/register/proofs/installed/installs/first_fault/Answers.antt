use Rattle.register.proofs.OfInstalled.RegisterFaults.{least_first, named}
use Rattle.register.proofs.OfInstalled.RegisterWalks.{blames}
use Rattle.register.proofs.installed.installs.first_fault.Goals as goal

pub returns : goal.returns
returns c = λ run is_run. named c.args.kept.now c.first_key.result.now c.args.fault c.fault_at.result c.fault_at.ensures
    (blames c.args.fault c.requires.root (λ unrooted. least_first c.args.kept.now run c.first_key.result.now is_run unrooted c.first_key.ensures))
