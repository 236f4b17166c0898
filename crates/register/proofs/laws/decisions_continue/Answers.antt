use Rattle.register.proofs.Leaving.{calls_leave, continue, issue, of_domains}
use Rattle.register.proofs.laws.decisions_continue.Goals as goal

pub returns : goal.returns
returns c = record { continues = continue; issues = issue; grants = of_domains; left = calls_leave }
