use Rattle.std.proofs.Common.{rules, arith, ◌∙◌}
use Rattle.http_wire.proofs.Inputs.{none_at_first, fault_none}
use Rattle.http_wire.proofs.Windows.{kept_more}
use Rattle.http_wire.proofs.reading.find_head.Goals as goal

pub reads-preserved : goal.reads-preserved
reads-preserved g c = (
  search rules,
  c.in-More.ensures.read.1.0,
  search rules,
  kept_more _ _ _ _ _ _ _ c.reads.invariant.3 c.in-More.ensures.stays c.in-More.ensures.read.1.1,
  c.in-More.ensures.beside ∙ c.reads.invariant.4,
  c.in-More.ensures.names ∙ c.reads.invariant.5,
  omega (arith, c.reads.invariant.6, c.in-More.ensures.later),
  λ h rest reads. absurd (none_at_first _ _ _ _ c.reads.invariant.7 c.in-Unfinished.ensures.0 h rest reads),
)

pub returns-in-Fault-clause-kept : goal.returns-in-Fault-clause-kept
returns-in-Fault-clause-kept g c =
    kept_more _ _ _ _ _ _ _ c.reads.invariant.3 c.in-Fault.ensures.stays c.in-Fault.ensures.read.0.1

pub returns-in-Fault-clause-found : goal.returns-in-Fault-clause-found
returns-in-Fault-clause-found g c =
    fault_none _ _ _ _ c.in-Unfinished.ensures.0 c.in-Fault.ensures.stays c.in-Fault.ensures.read.1
