use Rattle.std.proofs.Common.{sym, ◌∙◌}
use Rattle.chunk_owner.proofs.OfSlots.KeptSlots.{dropped_here, gone_others}
use Rattle.chunk_owner.proofs.slots.settling.settle_at.Goals as goal

pub returns-then-is_dropped-clause-here : goal.returns-then-is_dropped-clause-here
returns-then-is_dropped-clause-here c = dropped_here c.args.slots.now c.remove.new.self c.args.id.now (sym c.is_dropped.ensures ∙ c.if-is_dropped.true) c.remove.ensures.rest

pub returns-then-is_dropped-clause-others : goal.returns-then-is_dropped-clause-others
returns-then-is_dropped-clause-others c = λ other apart. gone_others c.args.slots.now c.remove.new.self c.args.id.now other c.remove.ensures.rest apart
