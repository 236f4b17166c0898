use Rattle.std.proofs.Common.{ap, ◌∙◌}
use Rattle.hall.specs.ArrayMachines.{start_of}
use Rattle.hall.proofs.DeskWorkLemmas.{below_after, counted_after}
use Rattle.hall.proofs.flushing.Hall+JournalDesk+D.kept.Goals as goal

pub invariant_of-pass : goal.invariant_of-pass
invariant_of-pass g c =
    let p = c.args.pass.now in
    let start = start_of c.args.self.now.table.shared.key in
    let kept = c.take_desk.ensures.turn.2.turn in record {
      idle = ap (λ v. v.claims) kept.is;
      bare = c.take_desk.ensures.slots ∙ p.bare;
      live = ap (λ v. v.live) kept.is ∙ p.live;
      alone = ap (λ v. v.guests) kept.is;
      counted = counted_after start _ _ _ kept p.front p.counted;
      below = below_after start _ _ _ kept p.front p.below;
    }
