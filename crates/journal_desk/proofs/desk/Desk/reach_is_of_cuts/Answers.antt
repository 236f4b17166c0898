use Rattle.journal_desk.proofs.desk.Desk.reach_is_of_cuts.Goals as goal

pub returns : goal.returns
returns g c = let inv = c.self.invariant.desk in rw (← c.self.view_is) (record {
  lanes = record { cut = inv.cut_cuts.c; last = inv.last_lanes };
  register = inv.last_register;
  kept = inv.kept_cuts;
  far = inv.far;
  legal = inv.legal;
})
