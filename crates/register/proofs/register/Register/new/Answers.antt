use Rattle.std.proofs.Common.{◌≡◌, ℕ, length, arith, ap, sym, subst, ◌∙◌}
use Rattle.std.proofs.lemmas.List.{length-replicate}
use Rattle.register.specs.Decided.{AreGivenOut}
use Rattle.register.proofs.Saying.{unheld_says}
use Rattle.register.proofs.register.Register.new.Goals as goal

pub invariant_of-result : goal.invariant_of-result
invariant_of-result c =
    let lanes : length c.repeated.result ≡ c.args.lanes = ap length c.repeated.ensures ∙ length-replicate c.args.lanes 0 in
    let Given : ℕ → Type 0 = λ n. AreGivenOut c.args.catalogue c.args.run n in
    record {
      run = c.requires.run;
      serial = c.first_serial-serial.ensures.most;
      some_lane = omega arith;
      few_lanes = omega arith;
      roots = subst Given (sym c.first_serial-serial.ensures.value) c.requires.roots;
    }

pub returns-clause-says : goal.returns-clause-says
returns-clause-says c = unheld_says
    (record { catalogue = c.args.catalogue; run = c.args.run; serial = c.first_serial-serial.result; places = 0; issued = c.repeated.result; marks = c.all.result }) c.all.ensures
