use Rattle.std.proofs.Common.{◌+◌, false, ap, ◌∙◌, slice_index}
use Rattle.register.specs.Decided.{RegisterState}
use Rattle.hall.proofs.worlds.installed_worlds_are_new.Goals as goal

pub returns : goal.returns
returns c held lanes s of still =
    let d = s.register in
    let begins = of.register.begins in
    let fresh = c.the_register_counts.ensures.fresh d.catalogue lanes (of.register.kept + 1) in
    let marks = ap (λ (r : RegisterState). record r.marks { run = false }) begins in record {
      counts = record {
        places = ap (λ (r : RegisterState). r.places) begins;
        tickets = λ l. ap (λ (r : RegisterState). slice_index r.issued l) begins ∙ fresh.tickets l;
      };
      kept = record { register = ap (λ m. record d { marks = m }) marks; lanes = still };
    }
