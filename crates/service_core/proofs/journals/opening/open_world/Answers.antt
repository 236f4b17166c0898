use Rattle.std.proofs.Common.{◌∙◌, ℕ, ap, subst, sym}
use Rattle.flush_journal.specs.Records.{Held}
use Rattle.flush_journal.specs.declared.report.Report.{Report}
use Rattle.service_core.specs.Records.{IsWorldOf, WorldSays}
use Rattle.service_core.specs.Journals.Opening.{IsBadKeyTold, MayRefuseOpening}
use Rattle.service_core.specs.declared.journals.faults.OpenFault.{OpenFault}
use Rattle.service_core.proofs.OfJournals.OpeningLemmas.{bad_key_told, fault_read, install_refused, sizes_read, unused_read}
use Rattle.service_core.proofs.journals.opening.open_world.Goals as goal

pub returns-in-Ok-install-clause-opened : goal.returns-in-Ok-install-clause-opened
returns-in-Ok-install-clause-opened g c = λ honest.
    let got = c.in-Ok.ensures.recovered honest in
    let lanes = ap (λ (r : Report). r.lanes) c.report.ensures.numbers ∙ got.2.numbers.lanes in
    let world = c.in-Ok-install.world in (
      got.0,
      got.1,
      got.2,
      subst (λ (n : ℕ). IsWorldOf got.0.held n world) lanes
          (subst (λ (held : Held). IsWorldOf held c.report.result.lanes world) got.3 c.in-Ok-install.ensures.described),
      subst (λ (held : Held). WorldSays world held) got.3 c.in-Ok-install.ensures.says,
    )

pub returns-in-Ok-install-clause-installed : goal.returns-in-Ok-install-clause-installed
returns-in-Ok-install-clause-installed g c = record {
  held = c.in-Ok.found.1;
  lanes = c.report.result.lanes;
  world = c.in-Ok-install.ensures.described;
  still = c.in-Ok-install.ensures.still;
}

pub returns-in-Err-install-clause-why : goal.returns-in-Err-install-clause-why
returns-in-Err-install-clause-why g c =
    subst (λ (e : OpenFault). MayRefuseOpening g.D.Disk.honest (g.D.Disk.reads c.args.disk) (g.D.Disk.faults c.args.disk) (g.D.Disk.faults c.into_disk.result) e)
    (sym c.from.ensures)
    (install_refused g.D.Disk.honest (g.D.Disk.reads c.args.disk) (g.D.Disk.faults c.args.disk) (g.D.Disk.faults c.into_disk.result)
    c.report.result.lanes c.in-Ok.found.1 c.in-Err-install.fault
    (λ honest.
    let got = c.in-Ok.ensures.recovered honest in
    (got.0, got.1, ap (λ (r : Report). r.lanes) c.report.ensures.numbers ∙ got.2.numbers.lanes, got.3))
    c.in-Err-install.ensures.fault c.in-Err-install.ensures.used c.in-Err-install.ensures.told)

pub returns-in-Ok-install-clause-sizes : goal.returns-in-Ok-install-clause-sizes
returns-in-Ok-install-clause-sizes g c = λ honest content' is.
    let got = c.in-Ok.ensures.recovered honest in
    let lanes = ap (λ (r : Report). r.lanes) c.report.ensures.numbers ∙ got.2.numbers.lanes in
    sizes_read (g.D.Disk.reads c.args.disk) got.0 content' got.1 is c.report.result.lanes c.in-Ok.found.1 lanes got.3 c.sizes.ensures

pub returns-in-Ok-install-clause-bad_key : goal.returns-in-Ok-install-clause-bad_key
returns-in-Ok-install-clause-bad_key g c = λ honest content' is key fault unused.
    let got = c.in-Ok.ensures.recovered honest in
    let lanes = ap (λ (r : Report). r.lanes) c.report.ensures.numbers ∙ got.2.numbers.lanes in
    c.in-Ok-install.ensures.named key (fault_read (g.D.Disk.reads c.args.disk) got.0 content' got.1 is c.report.result.lanes c.in-Ok.found.1 lanes got.3 key fault)
    (unused_read (g.D.Disk.reads c.args.disk) got.0 content' got.1 is c.report.result.lanes c.in-Ok.found.1 lanes got.3 unused)

pub returns-in-Err-install-clause-bad_key : goal.returns-in-Err-install-clause-bad_key
returns-in-Err-install-clause-bad_key g c = λ honest content' is key fault unused.
    let got = c.in-Ok.ensures.recovered honest in
    let lanes = ap (λ (r : Report). r.lanes) c.report.ensures.numbers ∙ got.2.numbers.lanes in
    subst (λ (e : OpenFault). IsBadKeyTold key e) (sym c.from.ensures)
    (bad_key_told key c.in-Err-install.fault (c.in-Err-install.ensures.named key
    (fault_read (g.D.Disk.reads c.args.disk) got.0 content' got.1 is c.report.result.lanes c.in-Ok.found.1 lanes got.3 key fault)
    (unused_read (g.D.Disk.reads c.args.disk) got.0 content' got.1 is c.report.result.lanes c.in-Ok.found.1 lanes got.3 unused)))
