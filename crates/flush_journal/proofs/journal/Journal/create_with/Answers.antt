use Rattle.std.proofs.Common.{◌≡◌, ◌≢◌, [], sym, subst, arith}
use Rattle.edge_traits.specs.Causes.{Rose}
use Rattle.edge_traits.proofs.CauseLemmas.{rose_since}
use Rattle.flush_journal.specs.Batches.{records}
use Rattle.flush_journal.specs.Files.{fresh}
use Rattle.flush_journal.specs.Refusals.{MayRefuseFirst}
use Rattle.flush_journal.specs.declared.why.Why.TheVariants.{DiskFault}
use Rattle.flush_journal.proofs.JournalLemmas.{need_of-size}
use Rattle.flush_journal.proofs.FirstLemmas.{fault_alone, counted}
use Rattle.flush_journal.proofs.journal.Journal.create_with.Goals as goal
use Rattle.flush_journal.proofs.journal.Journal.create_with.Goals.{After-into_disk}

pub returns-in-Ok-clause-numbers : goal.returns-in-Ok-clause-numbers
returns-in-Ok-clause-numbers g c =
    counted c.in_ok-journal.journal c.append.new.self (fresh c.args.lanes) (records c.args.batch) c.in_ok-journal.ensures.numbers (λ some. (c.in-Ok.ensures.tries some).counted) c.in-Ok.ensures.untouched

faulted : (g : _) (c : After-into_disk g) → (c.in-Err.why ≡ DiskFault) × Rose (g.D.Disk.faults c.args.disk) (g.D.Disk.faults c.into_disk.result)
faulted g c =
    let some : records c.args.batch ≢ [] = λ none. let e = c.in-Err.ensures.empty none in absurd (cc) in
    let made = c.in_ok-journal.ensures in
    let need = need_of-size (records c.args.batch) c.frame.result.now some c.frame.ensures.bytes in
    let is = fault_alone _ _ _ _ _ c.in-Err.why (c.in-Err.ensures.tries some).cause (omega (arith, need, made.room, made.same.most, made.numbers.end)) in (
      is.0,
      rose_since _ _ _ made.same.faults (subst (λ d. Rose (g.D.Disk.faults c.in_ok-journal.journal.disk) (g.D.Disk.faults d)) (sym c.into_disk.ensures) is.1),
    )

pub returns-in-Err-clause-refused : goal.returns-in-Err-clause-refused
returns-in-Err-clause-refused g c = λ h other. absurd (other (faulted g c).0)

pub returns-in-Err-clause-why : goal.returns-in-Err-clause-why
returns-in-Err-clause-why g c =
    let is = faulted g c in
    subst (MayRefuseFirst (records c.args.batch) g.D.Disk.honest (g.D.Disk.reads c.args.disk) (g.D.Disk.most c.args.disk) (g.D.Disk.faults c.args.disk) (g.D.Disk.faults c.into_disk.result)) (sym is.0) is.1
