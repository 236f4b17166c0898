use Rattle.std.proofs.Common.{◌≡◌, ℕ, Result, Ok, Err, refl, sym, ap, subst, ◌∙◌}
use Rattle.std.proofs.lemmas.Result.{err_from_is_err_and}
use Rattle.flush_journal.specs.Batches.{records}
use Rattle.flush_journal.specs.declared.why.Why.{Why}
use Rattle.flush_journal.specs.Standing.{numbers_of, pending_of}
use Rattle.flush_journal.specs.Keepings.Keepings.{Keeps}
use Rattle.flush_journal.proofs.OfKeepings.Backing.{refused_again, then_kept, with_err, with_ok}
use Rattle.flush_journal.proofs.OfKeepings.Building.{built_after, settled_counts, still_unsettled}
use Rattle.flush_journal.proofs.keepings.keeping.Keeping.keep.Goals as goal

pub returns-in_err-settle-clause-keeps : goal.returns-in_err-settle-clause-keeps
returns-in_err-settle-clause-keeps g c =
    let said = c.in_err-settle.ensures in
    let found = err_from_is_err_and c.from_residual.result c.from_residual.ensures.1 in
    let is : c.from_residual.result ≡ Err c.in_err-settle.field-0.0 = found.1 ∙ ap Err found.2 in
    subst (λ (r : Result ℕ Why). Keeps {D = g.row.D.Denot} {W = g.W.Kept.World} {met = g.D.Disk} g.W.Kept.tells c.args.self.now.journal c.settle.new.self (records c.args.self.now.building)
    (records c.args.self.now.building) (g.W.Kept.says c.args.world.now) (g.W.Kept.says c.args.world.now) (g.W.Kept.world c.args.world.now) r) (sym is)
    (refused_again g.W.Kept.tells c.args.self.now.journal c.settle.new.self (Err c.in_err-settle.field-0.0) g.met.D.Disk.only_now said.writes said.tries said.idle said.untouched said.same
    (records c.args.self.now.building) (g.W.Kept.says c.args.world.now) (g.W.Kept.world c.args.world.now) c.in_err-settle.field-0.0 refl)

pub returns-in_err-append_changes-clause-keeps : goal.returns-in_err-append_changes-clause-keeps
returns-in_err-append_changes-clause-keeps g c =
    let said = c.in_ok-settle.ensures in
    let found = err_from_is_err_and c.from_residual-in_err-append_changes.result c.from_residual-in_err-append_changes.ensures.1 in
    let is : c.from_residual-in_err-append_changes.result ≡ Err c.in_err-append_changes.field-0.0 = found.1 ∙ ap Err found.2 in
    subst (λ (r : Result ℕ Why). Keeps {D = g.row.D.Denot} {W = g.W.Kept.World} {met = g.D.Disk} g.W.Kept.tells c.args.self.now.journal c.append_changes.new.journal (records c.args.self.now.building)
    (records c.append_changes.new.building) (g.W.Kept.says c.args.world.now) (g.W.Kept.says c.append_changes.new.world) (g.W.Kept.world c.append_changes.new.world) r) (sym is)
    (then_kept g.W.Kept.tells c.args.self.now.journal c.settle.new.self (Ok tt) g.met.D.Disk.only_now said.writes said.tries said.idle said.untouched said.same
    c.append_changes.new.journal (records c.args.self.now.building) (records c.append_changes.new.building) (g.W.Kept.says c.args.world.now) (g.W.Kept.says c.append_changes.new.world)
    (g.W.Kept.world c.append_changes.new.world) (Err c.in_err-append_changes.field-0.0) refl
    (with_err g.W.Kept.tells c.settle.new.self c.append_changes.new.journal (records c.args.self.now.building) (records c.append_changes.new.building) (g.W.Kept.says c.args.world.now)
    (g.W.Kept.says c.append_changes.new.world) (g.W.Kept.world c.append_changes.new.world) c.in_err-append_changes.field-0.0 c.in_err-append_changes.ensures.keeps))

pub returns-clause-keeps : goal.returns-clause-keeps
returns-clause-keeps g c =
    let said = c.in_ok-settle.ensures in
    then_kept g.W.Kept.tells c.args.self.now.journal c.settle.new.self (Ok tt) g.met.D.Disk.only_now said.writes said.tries said.idle said.untouched said.same
    c.append_changes.new.journal (records c.args.self.now.building) (records c.append_changes.new.building) (g.W.Kept.says c.args.world.now) (g.W.Kept.says c.append_changes.new.world)
    (g.W.Kept.world c.append_changes.new.world) (Ok c.places-self.result) refl
    (with_ok g.W.Kept.tells c.settle.new.self c.append_changes.new.journal (records c.args.self.now.building) (records c.append_changes.new.building) (g.W.Kept.says c.args.world.now)
    (g.W.Kept.says c.append_changes.new.world) (g.W.Kept.world c.append_changes.new.world) tt c.places-self.result c.in_ok-append_changes.ensures.keeps)

pub returns-in_err-settle-clause-batch : goal.returns-in_err-settle-clause-batch
returns-in_err-settle-clause-batch g c =
    still_unsettled (g.W.Kept.is_cut c.args.world.now) c.args.self.now.journal c.settle.new.self (records c.args.self.now.building) (Err c.in_err-settle.field-0.0)
    c.in_err-settle.field-0.0 refl c.in_err-settle.ensures.tries c.in_err-settle.ensures.idle

pub returns-in_err-append_changes-clause-batch : goal.returns-in_err-append_changes-clause-batch
returns-in_err-append_changes-clause-batch g c =
    let said = c.in_ok-settle.ensures in
    built_after (g.W.Kept.is_cut c.args.world.now) (numbers_of c.args.self.now.journal) (numbers_of c.settle.new.self) (pending_of c.args.self.now.journal) (records c.args.self.now.building)
    (numbers_of c.append_changes.new.journal) (pending_of c.append_changes.new.journal) (records c.append_changes.new.building)
    (settled_counts c.args.self.now.journal c.settle.new.self (Ok tt) refl said.tries said.untouched) c.in_err-append_changes.ensures.batch

pub returns-clause-batch : goal.returns-clause-batch
returns-clause-batch g c =
    let said = c.in_ok-settle.ensures in
    built_after (g.W.Kept.is_cut c.args.world.now) (numbers_of c.args.self.now.journal) (numbers_of c.settle.new.self) (pending_of c.args.self.now.journal) (records c.args.self.now.building)
    (numbers_of c.append_changes.new.journal) (pending_of c.append_changes.new.journal) (records c.append_changes.new.building)
    (settled_counts c.args.self.now.journal c.settle.new.self (Ok tt) refl said.tries said.untouched) c.in_ok-append_changes.ensures.batch
