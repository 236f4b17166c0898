use Rattle.std.proofs.Common.{◌≡◌, List, [], None, Result, Err, refl, sym, ap, subst, ◌∙◌}
use Rattle.std.proofs.lemmas.Result.{err_from_is_err_and}
use Rattle.flush_journal.specs.Batches.{records}
use Rattle.flush_journal.specs.Records.{Record, put_all}
use Rattle.flush_journal.specs.declared.why.Why.{Why}
use Rattle.flush_journal.specs.declared.why.Why.TheVariants.{NoMemory}
use Rattle.flush_journal.specs.Standing.{numbers_of, pending_of}
use Rattle.flush_journal.specs.Cuts.Cuts.{AppendsOnce}
use Rattle.flush_journal.specs.Keepings.Keepings.{Builds, uncut, Keeps}
use Rattle.flush_journal.proofs.OfKeepings.Backing.{appended, cut_failed}
use Rattle.flush_journal.proofs.OfKeepings.Building.{tried}
use Rattle.flush_journal.proofs.keepings.keeping.append_changes.Goals as goal

pub returns-in_err-cut-clause-keeps : goal.returns-in_err-cut-clause-keeps
returns-in_err-cut-clause-keeps g c =
    let found = err_from_is_err_and c.from_residual.result c.from_residual.ensures.1 in
    let is : c.from_residual.result ≡ Err NoMemory = found.1 ∙ ap Err found.2 in
    subst (λ (r : Result (Unit {0}) Why). Keeps {D = g.row.D.Denot} {W = g.W.Kept.World} {met = g.D.Disk} g.W.Kept.tells c.args.journal.now c.args.journal.now (records c.args.building.now) (records c.cut.new.into)
    (g.W.Kept.says c.args.world.now) (g.W.Kept.says c.cut.new.self) (g.W.Kept.world c.cut.new.self) r) (sym is)
    (cut_failed g.W.Kept.tells c.args.journal.now c.args.journal.now (records c.args.building.now) (records c.cut.new.into) (g.W.Kept.says c.args.world.now) (g.W.Kept.says c.cut.new.self)
    (g.W.Kept.world c.cut.new.self) g.met.D.Disk.only_now c.requires.idle c.in_err-cut.ensures.cut)

pub returns-clause-keeps : goal.returns-clause-keeps
returns-clause-keeps g c =
    let batch : records c.replace-batch.result ≡ records c.cut.new.into = ap records c.replace-batch.ensures.value in
    let none : records c.replace-batch.new.dest ≡ [] = ap records c.replace-batch.ensures.after ∙ c.new.ensures in
    subst (λ (built : List Record). Keeps {D = g.row.D.Denot} {W = g.W.Kept.World} {met = g.D.Disk} g.W.Kept.tells c.args.journal.now c.append.new.self (records c.args.building.now) built
    (g.W.Kept.says c.args.world.now) (g.W.Kept.says c.cut.new.self) (g.W.Kept.world c.cut.new.self) c.append.result) (sym none)
    (appended g.W.Kept.tells c.args.journal.now c.append.new.self (records c.args.building.now) (records c.replace-batch.result) (g.W.Kept.says c.args.world.now) (g.W.Kept.says c.cut.new.self)
    (g.W.Kept.world c.cut.new.self) g.met.D.Disk.only_now c.requires.idle
    (λ m said. subst (λ (rs : List Record). g.W.Kept.says c.cut.new.self (put_all rs m)) (sym batch) (c.in_ok-cut.ensures.cut m said))
    c.append.result c.in_ok-cut.ensures.told c.append.ensures.writes c.append.ensures.tries c.append.ensures.empty c.append.ensures.untouched c.append.ensures.same)

pub returns-in_err-cut-clause-batch : goal.returns-in_err-cut-clause-batch
returns-in_err-cut-clause-batch g c = uncut c.requires.idle c.in_err-cut.ensures.bodies refl

pub returns-clause-batch : goal.returns-clause-batch
returns-clause-batch g c =
    let batch : records c.replace-batch.result ≡ records c.cut.new.into = ap records c.replace-batch.ensures.value in
    let none : records c.replace-batch.new.dest ≡ [] = ap records c.replace-batch.ensures.after ∙ c.new.ensures in
    subst (Builds (g.W.Kept.is_cut c.args.world.now) (numbers_of c.args.journal.now) None (records c.args.building.now) (numbers_of c.append.new.self) (pending_of c.append.new.self)) (sym none)
    (tried (g.W.Kept.is_cut c.args.world.now) c.args.journal.now c.append.new.self (records c.args.building.now) c.append.result (records c.replace-batch.result)
    (subst (AppendsOnce (g.W.Kept.is_cut c.args.world.now) (records c.args.building.now)) (sym batch) c.in_ok-cut.ensures.bodies) c.requires.idle c.append.ensures.tries c.append.ensures.untouched)
