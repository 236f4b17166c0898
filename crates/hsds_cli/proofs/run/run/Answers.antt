use Rattle.std.proofs.Common.{◌≡◌, ◌⊎◌, ℕ, Option, map, string_bytes, Global, sym, subst}
use Rattle.command_words.specs.Commands.{Command}
use Rattle.hsds_cli.specs.Doors.{doors_of}
use Rattle.hsds_cli.specs.Runs.{IsCommanded, IsRun, MayBeUnkept}
use Rattle.hsds_cli.specs.Sides.{Sides, sides_of}
use Rattle.hsds_cli.proofs.ClosedLemmas.{kept_of_run}
use Rattle.hsds_cli.proofs.CompleteLemmas.{complete, ends}
use Rattle.hsds_cli.proofs.RunLemmas.{ran_as}
use Rattle.hsds_cli.proofs.run.run.Goals as goal

pub returns-clause-run : goal.returns-clause-run
returns-clause-run g c =
    let end = c.obey-disk.result.end in
    (end.status, c.number.ensures, c.obey-disk.ensures.same, c.obey-disk.ensures.run)

pub returns-clause-complete : goal.returns-clause-complete
returns-clause-complete g c = λ command after honest words is undisturbed.
    let obeyed = c.obey-disk in
    let end = obeyed.result.end in
    let sides : Sides = sides_of g.C.Source g.S.Source g.K.Sink c.args.config.now obeyed.new.config c.args.input.now obeyed.new.input c.args.out.now obeyed.new.out in
    let doors = doors_of g.F.Door g.F.Link.Source g.F.Link.Sink c.args.doors.items obeyed.result.doors.items in
    let ran = ran_as g.D.Disk _ (map (string_bytes {Z = Global}) c.args.words.now) sides doors c.args.disk after end.disk end.closed end.status command is words obeyed.ensures.run in
    subst (λ (n : ℕ). (n ≡ 0) ⊎ (n ≡ 13)) (sym c.number.ensures)
    (ends end.status (complete g.D.Disk _ honest sides doors c.args.disk after end.closed command end.status ran undisturbed))

pub returns-clause-kept : goal.returns-clause-kept
returns-clause-kept g c = λ closed is.
    let obeyed = c.obey-disk in
    let end = obeyed.result.end in
    let sides : Sides = sides_of g.C.Source g.S.Source g.K.Sink c.args.config.now obeyed.new.config c.args.input.now obeyed.new.input c.args.out.now obeyed.new.out in
    let doors = doors_of g.F.Door g.F.Link.Source g.F.Link.Sink c.args.doors.items obeyed.result.doors.items in
    subst (λ (n : ℕ). (closed.kept ≡ closed.front) ⊎ MayBeUnkept n) (sym c.number.ensures)
    (kept_of_run g.D.Disk _ (map (string_bytes {Z = Global}) c.args.words.now) sides doors c.args.disk end.disk end.closed closed is end.status obeyed.ensures.run)
