use Rattle.std.proofs.Common.{◌≡◌, ◌++◌, [], ◌∷◌, None, Some, map, sym, ap, ◌∙◌, subst}
use Rattle.std.specs.Prelude.{All}
use Rattle.std.proofs.lemmas.List.{map-append}
use Rattle.hall.specs.Passes.{IsPassOf, TookIn, view_of}
use Rattle.hall.specs.declared.gate.OpenGate.{OpenGate}
use Rattle.rest_session.specs.declared.halls.workers.Worker.{Worker}
use Rattle.rest_session.specs.Halls.Staff.{IsAlone}
use Rattle.rest_session.proofs.OfHalls.Lists.{all_front, all_push, report, reversed_back}
use Rattle.rest_session.proofs.OfHalls.Shares.{took_on}
use Rattle.rest_session.proofs.OfHalls.Staffs.{at_doors, last_same, map_reverse}
use Rattle.rest_session.proofs.halls.hiring.dismiss.Goals as goal

pub take_in-requires-clause-all_of : goal.take_in-requires-clause-all_of
take_in-requires-clause-all_of g c =
    let ws = c.pop.new.self.items in
    let flusher = c.unwrap-flusher.result in
    let parted : c.args.workers.items ≡ ws ++ flusher ∷ [] = rw c.unwrap-flusher.ensures at c.pop.ensures.items in
    let Ours = λ (w : Worker g.row.D.Denot g.row.F.Denot OpenGate g.row.D-KnownBy.Denot g.D.AtDesk). IsPassOf c.args.hall.now w.pass × IsAlone (view_of w.pass) in
    all_front Ours ws (flusher ∷ []) (subst (All Ours) parted c.requires.all_of)

pub take_in-requires-clause-at_doors : goal.take_in-requires-clause-at_doors
take_in-requires-clause-at_doors g c =
    let ws = c.pop.new.self.items in
    let flusher = c.unwrap-flusher.result in
    let parted : c.args.workers.items ≡ ws ++ flusher ∷ [] = rw c.unwrap-flusher.ensures at c.pop.ensures.items in
    let door = λ (w : Worker g.row.D.Denot g.row.F.Denot OpenGate g.row.D-KnownBy.Denot g.D.AtDesk). w.door in
    let some = λ (d : g.row.F.Denot). Some d in
    let given = c.requires.staff in
    at_doors door ws given.0
    (last_same (map door ws) (map some given.0) (door flusher) None (sym (map-append door ws (flusher ∷ [])) ∙ ap (map door) (sym parted) ∙ given.1)).0

pub returns-clause-itself : goal.returns-clause-itself
returns-clause-itself g c =
    took_on (view_of c.take_in.new.pass) (view_of c.take_flusher.new.pass) (view_of c.args.pass.now) c.take_in.ensures.itself c.take_flusher.ensures.itself

pub returns-clause-others : goal.returns-clause-others
returns-clause-others g c =
    let ws = c.pop.new.self.items in
    let flusher = c.unwrap-flusher.result in
    let parted : c.args.workers.items ≡ ws ++ flusher ∷ [] = rw c.unwrap-flusher.ensures at c.pop.ensures.items in
    let Mine = λ (w : Worker g.row.D.Denot g.row.F.Denot OpenGate g.row.D-KnownBy.Denot g.D.AtDesk). TookIn (view_of c.take_in.new.pass) (view_of w.pass) in
    subst (All Mine) (sym parted)
    (all_push Mine ws flusher c.take_in.ensures.others
    (took_on (view_of c.take_in.new.pass) (view_of c.take_flusher.new.pass) (view_of flusher.pass) c.take_in.ensures.itself c.take_flusher.ensures.other))

pub returns-clause-doors : goal.returns-clause-doors
returns-clause-doors g c =
    let ws = c.pop.new.self.items in
    let flusher = c.unwrap-flusher.result in
    let parted : c.args.workers.items ≡ ws ++ flusher ∷ [] = rw c.unwrap-flusher.ensures at c.pop.ensures.items in
    let door = λ (w : Worker g.row.D.Denot g.row.F.Denot OpenGate g.row.D-KnownBy.Denot g.D.AtDesk). w.door in
    let some = λ (d : g.row.F.Denot). Some d in
    let given = c.requires.staff in
    let taken = c.take_in.new.doors.items in
    let both = last_same (map door ws) (map some given.0) (door flusher) None (sym (map-append door ws (flusher ∷ [])) ∙ ap (map door) (sym parted) ∙ given.1) in
    let back : map some c.reverse.new.self.items ≡ map door ws =
    ap (map some) c.reverse.ensures.items ∙ map_reverse some taken
    ∙ reversed_back (map some taken) (map some c.args.doors.now.items) (map door ws) (ap (map some) c.requires.doors_room.0) c.take_in.ensures.doors in
    ap (map door) parted ∙ map-append door ws (flusher ∷ []) ∙ (λ j. sym back j ++ both.1 j ∷ [])

pub returns-clause-reports : goal.returns-clause-reports
returns-clause-reports g c =
    let ws = c.pop.new.self.items in
    let flusher = c.unwrap-flusher.result in
    let parted : c.args.workers.items ≡ ws ++ flusher ∷ [] = rw c.unwrap-flusher.ensures at c.pop.ensures.items in
    let told = report {F = g.row.F.Denot} {G = OpenGate} {g = g.D.AtDesk} in
    let back : c.reverse-2.new.self.items ≡ map told ws =
    c.reverse-2.ensures.items ∙ reversed_back c.take_in.new.reports.items c.args.reports.now.items (map told ws) c.requires.reports_room.0 c.take_in.ensures.reports in
    (told flusher, ap (map told) parted ∙ map-append told ws (flusher ∷ []) ∙ ap (λ l. l ++ told flusher ∷ []) (sym back))
