use Rattle.std.proofs.Common.{◌≡◌, ◌≤◌, ◌+◌, ℕ, List, [], ◌∷◌, ◌++◌, Option, Some, false, map, vec_len, vec_capacity, Vec, Global, sym, ap, ◌∙◌, subst, arith}
use Rattle.std.specs.Prelude.{All, reverse}
use Rattle.std.proofs.lemmas.List.{map-append, reverse-reverse}
use Rattle.std.proofs.lemmas.List.Elements.{All-head}
use Rattle.hall_rule.specs.Sums.{upward}
use Rattle.hall.specs.Passes.{view_of}
use Rattle.hall.specs.declared.gate.OpenGate.{OpenGate}
use Rattle.rest_session.specs.declared.links.end.LinkEnd.{LinkEnd}
use Rattle.rest_session.specs.declared.halls.workers.Worker.{Worker}
use Rattle.rest_session.specs.Halls.Staff.{IsGiver, IsHired}
use Rattle.rest_session.proofs.OfHalls.Lists.{all_back, all_front, all_map, all_push, all_reverse, all_two, upward_push}
use Rattle.rest_session.proofs.OfHalls.Staffs.{map_reverse}
use Rattle.rest_session.proofs.halls.hiring.staff.Goals as goal

pub hire-flusher-requires-clause-giver : goal.hire-flusher-requires-clause-giver
hire-flusher-requires-clause-giver g c = (vec_len c.reverse.new.self, 0, c.hire_all.ensures.giver)

pub returns-clause-giver : goal.returns-clause-giver
returns-clause-giver g c =
    let hired = c.hire-flusher.ensures.giver (vec_len c.reverse.new.self) 0 c.hire_all.ensures.giver in
    subst (λ (m : ℕ). IsGiver c.args.hall.now (m + 1) 0 c.hire-flusher.new.pass) c.reverse.ensures.len hired.0

pub returns-clause-hired : goal.returns-clause-hired
returns-clause-hired g c =
    let hired = c.hire-flusher.ensures.giver (vec_len c.reverse.new.self) 0 c.hire_all.ensures.giver in
    let Hired = λ (w : Worker g.row.D.Denot g.row.F.Denot OpenGate g.row.D-KnownBy.Denot g.D.AtDesk). (x : ℕ) × IsHired c.args.hall.now x w.pass in
    subst (All Hired) (sym c.push_reserved.ensures.items)
    (all_push Hired c.hire_all.new.workers.items c.hire-flusher.result c.hire_all.ensures.hired (vec_len c.reverse.new.self + 1, hired.1))

pub returns-clause-numbers : goal.returns-clause-numbers
returns-clause-numbers g c =
    let hired = c.hire-flusher.ensures.giver (vec_len c.reverse.new.self) 0 c.hire_all.ensures.giver in
    let number = λ (w : Worker g.row.D.Denot g.row.F.Denot OpenGate g.row.D-KnownBy.Denot g.D.AtDesk). (view_of w.pass).number in
    let ws = c.hire_all.new.workers.items in
    let k = vec_len c.reverse.new.self in
    ap (map number) c.push_reserved.ensures.items ∙ map-append number ws (c.hire-flusher.result ∷ []) ∙ ap (λ l. l ++ number c.hire-flusher.result ∷ []) c.hire_all.ensures.numbers
    ∙ ap (λ (m : ℕ). upward 1 k ++ m ∷ []) (hired.1.number ∙ (let e : k + 1 ≡ 1 + k = omega arith in e)) ∙ sym (upward_push 1 k)
    ∙ ap (λ (m : ℕ). upward 1 (m + 1)) c.reverse.ensures.len

pub returns-clause-doors : goal.returns-clause-doors
returns-clause-doors g c =
    let door = λ (w : Worker g.row.D.Denot g.row.F.Denot OpenGate g.row.D-KnownBy.Denot g.D.AtDesk). w.door in
    let some = λ (d : g.row.F.Denot). Some d in
    let ws = c.hire_all.new.workers.items in
    let ds = c.args.doors.now.items in
    ap (map door) c.push_reserved.ensures.items ∙ map-append door ws (c.hire-flusher.result ∷ [])
    ∙ ap (λ (l : List (Option g.row.F.Denot)). l ++ door c.hire-flusher.result ∷ [])
    (c.hire_all.ensures.doors ∙ ap (λ l. reverse (map some l)) c.reverse.ensures.items ∙ ap reverse (map_reverse some ds) ∙ reverse-reverse (map some ds))
    ∙ ap (λ (o : Option g.row.F.Denot). map some ds ++ o ∷ []) c.hire-flusher.ensures.door

pub returns-clause-ready : goal.returns-clause-ready
returns-clause-ready g c =
    let h = c.hire_all.ensures in
    let f = c.hire-flusher.ensures in
    let ws = c.hire_all.new.workers.items in
    let flusher = c.hire-flusher.result in
    let Empty = λ (l : Vec LinkEnd Global). (l.items ≡ []) × (c.args.links ≤ vec_capacity l) in
    let ends = λ (w : Worker g.row.D.Denot g.row.F.Denot OpenGate g.row.D-KnownBy.Denot g.D.AtDesk). w.ends in
    let Ready = λ (w : Worker g.row.D.Denot g.row.F.Denot OpenGate g.row.D-KnownBy.Denot g.D.AtDesk). (w.ends.items ≡ []) × (c.args.links ≤ vec_capacity w.ends) × (w.door_failed ≡ false) in
    let all = subst (All Empty) h.lists c.requires.lists.1 in
    let left = subst (All Empty) f.lists (all_front Empty c.hire_all.new.lists.items _ all) in
    let its = All-head Empty flusher.ends [] (all_back Empty c.hire-flusher.new.lists.items _ left) in
    let theirs = all_map Empty ends ws (all_reverse Empty (map ends ws) (all_back Empty c.hire_all.new.lists.items _ all)) in
    subst (All Ready) (sym c.push_reserved.ensures.items)
    (all_push Ready ws flusher
    (all_two (λ (w : Worker g.row.D.Denot g.row.F.Denot OpenGate g.row.D-KnownBy.Denot g.D.AtDesk). (w.ends.items ≡ []) × (c.args.links ≤ vec_capacity w.ends)) (λ (w : Worker g.row.D.Denot g.row.F.Denot OpenGate g.row.D-KnownBy.Denot g.D.AtDesk). w.door_failed ≡ false)
    Ready ws (λ w e f. (e.0, e.1, f)) theirs h.failed)
    (its.0, its.1, f.failed))
