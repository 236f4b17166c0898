use Rattle.std.proofs.Common.{◌≡◌, ℕ, ◌+◌, ◌++◌, ◌∷◌, [], Some, false, map, vec_len, sym, ap, ◌∙◌, subst, arith}
use Rattle.std.specs.Prelude.{All, reverse}
use Rattle.std.proofs.lemmas.List.{map-append}
use Rattle.hall_rule.specs.Sums.{upward}
use Rattle.hall.specs.declared.gate.OpenGate.{OpenGate}
use Rattle.hall.specs.Passes.{view_of}
use Rattle.rest_session.specs.declared.halls.workers.Worker.{Worker}
use Rattle.rest_session.specs.Halls.Staff.{IsGiver, IsHired}
use Rattle.rest_session.proofs.OfHalls.Lists.{all_push, moved, reverse_push, unpiled, upward_push}
use Rattle.rest_session.proofs.halls.hiring.hire_all.Goals as goal

pub hire-worker-requires-clause-giver : goal.hire-worker-requires-clause-giver
hire-worker-requires-clause-giver g c = (vec_len c.doors.workers, vec_len c.doors.doors, c.doors.invariant.giver)

pub doors-preserved : goal.doors-preserved
doors-preserved g c =
    let i = c.doors.invariant in
    let h = c.hire-worker.ensures in
    let k = vec_len c.doors.workers in
    let n = vec_len c.pop.new.self in
    let ws = c.doors.workers.items in
    let w = c.hire-worker.result in
    let fewer : vec_len c.doors.doors ≡ n + 1 = omega (arith, c.in-Some.ensures.cases) in
    let both = h.giver k (vec_len c.doors.doors) i.giver in
    let some = λ (d : g.row.F.Denot). Some d in
    let more = c.push_reserved.ensures in
    let left = c.pop.new.self.items in
    let Hired = λ (x : Worker g.row.D.Denot g.row.F.Denot OpenGate g.row.D-KnownBy.Denot g.D.AtDesk). (m : ℕ) × IsHired c.args.hall.now m x.pass in
    let number = λ (x : Worker g.row.D.Denot g.row.F.Denot OpenGate g.row.D-KnownBy.Denot g.D.AtDesk). (view_of x.pass).number in record {
      count = omega arith;
      giver = subst (λ (m : ℕ). IsGiver c.args.hall.now m (n + 1) c.hire-worker.new.pass) (sym more.len) (subst (λ (m : ℕ). IsGiver c.args.hall.now (k + 1) m c.hire-worker.new.pass) fewer both.0);
      hired = subst (All Hired) (sym more.items) (all_push Hired ws w i.hired (k + 1, both.1));
      numbers = ap (map number) more.items ∙ map-append number ws (w ∷ []) ∙ ap (λ l. l ++ number w ∷ []) i.numbers
          ∙ ap (λ m. upward 1 k ++ m ∷ []) (both.1.number ∙ (let e : k + 1 ≡ 1 + k = omega arith in e)) ∙ sym (upward_push 1 k) ∙ ap (upward 1) (sym more.len);
      doors = ap (λ l. map (λ (x : Worker g.row.D.Denot g.row.F.Denot OpenGate g.row.D-KnownBy.Denot g.D.AtDesk). x.door) l ++ reverse (map some left)) more.items
          ∙ moved (λ (x : Worker g.row.D.Denot g.row.F.Denot OpenGate g.row.D-KnownBy.Denot g.D.AtDesk). x.door) ws w (reverse (map some c.doors.doors.items)) (reverse (map some left)) _
          (ap (λ l. reverse (map some l)) c.in-Some.ensures.items ∙ ap reverse (map-append some left (c.in-Some.door ∷ [])) ∙ reverse_push (map some left) (some c.in-Some.door)
          ∙ (λ j. sym h.door j ∷ reverse (map some left))) i.doors;
      lists = unpiled (λ (x : Worker g.row.D.Denot g.row.F.Denot OpenGate g.row.D-KnownBy.Denot g.D.AtDesk). x.ends) ws w c.doors.lists.items c.hire-worker.new.lists.items _ h.lists i.lists
          ∙ ap (λ l. c.hire-worker.new.lists.items ++ reverse (map (λ (x : Worker g.row.D.Denot g.row.F.Denot OpenGate g.row.D-KnownBy.Denot g.D.AtDesk). x.ends) l)) (sym more.items);
      left = let a = h.left in let b = i.left in omega arith;
      failed = subst (All (λ (x : Worker g.row.D.Denot g.row.F.Denot OpenGate g.row.D-KnownBy.Denot g.D.AtDesk). x.door_failed ≡ false)) (sym more.items)
          (all_push (λ (x : Worker g.row.D.Denot g.row.F.Denot OpenGate g.row.D-KnownBy.Denot g.D.AtDesk). x.door_failed ≡ false) ws w i.failed h.failed);
      workers_room = more.capacity ∙ i.workers_room;
      doors_room = c.pop.ensures.capacity ∙ i.doors_room;
    }
