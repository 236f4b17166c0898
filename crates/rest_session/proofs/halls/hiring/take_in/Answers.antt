use Rattle.std.proofs.Common.{◌≡◌, ◌++◌, [], ◌∷◌, Some, map, length, refl, sym, ap, ◌∙◌, subst, arith, append_assoc, append-nil}
use Rattle.std.specs.Prelude.{All, IsSome, reverse}
use Rattle.std.proofs.lemmas.List.{map-append}
use Rattle.std.proofs.lemmas.List.Elements.{All-cons}
use Rattle.hall.specs.Passes.{IsPassOf, TookIn, view_of}
use Rattle.hall.specs.declared.gate.OpenGate.{OpenGate}
use Rattle.rest_session.specs.declared.halls.workers.Worker.{Worker}
use Rattle.rest_session.specs.Halls.Staff.{IsAlone}
use Rattle.rest_session.proofs.OfHalls.Lists.{all_mid, all_none, all_on, empty_of_length, handed_back, report}
use Rattle.rest_session.proofs.OfHalls.Shares.{one_name, took_itself, took_on}
use Rattle.rest_session.proofs.halls.hiring.take_in.Goals as goal

pub workers-init : goal.workers-init
workers-init g c = record {
  done = [];
  parted = sym (append-nil _);
  of = c.requires.of;
  names = omega arith;
  itself = took_itself (view_of c.args.pass.now);
  others = all_none _;
  handed = sym (append-nil _);
  told = sym (append-nil _);
  doors_room = c.requires.doors_room;
  reports_room = c.requires.reports_room;
}

pub join-requires-clause-of_this_hall_too : goal.join-requires-clause-of_this_hall_too
join-requires-clause-of_this_hall_too g c =
    let i = c.workers.invariant in
    let w = c.in-Some.worker in
    let left = c.pop.new.self.items in
    let parted : c.args.workers.items ≡ left ++ w ∷ i.done = i.parted ∙ ap (λ l. l ++ i.done) c.in-Some.ensures.items ∙ append_assoc left (w ∷ []) i.done in
    let Ours = λ (x : Worker g.row.D.Denot g.row.F.Denot OpenGate g.row.D-KnownBy.Denot g.D.AtDesk). IsPassOf c.args.hall.now x.pass × IsAlone (view_of x.pass) in
    (all_mid Ours left i.done w (subst (All Ours) parted c.requires.all_of)).0

pub unwrap-requires : goal.unwrap-requires
unwrap-requires g c =
    let i = c.workers.invariant in
    let w = c.in-Some.worker in
    let left = c.pop.new.self.items in
    let parted : c.args.workers.items ≡ left ++ w ∷ i.done = i.parted ∙ ap (λ l. l ++ i.done) c.in-Some.ensures.items ∙ append_assoc left (w ∷ []) i.done in
    let AtDoor = λ (x : Worker g.row.D.Denot g.row.F.Denot OpenGate g.row.D-KnownBy.Denot g.D.AtDesk). IsSome x.door in
    all_mid AtDoor left i.done w (subst (All AtDoor) parted c.requires.at_doors)

pub workers-preserved : goal.workers-preserved
workers-preserved g c =
    let i = c.workers.invariant in
    let w = c.in-Some.worker in
    let left = c.pop.new.self.items in
    let some = λ (d : g.row.F.Denot). Some d in
    let v = view_of c.workers.pass in
    let u = view_of c.join.new.pass in
    let j = c.join.ensures in
    let parted : c.args.workers.items ≡ left ++ w ∷ i.done = i.parted ∙ ap (λ l. l ++ i.done) c.in-Some.ensures.items ∙ append_assoc left (w ∷ []) i.done in
    let Ours = λ (x : Worker g.row.D.Denot g.row.F.Denot OpenGate g.row.D-KnownBy.Denot g.D.AtDesk). IsPassOf c.args.hall.now x.pass × IsAlone (view_of x.pass) in
    let alone = (all_mid Ours left i.done w (subst (All Ours) parted c.requires.all_of)).1 in
    let Mine = λ (x : Worker g.row.D.Denot g.row.F.Denot OpenGate g.row.D-KnownBy.Denot g.D.AtDesk). TookIn u (view_of x.pass) in
    let theirs = all_on (λ (x : Worker g.row.D.Denot g.row.F.Denot OpenGate g.row.D-KnownBy.Denot g.D.AtDesk). TookIn v (view_of x.pass)) Mine i.done
    (λ x t. took_on u v (view_of x.pass) j.mine t) i.others in record {
      done = w ∷ i.done;
      parted = parted;
      of = j.of_this_hall;
      names = let n = i.names in let m = j.names in let one = one_name (view_of w.pass) w.pass.live alone in omega (arith, n, m, one);
      itself = took_on u v (view_of c.args.pass.now) j.mine i.itself;
      others = All-cons Mine w i.done j.theirs theirs;
      handed = handed_back (λ (x : Worker g.row.D.Denot g.row.F.Denot OpenGate g.row.D-KnownBy.Denot g.D.AtDesk). x.door) i.done w (map some c.workers.doors.items) (map some c.args.doors.now.items) _
          (some c.unwrap.result) (ap (map some) c.push_reserved.ensures.items ∙ map-append some c.workers.doors.items (c.unwrap.result ∷ [])) c.unwrap.ensures i.handed;
      told = handed_back (report {F = g.row.F.Denot} {G = OpenGate} {g = g.D.AtDesk}) i.done w c.workers.reports.items c.args.reports.now.items _ (report w) c.push_reserved-in-Some.ensures.items refl i.told;
      doors_room = let d = i.doors_room in omega (arith, c.in-Some.ensures.cases);
      reports_room = let d = i.reports_room in omega (arith, c.in-Some.ensures.cases);
    }

-- all that was there was taken in
pub returns-clause-names : goal.returns-clause-names
returns-clause-names g c =
    let i = c.workers.invariant in
    let none = empty_of_length c.workers.workers.items (omega (arith, c.in_default.ensures.cases, c.workers.workers.ok.0)) in
    let whole : c.args.workers.items ≡ i.done = i.parted ∙ ap (λ l. l ++ i.done) none in
    let count = ap length whole in
    let names = i.names in
    omega (arith, count, names, c.args.workers.ok.0)

pub returns-clause-others : goal.returns-clause-others
returns-clause-others g c =
    let i = c.workers.invariant in
    let none = empty_of_length c.workers.workers.items (omega (arith, c.in_default.ensures.cases, c.workers.workers.ok.0)) in
    let whole : c.args.workers.items ≡ i.done = i.parted ∙ ap (λ l. l ++ i.done) none in
    subst (All (λ (x : Worker g.row.D.Denot g.row.F.Denot OpenGate g.row.D-KnownBy.Denot g.D.AtDesk). TookIn (view_of c.workers.pass) (view_of x.pass))) (sym whole) i.others

pub returns-clause-doors : goal.returns-clause-doors
returns-clause-doors g c =
    let i = c.workers.invariant in
    let none = empty_of_length c.workers.workers.items (omega (arith, c.in_default.ensures.cases, c.workers.workers.ok.0)) in
    let whole : c.args.workers.items ≡ i.done = i.parted ∙ ap (λ l. l ++ i.done) none in
    i.handed ∙ ap (λ l. map (λ (d : g.row.F.Denot). Some d) c.args.doors.now.items ++ reverse (map (λ (x : Worker g.row.D.Denot g.row.F.Denot OpenGate g.row.D-KnownBy.Denot g.D.AtDesk). x.door) l)) (sym whole)

pub returns-clause-reports : goal.returns-clause-reports
returns-clause-reports g c =
    let i = c.workers.invariant in
    let none = empty_of_length c.workers.workers.items (omega (arith, c.in_default.ensures.cases, c.workers.workers.ok.0)) in
    let whole : c.args.workers.items ≡ i.done = i.parted ∙ ap (λ l. l ++ i.done) none in
    i.told ∙ ap (λ l. c.args.reports.now.items ++ reverse (map (report {F = g.row.F.Denot} {G = OpenGate} {g = g.D.AtDesk}) l)) (sym whole)
