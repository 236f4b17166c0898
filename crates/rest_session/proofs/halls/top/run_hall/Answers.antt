use Rattle.std.proofs.Common.{◌≡◌, ◌≤◌, ℕ, ◌+◌, length, vec_len, refl, sym, ap, ◌∙◌, subst, arith}
use Rattle.hall.specs.ArrayMachines.{lanes_in}
use Rattle.hall.specs.Notes.{seen_in}
use Rattle.hall.specs.Passes.{HasBegun, opening, view_of}
use Rattle.lane_histories.specs.Histories.{places}
use Rattle.lane_histories.specs.KeptContents.{IsAsFar}
use Rattle.hall_rule.specs.Sums.{upward}
use Rattle.rest_session.specs.Halls.Staff.{IsGiver, numbers}
use Rattle.rest_session.specs.Halls.Visits.{telling}
use Rattle.rest_session.proofs.OfHalls.Ends.{HasRun, all_in, all_ours, all_ready, closing_numbers, flushed_in, flushed_took, is_served, many, places_entries, places_grow, same_names}
use Rattle.rest_session.proofs.OfHalls.Served.{count_still, first_giver, giver_alone, places_told, staff_kept}
use Rattle.rest_session.proofs.OfHalls.Shares.{one_name}
use Rattle.rest_session.proofs.halls.top.run_hall.Goals as goal

pub staff-requires-clause-giver : goal.staff-requires-clause-giver
staff-requires-clause-giver g c =
    let b = c.requires.begun in
    let n = vec_len c.args.doors.now in
    first_giver c.args.hall c.args.pass b.0 (n + 1) (subst (λ (m : ℕ). HasBegun c.args.hall c.args.pass b.0 m) (let e : n + 2 ≡ n + 1 + 1 = omega arith in e) b.2)

pub work_all-requires-clause-ready : goal.work_all-requires-clause-ready
work_all-requires-clause-ready g c κs within =
    all_ready (telling g.F.Door g.F.Link.Source g.F.Link.Sink) c.args.tokens.now c.args.links c.args.hall c.staff.new.workers.items c.staff.ensures.hired

pub dismiss-requires-clause-all_of : goal.dismiss-requires-clause-all_of
dismiss-requires-clause-all_of g c =
    all_ours (telling g.F.Door g.F.Link.Source g.F.Link.Sink) c.args.tokens.now c.args.links c.args.hall c.staff.new.workers.items c.work_all.new.workers.items c.work_all.ensures.same
    c.staff.ensures.hired c.work_all.ensures.ready

pub dismiss-requires-clause-staff : goal.dismiss-requires-clause-staff
dismiss-requires-clause-staff g c =
    let ws = c.staff.new.workers.items in
    let now = c.work_all.new.workers.items in
    let k = staff_kept (telling g.F.Door g.F.Link.Source g.F.Link.Sink) c.args.tokens.now c.args.links c.args.hall ws now c.args.doors.now.items c.staff.ensures.doors
    (count_still ws now c.work_all.ensures.same) c.work_all.ensures.works in
    (k.0, k.1)

pub dismiss-requires-clause-doors_room : goal.dismiss-requires-clause-doors_room
dismiss-requires-clause-doors_room g c =
    let ws = c.staff.new.workers.items in
    let now = c.work_all.new.workers.items in
    let all = many (telling g.F.Door g.F.Link.Source g.F.Link.Sink) c.args.tokens.now c.args.links c.args.hall c.args.doors.now.items ws c.staff.ensures.doors in
    let still = count_still ws now c.work_all.ensures.same in
    (c.staff.ensures.rest.0, omega (arith, all, still, c.work_all.new.workers.ok.0, c.staff.ensures.rest.1, c.args.doors.now.ok))

pub dismiss-requires-clause-reports_room : goal.dismiss-requires-clause-reports_room
dismiss-requires-clause-reports_room g c =
    let ws = c.staff.new.workers.items in
    let now = c.work_all.new.workers.items in
    let all = many (telling g.F.Door g.F.Link.Source g.F.Link.Sink) c.args.tokens.now c.args.links c.args.hall c.args.doors.now.items ws c.staff.ensures.doors in
    let still = count_still ws now c.work_all.ensures.same in
    let room = c.requires.reports in
    (room.0, (let most = room.1 in omega (arith, all, still, c.work_all.new.workers.ok.0, c.args.doors.now.ok.0, most)))

pub close-world-requires-clause-whole : goal.close-world-requires-clause-whole
close-world-requires-clause-whole g c =
    let ws = c.staff.new.workers.items in
    let now = c.work_all.new.workers.items in
    let n = vec_len c.args.doors.now in
    let all = many (telling g.F.Door g.F.Link.Source g.F.Link.Sink) c.args.tokens.now c.args.links c.args.hall c.args.doors.now.items ws c.staff.ensures.doors in
    let still = count_still ws now c.work_all.ensures.same in
    let first = one_name (view_of c.staff.new.pass) c.staff.new.pass.live (giver_alone c.args.hall (n + 1) c.staff.new.pass c.staff.ensures.giver) in
    let joined = c.dismiss.ensures.names in
    let flushed = ap length (same_names c.dismiss.new.pass c.flush-last.new.pass c.flush-last.ensures.same.0) in
    let passes = c.requires.begun.2.passes_are in
    omega (arith, all, still, c.work_all.new.workers.ok.0, c.args.doors.now.ok.0, first, joined, flushed, passes)

pub returns : goal.returns
unfolding is_served
returns g c = record {
  closed = λ s new begun.
      let t = telling g.F.Door g.F.Link.Source g.F.Link.Sink in
      let h = c.args.hall in
      let start = opening h in
      let n = lanes_in start in
      let tokens = c.args.tokens.now in
      let links = c.args.links in
      let first = c.staff.new.pass in
      let dismissed = c.dismiss.new.pass in
      let last = c.flush-last.new.pass in
      let ws = c.staff.new.workers.items in
      let now = c.work_all.new.workers.items in
      let doors = c.args.doors.now.items in
      let after = c.dismiss.new.doors.items in
      let reports = c.dismiss.new.reports.items in
      let len : vec_len c.args.doors.now ≡ length doors = omega (arith, c.args.doors.now.ok.0) in
      let len_now : vec_len c.work_all.new.workers ≡ length now = omega (arith, c.work_all.new.workers.ok.0) in
      let f = c.flush-last.ensures.flushed in
      let ended = c.close-world.ensures.desk.0 in
      let desk_is = c.close-world.ensures.desk.1 in
      let front_told = c.places-front.ensures ∙ places_told start (view_of last) c.close-world.result.0 begun.pass.opened ended (c.the_register_counts.ensures.counts n) in
      let run : HasRun t tokens links h doors after reports first dismissed ws now = record {
        giver = subst (λ (m : ℕ). IsGiver h (m + 1) 0 first) len c.staff.ensures.giver;
        hired = c.staff.ensures.hired;
        numbered = c.staff.ensures.numbers ∙ ap (λ (m : ℕ). upward 1 (m + 1)) len;
        staff = c.staff.ensures.doors;
        ready = c.work_all.ensures.ready;
        same = c.work_all.ensures.same;
        worked = c.work_all.ensures.works;
        staff_now = c.dismiss.ensures.doors;
        flusher = c.dismiss.ensures.reports.0;
        reported = c.dismiss.ensures.reports.1;
        named = c.dismiss.ensures.names ∙ ap (λ (m : ℕ). numbers first + m) len_now;
        itself = c.dismiss.ensures.itself;
        others = c.dismiss.ensures.others;
      } in
      let names = same_names dismissed last c.flush-last.ensures.same.0 in
      let took = flushed_took start _ _ (view_of dismissed) (view_of last) f.turn names in
      let in_history = flushed_in start _ _ (view_of dismissed) (view_of last) f.turn ended.seen ended.grown.begins in
      let desk = c.close-world.result.1 in
      let reached : f.after.kept.c ≤ desk.desk.kept.c = (all_in (λ k. IsAsFar k.own desk.desk.kept) ended.seen.keepings _ desk_is.far in_history).c in
      let few : desk.desk.kept.c ≤ places (seen_in desk.desk.note).register = c.kept-kept.ensures.few in
      let noted : places (seen_in desk.desk.note).register ≤ places ended.seen.register =
      places_grow ended.seen.register (seen_in desk.desk.note).register desk_is.uncut.longer.register in
      let kept_is : c.kept-kept.result.c ≡ desk.desk.kept.c = ap (λ r. r.c) c.kept-kept.ensures.reach in
      let all_places : places ended.seen.register ≡ places (view_of last).seen.register =
      places_entries ended.seen.register ∙ ap length ended.all_seen ∙ sym (places_entries (view_of last).seen.register) in
      let at_front : c.places-front.result ≡ dismissed.front = front_told ∙ all_places ∙ sym c.close-world.ensures.front ∙ c.flush-last.ensures.same.1 in
      let counted : dismissed.front ≤ places (view_of dismissed).seen.register = dismissed.counted in
      let numbers_are = closing_numbers c.flush-last.result f.after.kept.c c.kept-kept.result.c (places (view_of dismissed).seen.register) c.places-front.result f.ok
      (omega (arith, at_front, counted)) (omega (arith, reached, kept_is)) (omega (arith, few, noted, front_told, kept_is)) in record {
        served = is_served t tokens links h doors after reports first dismissed ws now run (c.replies_are_replays.ensures.stay n) last s c.close-world.result.0 c.close-world.result.1
            c.places-front.result begun.register begun.owners ended desk_is front_told (ap length names) took;
        over = refl;
        front = c.places-front.ensures;
        before = view_of dismissed;
        flushed = f;
        number = numbers_are.0;
        kept = kept_is;
        all = numbers_are.1;
      };
}
