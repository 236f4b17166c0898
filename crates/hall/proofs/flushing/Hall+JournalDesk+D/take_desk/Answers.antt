use Rattle.std.proofs.Common.{ℕ, ◌≤◌, None, Result, refl, sym, ap, subst, ◌∙◌}
use Rattle.std.specs.Prelude.{[], option_map}
use Rattle.std.specs.List.{AllByRecursion}
use Rattle.atomic_table.specs.Table.{rest}
use Rattle.flush_journal.specs.declared.why.Why.{Why}
use Rattle.journal_desk.specs.Notes.{AreAlike}
use Rattle.journal_desk.specs.Standing.{Standing}
use Rattle.lane_histories.specs.KeptContents.{IsAsFar}
use Rattle.lane_histories.specs.declared.items.Keeping.{Keeping}
use Rattle.lane_histories.specs.declared.items.Reach.{Reach}
use Rattle.hall_rule.specs.Seen.{at_desk}
use Rattle.hall_rule.specs.WholeTurns.{HasKept}
use Rattle.hall.specs.ArrayMachines.{lanes_in, machines, start_of}
use Rattle.hall.specs.DeskTurns.{HasDone, IsBehind, IsInTurn, note_seen}
use Rattle.hall.specs.JournalDesks.{item_of, keeping_by, left_of}
use Rattle.hall.specs.Notes.{hall_notes}
use Rattle.hall.specs.declared.journal.DeskWork.{DeskWork}
use Rattle.hall.proofs.DeskWorkLemmas.{IsFound, begun_taken, counted_here, desk_behind, desk_taken, far_here, far_then, gone_on, in_turn_taken, kept_then, left_here, legal_taken, may_draw_desk, may_pass_desk, noted_all, noted_begins, owners_here, reads_at, since_here, turn_is}
use Rattle.hall.proofs.flushing.Hall+JournalDesk+D.take_desk.Goals as goal

pub exchange-requires : goal.exchange-requires
exchange-requires g c =
    let start = start_of c.args.self.now.table.shared.key in
    let v = c.args.seat.now.me.0 in
    let pass = c.requires.pass in
    let idle = c.requires.idle in
    let laws = c.the_desk_takes_turns.ensures (lanes_in start) in
    let drew = c.draw_desk-mine.ensures.drawn in
    let look = laws.may_look start _ _ _ (may_draw_desk start v pass idle) drew in
    let t = c.wait.ensures.taken _ look in
    let hand = c.hands_hold_what_was_taken.ensures (lanes_in start) _ 1 1 _ _ _ t.is refl in
    (c.wait.ensures.table.0 ∙ c.draw_desk-mine.ensures.table.0 ∙ c.requires.table, hand.there)

pub into_desk-noted-requires : goal.into_desk-noted-requires
into_desk-noted-requires g c =
    let start = start_of c.args.self.now.table.shared.key in
    let v = c.args.seat.now.me.0 in
    let pass = c.requires.pass in
    let idle = c.requires.idle in
    let laws = c.the_desk_takes_turns.ensures (lanes_in start) in
    let drew = c.draw_desk-mine.ensures.drawn in
    let look = laws.may_look start _ _ _ (may_draw_desk start v pass idle) drew in
    let t = c.wait.ensures.taken _ look in
    let hand = c.hands_hold_what_was_taken.ensures (lanes_in start) _ 1 1 _ _ _ t.is refl in
    let d = (c.machines_stand_for_their_lists.ensures (lanes_in start)).desk start _ _ _ _ t in
    (d.0, hand.read _ c.exchange.ensures.2 ∙ d.1)

pub work-result-requires-clause-taken : goal.work-result-requires-clause-taken
work-result-requires-clause-taken g c =
    let start = start_of c.args.self.now.table.shared.key in
    let v = c.args.seat.now.me.0 in
    let pass = c.requires.pass in
    let idle = c.requires.idle in
    let laws = c.the_desk_takes_turns.ensures (lanes_in start) in
    let drew = c.draw_desk-mine.ensures.drawn in
    let look = laws.may_look start _ _ _ (may_draw_desk start v pass idle) drew in
    let t = c.wait.ensures.taken _ look in
    let hand = c.hands_hold_what_was_taken.ensures (lanes_in start) _ 1 1 _ _ _ t.is refl in
    let noted = c.into_desk-noted.result in
    let here = sym (hand.read _ c.exchange.ensures.2) ∙ c.into_desk-noted.ensures in
    let is = desk_taken _ start v pass idle _ _ _ drew t noted here in
    let reads = reads_at g.D.Disk start _ _ _ _ t noted.desk noted.desk.lanes noted.desk.lanes noted.desk.desk refl
    (record { note = λ owners. refl; reach = refl; moment = refl; told_out = λ j ks x. x; told_into = λ j ks x. x; out = λ o x. x; into = λ o x. x }) in
    let out = ap (λ me. me.0) c.exchange.ensures.3 in
    let many = (since_here g.D.Disk start noted noted.desk.lanes noted.desk.desk reads _ is).0 in
    let owners = owners_here g.D.Disk start noted noted.desk.lanes noted.desk.desk reads _ is in
    subst (λ y. IsInTurn start y y noted.desk.lanes noted.desk.lanes None) (sym out)
    (in_turn_taken _ start v pass idle _ _ _ drew t c.requires.opened noted.desk.lanes many owners)

pub work-result-requires-clause-behind : goal.work-result-requires-clause-behind
work-result-requires-clause-behind g c =
    let start = start_of c.args.self.now.table.shared.key in
    let v = c.args.seat.now.me.0 in
    let pass = c.requires.pass in
    let idle = c.requires.idle in
    let laws = c.the_desk_takes_turns.ensures (lanes_in start) in
    let drew = c.draw_desk-mine.ensures.drawn in
    let look = laws.may_look start _ _ _ (may_draw_desk start v pass idle) drew in
    let t = c.wait.ensures.taken _ look in
    let hand = c.hands_hold_what_was_taken.ensures (lanes_in start) _ 1 1 _ _ _ t.is refl in
    let noted = c.into_desk-noted.result in
    let here = sym (hand.read _ c.exchange.ensures.2) ∙ c.into_desk-noted.ensures in
    let is = desk_taken _ start v pass idle _ _ _ drew t noted here in
    let reads = reads_at g.D.Disk start _ _ _ _ t noted.desk noted.desk.lanes noted.desk.lanes noted.desk.desk refl
    (record { note = λ owners. refl; reach = refl; moment = refl; told_out = λ j ks x. x; told_into = λ j ks x. x; out = λ o x. x; into = λ o x. x }) in
    let out = ap (λ me. me.0) c.exchange.ensures.3 in
    subst (λ y. IsBehind g.D.Disk (hall_notes noted.desk.desk.lanes) noted.desk.desk (lanes_in start) (note_seen y)) (sym out)
    (desk_behind g.D.Disk start noted noted.desk.lanes noted.desk.desk reads _ (begun_taken _ start v pass idle _ _ _ drew t) is
    (legal_taken _ start v pass idle _ _ _ drew t) (c.lists_are_histories.ensures (lanes_in start)))

pub leave-requires-clause-ready : goal.leave-requires-clause-ready
leave-requires-clause-ready g c =
    let start = start_of c.args.self.now.table.shared.key in
    let v = c.args.seat.now.me.0 in
    let pass = c.requires.pass in
    let idle = c.requires.idle in
    let laws = c.the_desk_takes_turns.ensures (lanes_in start) in
    let drew = c.draw_desk-mine.ensures.drawn in
    let look = laws.may_look start _ _ _ (may_draw_desk start v pass idle) drew in
    let t = c.wait.ensures.taken _ look in
    let hand = c.hands_hold_what_was_taken.ensures (lanes_in start) _ 1 1 _ _ _ t.is refl in
    let noted = c.into_desk-noted.result in
    let here = sym (hand.read _ c.exchange.ensures.2) ∙ c.into_desk-noted.ensures in
    let is = desk_taken _ start v pass idle _ _ _ drew t noted here in
    let reads = reads_at g.D.Disk start _ _ _ _ t noted.desk noted.desk.lanes noted.desk.lanes noted.desk.desk refl
    (record { note = λ owners. refl; reach = refl; moment = refl; told_out = λ j ks x. x; told_into = λ j ks x. x; out = λ o x. x; into = λ o x. x }) in
    let out = ap (λ me. me.0) c.exchange.ensures.3 in
    let w = c.work-result in
    let end = w.new.desk in
    let before = end.before.value in
    let news = w.ensures.news in
    let did = news.0 in
    let turn = subst (λ y. IsInTurn start y w.new.seat.me.0 (lanes_in start) (lanes_in start) None) out w.ensures.turn in
    let done = subst (λ (x : DeskWork × Result ℕ Why). HasDone g.D.Disk (hall_notes noted.desk.desk.lanes) x.0 before end.desk x.1)
    (λ i. (sym news.2 i, sym news.3 i)) w.ensures.done in
    let reads' = reads_at g.D.Disk start _ _ _ _ t end end.lanes noted.desk.lanes end.desk w.ensures.begun.1
    (record { note = λ owners. refl; reach = refl; moment = refl; told_out = λ j ks x. x; told_into = λ j ks x. x; out = λ o x. x; into = λ o x. x }) in
    let ready = may_pass_desk g.D.Disk start laws noted (record noted { desk = end }) noted.desk.lanes refl refl noted.desk.desk before end.desk reads reads'
    c.wait.new.seat.me.0 w.new.seat.me.0 is turn w.ensures.resumed w.ensures.continues w.ensures.up_to c.keepings_are_kept.ensures.reached
    (ap (λ (d : Standing _ _). left_of d) w.ensures.before) did done
    (ap (option_map (keeping_by g.D.Disk before end.desk)) news.1) c.exchange-2.new.seat.me (rest w.new.seat.me.1) c.exchange-2.ensures.3 in
    (at_desk (keeping_by g.D.Disk before end.desk did), refl, ready)

pub returns-clause-slots : goal.returns-clause-slots
returns-clause-slots g c =
    let start = start_of c.args.self.now.table.shared.key in
    let v = c.args.seat.now.me.0 in
    let pass = c.requires.pass in
    let idle = c.requires.idle in
    let laws = c.the_desk_takes_turns.ensures (lanes_in start) in
    let drew = c.draw_desk-mine.ensures.drawn in
    let look = laws.may_look start _ _ _ (may_draw_desk start v pass idle) drew in
    let t = c.wait.ensures.taken _ look in
    c.leave.ensures.slots ∙ ap (λ me. rest me.1) c.exchange-2.ensures.3 ∙ ap rest c.work-result.ensures.slots ∙ ap (λ me. rest me.1) c.exchange.ensures.3
    ∙ ap (λ me. rest me.1) t.is ∙ c.draw_desk-mine.ensures.slots

pub returns-clause-turn : goal.returns-clause-turn
returns-clause-turn g c =
    let start = start_of c.args.self.now.table.shared.key in
    let v = c.args.seat.now.me.0 in
    let pass = c.requires.pass in
    let idle = c.requires.idle in
    let laws = c.the_desk_takes_turns.ensures (lanes_in start) in
    let drew = c.draw_desk-mine.ensures.drawn in
    let look = laws.may_look start _ _ _ (may_draw_desk start v pass idle) drew in
    let t = c.wait.ensures.taken _ look in
    let hand = c.hands_hold_what_was_taken.ensures (lanes_in start) _ 1 1 _ _ _ t.is refl in
    let noted = c.into_desk-noted.result in
    let here = sym (hand.read _ c.exchange.ensures.2) ∙ c.into_desk-noted.ensures in
    let is = desk_taken _ start v pass idle _ _ _ drew t noted here in
    let reads = reads_at g.D.Disk start _ _ _ _ t noted.desk noted.desk.lanes noted.desk.lanes noted.desk.desk refl
    (record { note = λ owners. refl; reach = refl; moment = refl; told_out = λ j ks x. x; told_into = λ j ks x. x; out = λ o x. x; into = λ o x. x }) in
    let out = ap (λ me. me.0) c.exchange.ensures.3 in
    let w = c.work-result in
    let end = w.new.desk in
    let before = end.before.value in
    let news = w.ensures.news in
    let did = news.0 in
    let turn = subst (λ y. IsInTurn start y w.new.seat.me.0 (lanes_in start) (lanes_in start) None) out w.ensures.turn in
    let done = subst (λ (x : DeskWork × Result ℕ Why). HasDone g.D.Disk (hall_notes noted.desk.desk.lanes) x.0 before end.desk x.1)
    (λ i. (sym news.2 i, sym news.3 i)) w.ensures.done in
    let reads' = reads_at g.D.Disk start _ _ _ _ t end end.lanes noted.desk.lanes end.desk w.ensures.begun.1
    (record { note = λ owners. refl; reach = refl; moment = refl; told_out = λ j ks x. x; told_into = λ j ks x. x; out = λ o x. x; into = λ o x. x }) in
    let ready = may_pass_desk g.D.Disk start laws noted (record noted { desk = end }) noted.desk.lanes refl refl noted.desk.desk before end.desk reads reads'
    c.wait.new.seat.me.0 w.new.seat.me.0 is turn w.ensures.resumed w.ensures.continues w.ensures.up_to c.keepings_are_kept.ensures.reached
    (ap (λ (d : Standing _ _). left_of d) w.ensures.before) did done
    (ap (option_map (keeping_by g.D.Disk before end.desk)) news.1) c.exchange-2.new.seat.me (rest w.new.seat.me.1) c.exchange-2.ensures.3 in
    let passed = c.leave.ensures.passed (at_desk (keeping_by g.D.Disk before end.desk did)) ready in
    let back = subst (λ y. IsInTurn start c.wait.new.seat.me.0 y (lanes_in start) (lanes_in start) None) (sym (ap (λ me. me.0) c.exchange-2.ensures.3)) turn in
    let found : IsFound start before end.desk c.wait.new.seat.me.0.seen = (
      subst (λ (r : Reach). AllByRecursion (λ (i : Keeping). IsAsFar i.own r) c.wait.new.seat.me.0.seen.keepings)
          (sym (ap (λ (d : Standing _ _). d.kept) w.ensures.before)) (far_here g.D.Disk start noted noted.desk.lanes noted.desk.desk reads _ is),
      ap (λ (d : Standing _ _). left_of d) w.ensures.before ∙ left_here g.D.Disk start noted noted.desk.lanes noted.desk.desk reads _ is,
      noted_all g.D.Disk start laws noted (record noted { desk = end }) noted.desk.lanes refl refl noted.desk.desk before end.desk reads reads'
          c.wait.new.seat.me.0 w.new.seat.me.0 is turn w.ensures.resumed w.ensures.continues w.ensures.up_to,
      subst (λ (n : ℕ). AllByRecursion (λ (i : Keeping). i.faults_after ≤ n) c.wait.new.seat.me.0.seen.keepings)
          (sym (ap (λ (d : Standing _ _). g.D.Disk.faults d.disk) w.ensures.before))
          (counted_here g.D.Disk start noted noted.desk.lanes noted.desk.desk reads _ is),
    ) in
    let kept = kept_then _ start laws v pass idle _ _ _ c.exchange-2.new.seat.me drew t back (IsFound start before end.desk) found (keeping_by g.D.Disk before end.desk did) c.leave.new.seat.me.0 passed in
    let noted_then = subst (λ y. AreAlike (hall_notes noted.desk.desk.lanes) before.note (note_seen y)) out w.ensures.noted in
    let far = far_then _ start laws v pass idle _ _ _ c.exchange-2.new.seat.me drew t back noted.desk.desk.lanes before.note noted_then in
    let gone = gone_on g.D.Disk start laws noted (record noted { desk = end }) noted.desk.lanes refl refl noted.desk.desk before end.desk reads reads'
    c.wait.new.seat.me.0 w.new.seat.me.0 is turn w.ensures.resumed w.ensures.continues w.ensures.up_to
    (ap (λ (d : Standing _ _). d.disk) w.ensures.before) c.images_are_kept.ensures.since c.keepings_are_kept.ensures.own
    c.keepings_are_kept.ensures.each c.keepings_are_kept.ensures.reached c.images_are_kept.ensures.settled
    (record {
      lanes = c.reach_is_of_cuts.ensures.lanes;
      register = c.reach_is_of_cuts.ensures.register;
      kept = c.reach_is_of_cuts.ensures.kept;
      far = c.reach_is_of_cuts.ensures.far;
    })
    c.owed_is_of_cuts.ensures.owed in
    let begins = noted_begins g.D.Disk start laws noted (record noted { desk = end }) noted.desk.lanes refl refl noted.desk.desk before end.desk reads reads'
    c.wait.new.seat.me.0 w.new.seat.me.0 is turn w.ensures.resumed w.ensures.continues w.ensures.up_to (keeping_by g.D.Disk before end.desk did)
    c.exchange-2.new.seat.me.0 c.leave.new.seat.me.0 (ap (λ me. me.0) c.exchange-2.ensures.3) passed in
    turn_is g.D.Disk start noted.desk.desk.lanes before end.desk w.result v c.leave.new.seat.me.0
    (since_here g.D.Disk start noted noted.desk.lanes noted.desk.desk reads _ is).1.lanes w.ensures.owing far gone begins (c.what_is_kept_stays_kept.ensures (lanes_in start)) c.args.work
    (subst (λ (x : DeskWork × Result ℕ Why). (y : HasKept (machines (lanes_in start)) start
    (item_of g.D.Disk before end.desk x.0 x.1) [] v c.leave.new.seat.me.0)
    × IsFound start before end.desk y.before)
    (λ i. (news.2 i, news.3 i)) kept) w.ensures.done
