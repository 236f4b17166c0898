-- A request is denied exactly where the list in force at its place doesn't give the right.
use Rattle.std.proofs.Common.{◌≡◌, ◌↔◌, ℕ, inl, inr, List, [], ◌∷◌, ◌++◌, Option, Some, None, refl, sym, ap, subst, ◌∙◌}
use Rattle.std.proofs.lemmas.Option.{none-some, same_Some}
use Rattle.access_lists.specs.declared.people.Caller.{Caller}
use Rattle.access_lists.specs.declared.right.Right.{Right}
use Rattle.object_ops.specs.declared.ops.Request.{Request}
use Rattle.object_ops.specs.declared.replies.Reply.{Reply}
use Rattle.register.specs.Decided.{IsDenial, RegisterState, decided}
use Rattle.register.specs.Laws.{DeniedExactly}
use Rattle.register.specs.Tickets.{Issue}
use Rattle.register.specs.declared.verdicts.Verdict.{Verdict}
use Rattle.register.specs.declared.verdicts.Verdict.TheVariants as verdict
use Rattle.service_core.specs.declared.answers.Answer.{Answer}
use Rattle.service_core.specs.declared.answers.What.{What}
use Rattle.service_core.specs.declared.answers.What.TheVariants as what
use Rattle.lane_histories.specs.Histories.{IsIn, LaneList, StartsWith, places, register_at}
use Rattle.lane_histories.specs.Laws.{EntriesAreFound, VerdictsAreOfTheirPlaces}
use Rattle.lane_histories.specs.Replies.{What as LaneWhat, by_register, by_turn, entry_at, entry_what, no_memory, one_what, outcome_of, pair_what, turns_what, two_what, what_of}
use Rattle.lane_histories.specs.Services.{Turns, no_turn, one_turn, two_turns, each_lane}
use Rattle.lane_histories.specs.declared.items.Entry.{Entry}
use Rattle.lane_histories.specs.declared.items.Outcome.{Outcome}
use Rattle.lane_histories.specs.declared.items.Outcome.TheVariants.{Done, Short, Skipped}
use Rattle.lane_histories.specs.declared.items.Part.TheVariants.{Only, First, Second}
use Rattle.lane_histories.specs.declared.items.RegisterItem.TheVariants.{Entered}
use Rattle.hall_rule.specs.Seen.{history_of}
use Rattle.hall_rule.specs.WholeTurns.{entry_behind}
use Rattle.service_histories.specs.ArrayServices.{Asked, MayDecide, array_service, turns_of}
use Rattle.service_histories.specs.PlainSteps.{answer_of, of_verdict}
use Rattle.service_histories.specs.declared.tasks.Task.{Task}
use Rattle.hall.specs.Answers.{ArrayStart, ArrayView, HasAnswered, IsDeniedWhere, asked_by, register_then}
use Rattle.hall.specs.ArrayMachines.{lanes_in, machines}

-- ---- what the last turn of a request came to is no denial

denial_here : (v : Verdict) (right : Right) → v ≡ verdict.Denied right → IsDenial v
denial_here v right e = subst IsDenial (sym e) tt

-- it is the answer of a denial, of this right
abbrev IsToldDenial : What → Type 0
IsToldDenial (what.Denied right) = Unit {0}
IsToldDenial told = ⊥

abbrev right_or : Right → What → Right
right_or other (what.Denied right) = right
right_or other told = other

abbrev IsNoDenial : LaneWhat Verdict Reply → Type 0
IsNoDenial w = IsToldDenial (answer_of w) → ⊥

of_outcome : (y : Outcome Reply) → IsNoDenial (what_of y)
of_outcome (Done reply) is = is
of_outcome Short is = is
of_outcome Skipped is = is

of_one : (o : Option (Outcome Reply)) (w : LaneWhat Verdict Reply) → one_what o ≡ Some w → IsNoDenial w
of_one None w e = absurd (none-some w e)
of_one (Some y) w e = subst IsNoDenial (same_Some (what_of y) w e) (of_outcome y)

of_two : (x : Outcome Reply) (o : Option (Outcome Reply)) (w : LaneWhat Verdict Reply) → two_what x o ≡ Some w → IsNoDenial w
of_two x None w e = absurd (none-some w e)
of_two x (Some (Done reply)) w e = subst IsNoDenial (same_Some (by_turn reply) w e) (λ is. is)
of_two x (Some Short) w e = subst IsNoDenial (same_Some no_memory w e) (λ is. is)
of_two x (Some Skipped) w e = subst IsNoDenial (same_Some (what_of x) w e) (of_outcome x)

of_pair : (o p : Option (Outcome Reply)) (w : LaneWhat Verdict Reply) → pair_what o p ≡ Some w → IsNoDenial w
of_pair None p w e = absurd (none-some w e)
of_pair (Some x) p w e = of_two x p w e

told_so : (w : What) (right : Right) → w ≡ what.Denied right → IsToldDenial w
told_so w right e = subst IsToldDenial (sym e) tt

-- a verdict without turns is what is told
by_verdict : (v : Verdict) (w : LaneWhat Verdict Reply) → ◌≡◌ {A = Option (LaneWhat Verdict Reply)} (Some (by_register v)) (Some w) → of_verdict v ≡ answer_of w
by_verdict v w e = ap answer_of (same_Some (by_register v) w e)

module _ (n : ℕ) (lane : ℕ → LaneList (array_service n)) (place by : ℕ) (asked : Asked) where
  abbrev entry : Verdict → Entry Asked Verdict
  entry v = record { place = place; by = by; asked = asked; verdict = v }

  granted_is_none : (issue : Issue) (t : Turns Task) (w : LaneWhat Verdict Reply) → turns_what (array_service n) lane (entry (verdict.Granted issue)) t ≡ Some w → IsNoDenial w
  granted_is_none issue no_turn w e = subst IsNoDenial (same_Some (by_register (verdict.Granted issue)) w e) (λ is. is)
  granted_is_none issue (one_turn l task) w e = of_one (outcome_of place Only (lane l)) w e
  granted_is_none issue (two_turns a task b next) w e = of_pair (outcome_of place First (lane a)) (outcome_of place (Second a) (lane b)) w e
  granted_is_none issue (each_lane task) w e = subst IsNoDenial (same_Some (by_register (verdict.Granted issue)) w e) (λ is. is)

  -- a place is answered by a denial exactly where that is its verdict
  pub told_denied : (v : Verdict) (w : LaneWhat Verdict Reply) (right : Right) → turns_what (array_service n) lane (entry v) (turns_of asked v) ≡ Some w
      → v ≡ verdict.Denied right → answer_of w ≡ what.Denied right
  told_denied (verdict.Granted issue) w right e is = absurd (denial_here _ right is)
  told_denied (verdict.Answered answer) w right e is = absurd (denial_here _ right is)
  told_denied (verdict.Denied other) w right e is = sym (by_verdict (verdict.Denied other) w e) ∙ ap of_verdict is
  told_denied (verdict.Refused refusal) w right e is = absurd (denial_here _ right is)
  told_denied verdict.NoMemory w right e is = absurd (denial_here _ right is)

  pub denied_told : (v : Verdict) (w : LaneWhat Verdict Reply) (right : Right) → turns_what (array_service n) lane (entry v) (turns_of asked v) ≡ Some w
      → answer_of w ≡ what.Denied right → v ≡ verdict.Denied right
  denied_told (verdict.Granted issue) w right e told = absurd (granted_is_none issue (turns_of asked (verdict.Granted issue)) w e (told_so (answer_of w) right told))
  denied_told (verdict.Answered answer) w right e told = absurd (told_so (of_verdict (verdict.Answered answer)) right (by_verdict (verdict.Answered answer) w e ∙ told))
  denied_told (verdict.Denied other) w right e told = ap (λ w. verdict.Denied (right_or other w)) (by_verdict (verdict.Denied other) w e ∙ told)
  denied_told (verdict.Refused refusal) w right e told = absurd (told_so (of_verdict (verdict.Refused refusal)) right (by_verdict (verdict.Refused refusal) w e ∙ told))
  denied_told verdict.NoMemory w right e told = absurd (told_so (of_verdict verdict.NoMemory) right (by_verdict verdict.NoMemory w e ∙ told))

-- ---- a verdict is a denial exactly where the decision is

pub decided_denied : (d : RegisterState) (asked : Asked) (v : Verdict) (right : Right) → MayDecide d asked v
    → (v ≡ verdict.Denied right) ↔ ((decided d asked.0.value asked.1.value).0 ≡ verdict.Denied right)
decided_denied d asked (verdict.Granted issue) right may = ((λ e. sym (ap (λ p. p.0) may) ∙ e), (λ e. ap (λ p. p.0) may ∙ e))
decided_denied d asked (verdict.Answered answer) right may = ((λ e. sym (ap (λ p. p.0) may) ∙ e), (λ e. ap (λ p. p.0) may ∙ e))
decided_denied d asked (verdict.Denied other) right may = ((λ e. sym (ap (λ p. p.0) may) ∙ e), (λ e. ap (λ p. p.0) may ∙ e))
decided_denied d asked (verdict.Refused refusal) right may = ((λ e. sym (ap (λ p. p.0) may) ∙ e), (λ e. ap (λ p. p.0) may ∙ e))
decided_denied d asked verdict.NoMemory right may = ((λ e. absurd (denial_here verdict.NoMemory right e)), (λ e. absurd (may.1 (denial_here _ right e))))

-- ---- the whole

in_front : {X : Type 0} (front more : List X) (x : X) → IsIn ((front ++ x ∷ []) ++ more) x
in_front [] more x = inl refl
in_front (y ∷ ys) more x = inr (in_front ys more x)

pub is_in_list : {X : Type 0} (xs front : List X) (x : X) → StartsWith xs (front ++ x ∷ []) → IsIn xs x
is_in_list xs front x begins = subst (λ l. IsIn l x) (sym begins.1) (in_front front begins.0 x)

module _ {D : Type 0} (start : ArrayStart D) (verdicts : VerdictsAreOfTheirPlaces (array_service (lanes_in start)))
    (found : EntriesAreFound (array_service (lanes_in start))) (exactly : DeniedExactly) where
  pub denied_where : (caller : Caller) (request : Request) (answer : Answer) (v w : ArrayView D) → HasAnswered start caller request answer v w
      → IsDeniedWhere start w caller request answer
  unfolding machines
  denied_where caller request answer v w h right =
      let a = h.asked in
      let n = lanes_in start in
      let asked = asked_by caller request in
      let e : Entry Asked Verdict = entry_behind a.before.register v.number asked h.decided_as in
      let here = is_in_list a.seen.register a.before.register (Entered e) a.entered in
      let there : entry_at answer.place a.seen.register ≡ Some e =
      ap (λ (p : ℕ). entry_at p a.seen.register) a.place_is ∙ found _ (history_of (array_service n) a.seen) e a.legal here in
      let lane : ℕ → LaneList (array_service n) = (history_of (array_service n) a.seen).lane in
      let came : turns_what (array_service n) lane e (turns_of asked h.decided_as) ≡ Some h.what_is =
      sym (ap (entry_what (array_service n) lane) there) ∙ a.replied in
      let same : register_at (array_service n) (places a.before.register) start.register a.seen.register ≡ register_then start w answer.place =
      (λ i. register_at (array_service n) (sym a.place_is i) start.register (sym (ap (λ (x : ArrayView D). x.seen) a.is) i).register) in
      let may : MayDecide (register_then start w answer.place) asked h.decided_as =
      subst (λ (d : RegisterState). MayDecide d asked h.decided_as) same (verdicts _ (history_of (array_service n) a.seen) e a.legal here).1 in
      let denied = decided_denied (register_then start w answer.place) asked h.decided_as right may in
      let decision = exactly (register_then start w answer.place) caller request right in (
        (λ told. decision.0 (denied.0 (denied_told n lane (places a.before.register) v.number asked h.decided_as h.what_is right came (sym h.told ∙ told)))),
        (λ both. h.told ∙ told_denied n lane (places a.before.register) v.number asked h.decided_as h.what_is right came (denied.1 (decision.1 both))),
      )
