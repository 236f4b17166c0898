-- What a hall answers has no number with a fraction or an exponent.
use Rattle.std.proofs.Common.{◌≡◌, ◌⊎◌, inl, inr, ⊎_elim, ℕ, Bool, true, false, cond, [], ◌∷◌, Option, Some, None, refl, sym, ap, subst}
use Rattle.std.specs.Prelude.{◌==◌}
use Rattle.access_lists.specs.declared.people.Caller.{Caller}
use Rattle.object_ops.specs.declared.ops.Request.{Request}
use Rattle.object_ops.specs.declared.replies.Reply.{Reply}
use Rattle.register.specs.Decided.{Decides, RegisterState}
use Rattle.register.specs.declared.verdicts.Verdict.{Verdict}
use Rattle.register.specs.declared.verdicts.Verdict.TheVariants as verdict
use Rattle.service_core.specs.AnswerTrees.Bodies.{ReplyHas, VerdictHas}
use Rattle.service_core.specs.AnswerTrees.Exact.{ActsAreExact, DecisionsAreExact, HasNoFloat, IsExact}
use Rattle.lane_histories.specs.Histories.{History, IsIn, LaneList, RegisterList, objects_step}
use Rattle.lane_histories.specs.declared.items.Entry.{Entry}
use Rattle.lane_histories.specs.declared.items.LaneItem.TheVariants.{Passed, WasCut}
use Rattle.lane_histories.specs.declared.items.Outcome.{Outcome}
use Rattle.lane_histories.specs.declared.items.Outcome.TheVariants.{Done, Short, Skipped}
use Rattle.lane_histories.specs.declared.items.Part.{Part}
use Rattle.lane_histories.specs.declared.items.Part.TheVariants.{Only, First, Second}
use Rattle.lane_histories.specs.declared.items.RegisterItem.TheVariants.{Entered, DrawnCut, RegisterCut}
use Rattle.lane_histories.specs.Laws.{VerdictsAreOfTheirPlaces}
use Rattle.lane_histories.specs.Legal.{IsLegal, IsLegalLane, IsLegalOutcome}
use Rattle.lane_histories.specs.Replies.{What, by_register, by_turn, no_memory, entry_at, entry_what, is_same_part, one_what, outcome_of, pair_what, reply, turns_what, two_what, what_of}
use Rattle.lane_histories.specs.Services.{Turns, World, no_turn, one_turn, two_turns, each_lane}
use Rattle.object_acts.specs.Objects.{Objects}
use Rattle.service_histories.specs.ArrayServices.{Asked, array_service, done_by, turns_of}
use Rattle.service_histories.specs.PlainSteps.{answer_of, of_verdict}
use Rattle.service_histories.specs.declared.tasks.Task.{Task}
use Rattle.service_histories.specs.declared.tasks.Task.TheVariants.{TakesStep, DropsDomain}

abbrev IsExactReply : Reply → Type 0
IsExactReply = ReplyHas (λ status. HasNoFloat)

-- ---- decisions

verdict_exact : (d new : RegisterState) (caller : Caller) (request : Request) (v : Verdict) → DecisionsAreExact → Decides d caller request v new
    → VerdictHas (λ status. HasNoFloat) v
verdict_exact d new caller request (verdict.Granted issue) exact decides = tt
verdict_exact d new caller request (verdict.Answered answer) exact decides =
    subst (VerdictHas (λ status. HasNoFloat)) (sym (ap (λ p. p.0) decides)) (exact d caller request)
verdict_exact d new caller request (verdict.Denied right) exact decides = tt
verdict_exact d new caller request (verdict.Refused refusal) exact decides = tt
verdict_exact d new caller request verdict.NoMemory exact decides = tt

of_verdict_exact : (v : Verdict) → VerdictHas (λ status. HasNoFloat) v → IsExact (of_verdict v)
of_verdict_exact (verdict.Granted issue) exact = refl
of_verdict_exact (verdict.Answered answer) exact = exact
of_verdict_exact (verdict.Denied right) exact = tt
of_verdict_exact (verdict.Refused refusal) exact = tt
of_verdict_exact verdict.NoMemory exact = tt

-- ---- turns

done_exact : (task : Task) (o : Objects) → ActsAreExact → IsExactReply (done_by task o).0
done_exact (TakesStep g op step) o exact = exact g op step o
done_exact (DropsDomain number) o exact = refl

abbrev IsExactOutcome : Outcome Reply → Type 0
IsExactOutcome (Done r) = IsExactReply r
IsExactOutcome Short = Unit {0}
IsExactOutcome Skipped = Unit {0}

first_or_later : {X : Type 0} (b c : Bool) (x y : X) (rest : Option X) → cond b (cond c (Some x) rest) rest ≡ Some y → (x ≡ y) ⊎ (rest ≡ Some y)
first_or_later true true x y rest is = inl (let one : x ≡ y = cc in one)
first_or_later true false x y rest is = inr is
first_or_later false c x y rest is = inr is

here_or_later : {X : Type 0} (b : Bool) (x y : X) (rest : Option X) → cond b (Some x) rest ≡ Some y → (x ≡ y) ⊎ (rest ≡ Some y)
here_or_later true x y rest is = inl (let one : x ≡ y = cc in one)
here_or_later false x y rest is = inr is

never : {X : Type 0} (x : X) → None ≡ Some x → ⊥
never x e = cc

module _ (n : ℕ) where
  outcome_exact : (o : Objects) (part : Part) (task : Task) (y : Outcome Reply) → ActsAreExact → IsLegalOutcome (array_service n) o part task y → IsExactOutcome y
  outcome_exact o part task (Done r) exact legal = subst IsExactReply (sym legal) (done_exact task o exact)
  outcome_exact o part task Short exact legal = tt
  outcome_exact o part task Skipped exact legal = tt

  found_exact : (items : LaneList (array_service n)) (o : Objects) (place : ℕ) (part : Part) (y : Outcome Reply) → ActsAreExact → IsLegalLane (array_service n) o items
      → outcome_of place part items ≡ Some y → IsExactOutcome y
  found_exact [] o place part y exact legal is = absurd (never y is)
  found_exact (Passed other there task z ∷ items) o place part y exact legal is = ⊎_elim
      (λ (same : z ≡ y). subst IsExactOutcome same (outcome_exact o there task z exact legal.0))
      (λ later. found_exact items (objects_step (array_service n) o (Passed other there task z)) place part y exact legal.1 later)
      (first_or_later (other == place) (is_same_part there part) z y (outcome_of place part items) is)
  found_exact (WasCut number c found ∷ items) o place part y exact legal is = found_exact items o place part y exact legal.1 is

  entry_in : (items : RegisterList (array_service n)) (place : ℕ) (e : Entry Asked Verdict) → entry_at place items ≡ Some e → IsIn items (Entered e)
  entry_in [] place e is = absurd (never e is)
  entry_in (Entered x ∷ items) place e is = ⊎_elim
      (λ (same : x ≡ e). inl (ap Entered same))
      (λ later. inr (entry_in items place e later))
      (here_or_later (x.place == place) x e (entry_at place items) is)
  entry_in (DrawnCut number c ∷ items) place e is = inr (entry_in items place e is)
  entry_in (RegisterCut p found ∷ items) place e is = inr (entry_in items place e is)

what_exact : (y : Outcome Reply) → IsExactOutcome y → IsExact (answer_of (what_of y))
what_exact (Done r) exact = exact
what_exact Short exact = tt
what_exact Skipped exact = tt

-- whatever an outcome is, where it is found, the answer is exact
one_exact : (y : Option (Outcome Reply)) (what : What Verdict Reply) → ((z : Outcome Reply) → y ≡ Some z → IsExactOutcome z) → one_what y ≡ Some what → IsExact (answer_of what)
one_exact None what each is = absurd (never what is)
one_exact (Some y) what each is = let same : what_of y ≡ what = cc in subst (λ (w : What Verdict Reply). IsExact (answer_of w)) same (what_exact y (each y refl))

two_exact : (x : Outcome Reply) (y : Option (Outcome Reply)) (what : What Verdict Reply) → IsExactOutcome x → ((z : Outcome Reply) → y ≡ Some z → IsExactOutcome z)
    → two_what x y ≡ Some what → IsExact (answer_of what)
two_exact x None what first each is = absurd (never what is)
two_exact x (Some Skipped) what first each is = let same : what_of x ≡ what = cc in subst (λ (w : What Verdict Reply). IsExact (answer_of w)) same (what_exact x first)
two_exact x (Some (Done r)) what first each is = let same : by_turn r ≡ what = cc in subst (λ (w : What Verdict Reply). IsExact (answer_of w)) same (each (Done r) refl)
two_exact x (Some Short) what first each is = let same : no_memory ≡ what = cc in subst (λ (w : What Verdict Reply). IsExact (answer_of w)) same tt

pair_exact : (x y : Option (Outcome Reply)) (what : What Verdict Reply) → ((z : Outcome Reply) → x ≡ Some z → IsExactOutcome z) → ((z : Outcome Reply) → y ≡ Some z → IsExactOutcome z)
    → pair_what x y ≡ Some what → IsExact (answer_of what)
pair_exact None y what one two is = absurd (never what is)
pair_exact (Some x) y what one two is = two_exact x y what (one x refl) two is

module _ (n : ℕ) (start : World (array_service n)) (h : History (array_service n)) (legal : IsLegal (array_service n) start h) (acts : ActsAreExact) where
  at_lane : (l place : ℕ) (part : Part) (z : Outcome Reply) → outcome_of place part (h.lane l) ≡ Some z → IsExactOutcome z
  at_lane l place part z is = found_exact n (h.lane l) (start.objects l) place part z acts (legal.lanes l) is

  turns_exact : (e : Entry Asked Verdict) (turns : Turns Task) (what : What Verdict Reply) → VerdictHas (λ status. HasNoFloat) e.verdict
      → turns_what (array_service n) h.lane e turns ≡ Some what → IsExact (answer_of what)
  turns_exact e no_turn what exact is = let same : by_register e.verdict ≡ what = cc in subst (λ (w : What Verdict Reply). IsExact (answer_of w)) same (of_verdict_exact e.verdict exact)
  turns_exact e (one_turn l task) what exact is = one_exact _ what (at_lane l e.place Only) is
  turns_exact e (two_turns a task b next) what exact is = pair_exact _ _ what (at_lane a e.place First) (at_lane b e.place (Second a)) is
  turns_exact e (each_lane task) what exact is = let same : by_register e.verdict ≡ what = cc in subst (λ (w : What Verdict Reply). IsExact (answer_of w)) same (of_verdict_exact e.verdict exact)

  at_entry : (place : ℕ) (found : Option (Entry Asked Verdict)) → entry_at place h.register ≡ found → (what : What Verdict Reply) → VerdictsAreOfTheirPlaces (array_service n) → DecisionsAreExact
      → entry_what (array_service n) h.lane found ≡ Some what → IsExact (answer_of what)
  at_entry place None at what verdicts exact is = absurd (never what is)
  at_entry place (Some e) at what verdicts exact is =
      let may = (verdicts start h e legal (entry_in n h.register place e at)).1 in
      turns_exact e (turns_of e.asked e.verdict) what (verdict_exact _ _ e.asked.0.value e.asked.1.value e.verdict exact may) is

  -- what a place was answered is exact
  pub answer_exact : (place : ℕ) (what : What Verdict Reply) → VerdictsAreOfTheirPlaces (array_service n) → DecisionsAreExact
      → reply (array_service n) h place ≡ Some what → IsExact (answer_of what)
  answer_exact place what verdicts exact is = at_entry place (entry_at place h.register) refl what verdicts exact is
