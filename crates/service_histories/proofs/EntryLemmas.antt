-- An entry of the register's list is one step of a world.
use Rattle.std.proofs.Common.{◌≡◌, ◌≢◌, inl, ℕ, ◌<◌, Bool, true, false, List, [], ◌∷◌, length, Option, Some, refl, sym, ap, subst, ◌∙◌}
use Rattle.std.specs.FinMap.{get}
use Rattle.object_ids.specs.Ids.{lane_of}
use Rattle.object_ops.specs.declared.grants.Step.{Step}
use Rattle.object_ops.specs.declared.grants.Step.TheVariants.{Link, Make as Making}
use Rattle.object_ops.specs.declared.ops.Op.{Op}
use Rattle.object_ops.specs.declared.ops.Op.TheVariants.{DropNode}
use Rattle.object_ops.specs.declared.replies.Reply.{Reply}
use Rattle.object_ops.specs.declared.replies.Reply.TheVariants.{Done}
use Rattle.object_ops.specs.Replies.{nothing}
use Rattle.object_ops.specs.declared.grants.Grant.{Grant}
use Rattle.object_acts.specs.Objects.{Objects}
use Rattle.chunk_owner.specs.Acts.{IsStepOf, IsTouchedIn, touched}
use Rattle.register.specs.Decided.{RegisterState, decided, passed}
use Rattle.register.specs.Grants.{AreAtHome, HasSteps, IsAtHome, IsIssueOf}
use Rattle.register.specs.Laws.{GrantsAreIssues}
use Rattle.register.specs.Tickets.{Issue}
use Rattle.register.specs.declared.tickets.Turn.{Turn}
use Rattle.register.specs.declared.verdicts.Verdict.{Verdict}
use Rattle.register.specs.declared.verdicts.Verdict.TheVariants as verdict
use Rattle.service_core.specs.Laws.{StepsAlike}
use Rattle.service_core.specs.Steps.{IsAnswered, by_verdict, run_on, served, started, step}
use Rattle.service_core.specs.Steps.{World as OneWorld}
use Rattle.service_core.specs.declared.answers.What.{What}
use Rattle.service_core.specs.declared.answers.What.TheVariants as what
use Rattle.lane_histories.specs.PlainReplays.{plain_answers, plain_step, turns_done, turns_reply}
use Rattle.lane_histories.specs.Services.{Turns, World}
use Rattle.lane_histories.specs.declared.items.Entry.{Entry}
use Rattle.lane_histories.specs.declared.items.RegisterItem.TheVariants.{Entered, DrawnCut, RegisterCut}
use Rattle.service_histories.specs.ArrayServices.{Asked, MayDecide, array_service, left_by, listed, turns_for, turns_of}
use Rattle.service_histories.specs.declared.tasks.Task.{Task}
use Rattle.lane_histories.specs.Laws.{WholeAnswersArePlain, WholeIsPlain}
use Rattle.std.specs.Prelude.{option_map, slice_get}
use Rattle.std.proofs.lemmas.Option.{slice_get-map}
use Rattle.service_histories.specs.PlainSteps.{EntriesAreSteps, HistoriesAreReplays, IsOverLanes, IsSeenAlike, ReplaysAreSteps, answer_of, of_verdict}
use Rattle.service_histories.proofs.Readying.{decided_on, drawn_on, issue_in, recorded_on}
use Rattle.service_histories.proofs.Shapes.{IsOther, no_three, one_of, two_of}
use Rattle.service_histories.proofs.StepLemmas.{IsIn, is_home, on_all, one_turned, two_turned}

module _ (issues : GrantsAreIssues) (lanes : ℕ) (some : 0 < lanes) (d : RegisterState) (count : length d.issued ≡ lanes) (o : ℕ → Objects) (m : Objects)
    (seen : IsIn lanes o m) where
  abbrev here : OneWorld
  here = record { register = d; objects = m }

  -- what a verdict answers and leaves, lane by lane and in one world
  record Stepped (asked : Asked) (x : Verdict) : Type 0 where
    new : OneWorld
    register : new.register ≡ left_by d asked x
    objects : IsIn lanes (turns_done (array_service lanes) (turns_of asked x) o) new.objects
    answered : IsAnswered here asked.0.value asked.1.value (answer_of (turns_reply (array_service lanes) x (turns_of asked x) o)) new
    exact : x ≢ verdict.NoMemory → (answer_of (turns_reply (array_service lanes) x (turns_of asked x) o), new) ≡ step here asked.0.value asked.1.value

  module _ (asked : Asked) where
    abbrev p : Verdict × RegisterState
    p = decided d asked.0.value asked.1.value

    abbrev by_step : Verdict → What × OneWorld
    by_step x = ((by_verdict asked.1.value.op x m).0, record { register = p.1; objects = (by_verdict asked.1.value.op x m).1 })

    by : (x : Verdict) → x ≡ p.0 → by_step x ≡ step here asked.0.value asked.1.value
    by x e = ap by_step e

    -- ---- a granted request

    -- what its turns answer and leave
    record Served (turns : Turns Task) (q : Reply × Objects) : Type 0 where
      reply : (v : Verdict) → of_verdict v ≡ what.Replied (Done 200 nothing) → answer_of (turns_reply (array_service lanes) v turns o) ≡ what.Replied q.0
      objects : IsIn lanes (turns_done (array_service lanes) turns o) q.1

    module _ (issue : Issue) (is : p.0 ≡ verdict.Granted issue) where
      abbrev g : Grant
      g = issue.grant

      issue_is : IsIssueOf d asked.1.value.op issue
      issue_is = issue_in p.0 issue (IsIssueOf d asked.1.value.op) is (issues d asked.0.value asked.1.value (subst (λ (n : ℕ). 0 < n) (sym count) some))

      home_at : (x : Op) (l : ℕ) (step : Option Step) (s : Step) → step ≡ Some s → IsStepOf x s → IsAtHome lanes x g step l → IsTouchedIn l lanes (touched g x s)
      home_at x l step s e of home = is_home lanes g x x l s of (subst (λ (y : Option Step). IsAtHome lanes x g y l) e home)

      listed_served : (x : Op) → IsOther x → (ts : List Turn) → HasSteps lanes x ts → AreAtHome lanes x g ts → Served (listed g x ts) (run_on g x (started m) ts)
      listed_served x other [] has homes = record { reply = λ v e. e; objects = seen }
      listed_served x other (t ∷ []) has homes =
          let one = one_of lanes x t other has in
          let turned = one_turned lanes g x o m t.lane t.step one.0 seen one.1 (home_at x t.lane t.step one.0 one.1 one.2 homes.0) in
          record { reply = λ v e. ap what.Replied turned.reply; objects = turned.objects }
      listed_served x other (t ∷ u ∷ []) has homes =
          let two = two_of lanes x t u [] other has in
          let turned = two_turned lanes g x o m t.lane u.lane t.step u.step Link Making seen two.first (home_at x t.lane t.step Link two.first two.link homes.0)
          two.second (home_at x u.lane u.step Making two.second two.making homes.1.0) in
          record { reply = λ v e. ap what.Replied turned.reply; objects = turned.objects }
      listed_served x other (t ∷ u ∷ v ∷ ts) has homes = absurd (no_three lanes x t u v ts other has)

      steps_of : HasSteps lanes asked.1.value.op issue.left
      steps_of = subst (λ (n : ℕ). HasSteps n asked.1.value.op issue.left) count issue_is.steps

      homes_of : AreAtHome lanes asked.1.value.op g issue.left
      homes_of = subst (λ (n : ℕ). AreAtHome n asked.1.value.op g issue.left) count issue_is.homes

      other_served : (x : Op) → asked.1.value.op ≡ x → IsOther x → Served (listed g x issue.left) (run_on g x (started m) issue.left)
      other_served x e other =
          listed_served x other issue.left (subst (λ (y : Op). HasSteps lanes y issue.left) e steps_of) (subst (λ (y : Op). AreAtHome lanes y g issue.left) e homes_of)

      turns_served : (x : Op) → asked.1.value.op ≡ x → Served (turns_for x issue) (served x issue m)
      turns_served DropNode e = record { reply = λ v said. said; objects = on_all lanes g.number o m some seen }
      turns_served x e = other_served x e tt

      granted_stepped : Stepped asked (verdict.Granted issue)
      granted_stepped =
          let s = turns_served asked.1.value.op refl in
          let told = s.reply (verdict.Granted issue) refl in
          let new : OneWorld = record { register = p.1; objects = (served asked.1.value.op issue m).1 } in
          record {
            new = new;
            register = refl;
            objects = s.objects;
            answered = subst (λ (w : What). IsAnswered here asked.0.value asked.1.value w new) (sym told) (by (verdict.Granted issue) (sym is));
            exact = λ _. (λ i. (told i, new)) ∙ by (verdict.Granted issue) (sym is);
          }

    -- ---- any verdict

    stepped : (x : Verdict) → MayDecide d asked x → Stepped asked x
    stepped (verdict.Granted issue) may = granted_stepped issue (sym (ap (λ (q : Verdict × RegisterState). q.0) may))
    stepped (verdict.Answered answer) may =
        let e = by (verdict.Answered answer) (ap (λ (q : Verdict × RegisterState). q.0) may) in
        record { new = record { register = p.1; objects = m }; register = refl; objects = seen; answered = e; exact = λ _. e }
    stepped (verdict.Denied right) may =
        let e = by (verdict.Denied right) (ap (λ (q : Verdict × RegisterState). q.0) may) in
        record { new = record { register = p.1; objects = m }; register = refl; objects = seen; answered = e; exact = λ _. e }
    stepped (verdict.Refused refusal) may =
        let e = by (verdict.Refused refusal) (ap (λ (q : Verdict × RegisterState). q.0) may) in
        record { new = record { register = p.1; objects = m }; register = refl; objects = seen; answered = e; exact = λ _. e }
    stepped verdict.NoMemory may = record {
      new = record { register = passed d; objects = m };
      register = refl;
      objects = seen;
      answered = (may.1, inl (may.0, refl));
      exact = λ never. absurd (never refl);
    }

-- ---- one entry

module _ (issues : GrantsAreIssues) (lanes : ℕ) where
  pub entries_are_steps : EntriesAreSteps lanes
  entries_are_steps w v e over seen may =
      let s = stepped issues lanes over.some w.register over.count w.objects v.objects seen.objects e.asked e.verdict may in
      record {
        new = s.new;
        seen = record { register = s.register; objects = s.objects };
        answered = subst (λ (x : OneWorld). IsAnswered x e.asked.0.value e.asked.1.value (answer_of (turns_reply (array_service lanes) e.verdict (turns_of e.asked e.verdict) w.objects)) s.new)
            (λ i. record { register = sym seen.register i; objects = v.objects }) s.answered;
      }

  -- ---- many

  module _ (alike : StepsAlike) where
    over_later : (w : World (array_service lanes)) (e : Entry Asked Verdict) → IsOverLanes lanes w → IsOverLanes lanes (plain_step (array_service lanes) w (Entered e))
    over_later w e over = record { some = over.some; count = (decided_on w.register e.asked e.verdict).lanes ∙ over.count }

    pub replays_are_steps : ReplaysAreSteps lanes
    replays_are_steps w v places cuts [] over seen legal found = record { answers = refl; world = seen }
    replays_are_steps w v places cuts (Entered e ∷ items) over seen legal found =
        let s = stepped issues lanes over.some w.register over.count w.objects v.objects seen.objects e.asked e.verdict legal.0.1 in
        let here : OneWorld = record { register = w.register; objects = v.objects } in
        let same = s.exact found.0 in
        let like = alike here v e.asked.0.value e.asked.1.value (record { catalogue = seen.catalogue; run = seen.run; serial = seen.serial; objects = refl }) in
        let next : IsSeenAlike lanes (plain_step (array_service lanes) w (Entered e)) (step v e.asked.0.value e.asked.1.value).1 = record {
          catalogue = like.1.catalogue ∙ ap (λ (q : What × OneWorld). q.1.register.catalogue) (sym same) ∙ ap (λ (x : RegisterState). x.catalogue) s.register;
          run = like.1.run ∙ ap (λ (q : What × OneWorld). q.1.register.run) (sym same) ∙ ap (λ (x : RegisterState). x.run) s.register;
          serial = like.1.serial ∙ ap (λ (q : What × OneWorld). q.1.register.serial) (sym same) ∙ ap (λ (x : RegisterState). x.serial) s.register;
          objects = λ id. ap (λ (x : Objects). get x id) (like.1.objects ∙ ap (λ (q : What × OneWorld). q.1.objects) (sym same)) ∙ s.objects id;
        } in
        let rest = replays_are_steps (plain_step (array_service lanes) w (Entered e)) (step v e.asked.0.value e.asked.1.value).1 _ _ items (over_later w e over) next legal.1 found.1 in
        record {
          answers = λ i. ((ap (λ (q : What × OneWorld). q.0) same ∙ sym like.0) i ∷ rest.answers i);
          world = rest.world;
        }
    replays_are_steps w v places cuts (DrawnCut number c ∷ items) over seen legal found =
        let rest = replays_are_steps (plain_step (array_service lanes) w (DrawnCut number c)) v _ _ items
        (record { some = over.some; count = (drawn_on w.register).lanes ∙ over.count })
        (record { catalogue = seen.catalogue; run = seen.run; serial = seen.serial; objects = seen.objects }) legal.1 found.1 in
        record { answers = rest.answers; world = rest.world }
    replays_are_steps w v places cuts (RegisterCut p well ∷ items) over seen legal found =
        let rest = replays_are_steps (plain_step (array_service lanes) w (RegisterCut p well)) v _ _ items
        (record { some = over.some; count = (recorded_on well w.register).lanes ∙ over.count }) (after_cut well) legal.1 found.1 in
        record { answers = rest.answers; world = rest.world }
      where
        after_cut : (b : Bool) → IsSeenAlike lanes (plain_step (array_service lanes) w (RegisterCut p b)) v
        after_cut true = record { catalogue = seen.catalogue; run = seen.run; serial = seen.serial; objects = seen.objects }
        after_cut false = record { catalogue = seen.catalogue; run = seen.run; serial = seen.serial; objects = seen.objects }

-- ---- histories in which all was done

module _ (issues : GrantsAreIssues) (alike : StepsAlike) (lanes : ℕ) (plain : WholeIsPlain (array_service lanes)) (answered : WholeAnswersArePlain (array_service lanes)) where
  pub histories_are_replays : HistoriesAreReplays lanes
  histories_are_replays start h v over seen done =
      let steps = replays_are_steps issues lanes alike start v 0 0 h.register over seen done.legal.register done.decided in
      let world = plain start h done.legal done.whole in
      record {
        answers = λ place few.
            ap (option_map answer_of) (answered start h done.legal done.whole place few)
            ∙ sym (slice_get-map answer_of (plain_answers (array_service lanes) h.register start) place)
            ∙ ap (λ (xs : List What). slice_get xs place) steps.answers;
        world = record {
          catalogue = steps.world.catalogue ∙ ap (λ (d : RegisterState). d.catalogue) world.0;
          run = steps.world.run ∙ ap (λ (d : RegisterState). d.run) world.0;
          serial = steps.world.serial ∙ ap (λ (d : RegisterState). d.serial) world.0;
          objects = λ id. steps.world.objects id ∙ ap (λ (m : Objects). get m id) (world.1 (lane_of lanes id));
        };
      }
