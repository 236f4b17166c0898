-- A history in which all was done is one that found memory wherever it was wanted.
use Rattle.std.proofs.Common.{◌≢◌, inl, inr, ⊎_elim, ℕ, List, [], ◌∷◌, refl, subst}
use Rattle.std.specs.List.{AllByRecursion}
use Rattle.object_ops.specs.declared.replies.Reply.{Reply}
use Rattle.register.specs.declared.verdicts.Verdict.{Verdict}
use Rattle.register.specs.declared.verdicts.Verdict.TheVariants as verdict
use Rattle.lane_histories.specs.Histories.{IsIn}
use Rattle.lane_histories.specs.declared.items.Entry.{Entry}
use Rattle.lane_histories.specs.declared.items.LaneItem.{LaneItem}
use Rattle.lane_histories.specs.declared.items.LaneItem.TheVariants.{Passed, WasCut}
use Rattle.lane_histories.specs.declared.items.Outcome.TheVariants.{Done, Short, Skipped}
use Rattle.lane_histories.specs.declared.items.Part.{Part}
use Rattle.lane_histories.specs.declared.items.RegisterItem.{RegisterItem}
use Rattle.lane_histories.specs.declared.items.RegisterItem.TheVariants.{Entered, DrawnCut, RegisterCut}
use Rattle.lane_histories.specs.Laws.{IsFound}
use Rattle.service_histories.specs.ArrayServices.{Asked}
use Rattle.service_histories.specs.PlainSteps.{AllDoneExactly, IsDecided}
use Rattle.service_histories.specs.declared.tasks.Task.{Task}

-- ---- a lane's list

found_all : (items : List (LaneItem Task Reply)) → ((place : ℕ) (part : Part) (task : Task) → IsIn items (Passed place part task Short) → ⊥)
    → AllByRecursion IsFound items
found_all [] none = tt
found_all (Passed place part task (Done reply) ∷ items) none = (tt, found_all items (λ p q t here. none p q t (inr here)))
found_all (Passed place part task Short ∷ items) none = absurd (none place part task (inl refl))
found_all (Passed place part task Skipped ∷ items) none = (tt, found_all items (λ p q t here. none p q t (inr here)))
found_all (WasCut number c well ∷ items) none = (tt, found_all items (λ p q t here. none p q t (inr here)))

none_short : (items : List (LaneItem Task Reply)) → AllByRecursion IsFound items → (place : ℕ) (part : Part) (task : Task)
    → IsIn items (Passed place part task Short) → ⊥
none_short [] found place part task here = here
none_short (i ∷ items) found place part task here =
    ⊎_elim (λ same. subst IsFound same found.0) (λ later. none_short items found.1 place part task later) here

-- ---- the register's list

decided_all : (items : List (RegisterItem Asked Verdict)) → ((e : Entry Asked Verdict) → IsIn items (Entered e) → e.verdict ≢ verdict.NoMemory)
    → AllByRecursion IsDecided items
decided_all [] none = tt
decided_all (Entered e ∷ items) none = (none e (inl refl), decided_all items (λ x here. none x (inr here)))
decided_all (DrawnCut number c ∷ items) none = (tt, decided_all items (λ x here. none x (inr here)))
decided_all (RegisterCut p well ∷ items) none = (tt, decided_all items (λ x here. none x (inr here)))

none_wanting : (items : List (RegisterItem Asked Verdict)) → AllByRecursion IsDecided items → (e : Entry Asked Verdict) → IsIn items (Entered e)
    → e.verdict ≢ verdict.NoMemory
none_wanting [] decided e here = absurd here
none_wanting (i ∷ items) decided e here =
    ⊎_elim (λ same. subst IsDecided same decided.0) (λ later. none_wanting items decided.1 e later) here

-- ---- both

pub all_done_exactly : (lanes : ℕ) → AllDoneExactly lanes
all_done_exactly lanes start h = (
  λ done. (
    done.legal,
    record {
      passed = done.whole.all_passed;
      turns = λ place short. none_short (h.lane short.lane) (done.whole.found short.lane) place short.part short.task short.here;
      verdicts = none_wanting h.register done.decided;
    },
  ),
  λ has. record {
    legal = has.0;
    whole = record {
      all_passed = has.1.passed;
      found = λ l. found_all (h.lane l) (λ place part task here. has.1.turns place (record { lane = l; part = part; task = task; here = here }));
    };
    decided = decided_all h.register has.1.verdicts;
  },
)
