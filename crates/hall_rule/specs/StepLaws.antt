-- What each step of a hall does to its rule, and what it tells.
--     StepsKeepRule m     each kind of step keeps the rule, whatever the others have done
--     StepsTell m         what a pass knows behind a step
--     HandsHold m         the slot that was taken last is the one that is read and written
use Rattle.std.specs.Prelude.{◌≡◌, ℕ, ◌+◌, ◌<◌, ◌≤◌, ◌%◌, ◌^◌, List, [], ◌∷◌, max, true, false}
use Rattle.std.specs.Prelude.{Some}
use mathlib.Core.Option.{none}
use Rattle.atomic_table.specs.Table.{Allows, Joins, Me, Splits, rest, step}
use Rattle.lane_histories.specs.Histories.{places}
use Rattle.lane_histories.specs.Services.{Service}
use Rattle.hall_rule.specs.declared.queue.Queue.{Queue}
use Rattle.hall_rule.specs.declared.queue.Queue.TheVariants.{OfRegister, OfDesk}
use Rattle.hall_rule.specs.declared.queue.Claim.{Claim}
use Rattle.hall_rule.specs.declared.view.Start.{Start}
use Rattle.hall_rule.specs.Machines.{Machines}
use Rattle.hall_rule.specs.Standing.{HallSlot}
use Rattle.hall_rule.specs.Rule.{FollowsRule, HallHand, HallState, HallView}
use Rattle.hall_rule.specs.Rule.{given_by_split, left_by_split, merged, note_of, spent_view}
use Rattle.hall_rule.specs.Sums.{total}
use Rattle.hall_rule.specs.Queues.{IsQueue, limit_of, word_of}
use Rattle.hall_rule.specs.Claims.{claim, numbers}
use Rattle.hall_rule.specs.Seen.{Item, queue_of}
use Rattle.hall_rule.specs.Steps.{HasCounted, HasDrawn, HasLearnt, HasLooked, HasLookedAt}
use Rattle.hall_rule.specs.Steps.{HasPassed, HasSpared, HasTaken, PassesTurn}
use Rattle.hall_rule.specs.WholeTurns.{IsReadyToPass, MayLook}
use Rattle.hall_rule.specs.Joins.{HasJoined}

-- a pass whose seat has this number, at a table of so many slots
pub record StepLaws {service : Service} {M N P E : Type 0} (m : Machines service M N P E) (passes : ℕ)
    (start : Start M N E) (slots id : ℕ) (me : HallHand service M N P E) : Type 0 where
  -- a number of the register, or of the desk, is drawn
  pub draws_register : me.0.live ≡ true → total (numbers OfRegister) me.0.claims ≡ 0
      → Allows (FollowsRule m passes start) slots id me 0 (λ n. (n + 1) % 2 ^ 64)
      (HasDrawn OfRegister (step slots 0 1 0 none) me)
  pub draws_desk : me.0.live ≡ true → total (numbers OfDesk) me.0.claims ≡ 0
      → Allows (FollowsRule m passes start) slots id me 1 (λ n. (n + 1) % 2 ^ 64)
      (HasDrawn OfDesk (step slots 1 1 0 none) me)
  -- a look at the word of the queue for which the newest claim waits
  pub looks : (q : Queue) (n : ℕ) (others : List Claim) (word : ℕ) → word ≡ word_of q
      → MayLook start q n others me.0
      → Allows (FollowsRule m passes start) slots id me word (λ n. n)
      (HasLooked m (step slots word 0 0 none) me)
  -- a look at the register's word with nothing in hand
  pub counts : me.0.live ≡ true → Allows (FollowsRule m passes start) slots id me 2 (λ n. n)
      (HasCounted (step slots 2 0 0 none) me)
  -- the turn of the newest claim is passed on
  pub passes_turn : (item : Item service.Asked service.Verdict service.Task service.Reply N)
      (q : Queue) (word : ℕ) → word ≡ word_of q → queue_of item ≡ q → IsReadyToPass m start item me
      → Allows (FollowsRule m passes start) slots id me word (λ n. (n + 1) % 2 ^ 64)
      (PassesTurn m (step slots word 1 0 none) me)
  -- a load before a split
  pub spares : me.0.live ≡ true → Allows (FollowsRule m passes start) slots id me 0 (λ n. n)
      (HasSpared (step slots 0 0 0 none) me)
  -- a load behind a join
  pub learns : me.0.live ≡ true → Allows (FollowsRule m passes start) slots id me 0 (λ n. n)
      (HasLearnt m (step slots 0 0 0 none) me)

-- views that are cut in two, and two that are joined
pub record ShareLaws {service : Service} {M N P E : Type 0} (m : Machines service M N P E) (passes : ℕ)
    (start : Start M N E) (id : ℕ) (v : HallView service M N E) : Type 0 where
  pub splits : (x : ℕ) (xs : List ℕ) → v.live ≡ true → v.guests ≡ [] → v.spare ≡ x ∷ xs
      → Splits (λ (s : HallState service M N P E). FollowsRule m passes start s) id v
      (left_by_split v) (given_by_split v)
  -- the desk's note is cut off, with the lists that the pass has seen
  pub notes : Splits (λ (s : HallState service M N P E). FollowsRule m passes start s) id v v
      (note_of v)
  pub joins : (other : ℕ) (w : HallView service M N E) → v.live ≡ true → w.live ≡ true
      → w.claims ≡ [] → v.guests ≡ [] → w.guests ≡ []
      → Joins (λ (s : HallState service M N P E). FollowsRule m passes start s) id v other w
      (merged v w) spent_view

pub record StepsKeepRule {service : Service} {M N P E : Type 0} (m : Machines service M N P E)
    : Type 0 where
  pub step : (passes : ℕ) (start : Start M N E) (slots id : ℕ) (me : HallHand service M N P E)
      → StepLaws m passes start slots id me
  pub share : (passes : ℕ) (start : Start M N E) (id : ℕ) (v : HallView service M N E)
      → ShareLaws m passes start id v
  -- each queue's word is one of the table
  pub words : (word lanes count : ℕ) (q : Queue) → word ≡ word_of q → IsQueue lanes q
      → count ≡ lanes + 4 → word < count

pub record StepsTell {service : Service} {M N P E : Type 0} (m : Machines service M N P E)
    : Type 0 where
  -- a look that shows the number takes the turn, whatever looks came before it
  pub looked : (start : Start M N E) (q : Queue) (n shown : ℕ) (others : List Claim)
      (first me after : HallHand service M N P E) → me ≡ first → MayLook start q n others first.0
      → HasLookedAt m me.0.claims me shown after → shown ≡ n → n < limit_of q
      → HasTaken m start (claim q n false) others first after
  pub passed : (start : Start M N E)
      (item : Item service.Asked service.Verdict service.Task service.Reply N) (k : ℕ)
      (me after : HallHand service M N P E) → IsReadyToPass m start item me
      → PassesTurn m (step k k k k none) me k after
      → (after.1 ≡ rest me.1) × HasPassed m start item me.0 after.0
  -- the load behind a join tells what the two had seen
  pub joined : (start : Start M N E) (v w : HallView service M N E) (k : ℕ)
      (me after : HallHand service M N P E) → v.live ≡ true → w.live ≡ true → v.start ≡ Some start
      → me.0 ≡ merged v w → HasLearnt m (step k k k k none) me k after
      → HasJoined m start v w after.0 × (after.1 ≡ me.1)
  -- the greater of two fronts is at most what the joined pass has seen
  pub front : (start : Start M N E) (a b : ℕ) (v w u : HallView service M N E)
      → a ≤ places v.seen.register → b ≤ places w.seen.register → HasJoined m start v w u
      → max a b ≤ places u.seen.register

-- the slot at this place was taken last: it may be read, and what is read is what lies there
pub record HandLaws {Z V : Type 0} (me : Me Z V) (place at : ℕ) (v : V) (slot : Z)
    (more : List (ℕ × Z)) : Type 0 where
  pub there : (old : Z) × (me.1 ≡ (place, old) ∷ rest me.1)
  pub read : (old : Z) → me.1 ≡ (place, old) ∷ rest me.1 → old ≡ slot
  -- it was taken out, and another put in its place
  pub swapped : (out back : Me Z V) (old away new : Z) → me.1 ≡ (place, old) ∷ rest me.1
      → out ≡ (me.0, (place, away) ∷ rest me.1) → back ≡ (out.0, (place, new) ∷ rest out.1)
      → back ≡ (v, (at, new) ∷ more)

abbrev pub HandsHold : {service : Service} {M N P E : Type 0} → Machines service M N P E → Type 0
HandsHold {service} {M} {N} {P} {E} m = (me : HallHand service M N P E) (place at : ℕ)
    (v : HallView service M N E) (slot : HallSlot service M N P)
    (more : List (ℕ × HallSlot service M N P)) → me ≡ (v, (at, slot) ∷ more) → place ≡ at
    → HandLaws me place at v slot more
