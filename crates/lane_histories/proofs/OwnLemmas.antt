-- The desk's own numbers are those of the last batch that was answered Ok.
use Rattle.std.proofs.Common.{◌≡◌, ℕ, Bool, true, false, List, [], ◌∷◌, ◌++◌, refl, ap, sym, ◌∙◌, subst}
use Rattle.lane_histories.specs.Services.{Service, World}
use Rattle.lane_histories.specs.Histories.{Reach, Keeping}
use Rattle.lane_histories.specs.JournalContents.{JournalContents}
use Rattle.lane_histories.specs.Desks.{AreOwn, Desk, answer_of, appended, nowhere, own_after, own_by}
use Rattle.lane_histories.specs.Core.{Core, Event, asks, draws_cut, cuts_register, takes_turn, cuts_lane, appends, settles, crashes, IsOpened, Leads, Runs, with_desk}
use Rattle.lane_histories.specs.Laws.{KeepingsTell}

own_push : (own : Reach) (keepings : List Keeping) (k : Keeping)
    → own_after own (keepings ++ k ∷ []) ≡ own_by k.answer k.cut (own_after own keepings)
own_push own [] k = refl
own_push own (x ∷ keepings) k = own_push (own_by x.answer x.cut own) keepings k

are_push : (own : Reach) (keepings : List Keeping) (k : Keeping) → AreOwn own keepings
    → k.own ≡ own_by k.answer k.cut (own_after own keepings) → AreOwn own (keepings ++ k ∷ [])
are_push own [] k are is = (is, tt)
are_push own (x ∷ keepings) k are is = (are.0, are_push (own_by x.answer x.cut own) keepings k are.1 is)

-- so is the number of a desk with these keepings
record IsOwn (own : Reach) (keepings : List Keeping) : Type 0 where
  is : own ≡ own_after nowhere keepings
  are : AreOwn nowhere keepings

module _ (s : Service) (j : JournalContents s) where
  abbrev OwnIn : Core s j → Type 0
  OwnIn core = IsOwn core.desk.own core.keepings

  by_batch : (ok : Bool) (batch : j.Content × Reach) (desk : Desk s j)
      → (appended ok batch desk).own ≡ own_by (answer_of ok) batch.1 desk.own
  by_batch true batch desk = refl
  by_batch false batch desk = refl

  desk_own : (core : Core s j) (ok : Bool) (batch : j.Content × Reach) (before after moment end owed : ℕ) → OwnIn core
      → OwnIn (with_desk core ok batch before after moment end owed)
  desk_own core ok batch before after moment end owed own =
      let desk = appended ok batch core.desk in
      let k : Keeping = record {
        cut = batch.1;
        own = desk.own;
        answer = answer_of ok;
        faults_before = before;
        faults_after = after;
        moment = moment;
        end = end;
        owed = owed;
      } in
      let now : desk.own ≡ own_by (answer_of ok) batch.1 (own_after nowhere core.keepings) = by_batch ok batch core.desk ∙ ap (own_by (answer_of ok) batch.1) own.is in
      record { is = now ∙ sym (own_push nowhere core.keepings k); are = are_push nowhere core.keepings k own.are now }

  event_own : (e : Event s) (old new : Core s j) → OwnIn old → Leads e old new → OwnIn new
  event_own (asks by asked verdict) old new own leads = subst OwnIn (sym leads.1) own
  event_own draws_cut old new own leads = subst OwnIn (sym leads.1) own
  event_own (cuts_register true) old new own leads = subst OwnIn (sym leads.1.2) own
  event_own (cuts_register false) old new own leads = subst OwnIn (sym leads.1.2) own
  event_own (takes_turn l y) old new own leads = subst OwnIn (sym leads.new_is) own
  event_own (cuts_lane l true) old new own leads = subst OwnIn (sym leads.new_is) own
  event_own (cuts_lane l false) old new own leads = subst OwnIn (sym leads.new_is) own
  event_own (appends ok before after moment) old new own leads = subst OwnIn (sym leads.new_is) (desk_own old ok (old.desk.built, leads.reach) before after moment leads.end leads.owed own)
  event_own (settles ok before after moment) old new own leads = subst OwnIn (sym leads.new_is) (desk_own old ok leads.batch before after moment leads.end leads.owed own)
  event_own crashes old new own leads = subst OwnIn (sym leads) own

  run_own : (events : List (Event s)) (old new : Core s j) → OwnIn old → Runs events old new → OwnIn new
  run_own [] old new own same = subst OwnIn same own
  run_own (e ∷ events) old new own runs = run_own events runs.0 new (event_own e old runs.0 own runs.1.1) runs.2

  opened_own : (start : World s) (core : Core s j) → IsOpened start core → OwnIn core
  opened_own start core opened = subst (λ (keepings : List Keeping). IsOwn core.desk.own keepings) (sym opened.keepings) (record { is = opened.own; are = tt })

  pub keepings_tell : KeepingsTell s j
  keepings_tell start opened core events is runs = let own = run_own events opened core (opened_own start opened is) runs in (own.is, own.are)
