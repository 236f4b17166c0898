-- Any events from the opening.
use Rattle.std.proofs.Common.{◌≡◌, inl, ℕ, true, false, List, [], ◌∷◌, ◌++◌, Option, Some, None, refl, ap, sym, ◌∙◌, subst, arith}
use Rattle.lane_histories.specs.Services.{Service, World}
use Rattle.lane_histories.specs.Histories.{LaneItem, Reach, IsIn, tickets, issued, register_at, register_after, objects_after, RegisterList, LaneList}
use Rattle.lane_histories.specs.Legal.{IsLegal}
use Rattle.lane_histories.specs.Cuts.{last_cut, IsOfCuts}
use Rattle.lane_histories.specs.JournalContents.{JournalContents}
use Rattle.lane_histories.specs.KeptContents.{TellsKept}
use Rattle.lane_histories.specs.Desks.{nowhere, IsKeptDesk}
use Rattle.lane_histories.specs.Core.{Core, Event, asks, draws_cut, cuts_register, takes_turn, cuts_lane, appends, settles, crashes, Leads, IsOpened, Runs, history}
use Rattle.lane_histories.specs.Laws.{CoresAreLegal, CoresStandForLists, ImagesAreKept, KeepingsLast}
use Rattle.lane_histories.proofs.Lists.{all_at}
use Rattle.lane_histories.proofs.Sound.{BuiltLane, IsSound, images_kept}
use Rattle.lane_histories.proofs.RegisterEvents.{asks_sound, draws_sound, register_short_sound, register_sound}
use Rattle.lane_histories.proofs.LaneEvents.{cut_sound, short_cut_sound, turn_sound}
use Rattle.lane_histories.proofs.DeskEvents.{append_sound, settle_sound}

module _ (s : Service) (j : JournalContents s) (start : World s) where
  -- ---- one event

  crashed_sound : (core : Core s j) → IsSound s j start core → IsSound s j start (record core { crashed = true })
  crashed_sound core sound = record {
    legal = sound.legal;
    seconds = sound.seconds;
    register = sound.register;
    objects = sound.objects;
    backing = record { lanes = sound.backing.lanes; register = sound.backing.register };
    desk = sound.desk;
  }

  event_sound : (e : Event s) (old new : Core s j) → IsSound s j start old → Leads e old new → IsSound s j start new
  event_sound (asks by asked verdict) old new sound leads = subst (IsSound s j start) (sym leads.1) (asks_sound s j start old sound by asked verdict leads.0)
  event_sound draws_cut old new sound leads = subst (IsSound s j start) (sym leads.1) (draws_sound s j start old sound)
  event_sound (cuts_register true) old new sound leads = subst (IsSound s j start) (sym leads.1.2) (register_sound s j start old sound leads.1.0 leads.1.1)
  event_sound (cuts_register false) old new sound leads = subst (IsSound s j start) (sym leads.1.2) (register_short_sound s j start old sound leads.1.0 leads.1.1)
  event_sound (takes_turn l y) old new sound leads = turn_sound s j start old sound l y new leads
  event_sound (cuts_lane l true) old new sound leads = cut_sound s j start old sound l new leads
  event_sound (cuts_lane l false) old new sound leads = short_cut_sound s j start old sound l new leads
  event_sound (appends ok before after moment) old new sound leads = append_sound s j start old sound ok before after moment new leads
  event_sound (settles ok before after moment) old new sound leads = settle_sound s j start old sound ok before after moment new leads
  event_sound crashes old new sound leads = subst (IsSound s j start) (sym leads) (crashed_sound old sound)

  pub run_sound : (events : List (Event s)) (old new : Core s j) → IsSound s j start old → Runs events old new → IsSound s j start new
  run_sound [] old new sound same = subst (IsSound s j start) same sound
  run_sound (e ∷ events) old new sound runs = run_sound events runs.0 new (event_sound e old runs.0 sound runs.1.1) runs.2

  -- ---- the opening

  module _ (core : Core s j) (opened : IsOpened start core) where
    no_item : (l : ℕ) → core.items l ≡ []
    no_item = opened.items

    nothing_in : (l : ℕ) (i : LaneItem s.Task s.Reply) → IsIn (core.items l) i → ⊥
    nothing_in l i here = let none : IsIn {X = LaneItem s.Task s.Reply} [] i = subst (λ (xs : LaneList s). IsIn xs i) (no_item l) here in none

    pub opened_legal : IsLegal s start (history core)
    opened_legal = record {
      register = rw opened.list tt;
      lanes = λ l. rw (no_item l) tt;
      in_order = λ l. (issued s l core.list, ap (λ (xs : LaneList s). tickets xs ++ issued s l core.list) (sym (no_item l)));
      pairs = λ a b place task next x y is_first is_second. absurd (nothing_in a _ is_first);
    }

    opened_backed : TellsKept s j start (history core) core.desk.held nowhere
    opened_backed = record {
      world = record { catalogue = s.catalogue start.register; objects = start.objects };
      told = opened.held;
      kept = record {
        k = λ l. 0;
        kept = record {
          order = omega arith;
          catalogue = ap (λ (list : RegisterList s). s.catalogue (register_at s 0 start.register list)) (sym opened.list);
          lanes = λ l few. record { few = omega arith; objects = s.alike_itself _ _; below = tt; all = rw (no_item l) tt };
        };
        few = omega arith;
        cut = inl refl;
      };
    }

    opened_desk : IsKeptDesk s j start (history core) core.desk
    opened_desk = record {
      keepings = rw opened.keepings tt;
      held = subst (TellsKept s j start (history core) core.desk.held) (sym opened.own) opened_backed;
      cuts = subst (IsOfCuts s (history core)) (sym opened.own) (record { c = inl refl; p = inl refl });
      pending = λ x reach is. absurd (none_pending x reach (sym opened.pending ∙ is));
    }
      where
        none_pending : (x : j.Content) (reach : Reach) → ◌≡◌ {A = Option (j.Content × Reach)} None (Some (x, reach)) → ⊥
        none_pending x reach e = cc

    no_cut : (q : ℕ) → ◌≡◌ {A = Option ℕ} None (Some q) → ⊥
    no_cut q e = cc

    opened_lane : (l : ℕ) → BuiltLane s j start core.list core.desk.built l (core.items l) (core.torn l)
    opened_lane l = record {
      k = 0;
      few = omega arith;
      told = λ few whole. rw opened.built (opened.held.lanes l few);
      cuts = λ number c here. absurd (nothing_in l _ here);
      below = inl refl;
    }

    pub opened_sound : IsSound s j start core
    opened_sound = record {
      legal = opened_legal;
      register = opened.register ∙ sym (ap (register_after s start.register) opened.list);
      objects = λ l. opened.objects l ∙ sym (ap (objects_after s (start.objects l)) (no_item l));
      seconds = λ a b place other y here. absurd (nothing_in b _ here);
      backing = record { lanes = opened_lane; register = λ q is. absurd (no_cut q (sym (ap (last_cut None) opened.list) ∙ is)) };
      desk = opened_desk;
    }

  pub core_sound : (opened core : Core s j) (events : List (Event s)) → IsOpened start opened → Runs events opened core
      → IsSound s j start core
  core_sound opened core events is runs = run_sound events opened core (opened_sound opened is) runs

module _ (s : Service) (j : JournalContents s) where
  pub cores_are_legal : CoresAreLegal s j
  cores_are_legal start opened core events is runs = (core_sound s j start opened core events is runs).legal

  pub cores_stand_for_lists : CoresStandForLists s j
  cores_stand_for_lists start opened core events is runs =
      let sound = core_sound s j start opened core events is runs in record { register = sound.register; objects = sound.objects }

  pub images_are_kept : ImagesAreKept s j
  images_are_kept start opened core events is runs = images_kept s j start core (core_sound s j start opened core events is runs)

  pub keepings_last : KeepingsLast s j
  keepings_last start opened core events is runs k here = all_at _ core.keepings k (core_sound s j start opened core events is runs).desk.keepings here
