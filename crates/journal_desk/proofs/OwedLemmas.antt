-- What a desk owes its disk, as it goes on.
use Rattle.std.proofs.Common.{◌≡◌, ◌≢◌, ℕ, List, [], ◌∷◌, Option, None, Some, Result, Ok, Err, refl, ap, sym, ◌∙◌, subst}
use Rattle.edge_traits.specs.declared.disk.Disk.{Ghosts}
use Rattle.flush_journal.specs.Records.{Record}
use Rattle.flush_journal.specs.Standing.{pending_of}
use Rattle.flush_journal.specs.Tries.{Tries}
use Rattle.flush_journal.specs.declared.journal.Journal.{Journal}
use Rattle.flush_journal.specs.declared.why.Why.{Why}
use Rattle.lane_histories.specs.Services.{World}
use Rattle.lane_histories.specs.Histories.{History}
use Rattle.lane_histories.specs.declared.items.Reach.{Reach}
use Rattle.lane_histories.specs.Cuts.{GoesOn, IsCutTo, register_cut}
use Rattle.journal_desk.specs.KeptServices.{KeptService}
use Rattle.journal_desk.specs.Cuts.{AddCuts, Advances, no_cut, then_others}
use Rattle.journal_desk.specs.Owed.{HasCutsSince, OwesCuts}

none_some : (rs : List Record) → ◌≡◌ {A = Option (List Record)} None (Some rs) → ⊥
none_some rs e = cc

some_none : (r : Record) (rs : List Record) → ◌≡◌ {A = List Record} (r ∷ rs) [] → ⊥
some_none r rs e = cc

not_ok : (why : Why) → ◌≡◌ {A = Result (Unit {0}) Why} (Err why) (Ok tt) → ⊥
not_ok why e = cc

-- ---- what an append leaves

module _ {D : Type 0} {met : Ghosts D} (old new : Journal D met) where
  pub none_left : (rs : List Record) → (rs ≢ [] → Tries old new rs (Ok tt)) → (rs ≡ [] → new ≡ old) → pending_of old ≡ None → pending_of new ≡ None
  none_left [] tries untouched idle = ap pending_of (untouched refl) ∙ idle
  none_left (r ∷ rs) tries untouched idle = (tries (some_none r rs)).done

  pub all_left : (why : Why) (rs : List Record) → (rs ≢ [] → Tries old new rs (Err why)) → (rs ≡ [] → ◌≡◌ {A = Result (Unit {0}) Why} (Err why) (Ok tt))
      → pending_of new ≡ Some rs
  all_left why [] tries empty = absurd (not_ok why (empty refl))
  all_left why (r ∷ rs) tries empty = (tries (some_none r rs)).pending

module _ (k : KeptService) (start : World k.service) where
  -- all is kept
  pub owes_none : (h : History k.service) (was : ℕ → k.marking.Marked) (later : Option (List Record)) (cut : Reach) → later ≡ None
      → IsCutTo k.service h cut.c → cut.p ≡ register_cut h.register → OwesCuts k start h was h was later [] cut
  owes_none h was later cut none lanes register = subst (λ (o : Option (List Record)). OwesCuts k start h was h was o [] cut) (sym none)
      (record { lanes = lanes; register = register; added = no_cut })

  module _ (since : History k.service) (first : ℕ → k.marking.Marked) where
    -- ---- the journal was called

    module _ (h : History k.service) (was : ℕ → k.marking.Marked) where
      -- what was pending is written, and nothing was cut behind it
      pub owes_written : (before later : Option (List Record)) (rs building : List Record) (kept cut : Reach) → before ≡ Some rs → later ≡ None
          → IsCutTo k.service h cut.c → cut.p ≡ register_cut h.register → OwesCuts k start since first h was before building kept
          → OwesCuts k start h was h was later building cut
      owes_written before later rs building kept cut some none lanes register owes =
          let built = (subst (λ (o : Option (List Record)). OwesCuts k start since first h was o building kept) some owes).0 in
          subst (λ (bs : List Record). OwesCuts k start h was h was later bs cut) (sym built) (owes_none h was later cut none lanes register)

      -- it stays pending
      pub owes_still : (before later : Option (List Record)) (rs building : List Record) (kept : Reach) → before ≡ Some rs → later ≡ Some rs
          → OwesCuts k start since first h was before building kept → OwesCuts k start since first h was later building kept
      owes_still before later rs building kept some still owes =
          subst (λ (o : Option (List Record)). OwesCuts k start since first h was o building kept) (some ∙ sym still) owes

      -- what was cut is pending
      pub owes_batch : (before later : Option (List Record)) (building : List Record) (kept : Reach) → before ≡ None → later ≡ Some building
          → OwesCuts k start since first h was before building kept → OwesCuts k start since first h was later [] kept
      owes_batch before later building kept none some owes = subst (λ (o : Option (List Record)). OwesCuts k start since first h was o [] kept) (sym some)
          (refl, subst (λ (o : Option (List Record)). OwesCuts k start since first h was o building kept) none owes)

      -- just these records were added, where nothing is pending
      pub owed_added : (o : Option (List Record)) (building : List Record) (kept : Reach) → o ≡ None → OwesCuts k start since first h was o building kept
          → AddCuts k start since first h was building
      owed_added o building kept none owes = (subst (λ (q : Option (List Record)). OwesCuts k start since first h was q building kept) none owes).added

    -- ---- the note grew

    went_on : (h g : History k.service) (was : ℕ → k.marking.Marked) (kept : Reach) (rs : List Record) → GoesOn h g
        → HasCutsSince k start since first h was kept rs → HasCutsSince k start since first g was kept rs
    went_on h g was kept rs on has = record { lanes = has.lanes; register = has.register; added = then_others h g was rs has.added on }

    pub owes_on : (h g : History k.service) (was : ℕ → k.marking.Marked) (o : Option (List Record)) (building : List Record) (kept : Reach) → GoesOn h g
        → OwesCuts k start since first h was o building kept → OwesCuts k start since first g was o building kept
    owes_on h g was None building kept on owes = went_on h g was kept building on owes
    owes_on h g was (Some rs) building kept on owes = (owes.0, went_on h g was kept rs on owes.1)

    -- by cuts, which come where nothing is pending
    pub owes_cut : (h g : History k.service) (was later : ℕ → k.marking.Marked) (o : Option (List Record)) (building built : List Record) (kept : Reach)
        → o ≡ None → Advances k start h g was later building built → OwesCuts k start since first h was o building kept
        → OwesCuts k start since first g later o built kept
    owes_cut h g was later None building built kept none adv owes =
        record { lanes = owes.lanes; register = owes.register; added = adv.adds since first owes.added }
    owes_cut h g was later (Some rs) building built kept none adv owes = absurd (none_some rs (sym none))
