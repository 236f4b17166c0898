-- Each step of the callers' side advances: what is building still says what was cut.
use Rattle.std.proofs.Common.{◌≡◌, ◌≢◌, ◌⊎◌, inl, inr, ⊎_elim, ℕ, suc, ◌+◌, ◌<◌, ◌≤◌, Bool, true, false, ◌&&◌, List, [], ◌∷◌, ◌++◌, Some, None, refl, ap, sym, ◌∙◌, subst, arith}
use Rattle.std.specs.List.{AllByRecursion}
use Rattle.std.proofs.lemmas.Bool.Decides.{eqb_tells}
use Rattle.flush_journal.specs.Records.{Held, Record, put_all}
use Rattle.flush_journal.proofs.BlockLemmas.{put_both}
use Rattle.lane_histories.specs.Services.{Service, World}
use Rattle.lane_histories.specs.Histories.{History, IsIn, LaneList, RegisterList, StartsWith, changed_at, register_step, drawn, places}
use Rattle.lane_histories.specs.declared.items.RegisterItem.{RegisterItem}
use Rattle.lane_histories.specs.declared.items.RegisterItem.TheVariants.{DrawnCut, Entered, RegisterCut}
use Rattle.lane_histories.specs.declared.items.LaneItem.{LaneItem}
use Rattle.lane_histories.specs.declared.items.LaneItem.TheVariants.{WasCut}
use Rattle.lane_histories.specs.Legal.{IsLegal, IsLegalRegister, IsPrefix, with_register_item, with_lane_item}
use Rattle.lane_histories.specs.Cuts.{GoesOn, IsEntry, IsWholeCut, last_cut, register_cut}
use Rattle.lane_histories.specs.Since.{SaysCuts}
use Rattle.lane_histories.proofs.Lists.{all_at, in_back, in_either, in_last, in_longer, starts_itself}
use Rattle.lane_histories.proofs.Orders.{either_first, lane_ordered}
use Rattle.lane_histories.proofs.Growth.{places_both}
use Rattle.lane_histories.proofs.RegisterLists.{drawn_at_most, last_cut_push}
use Rattle.lane_histories.proofs.LaneLists.{at_each}
use Rattle.lane_histories.proofs.CutLemmas.{register_cut_push, register_cut_stays}
use Rattle.lane_histories.proofs.SaidCuts.{cuts_stay_said, said_at_register, said_with_lane, said_with_register, said_with_short}
use Rattle.journal_desk.specs.KeptServices.{KeptService}
use Rattle.journal_desk.specs.Cuts.{AddCuts, Adds, Advances, CutsEach, DrawsCut, TakesCut, TakesRegisterCut, cuts_of_lane, then_drawn, then_lane, then_register}
use Rattle.journal_desk.proofs.ImageLemmas.{prefix_both, prefix_itself}
use Rattle.journal_desk.proofs.OrderLemmas.{lane_more, other_same, register_stays}

module _ (s : Service) where
  register_prefix : (h : History s) (i : RegisterItem s.Asked s.Verdict) → IsPrefix h (with_register_item h i)
  register_prefix h i = record { register = (i ∷ [], refl); lane = λ l. starts_itself (h.lane l); keepings = starts_itself h.keepings }

  lane_prefix : (h : History s) (l : ℕ) (i : LaneItem s.Task s.Reply) → IsPrefix h (with_lane_item h l i)
  lane_prefix h l i = record {
    register = starts_itself h.register;
    lane = at_each l (h.lane l ++ i ∷ []) h.lane (λ m v. StartsWith v (h.lane m)) (i ∷ [], refl) (λ m other. starts_itself (h.lane m));
    keepings = starts_itself h.keepings;
  }

  -- the item stands in the lane's list
  lane_has : (h : History s) (l : ℕ) (i : LaneItem s.Task s.Reply) → IsIn ((with_lane_item h l i).lane l) i
  lane_has h l i = at_each l (h.lane l ++ i ∷ []) h.lane (λ m v. m ≡ l → IsIn v i) (λ same. in_back (h.lane l) (i ∷ []) i (inl refl))
      (λ m other same. absurd (other same)) l refl

  no_drawn : (xs : RegisterList s) (n e : ℕ) → AllByRecursion IsEntry xs → IsIn xs (DrawnCut n e) → ⊥
  no_drawn xs n e entries here = all_at _ xs (DrawnCut n e) entries here

  -- others draw no cut
  pub drawn_before : (h g : History s) (n e : ℕ) → GoesOn h g → IsIn g.register (DrawnCut n e) → IsIn h.register (DrawnCut n e)
  drawn_before h g n e on here =
      let more = on.longer.register in
      ⊎_elim (λ old. old) (λ new. absurd (no_drawn more.0 n e on.entries new))
      (in_either h.register more.0 (DrawnCut n e) (subst (λ (items : RegisterList s). IsIn items (DrawnCut n e)) more.1 here))

  -- or cut a lane or the register
  pub cut_before : (h g : History s) (l n e : ℕ) → GoesOn h g → IsIn (g.lane l) (WasCut n e true) → IsIn (h.lane l) (WasCut n e true)
  cut_before h g l n e on here =
      let more = on.longer.lane l in
      ⊎_elim (λ old. old) (λ new. absurd (all_at _ more.0 (WasCut n e true) (on.turns l) new))
      (in_either (h.lane l) more.0 (WasCut n e true) (subst (λ (items : LaneList s). IsIn items (WasCut n e true)) more.1 here))

  pub register_before : (h g : History s) → GoesOn h g → register_cut g.register ≡ register_cut h.register
  register_before h g on = let more = on.longer.register in ap register_cut more.1 ∙ register_cut_stays s 0 h.register more.0 on.entries

  pub whole_before : (h g : History s) (n e : ℕ) → GoesOn h g → IsWholeCut s g n e → IsWholeCut s h n e
  whole_before h g n e on whole =
      record { drawn = drawn_before h g n e on whole.drawn; everywhere = λ l few. cut_before h g l n e on (whole.everywhere l few) }

  -- drawn cuts are counted
  number_below : (d : s.Register) (p n m c : ℕ) (xs : RegisterList s) → IsLegalRegister s d p n xs → IsIn xs (DrawnCut m c) → m < n + drawn xs
  number_below d p n m c [] legal here = absurd here
  number_below d p n m c (Entered e ∷ xs) legal here = ⊎_elim
      (λ (same : ◌≡◌ {A = RegisterItem s.Asked s.Verdict} (Entered e) (DrawnCut m c)). absurd (cc))
      (λ later. number_below (register_step s d (Entered e)) (suc p) n m c xs legal.1 later) here
  number_below d p n m c (DrawnCut other at ∷ xs) legal here = ⊎_elim
      (λ (same : ◌≡◌ {A = RegisterItem s.Asked s.Verdict} (DrawnCut other at) (DrawnCut m c)). let e : other ≡ m = cc in let f : other ≡ n = legal.0.0 in omega arith)
      (λ later. let below = number_below (s.drawn d) p (suc n) m c xs legal.1 later in omega arith) here
  number_below d p n m c (RegisterCut at found ∷ xs) legal here = ⊎_elim
      (λ (same : ◌≡◌ {A = RegisterItem s.Asked s.Verdict} (RegisterCut at found) (DrawnCut m c)). absurd (cc))
      (λ later. number_below (s.recorded found d) p n m c xs legal.1 later) here

  -- a cut's ticket is passed once: with memory, or without
  pub not_both : (start : World s) (h : History s) (l n e c : ℕ) → IsLegal s start h → IsIn (h.lane l) (WasCut n e true)
      → IsIn (h.lane l) (WasCut n c false) → ⊥
  not_both start h l n e c legal found short =
      ⊎_elim differ (λ either. ⊎_elim (λ before. omega (arith, before.0)) (λ before. omega (arith, before.0)) either)
      (either_first s (h.lane l) (WasCut n e true) (WasCut n c false) (lane_ordered s start h l legal) found short)
    where
      differ : ◌≡◌ {A = LaneItem s.Task s.Reply} (WasCut n e true) (WasCut n c false) → ⊥
      differ same = let parts : true ≡ false = cc in cc

  pub places_grow : (h g : History s) → IsPrefix h g → places h.register ≤ places g.register
  places_grow h g longer = let more = ap places longer.register.1 ∙ places_both s h.register longer.register.0 in omega arith

  module _ (start : World s) where
    -- the places at a cut are at least those of before
    pub places_at : (h g : History s) (add : History s → History s) (step : Adds s start h g add) → places h.register ≤ places step.mid.register
    places_at h g add step = places_grow h step.mid step.others.longer

    pub longer_by : (h g : History s) (add : History s → History s) (step : Adds s start h g add) → IsPrefix step.mid (add step.mid) → IsPrefix h g
    longer_by h g add step one = prefix_both h step.mid g step.others.longer (subst (IsPrefix step.mid) (sym step.added) one)

    -- ---- a drawn cut

    module _ (h g : History s) (number c : ℕ) (cut : DrawsCut s start h g number c) where
      pub draws_register : register_cut g.register ≡ register_cut h.register
      draws_register = ap (λ (m : History s). register_cut m.register) cut.step.added ∙ register_cut_push s 0 cut.step.mid.register (DrawnCut number c)
          ∙ register_before h cut.step.mid cut.step.others

      -- a cut that was drawn before has an earlier number, and was done before
      pub drawn_earlier : (n e : ℕ) → IsIn g.register (DrawnCut n e) → (n ≡ number) ⊎ ((n < number) × IsIn h.register (DrawnCut n e))
      drawn_earlier n e here =
          let step = cut.step in
          let is : number ≡ drawn step.mid.register = cut.number_is in
          ⊎_elim
          (λ old. let below = number_below start.register 0 0 n e step.mid.register step.before.register old in inr (omega arith, drawn_before h step.mid n e step.others old))
          (λ (new : ◌≡◌ {A = RegisterItem s.Asked s.Verdict} (DrawnCut number c) (DrawnCut n e)). let same : number ≡ n = cc in inl (sym same))
          (in_last step.mid.register (DrawnCut number c) (DrawnCut n e) (subst (λ (m : History s). IsIn m.register (DrawnCut n e)) step.added here))

      pub drawn_cut_before : (l n e : ℕ) → IsIn (g.lane l) (WasCut n e true) → IsIn (h.lane l) (WasCut n e true)
      drawn_cut_before l n e here =
          cut_before h cut.step.mid l n e cut.step.others (subst (λ (m : History s). IsIn (m.lane l) (WasCut n e true)) cut.step.added here)

      pub draws_it : IsIn g.register (DrawnCut number c)
      draws_it = subst (λ (m : History s). IsIn m.register (DrawnCut number c)) (sym cut.step.added) (in_back cut.step.mid.register _ _ (inl refl))

      -- no earlier cut was drawn at more places
      pub drawn_last : (n e : ℕ) → IsIn g.register (DrawnCut n e) → e ≤ c
      drawn_last n e here =
          let step = cut.step in
          let is : c ≡ places step.mid.register = cut.c_is in
          ⊎_elim
          (λ old. let most = drawn_at_most s start.register n e step.mid.register step.before.register old in omega arith)
          (λ (new : ◌≡◌ {A = RegisterItem s.Asked s.Verdict} (DrawnCut number c) (DrawnCut n e)). let same : c ≡ e = cc in omega arith)
          (in_last step.mid.register (DrawnCut number c) (DrawnCut n e) (subst (λ (m : History s). IsIn m.register (DrawnCut n e)) step.added here))

module _ (k : KeptService) (start : World k.service) where
  said_by : (h g : History k.service) (was later : ℕ → k.marking.Marked) (x y : Held) → h ≡ g → was ≡ later → x ≡ y → SaysCuts k.marking start h x was
      → SaysCuts k.marking start g y later
  said_by h g was later x y same alike equal b =
      subst (λ (p : History k.service × (ℕ → k.marking.Marked) × Held). SaysCuts k.marking start p.0 p.2 p.1) (λ i. (same i, alike i, equal i)) b

  with_added : (old new added : List Record) (x : Held) → new ≡ old ++ added → put_all added (put_all old x) ≡ put_all new x
  with_added old new added x is = sym (ap (λ (rs : List Record). put_all rs x) is ∙ put_both old added x)

  pub advances_none : (h : History k.service) (was : ℕ → k.marking.Marked) (rs : List Record) → IsLegal k.service start h
      → Advances k start h h was was rs rs
  advances_none h was rs legal = record { longer = prefix_itself h; legal = legal; keepings = refl; built = λ x b. b; adds = λ since first a. a }

  pub advances_both : (h m g : History k.service) (was mid later : ℕ → k.marking.Marked) (old between new : List Record)
      → Advances k start h m was mid old between → Advances k start m g mid later between new → Advances k start h g was later old new
  advances_both h m g was mid later old between new first more = record {
    longer = prefix_both h m g first.longer more.longer;
    legal = more.legal;
    keepings = more.keepings ∙ first.keepings;
    built = λ x b. more.built x (first.built x b);
    adds = λ since was_first a. more.adds since was_first (first.adds since was_first a);
  }

  -- ---- a drawn cut

  pub draws_advance : (h g : History k.service) (was later : ℕ → k.marking.Marked) (number c : ℕ) (rs : List Record) → IsLegal k.service start h
      → later ≡ was → DrawsCut k.service start h g number c → Advances k start h g was later rs rs
  draws_advance h g was later number c rs legal same cut = let step = cut.step in record {
    longer = longer_by k.service start h g _ step (register_prefix k.service step.mid (DrawnCut number c));
    legal = step.after;
    keepings = ap (λ (m : History k.service). m.keepings) step.added ∙ step.keepings;
    built = λ x b.
        let there = cuts_stay_said k.marking start h step.mid (put_all rs x) was legal step.others b in
        said_by _ g was later _ _ (sym step.added) (sym same) refl
        (said_at_register k.marking start step.mid step.before was (DrawnCut number c) (put_all rs x) refl there);
    adds = λ since first a. subst (λ (w : ℕ → k.marking.Marked). AddCuts k start since first g w rs) (sym same) (then_drawn h g was number c rs a cut);
  }

  -- ---- a lane's cut

  pub takes_advance : (h g : History k.service) (was later : ℕ → k.marking.Marked) (l number c : ℕ) (found : Bool) (old new : List Record)
      → IsLegal k.service start h → TakesCut k start h g was later l number c found old new
      → Advances k start h g was later old new
  takes_advance h g was later l number c true old new legal taken =
      let step = taken.step in
      let cut = taken.cut in
      record {
        longer = longer_by k.service start h g _ step (lane_prefix k.service step.mid l (WasCut number c true));
        legal = step.after;
        keepings = ap (λ (m : History k.service). m.keepings) step.added ∙ step.keepings;
        built = λ x b.
            let there = cuts_stay_said k.marking start h step.mid (put_all old x) was legal step.others b in
            said_by _ g (changed_at l cut.now was) later _ _ (sym step.added) (sym cut.later_is) (with_added old new cut.added x cut.appended)
            (said_with_lane k.marking start step.mid step.before was l number c cut.now (put_all old x) (put_all cut.added (put_all old x))
            cut.still cut.objects_are (λ below. cut.writes.own _ (there.says l below)) (cut.writes.others _) (cut.writes.catalogue _) there);
        adds = λ since first a. then_lane h g was later l number c true old new a taken;
      }
  takes_advance h g was later l number c false old new legal taken =
      let step = taken.step in
      let cut = taken.cut in
      record {
        longer = longer_by k.service start h g _ step (lane_prefix k.service step.mid l (WasCut number c false));
        legal = step.after;
        keepings = ap (λ (m : History k.service). m.keepings) step.added ∙ step.keepings;
        built = λ x b.
            let there = cuts_stay_said k.marking start h step.mid (put_all old x) was legal step.others b in
            said_by _ g was later _ _ (sym step.added) (sym cut.later_is) (sym (ap (λ (rs : List Record). put_all rs x) cut.appended))
            (said_with_short k.marking start step.mid step.before was l number c (put_all old x) there);
        adds = λ since first a. then_lane h g was later l number c false old new a taken;
      }

  -- ---- each lane's cut

  pub cut_none : (h : History k.service) (was : ℕ → k.marking.Marked) (number c : ℕ) (rs : List Record) → IsLegal k.service start h
      → CutsEach k start h h was was number c 0 true rs rs
  cut_none h was number c rs legal = record {
    advances = advances_none h was rs legal;
    drawn = λ n e here. here;
    cut = λ whole l few. absurd (omega arith);
    short = λ (is : true ≡ false). absurd (cc);
    before = λ l n e here. inl here;
    register = refl;
    uncut = refl;
    once = λ whole l few. absurd (omega arith);
    others = λ l many. refl;
  }

  module _ (h m g : History k.service) (was mid later : ℕ → k.marking.Marked) (number c lane : ℕ) (old between new : List Record) where
    pub cut_next : (whole found : Bool) → CutsEach k start h m was mid number c lane whole old between
        → TakesCut k start m g mid later lane number c found between new
        → CutsEach k start h g was later number c (lane + 1) (whole && found) old new
    cut_next whole found each one = record {
      advances = advances_both h m g was mid later old between new each.advances more;
      drawn = λ n e here. each.drawn n e (drawn_before k.service m one.step.mid n e one.step.others
          (subst (λ (x : History k.service). IsIn x.register (DrawnCut n e)) one.step.added here));
      cut = λ is l few. by whole found each one is l few;
      short = λ is. short_by whole found each one is;
      before = λ l n e here. ⊎_elim (λ earlier. each.before l n e (cut_before k.service m one.step.mid l n e one.step.others earlier)) (λ same. inr same)
          (added l n e (subst (λ (x : History k.service). IsIn (x.lane l) (WasCut n e true)) one.step.added here));
      register = ap (λ (x : History k.service). register_cut x.register) one.step.added ∙ register_before k.service m one.step.mid one.step.others ∙ each.register;
      uncut = register_stays k.service start m g lane (WasCut number c found) one.step ∙ each.uncut;
      once = λ is l few. once_by whole found each one is l few;
      others = λ l many. other_same k.service start m g lane (WasCut number c found) one.step l (λ same. absurd (omega (arith, many, same)))
          ∙ each.others l (omega (arith, many));
    }
      where
        longer : (found : Bool) → TakesCut k start m g mid later lane number c found between new → IsPrefix m g
        longer found one = longer_by k.service start m g _ one.step (lane_prefix k.service one.step.mid lane (WasCut number c found))

        more : Advances k start m g mid later between new
        more = takes_advance m g mid later lane number c found between new each.advances.legal one

        -- of what is cut now the number is this
        added : (l n e : ℕ) → IsIn ((with_lane_item one.step.mid lane (WasCut number c found)).lane l) (WasCut n e true)
            → IsIn (one.step.mid.lane l) (WasCut n e true) ⊎ (n ≡ number)
        added l n e = at_each lane (one.step.mid.lane lane ++ WasCut number c found ∷ []) one.step.mid.lane
            (λ p v. IsIn v (WasCut n e true) → IsIn (one.step.mid.lane p) (WasCut n e true) ⊎ (n ≡ number))
            (λ here. ⊎_elim (λ earlier. inl earlier)
            (λ (now : ◌≡◌ {A = LaneItem k.service.Task k.service.Reply} (WasCut number c found) (WasCut n e true)). let same : number ≡ n = cc in inr (sym same))
            (in_last (one.step.mid.lane lane) (WasCut number c found) (WasCut n e true) here))
            (λ p other here. inl here) l

        here_now : (found : Bool) (one : TakesCut k start m g mid later lane number c found between new) → IsIn (g.lane lane) (WasCut number c found)
        here_now found one = subst (λ (x : History k.service). IsIn (x.lane lane) (WasCut number c found)) (sym one.step.added)
            (lane_has k.service one.step.mid lane (WasCut number c found))

        once_by : (whole found : Bool) → CutsEach k start h m was mid number c lane whole old between
            → TakesCut k start m g mid later lane number c found between new → (whole && found) ≡ true
            → (l : ℕ) → l < lane + 1 → cuts_of_lane (g.lane l) ≡ cuts_of_lane (h.lane l) ++ (let i : LaneItem k.service.Task k.service.Reply = WasCut number c true in i) ∷ []
        once_by false found each one is l few = absurd (cc)
        once_by true false each one is l few = absurd (cc)
        once_by true true each one is l few =
            let i : LaneItem k.service.Task k.service.Reply = WasCut number c true in
            ⊎_elim
            (λ same. subst (λ (n : ℕ). cuts_of_lane (g.lane n) ≡ cuts_of_lane (h.lane n) ++ i ∷ []) (sym same.1)
            (lane_more k.service start m g lane i one.step
            ∙ ap (λ (zs : LaneList k.service). zs ++ i ∷ []) (each.others lane (omega arith))))
            (λ other. let apart : l ≢ lane = other.1 in other_same k.service start m g lane i one.step l apart ∙ each.once refl l (omega arith))
            (eqb_tells l lane)

        short_by : (whole found : Bool) → CutsEach k start h m was mid number c lane whole old between
            → TakesCut k start m g mid later lane number c found between new → (whole && found) ≡ false
            → (l : ℕ) × (l < lane + 1) × IsIn (g.lane l) (WasCut number c false)
        short_by false found each one is = let there = each.short refl in let few = there.1 in
            (there.0, omega arith, in_longer (g.lane there.0) (m.lane there.0) _ ((longer found one).lane there.0) there.2)
        short_by true false each one is = (lane, omega arith, here_now false one)
        short_by true true each one is = absurd (cc)

        by : (whole found : Bool) → CutsEach k start h m was mid number c lane whole old between
            → TakesCut k start m g mid later lane number c found between new → (whole && found) ≡ true
            → (l : ℕ) → l < lane + 1 → IsIn (g.lane l) (WasCut number c true)
        by false found each one is l few = absurd (cc)
        by true false each one is l few = absurd (cc)
        by true true each one is l few = ⊎_elim
            (λ same. subst (λ (n : ℕ). IsIn (g.lane n) (WasCut number c true)) (sym same.1) (here_now true one))
            (λ other. let apart : l ≢ lane = other.1 in in_longer (g.lane l) (m.lane l) _ ((longer true one).lane l) (each.cut refl l (omega arith)))
            (eqb_tells l lane)

  -- ---- the register's cut

  pub registers_advance : (h g : History k.service) (was later : ℕ → k.marking.Marked) (p : ℕ) (found : Bool) (old new : List Record)
      → IsLegal k.service start h → later ≡ was → TakesRegisterCut k start h g p found old new → Advances k start h g was later old new
  registers_advance h g was later p true old new legal same taken =
      let step = taken.step in
      let added = taken.cut.0 in
      let writes = taken.cut.2 in
      record {
        longer = longer_by k.service start h g _ step (register_prefix k.service step.mid (RegisterCut p true));
        legal = step.after;
        keepings = ap (λ (m : History k.service). m.keepings) step.added ∙ step.keepings;
        built = λ x b.
            let there = cuts_stay_said k.marking start h step.mid (put_all old x) was legal step.others b in
            said_by _ g was later _ _ (ap (λ (q : ℕ). with_register_item step.mid (RegisterCut q true)) (sym taken.p_is) ∙ sym step.added) (sym same)
            (with_added old new added x taken.cut.1)
            (said_with_register k.marking start step.mid step.before was (put_all old x) (put_all added (put_all old x)) (writes.lanes _)
            (writes.own _ there.catalogue) there);
        adds = λ since first a. subst (λ (w : ℕ → k.marking.Marked). AddCuts k start since first g w new) (sym same) (then_register h g was p true old new a taken);
      }
  registers_advance h g was later p false old new legal same taken =
      let step = taken.step in
      record {
        longer = longer_by k.service start h g _ step (register_prefix k.service step.mid (RegisterCut p false));
        legal = step.after;
        keepings = ap (λ (m : History k.service). m.keepings) step.added ∙ step.keepings;
        built = λ x b.
            let there = cuts_stay_said k.marking start h step.mid (put_all old x) was legal step.others b in
            said_by _ g was later _ _ (sym step.added) (sym same) (sym (ap (λ (rs : List Record). put_all rs x) taken.cut))
            (said_at_register k.marking start step.mid step.before was (RegisterCut p false) (put_all old x) refl there);
        adds = λ since first a. subst (λ (w : ℕ → k.marking.Marked). AddCuts k start since first g w new) (sym same) (then_register h g was p false old new a taken);
      }

  module _ (h g : History k.service) (p : ℕ) (old new : List Record) where
    pub registers_whole : (n e : ℕ) (found : Bool) → TakesRegisterCut k start h g p found old new → IsWholeCut k.service g n e → IsWholeCut k.service h n e
    registers_whole n e found taken whole = whole_before k.service h taken.step.mid n e taken.step.others (record {
      drawn = ⊎_elim (λ before. before) (λ (now : ◌≡◌ {A = RegisterItem k.service.Asked k.service.Verdict} (RegisterCut p found) (DrawnCut n e)). absurd (cc))
          (in_last taken.step.mid.register (RegisterCut p found) (DrawnCut n e)
          (subst (λ (m : History k.service). IsIn m.register (DrawnCut n e)) taken.step.added whole.drawn));
      everywhere = λ l few. subst (λ (m : History k.service). IsIn (m.lane l) (WasCut n e true)) taken.step.added (whole.everywhere l few);
    })

    pub register_now : TakesRegisterCut k start h g p true old new → register_cut g.register ≡ p
    register_now taken = ap (λ (m : History k.service). register_cut m.register) taken.step.added
        ∙ register_cut_push k.service 0 taken.step.mid.register (RegisterCut p true)

    pub register_same : TakesRegisterCut k start h g p false old new → register_cut g.register ≡ register_cut h.register
    register_same taken = ap (λ (m : History k.service). register_cut m.register) taken.step.added
        ∙ register_cut_push k.service 0 taken.step.mid.register (RegisterCut p false) ∙ register_before k.service h taken.step.mid taken.step.others

    -- then it is the last of all cuts
    pub register_last : TakesRegisterCut k start h g p true old new → last_cut None g.register ≡ Some p
    register_last taken = ap (λ (m : History k.service). last_cut None m.register) taken.step.added
        ∙ last_cut_push k.service None taken.step.mid.register (RegisterCut p true)

    pub register_in : TakesRegisterCut k start h g p true old new → IsIn g.register (RegisterCut p true)
    register_in taken = subst (λ (m : History k.service). IsIn m.register (RegisterCut p true)) (sym taken.step.added)
        (in_back taken.step.mid.register _ _ (inl refl))
