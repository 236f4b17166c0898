-- What a pass that holds the desk's turn does at the register and in the lanes, as its desk asks for it.
use Rattle.std.proofs.Common.{◌≡◌, ℕ, zero, suc, ◌+◌, ◌<◌, Bool, true, false, true≢false, List, [], ◌∷◌, ◌++◌, Option, Some, None, length}
use Rattle.std.proofs.Common.{filter, set, length-set, get_or-set_same, get_or-set_other, eqb, eq-eqb, ne_eqb, refl, sym, ap, subst, ◌∙◌, arith}
use Rattle.std.proofs.lemmas.List.{append-nil, append_assoc}
use Rattle.std.specs.Prelude.{if◌then◌else◌}
use Rattle.std.specs.List.{AllByRecursion}
use mathlib.Core.Option.{some, some-ne-none, some-injective}
use mathlib.Core.Logic.{dite}
use native.Mathlib.Decide.{ℕ_discrete, dec_le}
use lib.ListN.{get_elem?}
use Rattle.atomic_table.specs.declared.badge.Badge.{Badge}
use Rattle.chunk_owner.specs.Lanes.{Lane}
use Rattle.flush_journal.specs.Records.{Record}
use Rattle.object_acts.specs.Objects.{Objects}
use Rattle.object_ops.specs.declared.replies.Reply.{Reply}
use Rattle.register.specs.Decided.{RegisterState}
use Rattle.register.specs.declared.tickets.Turn.{Turn}
use Rattle.register.specs.declared.verdicts.Verdict.{Verdict}
use Rattle.journal_desk.specs.Cuts.{Adds, AddsRecords, CutsInLane, DrawsCut, TakesCut, TakesRegisterCut, WritesCatalogue}
use Rattle.journal_desk.specs.Notes.{AreAlike}
use Rattle.lane_histories.specs.Cuts.{behind_cut, register_cut}
use Rattle.lane_histories.specs.Histories.{History, IsIn, LaneList, StartsWith, changed_at, cut_of, drawn, entries, objects_after, own, places, register_after, register_at}
use Rattle.lane_histories.specs.Legal.{IsLegal, with_lane_item, with_register_item}
use Rattle.lane_histories.specs.Services.{Service, World}
use Rattle.lane_histories.specs.declared.items.LaneItem.{LaneItem}
use Rattle.lane_histories.specs.declared.items.LaneItem.TheVariants.{WasCut}
use Rattle.lane_histories.specs.declared.items.RegisterItem.{RegisterItem}
use Rattle.lane_histories.specs.declared.items.RegisterItem.TheVariants.{DrawnCut, Entered, RegisterCut}
use Rattle.hall_rule.specs.AskLaws.{LaneLaws, LanesAreServed}
use Rattle.hall_rule.specs.Claims.{busy, claim, count_of, holds, numbers}
use Rattle.hall_rule.specs.LaneTickets.{IsServingLanes}
use Rattle.hall_rule.specs.Machines.{Machines, world_of}
use Rattle.hall_rule.specs.Rule.{names, note_of, seeing}
use Rattle.hall_rule.specs.Seen.{GrowsFrom, IsNoRegisterCut, SeenLists, at_lane, at_register, cut_with, history_of, is_cut_of_register, lane_of, pushed}
use Rattle.hall_rule.specs.Steps.{others_of}
use Rattle.hall_rule.specs.Sums.{times, total}
use Rattle.hall_rule.specs.TurnLaws.{ListsAreHistories}
use Rattle.hall_rule.specs.WholeTurns.{HasCutRegister, HasDrawnCut, HasTurned, IsPass, MayCutLane, MayDraw}
use Rattle.hall_rule.specs.declared.queue.Claim.{Claim}
use Rattle.hall_rule.specs.declared.queue.Queue.TheVariants.{OfDesk, OfRegister}
use Rattle.hall_rule.specs.declared.view.Lists.{Lists}
use Rattle.service_histories.specs.ArrayServices.{Asked, KeptPart, array_service, kept_part}
use Rattle.service_histories.specs.Cuttings.{IsOwnerMarked, IsRegisterSince}
use Rattle.service_histories.specs.KeptArrays.{OwnerCutsWrite, RegisterCutsWrite, array_kept}
use Rattle.service_histories.specs.Tellings.{objects_in, opening}
use Rattle.service_histories.specs.declared.tasks.Task.{Task}
use Rattle.hall.specs.Answers.{ArrayStart, ArrayView}
use Rattle.hall.specs.ArrayMachines.{lanes_in, machines}
use Rattle.hall.specs.Cutting.{AddsOwner, AddsRegister, AreCutTickets, HasCutCatalogue, HasCutOwner, HasDrawnTickets}
use Rattle.hall.specs.DeskTurns.{AreLeft, IsInTurn, drawn_from, last_drawn, note_seen}
use Rattle.hall.specs.Notes.{hall_notes, lists_in, no_owner, owner_at, world_by, world_known}
use Rattle.hall.proofs.PlainLemmas.{plain_objects}

-- ---- lists

starts_on : {X : Type 0} (a b c : List X) → StartsWith a b → StartsWith b c → StartsWith a c
starts_on a b c x y = (y.0 ++ x.0, x.1 ∙ ap (λ l. l ++ x.0) y.1 ∙ append_assoc c y.0 x.0)

module _ {Q V T R N : Type 0} where
  pub grows_on : (a b c : Lists Q V T R N) → GrowsFrom a b → GrowsFrom b c → GrowsFrom a c
  grows_on a b c x y = record {
    sized = x.sized ∙ y.sized;
    register = starts_on a.register b.register c.register x.register y.register;
    lanes = λ lane. starts_on (lane_of a.lanes lane) (lane_of b.lanes lane) (lane_of c.lanes lane) (x.lanes lane) (y.lanes lane);
    keepings = starts_on a.keepings b.keepings c.keepings x.keepings y.keepings;
  }

  pub grows_here : (h : Lists Q V T R N) → GrowsFrom h h
  grows_here h = record {
    sized = refl;
    register = ([], sym (append-nil h.register));
    lanes = λ lane. ([], sym (append-nil (lane_of h.lanes lane)));
    keepings = ([], sym (append-nil h.keepings));
  }

  grows_item : (h : Lists Q V T R N) (i : RegisterItem Q V) → GrowsFrom (pushed h (at_register i)) h
  grows_item h i = record {
    sized = refl;
    register = (i ∷ [], refl);
    lanes = λ lane. ([], sym (append-nil (lane_of h.lanes lane)));
    keepings = ([], sym (append-nil h.keepings));
  }

module _ {Q V : Type 0} where
  drawn_push : (last : ℕ × ℕ) (items : List (RegisterItem Q V)) (number c : ℕ) → drawn_from last (items ++ DrawnCut number c ∷ []) ≡ (number, c)
  drawn_push last [] number c = refl
  drawn_push last (Entered e ∷ items) number c = drawn_push last items number c
  drawn_push last (DrawnCut n k ∷ items) number c = drawn_push (n, k) items number c
  drawn_push last (RegisterCut p found ∷ items) number c = drawn_push last items number c

  drawn_behind : (last : ℕ × ℕ) (items : List (RegisterItem Q V)) (p : ℕ) (found : Bool)
      → drawn_from last (items ++ RegisterCut p found ∷ []) ≡ drawn_from last items
  drawn_behind last [] p found = refl
  drawn_behind last (Entered e ∷ items) p found = drawn_behind last items p found
  drawn_behind last (DrawnCut n k ∷ items) p found = drawn_behind (n, k) items p found
  drawn_behind last (RegisterCut q other ∷ items) p found = drawn_behind last items p found

  drawn_none : (last : ℕ × ℕ) (more : List (RegisterItem Q V)) → AllByRecursion IsNoRegisterCut more → drawn_from last more ≡ last
  drawn_none last [] all = refl
  drawn_none last (Entered e ∷ more) all = drawn_none last more all.1
  drawn_none last (DrawnCut n k ∷ more) all = absurd (true≢false all.0)
  drawn_none last (RegisterCut p found ∷ more) all = absurd (true≢false all.0)

  drawn_on : (last : ℕ × ℕ) (items more : List (RegisterItem Q V)) → AllByRecursion IsNoRegisterCut more
      → drawn_from last (items ++ more) ≡ drawn_from last items
  drawn_on last [] more all = drawn_none last more all
  drawn_on last (Entered e ∷ items) more all = drawn_on last items more all
  drawn_on last (DrawnCut n k ∷ items) more all = drawn_on (n, k) items more all
  drawn_on last (RegisterCut p found ∷ items) more all = drawn_on last items more all

  no_entry : (i : RegisterItem Q V) → is_cut_of_register i ≡ true → entries (i ∷ []) ≡ []
  no_entry (Entered e) cut = absurd (true≢false (sym cut))
  no_entry (DrawnCut n k) cut = refl
  no_entry (RegisterCut p found) cut = refl

  entries_push : (items : List (RegisterItem Q V)) (i : RegisterItem Q V) → is_cut_of_register i ≡ true → entries (items ++ i ∷ []) ≡ entries items
  entries_push [] i cut = no_entry i cut
  entries_push (Entered e ∷ items) i cut = ap (λ es. e ∷ es) (entries_push items i cut)
  entries_push (DrawnCut n k ∷ items) i cut = entries_push items i cut
  entries_push (RegisterCut p found ∷ items) i cut = entries_push items i cut

-- ---- owners

elem_there : (os : List Lane) (l : ℕ) (o : Lane) → get_elem? os l ≡ some o → (owner_at os l ≡ o) × (l < length os)
elem_there [] l o at = absurd (some-ne-none o (sym at))
elem_there (x ∷ os) zero o at = (some-injective x o at, omega arith)
elem_there (x ∷ os) (suc l) o at = let later = elem_there os l o at in let few = later.1 in (later.0, omega arith)

owner_set : (os : List Lane) (l : ℕ) (new : Lane) → l < length os → owner_at (set os l new) ≡ changed_at l new (owner_at os)
owner_set os l new few = λ i m. at m i
  where
    at : (m : ℕ) → owner_at (set os l new) m ≡ changed_at l new (owner_at os) m
    at m = dite (ℕ_discrete l m)
        (λ e. subst (λ (k : ℕ). owner_at (set os l new) k ≡ changed_at l new (owner_at os) k) e
        (get_or-set_same os l new no_owner few
        ∙ sym (ap (λ (b : Bool). if b then new else owner_at os l) (eq-eqb l l refl))))
        (λ ne. get_or-set_other os l m new no_owner (λ e. ne (sym e))
        ∙ sym (ap (λ (b : Bool). if b then new else owner_at os m) (ne_eqb l m ne)))

-- ---- views

module _ {K : Type 0} where
  pub pass_on : (start : ArrayStart K) (v w : ArrayView K) (cs : List Claim) (h : SeenLists (array_service (lanes_in start)) Lane) → w ≡ seeing v cs h
      → IsPass start v → IsPass start w
  pass_on start v w cs h is pass = record {
    live = ap (λ (x : ArrayView K). x.live) is ∙ pass.live;
    no_guests = ap (λ (x : ArrayView K). x.guests) is;
    begun = ap (λ (x : ArrayView K). x.start) is ∙ pass.begun;
  }

  view_on : (n : ℕ) (first v w : ArrayView K) (cs : List Claim) (h : SeenLists (array_service n) Lane) → w ≡ seeing v cs h
      → v ≡ seeing first v.claims v.seen → w ≡ seeing first w.claims w.seen
  view_on n first v w cs h is same =
      subst (λ (x : ArrayView K). x ≡ seeing first x.claims x.seen) (sym (is ∙ (λ i. seeing (same i) cs h))) refl

  -- a note that was cut off a pass
  pub noted : (n : ℕ) (b : Badge (ArrayView K)) (v : ArrayView K) → b.views ≡ note_of v ∷ []
      → AreAlike (hall_notes n) (record { badge = b; world = None }) (note_seen v)
  noted n b v is = record {
    start = ap (λ (vs : List (ArrayView K)). opening n (world_by vs None)) is;
    history = ap (λ (vs : List (ArrayView K)). history_of (array_service n) (lists_in vs (world_by vs None).lanes)) is;
    was = ap (λ (vs : List (ArrayView K)). owner_at (lists_in vs (world_by vs None).lanes).was) is;
  }

-- ---- what joined the lists

module _ {K : Type 0} (start : ArrayStart K) where
  abbrev s : Service
  s = array_service (lanes_in start)

  abbrev m : Machines s RegisterState Lane (ArrayStart K) K
  m = machines {K = K} (lanes_in start)

  abbrev begun_by : Option (ArrayStart K) → World s
  begun_by o = opening (lanes_in start) (world_known o)

  begins_as : world_of m start ≡ begun_by (Some start)
  unfolding machines
  begins_as = λ i. record { register = start.register; objects = λ l. plain_objects K (lanes_in start) start.owners l i }

  pub legal_as : (h : History s) → IsLegal s (world_of m start) h → IsLegal s (begun_by (Some start)) h
  legal_as h = subst (λ (w : World s). IsLegal s w h) begins_as

  module _ (laws : ListsAreHistories s Lane) where
    register_adds : (item : RegisterItem Asked Verdict) (v w : ArrayView K) (t : HasTurned m start (at_register item) v.claims v w)
        → 0 < total (holds OfDesk) v.claims
        → Adds s (begun_by (Some start)) (history_of s v.seen) (history_of s w.seen) (λ h. with_register_item h item)
    register_adds item v w t held = record {
      mid = history_of s t.added.mid;
      others = laws.uncut t.added.mid v.seen (t.uncut held);
      keepings = sym (ap (λ (h : SeenLists s Lane). h.keepings) t.added.seen_is) ∙ sym (t.kept OfDesk held);
      before = legal_as (history_of s t.added.mid) t.added.legal;
      after = legal_as (history_of s w.seen) (subst (λ (h : SeenLists s Lane). IsLegal s (world_of m start) (history_of s h))
          (sym (ap (λ (x : ArrayView K). x.seen) t.is)) t.legal);
      added = ap (λ (h : SeenLists s Lane). history_of s h) (ap (λ (x : ArrayView K). x.seen) t.is ∙ t.added.seen_is)
          ∙ laws.register t.added.mid item;
    }

    lane_adds : (lane : ℕ) (item : LaneItem Task Reply) (owner : Lane) (others : List Claim) (v w : ArrayView K)
        (t : HasTurned m start (at_lane lane item owner) others v w) → 0 < total (holds OfDesk) others
        → length v.seen.lanes ≡ lanes_in start → lane < lanes_in start
        → Adds s (begun_by (Some start)) (history_of s v.seen) (history_of s w.seen) (λ h. with_lane_item h lane item)
    lane_adds lane item owner others v w t held sized few = record {
      mid = history_of s t.added.mid;
      others = laws.uncut t.added.mid v.seen (t.uncut held);
      keepings = sym (ap (λ (h : SeenLists s Lane). h.keepings) t.added.seen_is) ∙ sym (t.kept OfDesk held);
      before = legal_as (history_of s t.added.mid) t.added.legal;
      after = legal_as (history_of s w.seen) (subst (λ (h : SeenLists s Lane). IsLegal s (world_of m start) (history_of s h))
          (sym (ap (λ (x : ArrayView K). x.seen) t.is)) t.legal);
      added = ap (λ (h : SeenLists s Lane). history_of s h) (ap (λ (x : ArrayView K). x.seen) t.is ∙ t.added.seen_is)
          ∙ laws.lane t.added.mid lane item owner (let more = t.added.begins.sized in omega (arith, more, sized));
    }

    -- a cut was drawn
    pub draws_cut : (place : ℕ) (v w : ArrayView K) → v.start ≡ Some start → (d : HasDrawnCut m start place v w) → 0 < total (holds OfDesk) v.claims
        → DrawsCut s (begun_by v.start) (history_of s v.seen) (history_of s w.seen) (last_drawn w.seen.register).0 (last_drawn w.seen.register).1
    unfolding register_adds
    draws_cut place v w begun d held =
        let t = d.turned in
        let same : d.before.register ≡ t.added.mid.register = ap (λ (h : SeenLists s Lane). h.register) (sym d.before_is) ∙ t.alone in
        let last : last_drawn w.seen.register ≡ (drawn d.before.register, places d.before.register) =
        ap (λ (x : ArrayView K). last_drawn x.seen.register) t.is ∙ ap (λ (h : SeenLists s Lane). last_drawn h.register) t.added.seen_is
        ∙ drawn_push (0, 0) t.added.mid.register (drawn d.before.register) (places d.before.register) in
        subst (λ (o : Option (ArrayStart K)). DrawsCut s (begun_by o) (history_of s v.seen) (history_of s w.seen)
        (last_drawn w.seen.register).0 (last_drawn w.seen.register).1) (sym begun)
        (subst (λ (x : ℕ × ℕ). DrawsCut s (begun_by (Some start)) (history_of s v.seen) (history_of s w.seen) x.0 x.1) (sym last) (record {
          step = register_adds (DrawnCut (drawn d.before.register) (places d.before.register)) v w t held;
          number_is = ap (λ (items : List (RegisterItem Asked Verdict)). drawn items) same;
          c_is = ap (λ (items : List (RegisterItem Asked Verdict)). places items) same;
        }))

    pub drawn_place : (place : ℕ) (v w : ArrayView K) → (d : HasDrawnCut m start place v w) → place ≡ (last_drawn w.seen.register).1
    drawn_place place v w d =
        let t = d.turned in
        d.place_is ∙ sym (ap (λ (x : ℕ × ℕ). x.1)
        (ap (λ (x : ArrayView K). last_drawn x.seen.register) t.is ∙ ap (λ (h : SeenLists s Lane). last_drawn h.register) t.added.seen_is
        ∙ drawn_push (0, 0) t.added.mid.register (drawn d.before.register) (places d.before.register)))

    -- the register was cut
    adds_records : (found : Bool) (c : KeptPart) (old new : RegisterState) (first last : List Record) → RegisterCutsWrite (lanes_in start)
        → IsRegisterSince c old → AddsRegister found old new first last
        → AddsRecords found (WritesCatalogue (array_kept (lanes_in start)) c old) first last
    adds_records true c old new first last write since adds = write c old new first last since adds
    adds_records false c old new first last write since adds = adds.1

    pub takes_register_cut : (place : ℕ) (found : Bool) (first last : List Record) (v w : ArrayView K) → v.start ≡ Some start
        → (c : HasCutCatalogue start place found first last v w) → 0 < total (holds OfDesk) v.claims → RegisterCutsWrite (lanes_in start)
        → TakesRegisterCut (array_kept (lanes_in start)) (begun_by v.start) (history_of s v.seen) (history_of s w.seen) place found first last
    unfolding register_adds
    takes_register_cut place found first last v w begun c held write =
        let d = c.turn in
        let t = d.turned in
        let same : d.before.register ≡ t.added.mid.register = ap (λ (h : SeenLists s Lane). h.register) (sym d.before_is) ∙ t.alone in
        let records = adds_records found _ c.old c.new first last write c.since c.adds in
        subst (λ (o : Option (ArrayStart K)). TakesRegisterCut (array_kept (lanes_in start)) (begun_by o) (history_of s v.seen) (history_of s w.seen)
        place found first last) (sym begun)
        (subst (λ (p : ℕ). TakesRegisterCut (array_kept (lanes_in start)) (begun_by (Some start)) (history_of s v.seen) (history_of s w.seen)
        p found first last) (sym d.place_is) (record {
          step = register_adds (RegisterCut (places d.before.register) found) v w t held;
          p_is = ap (λ (items : List (RegisterItem Asked Verdict)). places items) same;
          cut = subst (λ (items : List (RegisterItem Asked Verdict)). AddsRecords found (WritesCatalogue (array_kept (lanes_in start))
              (kept_part (register_at s (register_cut items) start.register items)) (register_after s start.register items))
              first last) same
              (subst (λ (x : RegisterState). AddsRecords found (WritesCatalogue (array_kept (lanes_in start))
              (kept_part (register_at s (register_cut d.before.register) start.register d.before.register)) x) first last) c.now records);
        }))

    -- a lane was cut
    module _ (lane cut place : ℕ) (v w : ArrayView K) where
      cuts_in_lane : (found : Bool) (items : LaneList s) (old new was : Lane) (mid : SeenLists s Lane) (first last : List Record) → OwnerCutsWrite (lanes_in start)
          → (owner_at v.seen.was lane ≡ was) × (lane < length v.seen.was) → IsOwnerMarked (lanes_in start) lane items was old
          → mid.was ≡ v.seen.was → w.seen.was ≡ cut_with mid.was lane (let i : LaneItem Task Reply = WasCut cut place found in i) new
          → AddsOwner found old new first last
          → CutsInLane (array_kept (lanes_in start)) found lane items old.objects (owner_at v.seen.was) (owner_at w.seen.was) first last
      cuts_in_lane true items old new was mid first last write there since stays now adds =
          subst (λ (later : ℕ → Lane). CutsInLane (array_kept (lanes_in start)) true lane items old.objects (owner_at v.seen.was) later first last)
          (sym (ap owner_at (now ∙ ap (λ (os : List Lane). set os lane new) stays) ∙ owner_set v.seen.was lane new there.1))
          (write lane items (owner_at v.seen.was) old new first last
          (subst (λ (o : Lane). IsOwnerMarked (lanes_in start) lane items o old) (sym there.0) since) adds)
      cuts_in_lane false items old new was mid first last write there since stays now adds =
          record { later_is = ap owner_at (now ∙ stays); appended = adds.1 }

    pub takes_cut : (lane cut place : ℕ) (found : Bool) (first last : List Record) (v w : ArrayView K) → v.start ≡ Some start
        → (c : HasCutOwner start lane cut place found first last v w) → 0 < total (holds OfDesk) (others_of v.claims)
        → length v.seen.lanes ≡ lanes_in start → lane < lanes_in start → OwnerCutsWrite (lanes_in start)
        → TakesCut (array_kept (lanes_in start)) (begun_by v.start) (history_of s v.seen) (history_of s w.seen) (owner_at v.seen.was) (owner_at w.seen.was)
        lane cut place found first last
    unfolding lane_adds
    takes_cut lane cut place found first last v w begun c held sized few write =
        let t = c.turn.turned in
        let mid = t.added.mid in
        let stays : mid.was ≡ v.seen.was = (t.uncut held).was in
        let now = ap (λ (x : ArrayView K). x.seen.was) t.is ∙ ap (λ (h : SeenLists s Lane). h.was) t.added.seen_is in
        let at = ap (λ (os : List Lane). get_elem? os lane) (sym stays) ∙ sym t.alone.1 ∙ c.was_is in
        let objects = c.now ∙ ap (λ items. objects_after s (objects_in start.owners lane) items) t.alone.0 in
        subst (λ (o : Option (ArrayStart K)). TakesCut (array_kept (lanes_in start)) (begun_by o) (history_of s v.seen) (history_of s w.seen)
        (owner_at v.seen.was) (owner_at w.seen.was) lane cut place found first last) (sym begun) (record {
          step = lane_adds lane (WasCut cut place found) c.new (others_of v.claims) v w t held sized few;
          cut = subst (λ (x : LaneList s × Objects). CutsInLane (array_kept (lanes_in start)) found lane x.0 x.1 (owner_at v.seen.was) (owner_at w.seen.was)
              first last) (λ i. (behind_cut (t.alone.0 i), objects i))
              (cuts_in_lane lane cut place v w found (behind_cut (lane_of t.before.lanes lane)) c.old c.new c.was mid first last write
              (elem_there v.seen.was lane c.was at) c.since stays now c.adds);
        })

  -- ---- how the pass stands

  module _ {first v : ArrayView K} {lanes lane : ℕ} {turns : Option (List Turn)} (t : IsInTurn start first v lanes lane turns) where
    -- no ticket is left where each lane had its turn
    pub rests : lane ≡ lanes_in start → (turns ≡ None) × (v.claims ≡ claim OfDesk t.number true ∷ [])
    rests all = let r = none turns t.left all in (r.0, r.1 ∙ t.mine)
      where
        none : (ts : Option (List Turn)) → AreLeft start lane first.claims ts v → lane ≡ lanes_in start → (ts ≡ None) × (v.claims ≡ first.claims)
        none None left whole = (refl, left.1)
        none (Some ts) left whole = let few : lane < lanes_in start = left.4 in absurd (omega (arith, few, whole))

    pub may_draw_now : lane ≡ lanes_in start → MayDraw start v
    unfolding rests
    may_draw_now all = let claims = (rests all).1 in record {
      pass = t.pass;
      no_register = ap (λ cs. total (numbers OfRegister) cs) claims;
      no_turn = ap (λ cs. total busy cs) claims;
    }

    pub holds_now : lane ≡ lanes_in start → 0 < total (holds OfDesk) v.claims
    holds_now all = subst (λ cs. 0 < total (holds OfDesk) cs) (sym (rests all).1) (omega arith)

    same_names : names v ≡ names first
    same_names = ap (λ (x : ArrayView K). names x) t.view_is

    -- a turn of the register in which it is cut, or a cut is drawn
    module _ {w : ArrayView K} (item : RegisterItem Asked Verdict) (cut : is_cut_of_register item ≡ true)
        (d : HasTurned m start (at_register item) v.claims v w) (held : 0 < total (holds OfDesk) v.claims) where
      seen_now : w.seen ≡ d.seen
      seen_now = ap (λ (x : ArrayView K). x.seen) d.is

      register_grew : GrowsFrom w.seen v.seen
      register_grew = subst (λ (h : SeenLists s Lane). GrowsFrom h v.seen) (sym (seen_now ∙ d.added.seen_is))
          (grows_on (pushed d.added.mid (at_register item)) d.added.mid v.seen (grows_item d.added.mid item) d.added.begins)

      pub register_was : w.seen.was ≡ v.seen.was
      register_was = ap (λ (h : SeenLists s Lane). h.was) (seen_now ∙ d.added.seen_is) ∙ (d.uncut held).was

      register_own : (x : ℕ) → 0 < times x (names first) → own x w.seen.register ≡ own x first.seen.register
      register_own x named =
          let here = subst (λ ns. 0 < times x ns) (sym same_names) named in
          ap (λ (h : SeenLists s Lane). own x h.register) seen_now ∙ d.own_after x here
          ∙ ap (λ es. filter (λ e. eqb e.by x) es) (entries_push d.before.register item cut)
          ∙ d.own_before x here ∙ t.own_same x named

      pub in_turn_by_register : (other : ℕ) (left : Option (List Turn)) → AreLeft start other first.claims left w
          → IsInTurn start first w lanes other left
      in_turn_by_register other left are = record {
        opened = t.opened;
        lanes_are = t.lanes_are;
        pass = pass_on start v w _ d.seen d.is t.pass;
        number = t.number;
        mine = t.mine;
        left = are;
        view_is = view_on (lanes_in start) first v w _ d.seen d.is t.view_is;
        longer = grows_on w.seen v.seen first.seen register_grew t.longer;
        keepings = ap (λ (h : SeenLists s Lane). h.keepings) seen_now ∙ sym (d.kept OfDesk held) ∙ t.keepings;
        own_same = register_own;
        sized = register_grew.sized ∙ t.sized;
        owners = ap (λ (os : List Lane). length os) register_was ∙ t.owners;
      }

    pub in_turn_drawn : {w : ArrayView K} {place : ℕ} {tickets : List Turn} → lane ≡ lanes_in start → HasDrawnTickets start place tickets v w
        → LanesAreServed m → IsInTurn start first w lanes 0 (Some tickets)
    in_turn_drawn {w = w} {place = place} {tickets = tickets} all drew each =
        let d = drew.cut in
        let x = d.turned in
        let last : (drawn d.before.register, places d.before.register) ≡ last_drawn w.seen.register =
        sym (ap (λ (y : ArrayView K). last_drawn y.seen.register) x.is ∙ ap (λ (h : SeenLists s Lane). last_drawn h.register) x.added.seen_is
        ∙ drawn_push (0, 0) x.added.mid.register (drawn d.before.register) (places d.before.register)) in
        let others : v.claims ≡ first.claims = (rests all).1 ∙ sym t.mine in
        let serving = subst (λ (y : ℕ × ℕ). IsServingLanes m start (count_of s d.before.register) (cut_of y.0 y.1) 0 first.claims w w) last
        (subst (λ cs. IsServingLanes m start (count_of s d.before.register) (cut_of (drawn d.before.register) (places d.before.register)) 0 cs w w) others
        (each.begin_cut start place v w d)) in
        in_turn_by_register (DrawnCut (drawn d.before.register) (places d.before.register)) refl x (holds_now all) 0 (Some tickets)
        (count_of s d.before.register, w, pass_on start v w _ x.seen x.is t.pass, serving, t.opened.some_lane, drew.tickets_are)

    -- no cut is drawn in it
    pub drawn_stays : {w : ArrayView K} {place : ℕ} {found : Bool} → lane ≡ lanes_in start → HasCutRegister m start place found v w
        → last_drawn w.seen.register ≡ last_drawn v.seen.register
    drawn_stays {found = found} all d =
        let x = d.turned in
        let more = (x.uncut (holds_now all)).register in
        ap (λ (y : ArrayView K). last_drawn y.seen.register) x.is ∙ ap (λ (h : SeenLists s Lane). last_drawn h.register) x.added.seen_is
        ∙ drawn_behind (0, 0) x.added.mid.register (places d.before.register) found
        ∙ ap (λ (items : List (RegisterItem Asked Verdict)). last_drawn items) more.1 ∙ drawn_on (0, 0) v.seen.register more.0 more.2

    pub in_turn_cut_register : {w : ArrayView K} {place : ℕ} {found : Bool} → lane ≡ lanes_in start → HasCutRegister m start place found v w
        → IsInTurn start first w lanes lane turns
    in_turn_cut_register {w = w} {place = place} {found = found} all d =
        subst (λ (ts : Option (List Turn)). IsInTurn start first w lanes lane ts) (sym (rests all).0)
        (in_turn_by_register (RegisterCut (places d.before.register) found) refl d.turned (holds_now all) lane None
        (all, d.is_claims ∙ (rests all).1 ∙ sym t.mine))

  -- ---- a lane's ticket

  module _ {first v : ArrayView K} {lanes lane : ℕ} {x : Turn} {xs : List Turn} (t : IsInTurn start first v lanes lane (Some (x ∷ xs))) (each : LanesAreServed m) where
    abbrev c : ℕ × ℕ
    c = last_drawn v.seen.register

    abbrev count : ℕ → ℕ
    count = t.left.0

    abbrev from : ArrayView K
    from = t.left.1

    serving : IsServingLanes m start count (cut_of c.0 c.1) lane first.claims from v
    serving = t.left.3

    pub few_left : lane < lanes_in start
    few_left = t.left.4

    pub at_lane_now : x.lane ≡ lane
    at_lane_now = t.left.5.0

    lane_laws : LaneLaws m start count (cut_of c.0 c.1) lane first.claims from v
    lane_laws = each.lane start count (cut_of c.0 c.1) lane first.claims from v serving

    pub may_cut_now : MayCutLane s start x.lane x.ticket c.0 c.1 v
    may_cut_now =
        subst (λ (y : ℕ × ℕ). MayCutLane s start y.0 y.1 c.0 c.1 v) (λ i. (sym at_lane_now i, sym t.left.5.1 i))
        (lane_laws.may_cut few_left few_left t.left.2 (ap (λ cs. total busy cs) t.mine) c.0 c.1 refl
        (subst (λ cs. 0 < total (holds OfDesk) cs) (sym t.mine) (omega arith)))

    pub none_behind : lane + 1 ≡ lanes → xs ≡ []
    none_behind last = let same = t.lanes_are in none xs t.left.5.3 (omega (arith, last, same))
      where
        none : (ts : List Turn) → AreCutTickets count (lanes_in start) (lane + 1) ts → lane + 1 ≡ lanes_in start → ts ≡ []
        none [] are whole = refl
        none (y ∷ ys) are whole = let few : lane + 1 < lanes_in start = are.2 in absurd (omega (arith, few, whole))

    module _ {w : ArrayView K} {found : Bool} {before after : List Record} (cut : HasCutOwner start x.lane c.0 c.1 found before after v w) where
      lane_seen : w.seen ≡ cut.turn.turned.seen
      lane_seen = ap (λ (y : ArrayView K). y.seen) cut.turn.turned.is

      pub last_stays : last_drawn w.seen.register ≡ last_drawn v.seen.register
      last_stays =
          let d = cut.turn.turned in
          let more = (d.uncut may_cut_now.desk).register in
          ap (λ (h : SeenLists s Lane). last_drawn h.register) (lane_seen ∙ d.added.seen_is)
          ∙ ap (λ (items : List (RegisterItem Asked Verdict)). last_drawn items) more.1 ∙ drawn_on (0, 0) v.seen.register more.0 more.2

      pub takes_now : ListsAreHistories s Lane → OwnerCutsWrite (lanes_in start)
          → TakesCut (array_kept (lanes_in start)) (begun_by v.start) (history_of s v.seen) (history_of s w.seen) (owner_at v.seen.was) (owner_at w.seen.was)
          lane c.0 c.1 found before after
      takes_now laws write =
          subst (λ (l : ℕ). TakesCut (array_kept (lanes_in start)) (begun_by v.start) (history_of s v.seen) (history_of s w.seen)
          (owner_at v.seen.was) (owner_at w.seen.was) l c.0 c.1 found before after) at_lane_now
          (takes_cut laws x.lane c.0 c.1 found before after v w t.pass.begun cut may_cut_now.desk t.sized
          (subst (λ (l : ℕ). l < lanes_in start) (sym at_lane_now) few_left) write)

      next_serving : IsServingLanes m start count (cut_of (last_drawn w.seen.register).0 (last_drawn w.seen.register).1) (lane + 1) first.claims from w
      next_serving =
          let d = cut.turn in
          subst (λ (y : ℕ × ℕ). IsServingLanes m start count (cut_of y.0 y.1) (lane + 1) first.claims from w) (sym last_stays)
          (lane_laws.go_on w (WasCut c.0 c.1 found) cut.new few_left refl
          (subst (λ (l : ℕ). IsIn (lane_of w.seen.lanes l) (WasCut c.0 c.1 found)) at_lane_now d.here)
          (subst (λ (l : ℕ). HasTurned m start (at_lane l (WasCut c.0 c.1 found) cut.new) (others_of v.claims) v w) at_lane_now d.turned)
          d.longer)

      left_now : (ts : Option (List Turn)) → (lane + 1 < lanes → ts ≡ Some xs) → (lane + 1 ≡ lanes → ts ≡ None)
          → AreLeft start (lane + 1) first.claims ts w
      left_now ts some_left none_left = dite (dec_le (lane + 2) (lanes_in start))
          (λ more.
          let few : lane + 1 < lanes_in start = omega arith in
          let same = t.lanes_are in
          subst (λ (ys : Option (List Turn)). AreLeft start (lane + 1) first.claims ys w) (sym (some_left (omega (arith, few, same))))
          (count, from, t.left.2, next_serving, few, t.left.5.3))
          (λ no_more.
          let few = few_left in
          let same = t.lanes_are in
          let all : lane + 1 ≡ lanes_in start = omega (arith, few, no_more) in
          subst (λ (ys : Option (List Turn)). AreLeft start (lane + 1) first.claims ys w) (sym (none_left (omega (arith, all, same))))
          (all, ap (λ (y : ArrayView K). y.claims) ((each.lane start count _ (lane + 1) first.claims from w next_serving).end all)))

      owners_now : (b : Bool) (mid : List Lane) → length (cut_with mid x.lane (let i : LaneItem Task Reply = WasCut c.0 c.1 b in i) cut.new) ≡ length mid
      owners_now true mid = length-set mid x.lane cut.new
      owners_now false mid = refl

      pub in_turn_cut : (ts : Option (List Turn)) → (lane + 1 < lanes → ts ≡ Some xs) → (lane + 1 ≡ lanes → ts ≡ None)
          → IsInTurn start first w lanes (lane + 1) ts
      in_turn_cut ts some_left none_left =
          let d = cut.turn.turned in
          let held = may_cut_now.desk in record {
            opened = t.opened;
            lanes_are = t.lanes_are;
            pass = pass_on start v w _ d.seen d.is t.pass;
            number = t.number;
            mine = t.mine;
            left = left_now ts some_left none_left;
            view_is = view_on (lanes_in start) first v w _ d.seen d.is t.view_is;
            longer = grows_on w.seen v.seen first.seen cut.turn.longer t.longer;
            keepings = ap (λ (h : SeenLists s Lane). h.keepings) lane_seen ∙ sym (d.kept OfDesk held) ∙ t.keepings;
            own_same = λ y named.
                let here = subst (λ ns. 0 < times y ns) (sym (ap (λ (z : ArrayView K). names z) t.view_is)) named in
                ap (λ (h : SeenLists s Lane). own y h.register) lane_seen ∙ d.own_after y here ∙ d.own_before y here ∙ t.own_same y named;
            sized = cut.turn.longer.sized ∙ t.sized;
            owners = ap (λ (h : SeenLists s Lane). length h.was) (lane_seen ∙ d.added.seen_is) ∙ owners_now found d.added.mid.was
                ∙ ap (λ (os : List Lane). length os) (d.uncut held).was ∙ t.owners;
          }

-- where each lane had its turn, of a pass and a hall that are known by other names
pub in_turn_as : {K : Type 0} (start begun : ArrayStart K) (first known w : ArrayView K) (lanes lane : ℕ) (turns : Option (List Turn))
    → IsInTurn start first w lanes lane turns → lane ≡ lanes_in start → start ≡ begun → first ≡ known
    → IsInTurn begun known w (lanes_in begun) (lanes_in begun) None
in_turn_as {K} start begun first known w lanes lane turns t all same named =
    subst (λ (x : ArrayStart K × ArrayView K). IsInTurn x.0 x.1 w (lanes_in x.0) (lanes_in x.0) None) (λ i. (same i, named i))
    (subst (λ (x : ℕ × ℕ × Option (List Turn)). IsInTurn start first w x.0 x.1 x.2) (λ i. (t.lanes_are i, all i, (rests start t all).0 i)) t)
