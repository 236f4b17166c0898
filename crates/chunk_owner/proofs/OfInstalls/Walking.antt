-- A walk over records that installs the objects of a lane.
use Rattle.std.proofs.Common.{◌≡◌, ◌≢◌, inl, inr, ℕ, Bool, true, false, cond, List, [], ◌∷◌, ◌++◌, Option, Some, None, option_and_then, refl, sym, ap, subst, ◌∙◌, arith}
use Rattle.std.specs.FinMap.{empty, entries, get, get-empty, insert}
use Rattle.std.specs.Option.{option_map_or}
use Rattle.std.specs.Ordering.{eq_by_cmp}
use Rattle.std.proofs.lemmas.Option.{none-some, same_Some}
use Rattle.containers.specs.TextMaps.Keyed.{text_order}
use Rattle.flush_journal.specs.Records.{Held, Record}
use Rattle.object_ids.specs.IdOrder.{id_order}
use Rattle.object_ids.specs.IdValues.{Id}
use Rattle.object_ids.specs.Ids.{InRange, lane_of}
use Rattle.object_ids.specs.declared.ids.Kind.TheVariants as kinds
use Rattle.chunk_store.specs.Grids.{Grid}
use Rattle.chunk_store.specs.Marks.{IsChunkOf, IsTracked}
use Rattle.object_acts.specs.declared.objects.Body.{Body}
use Rattle.object_acts.specs.declared.objects.Body.TheVariants as body
use Rattle.object_acts.specs.Objects.{IsOfKind, IsTrackedBody, kind_of_body, unmarked_body}
use Rattle.object_records.specs.Keys.Keys.{IsChunk, IsSubject, Subject, chunk_key, key_of, object_key}
use Rattle.object_records.specs.Keys.Keys.{the_run, node, object, chunk, next_number}
use Rattle.object_records.proofs.OfKeys.KeyLaws.{same_subject, objects_once}
use Rattle.object_records.specs.Entries.{Entry, entry_of, kept_of}
use Rattle.object_records.specs.Objects.{IsKeptBody, object_of_body}
use Rattle.chunk_owner.specs.declared.slots.slot.Mark.{Mark}
use Rattle.chunk_owner.specs.declared.slots.slot.Mark.TheVariants as marks
use Rattle.chunk_owner.specs.declared.slots.slot.Slot.{Slot}
use Rattle.chunk_owner.specs.Slots.Slots.{AreChunksIn, AreOfKind, AreStill, Describes, HasNoChunks, HasRecord, IsRecordOf, IsStill, Says, Slots, chunks_at, is_index, object_by, object_of}
use Rattle.chunk_owner.proofs.OfSlots.KeptSlots.{put_here, put_others}
use Rattle.chunk_owner.proofs.OfSlots.KeyFacts.{index_numbers, object_no_chunk}
use Rattle.containers.proofs.Passing.{by_bool}
use Rattle.chunk_owner.specs.Installs.Records.{AreSound, IsBad, IsBadChunk, IsBadObject, IsFault, IsOfLane, IsWholeObject, KeepsRules, grid_at, grid_of}
use Rattle.containers.specs.TextMaps.Fronts.{IsLeast, held_by}
use Rattle.chunk_owner.specs.Installs.Walks.{Blames, InstallsChunk, InstallsObject, IsInstalled, IsNew, IsWalk, NotTakenAt}
use Rattle.chunk_owner.specs.declared.installs.faults.RecordFault.{RecordFault}
use Rattle.chunk_owner.specs.declared.installs.faults.RecordFault.TheVariants.{BadRecord, NoMemory}
use Rattle.containers.proofs.TextMaps.Fronts.{all_held, held_before, held_here, new_key, nothing_held, said_else, said_here, split_more}
use Rattle.chunk_owner.proofs.OfInstalls.LaneKeys.{by_id, chunk_more, chunk_of_other, chunks_else, object_first, of_no_lane, said_again}
use Rattle.chunk_owner.proofs.OfInstalls.Taking.{chunk_told, chunk_untold, chunks_said, grid_told, installed_taken, record_taken}
use Rattle.containers.proofs.TextMaps.TextOrders.{same_key, differ}
use Rattle.object_records.proofs.BodyLemmas.{kept_unmarked}

-- ---- nothing was walked over

no_chunks_yet : (id : Id) → HasNoChunks (held_by []) id
no_chunks_yet id dataset i =
    ap (λ (o : Option (List ℕ)). cond (is_index i) (option_map_or (λ body. body) o []) []) (nothing_held (chunk_key id i)) ∙ either_none (is_index i) where
      either_none : (b : Bool) → cond {A = List ℕ} b [] [] ≡ []
      either_none true = refl
      either_none false = refl

pub walk_begin : (lanes lane run next : ℕ) (held : Held) (all : List Record) (slots : Slots) → entries held ≡ all → slots ≡ empty → IsWalk lanes lane run next held all slots
walk_begin lanes lane run next held all slots whole none = subst (λ (m : Slots). IsWalk lanes lane run next held all m) (sym none) (record {
  front = [];
  split = whole;
  says = λ id range own. subst (λ (o : Option Slot). Says o id (held_by [])) (sym (get-empty id_order id)) (nothing_held (object_key id), no_chunks_yet id);
  own = λ id s e. absurd (none-some s (sym (get-empty id_order id) ∙ e));
  installed = λ id s e. absurd (none-some s (sym (get-empty id_order id) ∙ e));
  rules = λ s b is own e. absurd (none-some b (sym (nothing_held (key_of s)) ∙ e));
})

-- ---- a rule and a fault

pub not_both : (run next : ℕ) (held : Held) (s : Subject) (b : List ℕ) → KeepsRules run next held s b → IsBad run next held s b → ⊥
not_both run next held the_run b rule bad = bad
not_both run next held (node path) b rule bad = bad
not_both run next held (object id) b rule (inl none) = none-some rule.entry (sym none ∙ rule.reads)
not_both run next held (object id) b rule (inr (inl late)) = let made = rule.made in omega (arith, made, late)
not_both run next held (object id) b rule (inr (inr high)) = let number = rule.number in omega (arith, number, high)
not_both run next held (chunk id i) b rule (inl none) = none-some rule.grid (sym none ∙ rule.there)
not_both run next held (chunk id i) b rule (inr bad) = bad.2 (subst (λ (h : Grid). IsChunkOf h i b) (same_Some rule.grid bad.0 (sym rule.there ∙ bad.1)) rule.fits)
not_both run next held next_number b rule bad = bad

module _ (lanes lane run next : ℕ) (held : Held) (rest : List Record) (e : Record) (slots : Slots) (w : IsWalk lanes lane run next held (e ∷ rest) slots) where
  abbrev after : Held
  after = held_by (w.front ++ e ∷ [])

  kinds_there : (id : Id) (s : Slot) → get slots id ≡ Some s → kind_of_body s.object.body ≡ id.kind
  kinds_there id s there = (w.installed id s there).kind.kind

  -- ---- a record that keeps to the rules

  rules_more : (y : Subject) → IsSubject y → key_of y ≡ e.0 → KeepsRules run next held y e.1 → (s : Subject) (b : List ℕ) → IsSubject s → IsOfLane lanes lane s → get after (key_of s) ≡ Some b → KeepsRules run next held s b
  rules_more y fine key keeps s b is own there = by_bool (eq_by_cmp text_order (key_of s) e.0) (KeepsRules run next held s b)
      (λ same. let at_key = same_key (key_of s) e.0 same in
      let one : e.1 ≡ b = same_Some e.1 b (sym (said_here held w.front rest e w.split) ∙ ap (get after) (sym at_key) ∙ there) in
      subst (λ (x : Subject). KeepsRules run next held x b) (same_subject y s fine is (key ∙ sym at_key)) (subst (λ (x : List ℕ). KeepsRules run next held y x) one keeps))
      (λ other. w.rules s b is own (sym (said_else held w.front rest e w.split (key_of s) (differ (key_of s) e.0 other)) ∙ there))

  -- ---- a record of nothing of the lane

  pub walk_skip : ((id : Id) → InRange id → lane_of lanes id ≡ lane → object_key id ≢ e.0) → ((id : Id) (i : List ℕ) → IsChunk id i → lane_of lanes id ≡ lane → chunk_key id i ≢ e.0) → IsWalk lanes lane run next held rest slots
  walk_skip no_object no_chunk = record {
    front = w.front ++ e ∷ [];
    split = split_more held w.front rest e w.split;
    says = λ id range own. said_again id (held_by w.front) after (said_else held w.front rest e w.split (object_key id) (no_object id range own))
        (λ dataset. chunks_else held w.front rest e w.split id (λ i index. no_chunk id i (record { kind = dataset; id = range; numbers = index_numbers i index }) own))
        (get slots id) (kinds_there id) (w.says id range own);
    own = w.own;
    installed = w.installed;
    rules = λ s b is own there. w.rules s b is own (sym (said_else held w.front rest e w.split (key_of s) (of_no_lane lanes lane e.0 no_object no_chunk s is own)) ∙ there);
  }

  -- ---- the record of an object

  module _ (id : Id) (range : InRange id) (own : lane_of lanes id ≡ lane) (key : object_key id ≡ e.0) where
    absent : HasNoChunks (held_by w.front) id
    absent = none_yet (get slots id) (λ s there. (w.installed id s there).mark) (w.says id range own) where
      no_record : get (held_by w.front) (object_key id) ≡ None
      no_record = ap (get (held_by w.front)) key ∙ new_key held w.front rest e w.split

      none_yet : (o : Option Slot) → ((s : Slot) → o ≡ Some s → s.mark ≡ marks.Kept) → Says o id (held_by w.front) → HasNoChunks (held_by w.front) id
      none_yet None kept said = said.1
      none_yet (Some s) kept said =
          let told : IsRecordOf (Some s.object) (get (held_by w.front) (object_key id)) = subst (λ (m : Mark). HasRecord m s.object (get (held_by w.front) (object_key id))) (kept s refl) said.0 in
          absurd (none-some (entry_of s.object) (ap (option_and_then (object_of_body (kind_of_body s.object.body))) (sym no_record) ∙ told))

    untouched : (q : Id) → chunks_at after q ≡ chunks_at (held_by w.front) q
    untouched q = chunks_else held w.front rest e w.split q (λ i index same. object_no_chunk id q i (key ∙ sym same))

    module _ (s : Slot) (new : IsNew run next id e.1 s) where
      fresh_chunks : (x : Body) → kind_of_body x ≡ id.kind → IsTrackedBody (λ _. []) x → AreChunksIn marks.Kept (chunks_at after id) x
      fresh_chunks (body.Group links) kind tracked = tt
      fresh_chunks (body.Dataset array) kind tracked = subst (λ (f : List ℕ → List ℕ). IsTracked f array) (λ k i. sym ((λ j. untouched id j i) ∙ absent (sym kind) i) k) tracked
      fresh_chunks (body.Datatype type) kind tracked = tt

      now_said : Says (Some s) id after
      now_said = (
        subst (λ (m : Mark). HasRecord m s.object (get after (object_key id))) (sym new.installed.mark) (
            ap (option_and_then (object_of_body (kind_of_body s.object.body))) (ap (get after) key ∙ said_here held w.front rest e w.split)
            ∙ ap (λ k. object_of_body k e.1) new.installed.kind.kind ∙ new.reads
            ),
        subst (λ (m : Mark). AreChunksIn m (chunks_at after id) s.object.body) (sym new.installed.mark) (fresh_chunks s.object.body new.installed.kind.kind new.tracked),
      )

      object_put : IsWalk lanes lane run next held rest (insert slots id s)
      object_put = record {
        front = w.front ++ e ∷ [];
        split = split_more held w.front rest e w.split;
        says = by_id (λ q. InRange q → lane_of lanes q ≡ lane → Says (get (insert slots id s) q) q after) id
            (λ r o. subst (λ (x : Option Slot). Says x id after) (sym (put_here slots id s)) now_said)
            (λ q other r o. subst (λ (x : Option Slot). Says x q after) (sym (put_others slots id s q other))
            (said_again q (held_by w.front) after (said_else held w.front rest e w.split (object_key q) (λ same. other (objects_once q id r range (same ∙ sym key))))
            (λ dataset. untouched q) (get slots q) (kinds_there q) (w.says q r o)));
        own = by_id (λ q. (t : Slot) → get (insert slots id s) q ≡ Some t → InRange q × (lane_of lanes q ≡ lane)) id (λ t there. (range, own)) (λ q other t there. w.own q t (sym (put_others slots id s q other) ∙ there));
        installed = by_id (λ q. (t : Slot) → get (insert slots id s) q ≡ Some t → IsInstalled q t) id
            (λ t there. subst (IsInstalled id) (same_Some s t (sym (put_here slots id s) ∙ there)) new.installed)
            (λ q other t there. w.installed q t (sym (put_others slots id s q other) ∙ there));
        rules = rules_more (object id) range key (record { made = new.made; number = new.number; entry = entry_of s.object; reads = new.reads });
      }

    pub walk_object : (m : Slots) → InstallsObject run next id e.1 slots m → IsWalk lanes lane run next held rest m
    walk_object m done = subst (λ (x : Slots). IsWalk lanes lane run next held rest x) (sym done.2) (object_put done.0 done.1)

  -- ---- the record of a chunk

  module _ (id : Id) (i : List ℕ) (is : IsChunk id i) (own : lane_of lanes id ≡ lane) (key : chunk_key id i ≡ e.0) where
    same_record : (q : Id) → get after (object_key q) ≡ get (held_by w.front) (object_key q)
    same_record q = said_else held w.front rest e w.split (object_key q) (λ same. object_no_chunk q id i (same ∙ sym key))

    first_held : get held (object_key id) ≡ get (held_by w.front) (object_key id)
    first_held = held_before held w.front rest e w.split (object_key id) (object_first id id i e.0 key)

    -- what the record of the dataset tells
    grid_known : (s : Slot) → get slots id ≡ Some s → grid_at held id ≡ grid_of (kept_of s.object.body)
    grid_known s there = grid_told held id i e.1 s.object is.kind (kinds_there id s there) (subst (λ (r : Option (List ℕ)). IsRecordOf (Some s.object) r) (sym first_held)
        (subst (λ (m : Mark). HasRecord m s.object (get (held_by w.front) (object_key id))) (w.installed id s there).mark (subst (λ (o : Option Slot). Says o id (held_by w.front)) there (w.says id is.id own)).0))

    pub walk_chunk : (m : Slots) → InstallsChunk id i e.1 slots m → IsWalk lanes lane run next held rest m
    walk_chunk m done = subst (λ (x : Slots). IsWalk lanes lane run next held rest x) (sym done.3) put_walk where
      s : Slot
      s = done.0

      t : Slot
      t = done.1

      kept : s.mark ≡ marks.Kept
      kept = (w.installed id done.0 done.2).mark

      was_said : Says (Some done.0) id (held_by w.front)
      was_said = subst (λ (o : Option Slot). Says o id (held_by w.front)) done.2 (w.says id is.id own)

      now_said : Says (Some done.1) id after
      now_said = (
        subst (λ (r : Option (List ℕ)). HasRecord done.1.mark done.1.object r) (sym (same_record id)) (record_taken i e.1 id done.0 done.1 done.4 (get (held_by w.front) (object_key id)) kept was_said.0),
        chunks_said i e.1 id done.0 done.1 done.4 (chunks_at (held_by w.front) id) (chunks_at after id) (chunk_more held w.front rest e w.split id i is key) kept was_said.1,
      )

      put_walk : IsWalk lanes lane run next held rest (insert slots id done.1)
      put_walk = record {
        front = w.front ++ e ∷ [];
        split = split_more held w.front rest e w.split;
        says = by_id (λ q. InRange q → lane_of lanes q ≡ lane → Says (get (insert slots id done.1) q) q after) id
            (λ r o. subst (λ (x : Option Slot). Says x id after) (sym (put_here slots id done.1)) now_said)
            (λ q other r o. subst (λ (x : Option Slot). Says x q after) (sym (put_others slots id done.1 q other))
            (said_again q (held_by w.front) after (same_record q)
            (λ dataset. chunks_else held w.front rest e w.split q (chunk_of_other held w.front rest e w.split id i is key q other r dataset)) (get slots q) (kinds_there q) (w.says q r o)));
        own = by_id (λ q. (x : Slot) → get (insert slots id done.1) q ≡ Some x → InRange q × (lane_of lanes q ≡ lane)) id (λ x there. (is.id, own)) (λ q other x there. w.own q x (sym (put_others slots id done.1 q other) ∙ there));
        installed = by_id (λ q. (x : Slot) → get (insert slots id done.1) q ≡ Some x → IsInstalled q x) id
            (λ x there. subst (IsInstalled id) (same_Some done.1 x (sym (put_here slots id done.1) ∙ there)) (installed_taken i e.1 id done.0 done.1 done.4 (w.installed id done.0 done.2)))
            (λ q other x there. w.installed q x (sym (put_others slots id done.1 q other) ∙ there));
        rules = rules_more (chunk id i) is key (chunk_told held id i e.1 done.0.object.body done.1.object.body (grid_known done.0 done.2) done.4.body);
      }

    not_taken : (o : Option Slot) → get slots id ≡ o → NotTakenAt i e.1 o → IsBadChunk held id i e.1
    not_taken None there refused = inl (ap (λ (r : Option (List ℕ)). option_and_then (λ (x : Entry). grid_of x.kept) (option_and_then (object_of_body kinds.Dataset) r))
        (first_held ∙ (subst (λ (o : Option Slot). Says o id (held_by w.front)) there (w.says id is.id own)).0))
    not_taken (Some s) there refused = chunk_untold held id i e.1 s.object.body (kinds_there id s there ∙ is.kind) (grid_known s there) refused

    pub bad_chunk : NotTakenAt i e.1 (get slots id) → IsBadChunk held id i e.1
    bad_chunk refused = not_taken (get slots id) refl refused

  -- ---- a record that can't stand

  least_fault : (y : Subject) → IsSubject y → IsOfLane lanes lane y → key_of y ≡ e.0 → IsBad run next held y e.1 → IsLeast (IsFault lanes lane run next held) e.0
  least_fault y fine own key bad = record {
    has = record { subject = y; is = fine; own = own; of = key; body = e.1; here = held_here held w.front rest e w.split; bad = bad };
    least = λ q f low. not_both run next held f.subject f.body
        (w.rules f.subject f.body f.is f.own (ap (get (held_by w.front)) f.of ∙ sym (held_before held w.front rest e w.split q low) ∙ f.here)) f.bad;
  }

  pub fault_object : (fault : RecordFault) (id : Id) → InRange id → lane_of lanes id ≡ lane → object_key id ≡ e.0 → Blames fault (IsBadObject run next id e.1) → Blames fault (IsLeast (IsFault lanes lane run next held) e.0)
  fault_object BadRecord id range own key bad = least_fault (object id) range own key bad
  fault_object NoMemory id range own key bad = tt

  pub fault_chunk : (fault : RecordFault) (id : Id) (i : List ℕ) → IsChunk id i → lane_of lanes id ≡ lane → chunk_key id i ≡ e.0 → Blames fault (NotTakenAt i e.1 (get slots id)) → Blames fault (IsLeast (IsFault lanes lane run next held) e.0)
  fault_chunk BadRecord id i is own key bad = least_fault (chunk id i) is own key (bad_chunk id i is own key bad)
  fault_chunk NoMemory id i is own key bad = tt

-- ---- the end

pub unmarked_once : (b : Body) → unmarked_body (unmarked_body b) ≡ unmarked_body b
unmarked_once (body.Group links) = refl
unmarked_once (body.Dataset array) = refl
unmarked_once (body.Datatype type) = refl

whole_at : (id : Id) (o : Option Slot) → ((s : Slot) → o ≡ Some s → IsInstalled id s) → IsWholeObject (object_of o)
whole_at id None is = tt
whole_at id (Some s) is = subst (λ (m : Mark). IsWholeObject (object_by m s.object)) (sym (is s refl).mark) (
  kept_unmarked s.object.body (is s refl).whole,
  λ k. record { attributes = s.object.attributes; body = unmarked_once s.object.body k },
)

module _ (lanes lane run next : ℕ) (held : Held) (rest : List Record) (slots : Slots) (w : IsWalk lanes lane run next held rest slots) (last : rest ≡ []) where
  all_said : held_by w.front ≡ held
  all_said = all_held held w.front rest w.split last

  pub end_says : (id : Id) → InRange id → lane_of lanes id ≡ lane → Says (get slots id) id held
  end_says id range own = subst (λ (h : Held). Says (get slots id) id h) all_said (w.says id range own)

  pub end_rules : AreSound lanes lane run next held
  end_rules s b is own there = w.rules s b is own (ap (λ (h : Held). get h (key_of s)) all_said ∙ there)

  pub end_still : AreStill slots
  end_still id s there = let is = w.installed id s there in (is.mark, is.still)

  pub end_kinds : AreOfKind slots
  end_kinds id s there = (w.installed id s there).kind

  pub end_own : (id : Id) (s : Slot) → get slots id ≡ Some s → InRange id × (lane_of lanes id ≡ lane)
  end_own = w.own

  pub end_faultless : (key : List ℕ) → IsFault lanes lane run next held key → ⊥
  end_faultless key f = not_both run next held f.subject f.body (end_rules f.subject f.body f.is f.own (ap (get held) f.of ∙ f.here)) f.bad

  pub end_whole : (id : Id) → IsWholeObject (object_of (get slots id))
  end_whole id = whole_at id (get slots id) (λ s there. w.installed id s there)

  pub end_described : ((s : Slot) (id : Id) (h : Held) → IsOfKind id.kind s.object → IsKeptBody s.object.body → IsStill s → Says (Some s) id h → Describes h id (object_of (Some s))) → (id : Id) → InRange id → lane_of lanes id ≡ lane
      → Describes held id (object_of (get slots id))
  end_described law id range own = at (get slots id) (λ s there. w.installed id s there) (end_says id range own) where
    at : (o : Option Slot) → ((s : Slot) → o ≡ Some s → IsInstalled id s) → Says o id held → Describes held id (object_of o)
    at None is said = said
    at (Some s) is said = law s id held (is s refl).kind (is s refl).whole ((is s refl).mark, (is s refl).still) said
