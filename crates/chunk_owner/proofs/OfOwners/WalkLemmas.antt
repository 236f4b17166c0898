-- A walk over records that installs the objects of all lanes.
use Rattle.std.proofs.Common.{◌≡◌, ◌≢◌, ◌⊎◌, ⊎_elim, ℕ, zero, suc, ◌+◌, ◌<◌, ◌≤◌, Bool, true, false, List, [], ◌∷◌, ◌++◌, length, take, get_or, Option, Some, None, refl, sym, ap, subst, ◌∙◌, arith, append-nil, append_assoc}
use Rattle.std.specs.Prelude.{slice_set}
use Rattle.std.specs.FinMap.{empty, entries, get}
use Rattle.std.specs.List.{AllByRecursion}
use Rattle.std.proofs.Math.Seq.{take-append_seam}
use Rattle.std.proofs.lemmas.List.{length-take-le, length_push}
use Rattle.object_ids.specs.IdValues.{Id}
use Rattle.object_ids.specs.Ids.{InRange, lane_of}
use Rattle.object_acts.specs.Objects.{IsOfKind, Objects}
use Rattle.object_acts.specs.declared.objects.Object.{Object}
use Rattle.flush_journal.specs.Records.{Held, Record}
use Rattle.object_records.specs.Keys.Keys.{IsSubject, Subject, key_of}
use Rattle.object_records.specs.Objects.{IsKeptBody}
use Rattle.containers.specs.TextMaps.Fronts.{IsLeast}
use Rattle.containers.specs.TextMaps.Nexts.{IsNext, left}
use Rattle.containers.specs.TextMaps.Keyed.{text_order}
use Rattle.chunk_owner.specs.declared.slots.slot.Slot.{Slot}
use Rattle.chunk_owner.specs.Slots.Slots.{Describes, IsStill, Says, Slots, object_of}
use Rattle.chunk_owner.specs.Lanes.{IsSameLane, IsWhole, Lane}
use Rattle.chunk_owner.specs.Installs.Records.{AreSound, IsFault, IsOfLane, IsOther, IsWholeObject}
use Rattle.chunk_owner.specs.Installs.Walks.{IsWalk}
use Rattle.chunk_owner.specs.Owners.Records.{AreSoundIn, IsFirstFault, KeepsOthers}
use Rattle.chunk_owner.specs.Owners.Walks.{AreNew, AreNumbered, AreWalks, HasLane, InstallsIn, IsCutOff, IsJudged, IsRefusedIn, IsWalked, TakesOut}
use Rattle.chunk_owner.proofs.InstallLemmas.{described_at, given_at}
use Rattle.chunk_owner.proofs.OfSlots.Standing.{get-objects_of}
use Rattle.chunk_owner.proofs.OfInstalls.Records.{IsElsewhere, elsewhere, one_lane, other_elsewhere, walk_elsewhere, walk_installed, walk_refused}
use Rattle.chunk_owner.proofs.OfInstalls.Walking.{end_described, end_faultless, end_rules, end_says, end_still, end_whole, walk_begin}
use Rattle.chunk_owner.proofs.OfOwners.DrainLemmas.{AgreesFrom, IsAt, IsDrainedTo, agrees_begin, agrees_more, at_begin, at_more, drained_begin, drained_more, keeps_more, next_held}
use Rattle.chunk_owner.proofs.OfOwners.InstallLemmas.{AreMade, IsMade, made_more, made_none}

-- what is written over the front is the front
pub written : (n : ℕ) (new rest : List Lane) → length new ≡ n → take n (new ++ rest) ≡ new
written n new rest e = subst (λ (j : ℕ). take j (new ++ rest) ≡ new) e (take-append_seam new rest)

-- ---- lanes in order

module _ (many : ℕ) where
  pub new_numbered : (k : ℕ) (ls : List Lane) → AreNew many k ls → AreNumbered many k ls
  new_numbered k [] h = tt
  new_numbered k (l ∷ ls) h = (ap (λ (x : Lane). x.lane) h.0, ap (λ (x : Lane). x.lanes) h.0, new_numbered (suc k) ls h.1)

  pub new_push : (k j : ℕ) (ls : List Lane) (l : Lane) → AreNew many k ls → k + length ls ≡ j → l ≡ record { lane = j; lanes = many; objects = empty; slots = empty } → AreNew many k (ls ++ l ∷ [])
  new_push k j [] l h at new = (let e : j ≡ k = omega (arith, at) in subst (λ (n : ℕ). l ≡ record { lane = n; lanes = many; objects = empty; slots = empty }) e new, tt)
  new_push k j (x ∷ xs) l h at new = (h.0, new_push (suc k) j xs l h.1 (omega (arith, at)) new)

  pub numbered_at : (k i j : ℕ) (ls : List Lane) (l : Lane) → AreNumbered many k ls → j ≡ k + i → i < length ls → get_or ls i l ≡ l → (l.lane ≡ j) × (l.lanes ≡ many)
  numbered_at k i j [] l h at few is = absurd (omega arith)
  numbered_at k zero j (x ∷ xs) l h at few is = let e : k ≡ j = omega (arith, at) in (ap (λ (y : Lane). y.lane) (sym is) ∙ h.0 ∙ e, ap (λ (y : Lane). y.lanes) (sym is) ∙ h.1)
  numbered_at k (suc i) j (x ∷ xs) l h at few is = numbered_at (suc k) i j xs l h.2 (omega (arith, at)) (omega (arith, few)) is

  pub numbered_set : (k i : ℕ) (ls : List Lane) (l new : Lane) → AreNumbered many k ls → get_or ls i l ≡ l → IsSameLane l new → AreNumbered many k (slice_set ls i new)
  numbered_set k i [] l new h is same = tt
  numbered_set k zero (x ∷ xs) l new h is same = (same.lane ∙ ap (λ (y : Lane). y.lane) (sym is) ∙ h.0, same.lanes ∙ ap (λ (y : Lane). y.lanes) (sym is) ∙ h.1, h.2)
  numbered_set k (suc i) (x ∷ xs) l new h is same = (h.0, h.1, numbered_set (suc k) i xs l new h.2 is same)

  pub numbered_take : (k i : ℕ) (ls : List Lane) → AreNumbered many k ls → AreNumbered many k (take i ls)
  numbered_take k zero ls h = tt
  numbered_take k (suc i) [] h = tt
  numbered_take k (suc i) (x ∷ xs) h = (h.0, h.1, numbered_take (suc k) i xs h.2)

  pub numbered_installed : (run next : ℕ) (s : Subject) (body : List ℕ) (i : ℕ) (ls new : List Lane) → AreNumbered many 0 ls → InstallsIn run next s body i ls new → AreNumbered many 0 new
  numbered_installed run next s body i ls new h done = subst (λ (xs : List Lane). AreNumbered many 0 xs) (sym done.set) (numbered_set 0 i ls done.was done.left h done.here done.same)

  pub home_at : (i : ℕ) (ls : List Lane) (s : Subject) → AreNumbered many 0 ls → i < length ls → IsOfLane many i s → HasLane ls i s
  home_at i ls s h few own l is =
      let n = numbered_at 0 i i ls l h (omega arith) few is in
      subst (λ (j : ℕ). IsOfLane l.lanes j s) (sym n.0) (subst (λ (j : ℕ). IsOfLane j i s) (sym n.1) own)

module _ (many run next : ℕ) (held : Held) where
  pub walks_begin : (k : ℕ) (ls : List Lane) → AreNew many k ls → AreWalks many run next held (entries held) k ls
  walks_begin k [] h = tt
  walks_begin k (l ∷ ls) h = (walk_begin many k run next held (entries held) l.slots refl (ap (λ (x : Lane). x.slots) h.0), walks_begin (suc k) ls h.1)

  pub walks_at : (rest : List Record) (k i j : ℕ) (ls : List Lane) (l : Lane) → AreWalks many run next held rest k ls → j ≡ k + i → i < length ls → get_or ls i l ≡ l → IsWalk many j run next held rest l.slots
  walks_at rest k i j [] l h at few is = absurd (omega arith)
  walks_at rest k zero j (x ∷ xs) l h at few is =
      let e : k ≡ j = omega (arith, at) in
      subst (λ (y : Lane). IsWalk many j run next held rest y.slots) is (subst (λ (n : ℕ). IsWalk many n run next held rest x.slots) e h.0)
  walks_at rest k (suc i) j (x ∷ xs) l h at few is = walks_at rest (suc k) i j xs l h.1 (omega (arith, at)) (omega (arith, few)) is

  -- ---- one record

  module _ (rest : List Record) (e : Record) where
    pub walks_skip : (k : ℕ) (ls : List Lane) → ((n : ℕ) → k ≤ n → n < k + length ls → IsElsewhere many n e.0) → AreWalks many run next held (e ∷ rest) k ls → AreWalks many run next held rest k ls
    walks_skip k [] away h = tt
    walks_skip k (x ∷ xs) away h = (
      walk_elsewhere many k run next held rest e x.slots h.0 (away k (omega arith) (omega arith)),
      walks_skip (suc k) xs (λ n low high. away n (omega (arith, low)) (omega (arith, high))) h.1,
    )

    pub walks_set : (k i j : ℕ) (ls : List Lane) (l new : Lane) → j ≡ k + i → i < length ls → get_or ls i l ≡ l → (IsWalk many j run next held (e ∷ rest) l.slots → IsWalk many j run next held rest new.slots)
        → ((n : ℕ) → n ≢ j → IsElsewhere many n e.0) → AreWalks many run next held (e ∷ rest) k ls → AreWalks many run next held rest k (slice_set ls i new)
    walks_set k i j [] l new at few is step away h = absurd (omega arith)
    walks_set k zero j (x ∷ xs) l new at few is step away h =
        let same : j ≡ k = omega (arith, at) in (
          subst (λ (n : ℕ). IsWalk many n run next held rest new.slots) same (step (walks_at (e ∷ rest) k zero j (x ∷ xs) l h at few is)),
          walks_skip (suc k) xs (λ n low high. away n (λ (e2 : n ≡ j). omega (arith, low, at, e2))) h.1,
        )
    walks_set k (suc i) j (x ∷ xs) l new at few is step away h = (
      walk_elsewhere many k run next held rest e x.slots h.0 (away k (λ (e2 : k ≡ j). omega (arith, at, e2))),
      walks_set (suc k) i j xs l new (omega (arith, at)) (omega (arith, few)) is step away h.1,
    )

    pub walks_take : (k i : ℕ) (ls : List Lane) → ((n : ℕ) → n < k + i → IsElsewhere many n e.0) → AreWalks many run next held (e ∷ rest) k ls → AreWalks many run next held rest k (take i ls)
    walks_take k zero ls away h = tt
    walks_take k (suc i) [] away h = tt
    walks_take k (suc i) (x ∷ xs) away h = (
      walk_elsewhere many k run next held rest e x.slots h.0 (away k (omega arith)),
      walks_take (suc k) i xs (λ n low. away n (omega (arith, low))) h.1,
    )

    -- a record of no lane
    pub walks_other : (ls : List Lane) → IsOther e.0 → AreWalks many run next held (e ∷ rest) 0 ls → AreWalks many run next held rest 0 ls
    walks_other ls other = walks_skip 0 ls (λ n low high. other_elsewhere many n e.0 other)

    module _ (s : Subject) (is : IsSubject s) (of : key_of s ≡ e.0) (lane : ℕ) (own : IsOfLane many lane s) where
      away_from : (n : ℕ) → n ≢ lane → IsElsewhere many n e.0
      away_from n other = elsewhere many n e.0 s is of (λ there. other (one_lane many lane n s own there))

      -- of a lane that isn't there
      pub walks_beyond : (ls : List Lane) → length ls ≤ lane → AreWalks many run next held (e ∷ rest) 0 ls → AreWalks many run next held rest 0 ls
      walks_beyond ls high = walks_skip 0 ls (λ n low below. away_from n (λ (same : n ≡ lane). omega (arith, high, below, same)))

      -- of one that takes it
      pub walks_installed : (ls new : List Lane) → lane < length ls → InstallsIn run next s e.1 lane ls new → AreWalks many run next held (e ∷ rest) 0 ls → AreWalks many run next held rest 0 new
      walks_installed ls new few done h = subst (λ (xs : List Lane). AreWalks many run next held rest 0 xs) (sym done.set)
          (walks_set 0 lane lane ls done.was done.left (omega arith) few done.here
          (λ w. walk_installed many lane run next held rest e done.was.slots w s is own of done.left.slots done.installs) away_from h)

      -- of one that refuses it
      pub walks_refused : (ls new : List Lane) → lane < length ls → IsRefusedIn run next s e.1 lane ls → new ≡ take lane ls → AreWalks many run next held (e ∷ rest) 0 ls
          → AreWalks many run next held rest 0 new × IsJudged many run next held e.0 false (length ls) (length new)
      walks_refused ls new few bad cut h = (
        subst (λ (xs : List Lane). AreWalks many run next held rest 0 xs) (sym cut)
            (walks_take 0 lane ls (λ n low. away_from n (λ (same : n ≡ lane). omega (arith, low, same))) h),
        subst (λ (n : ℕ). (n < length ls) × IsLeast (IsFault many n run next held) e.0) (sym count)
            (few, walk_refused many lane run next held rest e bad.was.slots (walks_at (e ∷ rest) 0 lane lane ls bad.was h (omega arith) few bad.here) s is own of bad.refused),
      ) where
        count : length new ≡ lane
        count = ap length cut ∙ length-take-le lane ls (omega (arith, few))

  -- ---- a walk over all

  -- the records before a key were walked over; the map has those from it on, and those of no lane
  pub record IsWalkedTo (m : Held) (at : Option (List ℕ)) (ls : List Lane) (bad : Option (List ℕ)) : Type 0 where
    pub rest : List Record
    pub here : IsAt held at rest
    pub agrees : AgreesFrom held m at
    pub keeps : KeepsOthers held m
    pub drained : IsDrainedTo m at
    pub numbered : AreNumbered many 0 ls
    pub walks : AreWalks many run next held rest 0 ls
    pub cut : IsCutOff many run next held (length ls) bad

  pub walked_begin : (at : Option (List ℕ)) (ls : List Lane) → IsNext held None at → AreNew many 0 ls → length ls ≡ many → IsWalkedTo held at ls None
  walked_begin at ls first new count = record {
    rest = entries held;
    here = at_begin held at first;
    agrees = agrees_begin held at;
    keeps = λ q other. refl;
    drained = drained_begin held at first;
    numbered = new_numbered many 0 ls new;
    walks = walks_begin 0 ls new;
    cut = count;
  }

  shorter : (old new : ℕ) (bad : Option (List ℕ)) → new < old → IsCutOff many run next held old bad → new < many
  shorter old new None less cut = omega (arith, less, cut)
  shorter old new (Some key) less cut = let few = cut.0 in omega (arith, less, few)

  -- what one record leaves of the lanes
  abbrev pub Judges : List ℕ → Held → List Lane → Bool → List Lane → Type 0
  Judges k m ls stands new = (h : Held) (rest : List Record) (body : List ℕ) → get m k ≡ Some body → AreWalks many run next h ((k, body) ∷ rest) 0 ls
      → AreWalks many run next h rest 0 new × IsJudged many run next h k stands (length ls) (length new)

  module _ (m n : Held) (k : List ℕ) (ls new : List Lane) (bad : Option (List ℕ)) (w : IsWalkedTo m (Some k) ls bad) (at : Option (List ℕ)) (after : IsNext m (Some k) at)
      (numbered : AreNumbered many 0 new) (taken : TakesOut k m n) where
    abbrev later : List Record
    later = left text_order (Some k) (entries held)

    judged : (stands : Bool) → Judges k m ls stands new → AreWalks many run next held later 0 new × IsJudged many run next held k stands (length ls) (length new)
    judged stands judges = judges held later w.here.0 (w.agrees.0 ∙ w.here.1) (subst (λ (r : List Record). AreWalks many run next held r 0 ls) w.here.2 w.walks)

    walked_on : (worse : Option (List ℕ)) → AreWalks many run next held later 0 new → IsCutOff many run next held (length new) worse → IsWalkedTo n at new worse
    walked_on worse walks cut = record {
      rest = later;
      here = at_more held k at (next_held held m k at w.agrees after);
      agrees = agrees_more held m n k at w.agrees after taken;
      keeps = keeps_more held m n k w.keeps taken;
      drained = drained_more m n k taken w.drained at after;
      numbered = numbered;
      walks = walks;
      cut = cut;
    }

    pub walked_more : Judges k m ls true new → IsWalkedTo n at new bad
    walked_more judges = let j = judged true judges in walked_on bad j.0 (subst (λ (c : ℕ). IsCutOff many run next held c bad) (sym j.1) w.cut)

    pub walked_bad : Judges k m ls false new → IsWalkedTo n at new (Some k)
    walked_bad judges = let j = judged false judges in walked_on (Some k) j.0 (shorter (length ls) (length new) bad j.1.0 w.cut, j.1.1)

  pub walked_end : (m : Held) (ls : List Lane) (bad : Option (List ℕ)) → IsWalkedTo m None ls bad → IsWalked many run next held ls bad
  walked_end m ls bad w = record { numbered = w.numbered; walks = subst (λ (r : List Record). AreWalks many run next held r 0 ls) w.here w.walks; rest = w.cut }

  -- ---- the end

  same_or_later : (k j : ℕ) → k ≤ j → (j ≡ k) ⊎ (suc k ≤ j)
  same_or_later k j low = grind arith

  each_walk : (k j : ℕ) (ls : List Lane) → AreWalks many run next held [] k ls → k ≤ j → j < k + length ls → (m : Slots) × IsWalk many j run next held [] m
  each_walk k j [] h low high = absurd (omega (arith, low, high))
  each_walk k j (x ∷ xs) h low high = ⊎_elim
      (λ (same : j ≡ k). (x.slots, subst (λ (n : ℕ). IsWalk many n run next held [] x.slots) (sym same) h.0))
      (λ (later : suc k ≤ j). each_walk (suc k) j xs h.1 later (omega (arith, high)))
      (same_or_later k j low)

  none_at : (ls : List Lane) → AreWalks many run next held [] 0 ls → (j : ℕ) → j < length ls → (key : List ℕ) → IsFault many j run next held key → ⊥
  none_at ls h j few = let w = each_walk 0 j ls h (omega arith) (omega (arith, few)) in end_faultless many j run next held [] w.0 w.1 refl

  pub walked_sound : (ls : List Lane) → IsWalked many run next held ls None → AreSoundIn many run next held
  walked_sound ls w lane few =
      let all = w.rest in
      let e = each_walk 0 lane ls w.walks (omega arith) (omega (arith, few, all)) in end_rules many lane run next held [] e.0 e.1 refl

  pub walked_fault : (ls : List Lane) (key : List ℕ) → IsWalked many run next held ls (Some key) → IsFirstFault many run next held key
  walked_fault ls key w = record { lane = length ls; of = w.rest.0; before = λ earlier less q. none_at ls w.walks earlier less q; least = w.rest.1 }

  module _ (law : (s : Slot) (id : Id) (h : Held) → IsOfKind id.kind s.object → IsKeptBody s.object.body → IsStill s → Says (Some s) id h → Describes h id (object_of (Some s))) where
    is_made : (k : ℕ) (l : Lane) → l.lane ≡ k → l.lanes ≡ many → IsWhole l → IsWalk many k run next held [] l.slots → IsMade many run next held k l
    is_made k l lane lanes whole w = record {
      lane = lane;
      lanes = lanes;
      described = λ id range at. subst (λ (m : Objects). Describes held id (get m id)) (sym whole.objects) (described_at many k run next held rules l.slots described id range at);
      says = end_says many k run next held [] l.slots w refl;
      still = end_still many k run next held [] l.slots w refl;
      given = λ id o there. given id o there;
      spelled = λ id o there. (
        (given id o there).0,
        subst (λ (x : Option Object). IsWholeObject x) (sym (get-objects_of l.slots id) ∙ ap (λ (m : Objects). get m id) (sym whole.objects) ∙ there) (end_whole many k run next held [] l.slots w refl id),
      );
      faultless = end_faultless many k run next held [] l.slots w refl;
      sound = whole;
    } where
      rules : AreSound many k run next held
      rules = end_rules many k run next held [] l.slots w refl

      described : (id : Id) → InRange id → lane_of many id ≡ k → Describes held id (object_of (get l.slots id))
      described = end_described many k run next held [] l.slots w refl law

      given : (id : Id) (o : Object) → get l.objects id ≡ Some o → InRange id × (id.run ≤ run) × (id.domain < next)
      given id o there = given_at many k run next held rules l.slots described w.own id o (ap (λ (m : Objects). get m id) (sym whole.objects) ∙ there)

    made_all : (done ls : List Lane) → AreMade many run next held done → AreNumbered many (length done) ls → AreWalks many run next held [] (length done) ls → AllByRecursion IsWhole ls
        → AreMade many run next held (done ++ ls)
    made_all done [] h n w whole = subst (λ (xs : List Lane). AreMade many run next held xs) (sym (append-nil done)) h
    made_all done (l ∷ ls) h n w whole =
        let count : suc (length done) ≡ length (done ++ l ∷ []) = omega (arith, length_push done l) in
        subst (λ (xs : List Lane). AreMade many run next held xs) (append_assoc done (l ∷ []) ls)
        (made_all (done ++ l ∷ []) ls (made_more many run next held done l h (is_made (length done) l n.0 n.1 whole.0 w.0) (done ++ l ∷ []) refl)
        (subst (λ (k : ℕ). AreNumbered many k ls) count n.2) (subst (λ (k : ℕ). AreWalks many run next held [] k ls) count w.1) whole.1)

    pub walked_made : (ls : List Lane) (bad : Option (List ℕ)) → IsWalked many run next held ls bad → AllByRecursion IsWhole ls → AreMade many run next held ls
    walked_made ls bad w whole = made_all [] ls (made_none many run next held [] refl) w.numbered w.walks whole
