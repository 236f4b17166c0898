-- The keys of what is marked in a lane, and what is held of the others.
use Rattle.std.proofs.Common.{◌≡◌, ◌≢◌, ℕ, zero, suc, ◌+◌, ◌<◌, ◌≤◌, inl, inr, List, [], ◌∷◌, ◌++◌, length, take, get_or, sym, ap, subst, ◌∙◌, arith}
use Rattle.std.specs.Prelude.{slice_set}
use Rattle.std.specs.FinMap.{get}
use Rattle.std.specs.List.{AllByRecursion}
use Rattle.object_ids.specs.IdValues.{Id}
use Rattle.object_ids.specs.Ids.{InRange, lane_of}
use Rattle.object_acts.specs.declared.objects.Body.{Body}
use Rattle.flush_journal.specs.Records.{Held, Record, put_all}
use Rattle.flush_journal.specs.Cuts.Cuts.{AreApart, IsEither}
use Rattle.flush_journal.proofs.OfCuts.CutLemmas.{all_more}
use Rattle.chunk_owner.specs.declared.slots.slot.Mark.{Mark}
use Rattle.chunk_owner.specs.Slots.Slots.{IsMarked, Says}
use Rattle.chunk_owner.specs.Slots.Slots.{IsMarkedIn as IsMarkedAt}
use Rattle.chunk_owner.proofs.OfSlots.LaneCuts.{IsKeyApart, marked_apart, said_apart, same_id}
use Rattle.chunk_owner.specs.Lanes.{IsSameLane, IsWhole, Lane}
use Rattle.chunk_owner.specs.Owners.Joined.{AreLanes, IsLane}
use Rattle.chunk_owner.specs.Owners.Records.{IsMarkedIn, LaneSays, LanesSay}

-- ---- keys of one lane alone

-- a key of what is marked at an id of the lane
pub record IsKeyOf (lanes lane : ℕ) (key : List ℕ) : Type 0 where
  pub id : Id
  pub range : InRange id
  pub mark : Mark
  pub body : Body
  pub part : IsMarkedAt id mark body key
  pub home : lane_of lanes id ≡ lane

module _ (n : ℕ) where
  pub key_of_lane : (k : ℕ) (l : Lane) → IsLane n k l → IsWhole l → (key : List ℕ) → IsMarked l.slots key → IsKeyOf n k key
  key_of_lane k l is whole key m = record {
    id = m.id;
    range = m.range;
    mark = m.slot.mark;
    body = m.slot.object.body;
    part = m.part;
    home = ap (λ j. lane_of j m.id) (sym is.lanes) ∙ whole.slots.home m.id m.slot m.here ∙ is.lane;
  }

  one_lane : (j k : ℕ) (key : List ℕ) → IsKeyOf n j key → IsKeyOf n k key → j ≡ k
  one_lane j k key a b = sym a.home ∙ ap (lane_of n) (same_id a.id b.id a.range b.range a.mark b.mark a.body b.body key a.part b.part) ∙ b.home

  -- what is marked in some lanes is of one of them
  key_below : (j : ℕ) (ls : List Lane) → AreLanes n j ls → AllByRecursion IsWhole ls → (key : List ℕ) → IsMarkedIn ls key → (k : ℕ) × (k < j + length ls) × IsKeyOf n k key
  key_below j [] lanes whole key m = absurd m
  key_below j (l ∷ ls) lanes whole key (inl m) = (j, omega arith, key_of_lane j l lanes.0 whole.0 key m)
  key_below j (l ∷ ls) lanes whole key (inr m) = let b = key_below (suc j) ls lanes.1 whole.1 key m in (b.0, omega (arith, b.1), b.2)

  pub apart_below : (k : ℕ) (ls : List Lane) (l : Lane) → AreLanes n 0 ls → AllByRecursion IsWhole ls → length ls ≤ k → IsLane n k l → IsWhole l → AreApart (IsMarkedIn ls) (IsMarked l.slots)
  apart_below k ls l lanes wholes few is whole key a b =
      let m = key_below 0 ls lanes wholes key a in
      let same : m.0 ≡ k = one_lane m.0 k key m.2 (key_of_lane k l is whole key b) in
      omega (arith, same, m.1)

pub marked_push : (ls : List Lane) (l : Lane) (key : List ℕ) → IsEither (IsMarkedIn ls) (IsMarked l.slots) key → IsMarkedIn (ls ++ l ∷ []) key
marked_push [] l key (inl m) = absurd m
marked_push [] l key (inr m) = inl m
marked_push (x ∷ ls) l key (inl (inl m)) = inl m
marked_push (x ∷ ls) l key (inl (inr m)) = inr (marked_push ls l key (inl m))
marked_push (x ∷ ls) l key (inr m) = inr (marked_push ls l key (inr m))

pub marked_first : (k : ℕ) (ls : List Lane) (key : List ℕ) → IsMarkedIn (take k ls) key → IsMarkedIn ls key
marked_first zero ls key m = absurd m
marked_first (suc k) [] key m = absurd m
marked_first (suc k) (l ∷ ls) key (inl m) = inl m
marked_first (suc k) (l ∷ ls) key (inr m) = inr (marked_first k ls key m)

-- ---- some first lanes

pub each_first : (P : Lane → Type 0) (k : ℕ) (ls : List Lane) → AllByRecursion P ls → AllByRecursion P (take k ls)
each_first P zero ls h = tt
each_first P (suc k) [] h = tt
each_first P (suc k) (l ∷ ls) h = (h.0, each_first P k ls h.1)

pub each_set : (P : Lane → Type 0) (i : ℕ) (ls : List Lane) (new : Lane) → P new → AllByRecursion P ls → AllByRecursion P (slice_set ls i new)
each_set P i [] new now h = tt
each_set P zero (l ∷ ls) new now h = (now, h.1)
each_set P (suc i) (l ∷ ls) new now h = (h.0, each_set P i ls new now h.1)

pub lanes_first : (n j k : ℕ) (ls : List Lane) → AreLanes n j ls → AreLanes n j (take k ls)
lanes_first n j zero ls h = tt
lanes_first n j (suc k) [] h = tt
lanes_first n j (suc k) (l ∷ ls) h = (h.0, lanes_first n (suc j) k ls h.1)

-- ---- what is held, once records of one lane are put in

same_says : (l new : Lane) → IsSameLane l new → (old held : Held) → ((q : Id) → InRange q → Says (get l.slots q) q old → Says (get new.slots q) q held) → LaneSays old l → LaneSays held new
same_says l new same old held later said q range home = later q range (said q range (ap (λ j. lane_of j q) (sym same.lanes) ∙ home ∙ same.lane))

module _ (n m : ℕ) (added : List Record) (keys : AllByRecursion (λ r. IsKeyOf n m r.0) added) (held : Held) where
  -- another lane is told as it was
  said_away : (k : ℕ) → k ≢ m → (l : Lane) → IsLane n k l → IsWhole l → LaneSays held l → LaneSays (put_all added held) l
  said_away k other l is whole said q range home =
      said_apart q added (all_more (λ r. IsKeyOf n m r.0) (λ r. IsKeyApart q r.0) added (λ r at. marked_apart at.id q at.range range (not_mine at.id at.home) at.mark at.body r.0 at.part) keys)
      held (get l.slots q) (λ s here. whole.slots.kinds q s here) (said q range home) where
        not_mine : (id : Id) → lane_of n id ≡ m → q ≢ id
        not_mine id there same = other (sym is.lane ∙ sym home ∙ ap (λ j. lane_of j q) is.lanes ∙ ap (lane_of n) same ∙ there)

  says_behind : (j : ℕ) → m < j → (ls : List Lane) → AreLanes n j ls → AllByRecursion IsWhole ls → LanesSay ls held → LanesSay ls (put_all added held)
  says_behind j less [] lanes whole said = tt
  says_behind j less (l ∷ ls) lanes whole said =
      (said_away j (λ same. omega (arith, same)) l lanes.0 whole.0 said.0, says_behind (suc j) (omega arith) ls lanes.1 whole.1 said.1)

  -- the lane itself is told as it is now, and the others as they were
  pub said_cut : (j i : ℕ) → m ≡ j + i → (ls : List Lane) (l new : Lane) → AreLanes n j ls → AllByRecursion IsWhole ls → i < length ls → get_or ls i l ≡ l → IsSameLane l new
      → ((q : Id) → InRange q → Says (get l.slots q) q held → Says (get new.slots q) q (put_all added held)) → LanesSay ls held → LanesSay (slice_set ls i new) (put_all added held)
  said_cut j i e [] l new lanes whole few is same later said = absurd (omega arith)
  said_cut j zero e (x ∷ ls) l new lanes whole few is same later said = (
    same_says l new same held (put_all added held) later (subst (λ (y : Lane). LaneSays held y) is said.0),
    says_behind (suc j) (omega (arith, e)) ls lanes.1 whole.1 said.1,
  )
  said_cut j (suc i) e (x ∷ ls) l new lanes whole few is same later said = (
    said_away j (λ y. omega (arith, e, y)) x lanes.0 whole.0 said.0,
    said_cut (suc j) i (omega (arith, e)) ls l new lanes.1 whole.1 (omega arith) is same later said.1,
  )
