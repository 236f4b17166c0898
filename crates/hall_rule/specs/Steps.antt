-- What each step tells the pass that takes it.
--     HasDrawn, HasCounted, HasSpared, HasLooked, PassesTurn, HasLearnt    what each kind does to
--                     a view
--     HasTaken ..     a look took a turn: its machine, and the lists as they are
--     HasPassed ..    the item beside the machine joined its list
--     HasGrown ..     the lists go on from those that a view had seen
--     news_of ..      the item that lies beside a machine, in words of the lists seen
use Rattle.std.specs.Prelude.{◌≡◌, ℕ, ◌<◌, ◌≤◌, ◌⊎◌, List, [], ◌∷◌, ◌++◌, length, true, false}
use Rattle.std.specs.Prelude.{Option, Some, None, option_map, slice_get}
use Rattle.atomic_table.specs.Table.{Me, Step, rest}
use Rattle.std.specs.declared.snapshot.Snapshot.{Snapshot}
use Rattle.lane_histories.specs.Services.{Service}
use Rattle.lane_histories.specs.Histories.{Ticket, part_of, cut_of, own, places, drawn, issued}
use Rattle.lane_histories.specs.declared.items.RegisterItem.{RegisterItem}
use Rattle.lane_histories.specs.declared.items.Outcome.{Outcome}
use Rattle.lane_histories.specs.declared.items.LaneItem.{LaneItem}
use Rattle.lane_histories.specs.declared.items.RegisterItem.TheVariants.{Entered, DrawnCut}
use Rattle.lane_histories.specs.declared.items.RegisterItem.TheVariants.{RegisterCut}
use Rattle.lane_histories.specs.declared.items.Outcome.TheVariants.{Done, Short, Skipped}
use Rattle.lane_histories.specs.declared.items.LaneItem.TheVariants.{Passed, WasCut}
use Rattle.lane_histories.specs.Legal.{IsLegal}
use Rattle.hall_rule.specs.declared.queue.Queue.{Queue}
use Rattle.hall_rule.specs.declared.queue.Queue.TheVariants.{OfRegister, OfDesk, OfLane}
use Rattle.hall_rule.specs.declared.queue.Claim.{Claim}
use Rattle.hall_rule.specs.declared.view.View.{View}
use Rattle.hall_rule.specs.declared.view.Start.{Start}
use Rattle.hall_rule.specs.declared.slot.RegisterNews.{RegisterNews}
use Rattle.hall_rule.specs.declared.slot.RegisterNews.TheVariants.{Asks, Draws, Cuts}
use Rattle.hall_rule.specs.declared.slot.LaneNews.{LaneNews}
use Rattle.hall_rule.specs.declared.slot.LaneNews.TheVariants.{Acts, Cuts as CutsLane}
use Rattle.hall_rule.specs.declared.slot.Slot.TheVariants.{Away, AtRegister, AtDesk, AtLane}
use Rattle.hall_rule.specs.Queues.{limit_of, slot_of}
use Rattle.hall_rule.specs.Sums.{total, times}
use Rattle.hall_rule.specs.Machines.{Machines, world_of}
use Rattle.hall_rule.specs.Seen.{GrowsFrom, GrowsUncut, len_of, SameList, SeenLists, history_of}
use Rattle.hall_rule.specs.Seen.{Item, at_register, at_desk, at_lane, queue_of, pushed}
use Rattle.hall_rule.specs.Claims.{claim, holds, issued_by}
use Rattle.hall_rule.specs.Standing.{HallSlot, StandsFor}
use Rattle.hall_rule.specs.Rule.{AreApart, AreUnused, names, HallView, HallHand, seeing}

-- what a turn of the register adds behind these items
abbrev pub register_item : {Q V : Type 0} → List (RegisterItem Q V) → ℕ → RegisterNews Q V
    → RegisterItem Q V
register_item register by (Asks asked verdict) =
    Entered (record {
      place = places register;
      by = by;
      asked = asked.value;
      verdict = verdict.value;
    })
register_item register by Draws = DrawnCut (drawn register) (places register)
register_item register by (Cuts found) = RegisterCut (places register) found

abbrev pub plain_outcome : {R : Type 0} → Outcome (Snapshot R) → Outcome R
plain_outcome (Done reply) = Done reply.value
plain_outcome Short = Short
plain_outcome Skipped = Skipped

-- what a turn of a lane adds, with this ticket
abbrev pub lane_item : {T R : Type 0} → Option (Ticket T) → LaneNews R → Option (LaneItem T R)
lane_item None news = None
lane_item (Some (part_of place part task)) (Acts outcome) =
    Some (Passed place part task (plain_outcome outcome))
lane_item (Some (part_of place part task)) (CutsLane found) = None
lane_item (Some (cut_of number at)) (Acts outcome) = None
lane_item (Some (cut_of number at)) (CutsLane found) = Some (WasCut number at found)

-- the slot of a lane with its owner, and what a turn did
abbrev pub lane_slot : {service : Service} {M N P E : Type 0} → Machines service M N P E → N
    → LaneNews service.Reply → HallSlot service M N P
lane_slot m owner news = AtLane (record { owner = owner; news = Some news })

abbrev pub and_then : {X Y : Type 0} → Option X → (X → Option Y) → Option Y
and_then None f = None
and_then (Some x) f = f x

module _ {service : Service} {M N P E : Type 0} (m : Machines service M N P E) where
  -- the item that lies beside the machine in a slot that was taken at this queue's turn, under this
  -- number
  abbrev pub news_of : SeenLists service N → ℕ → Queue → ℕ → HallSlot service M N P
      → Option (Item service.Asked service.Verdict service.Task service.Reply N)
  news_of seen by OfRegister n Away = None
  news_of seen by OfRegister n (AtRegister d) =
      option_map (λ news. at_register (register_item seen.register by news)) d.news
  news_of seen by OfRegister n (AtDesk d) = None
  news_of seen by OfRegister n (AtLane d) = None
  news_of seen by OfDesk n Away = None
  news_of seen by OfDesk n (AtRegister d) = None
  news_of seen by OfDesk n (AtDesk d) = option_map at_desk (m.news d)
  news_of seen by OfDesk n (AtLane d) = None
  news_of seen by (OfLane lane) n Away = None
  news_of seen by (OfLane lane) n (AtRegister d) = None
  news_of seen by (OfLane lane) n (AtDesk d) = None
  news_of seen by (OfLane lane) n (AtLane d) =
      option_map (λ i. at_lane lane i d.owner) (and_then d.news
      (lane_item (slice_get (issued service lane seen.register) n)))

  -- the item that lies beside the machine that was taken last, for the queue of the newest claim
  abbrev pub head_news : SeenLists service N → ℕ → List Claim → List (ℕ × HallSlot service M N P)
      → Option (Item service.Asked service.Verdict service.Task service.Reply N)
  head_news seen by [] slots = None
  head_news seen by (c ∷ cs) [] = None
  head_news seen by (c ∷ cs) (x ∷ xs) = news_of seen by c.queue c.number x.1

abbrev pub others_of : List Claim → List Claim
others_of [] = []
others_of (c ∷ cs) = cs

-- the lists go on from all that the view has seen, have no more of its own entries, and are legal
pub record HasGrown {service : Service} {M N P E : Type 0} (m : Machines service M N P E)
    (start : Start M N E) (v : HallView service M N E) (h : SeenLists service N) : Type 0 where
  pub start_is : v.start ≡ Some start
  pub legal : IsLegal service (world_of m start) (history_of service h)
  pub begins : GrowsFrom h v.seen
  pub owns : (x : ℕ) → 0 < times x (names v) → (0 < times x v.guests)
      ⊎ (own x h.register ≡ own x v.seen.register)
  pub guest_begins : GrowsFrom h v.guest_seen
  pub guest_owns : (x : ℕ) → 0 < times x v.guests → own x h.register ≡ own x v.guest_seen.register
  pub unused : (x : ℕ) → 0 < times x v.spare → own x h.register ≡ []

module _ {Z Q V T R N X : Type 0} where
  abbrev pub HasDrawn : Queue → Step Z → Me Z (View Q V T R N X) → ℕ → Me Z (View Q V T R N X) → Type 0
  HasDrawn q st me n me' = (me'.1 ≡ me.1)
      × (me'.0 ≡ record me.0 { claims = claim q n false ∷ me.0.claims })

  -- the number of items shown is at least that of those seen
  abbrev pub HasCounted : Step Z → Me Z (View Q V T R N X) → ℕ → Me Z (View Q V T R N X) → Type 0
  HasCounted st me n me' = (me' ≡ me) × (length me.0.seen.register ≤ n)

  -- nothing was asked under the numbers that the view may give away
  abbrev pub HasSpared : Step Z → Me Z (View Q V T R N X) → ℕ → Me Z (View Q V T R N X) → Type 0
  HasSpared st me n me' = (me' ≡ me) × AreUnused me.0

-- the number was shown: the machine that was taken out stands for its list, and the view has seen
-- all lists
pub record HasTaken {service : Service} {M N P E : Type 0} (m : Machines service M N P E)
    (start : Start M N E) (c : Claim) (others : List Claim) (me me' : HallHand service M N P E)
    : Type 0 where
  pub slot : HallSlot service M N P
  pub seen : SeenLists service N
  pub is : me' ≡ (
    seeing me.0 (record c { held = true } ∷ others) seen,
    (slot_of c.queue, slot) ∷ me.1,
  )
  pub grown : HasGrown m start me.0 seen
  pub stands : StandsFor m c.queue slot start seen
  pub shown : c.number ≡ len_of seen c.queue
  pub early : c.number < limit_of c.queue
  pub sized : length seen.lanes ≡ length start.owners
  -- the lists whose turns the pass holds already have not grown
  pub kept : (q : Queue) → 0 < total (holds q) others → SameList q me.0.seen seen
  -- and where it holds the desk's turn nobody has cut
  pub uncut : 0 < total (holds OfDesk) others → GrowsUncut seen me.0.seen

-- The item joined the lists: `mid` are the hall's a moment before, in which each list begins with
-- that of `front`.
pub record WasAdded {service : Service} {M N P E : Type 0} (m : Machines service M N P E)
    (start : Start M N E) (item : Item service.Asked service.Verdict service.Task service.Reply N)
    (front seen : SeenLists service N) : Type 0 where
  pub mid : SeenLists service N
  pub begins : GrowsFrom mid front
  pub legal : IsLegal service (world_of m start) (history_of service mid)
  pub seen_is : seen ≡ pushed mid item

-- the item joined its list, and the view has seen all lists
pub record HasPassed {service : Service} {M N P E : Type 0} (m : Machines service M N P E)
    (start : Start M N E) (item : Item service.Asked service.Verdict service.Task service.Reply N)
    (v w : HallView service M N E) : Type 0 where
  pub seen : SeenLists service N
  pub is : w ≡ seeing v (issued_by service v.seen item ++ others_of v.claims) seen
  pub same : SameList (queue_of item) (pushed v.seen item) seen
  pub grown : HasGrown m start (record v { seen = pushed v.seen item }) seen
  pub kept : (q : Queue) → 0 < total (holds q) (others_of v.claims) → SameList q v.seen seen
  pub added : WasAdded m start item v.seen seen
  -- nobody else added to the item's list, and where the view holds the desk's turn nobody has cut
  pub alone : SameList (queue_of item) v.seen added.mid
  pub uncut : 0 < total (holds OfDesk) (others_of v.claims) → GrowsUncut added.mid v.seen

module _ {service : Service} {M N P E : Type 0} (m : Machines service M N P E) where
  abbrev pub HasLookedAt : List Claim → HallHand service M N P E → ℕ → HallHand service M N P E → Type 0
  HasLookedAt [] me k me' = me' ≡ me
  HasLookedAt (c ∷ others) me k me' =
      (k ≡ c.number → c.number < limit_of c.queue → (start : Start M N E)
      × HasTaken m start c others me me')
      × (((k ≡ c.number) × (c.number < limit_of c.queue) → ⊥) → me' ≡ me)

  -- a look for the turn of the newest claim
  abbrev pub HasLooked : Step (HallSlot service M N P) → HallHand service M N P E → ℕ
      → HallHand service M N P E → Type 0
  HasLooked st me k me' = HasLookedAt me.0.claims me k me'

  -- the item beside the machine joined its list, and the slot went home
  abbrev pub PassesTurn : Step (HallSlot service M N P) → HallHand service M N P E → ℕ
      → HallHand service M N P E → Type 0
  PassesTurn st me k me' = (item : Item service.Asked service.Verdict service.Task service.Reply N)
      → head_news m me.0.seen me.0.number me.0.claims me.1 ≡ Some item → (start : Start M N E)
      × (me'.1 ≡ rest me.1) × HasPassed m start item me.0 me'.0

  -- a load that tells a pass what it has seen, and what those that were joined into it had
  abbrev pub HasLearnt : Step (HallSlot service M N P) → HallHand service M N P E → ℕ
      → HallHand service M N P E → Type 0
  HasLearnt st me k me' = (h : SeenLists service N) × (start : Start M N E)
      × (me' ≡ (seeing me.0 me.0.claims h, me.1)) × HasGrown m start me.0 h × AreApart me.0
