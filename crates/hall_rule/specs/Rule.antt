-- The rule between any two steps of a hall.
--     FollowsRule m passes start state    there are lists by which the table's state is as follows
--     ShowsLengths ..      each word is the length of its list
--     AreClaimedOnce ..    each number drawn and each ticket issued is in one pass's hands until it
--                          is passed, and a turn is held under the number that the word shows
--     AreNamedOnce ..      each number below `passes` names one view
--     IsHallHistory ..     the lists are legal, and each second turn has its first
--     AreAtHome ..         a slot whose turn nobody holds has a machine that stands for its list
--     IsViewOf ..          a view has seen beginnings of the lists, holds one turn at most beside
--                          the desk's, and knows all entries under its names
--     first_view, left_by_split, given_by_split, note_of, merged, seeing     views behind steps
use Rattle.std.specs.Prelude.{◌≡◌, ℕ, ◌+◌, ◌-◌, ◌<◌, ◌≤◌, ◌^◌, ◌⊎◌, List, [], ◌∷◌, ◌++◌, length}
use Rattle.std.specs.Prelude.{true, false, cond, Some, None, slice_index}
use mathlib.Core.Option.{some}
use mathlib.Core.Option as maybe
use lib.ListN.{get_elem?}
use Rattle.atomic_table.specs.Table.{State, Me}
use Rattle.lane_histories.specs.Services.{Service}
use Rattle.lane_histories.specs.Histories.{own}
use Rattle.lane_histories.specs.Legal.{IsLegal, SecondsFollow}
use Rattle.hall_rule.specs.declared.queue.Queue.{Queue}
use Rattle.hall_rule.specs.declared.queue.Queue.TheVariants.{OfRegister, OfDesk, OfLane}
use Rattle.hall_rule.specs.declared.queue.Claim.{Claim}
use Rattle.hall_rule.specs.declared.view.Lists.{Lists}
use Rattle.hall_rule.specs.declared.view.View.{View}
use Rattle.hall_rule.specs.declared.view.Start.{Start}
use Rattle.hall_rule.specs.Queues.{limit_of, word_of, slot_of, IsQueue}
use Rattle.hall_rule.specs.Sums.{total, times, once_below, upward}
use Rattle.hall_rule.specs.Seen.{GrowsFrom, GrowsUncut, nothing, len_of, SameList, SeenLists}
use Rattle.hall_rule.specs.Seen.{history_of}
use Rattle.hall_rule.specs.Machines.{Machines, world_of}
use Rattle.hall_rule.specs.Standing.{HallSlot, StandsFor}
use Rattle.hall_rule.specs.Claims.{numbers, waits, holds_at, holds, busy, count_of}

-- the next number that will be drawn, or the next ticket that will be issued
abbrev pub next_of : (service : Service) {N : Type 0} → ℕ → ℕ → SeenLists service N → Queue → ℕ
next_of service register desk h OfRegister = register
next_of service register desk h OfDesk = desk
next_of service register desk h (OfLane lane) = count_of service h.register lane

module _ {Q V T R N X : Type 0} where
  -- the pass's number, those that it may give to others, and those of the passes that were joined
  -- into it
  abbrev pub names : View Q V T R N X → List ℕ
  names v = cond v.live (v.number ∷ (v.spare ++ v.joined)) []

  -- a sum over the claims of all views
  abbrev pub claimed : (Claim → ℕ) → List (View Q V T R N X) → ℕ
  claimed f views = total (λ v. total f v.claims) views

  -- 1 for a view that isn't spent
  abbrev pub alive : View Q V T R N X → ℕ
  alive v = cond v.live 1 0

  -- none of the entries that were seen has a number that the view may give to others
  abbrev pub AreUnused : View Q V T R N X → Type 0
  AreUnused v = (x : ℕ) → 0 < times x v.spare → own x v.seen.register ≡ []

  -- no number stands twice among the names
  abbrev pub AreApart : View Q V T R N X → Type 0
  AreApart v = (x : ℕ) → times x (names v) ≤ 1

-- each list's word shows its length
pub record ShowsLengths {Q V T R N : Type 0} (lanes register_next desk_next : ℕ) (h : Lists Q V T R N)
    (words : List ℕ) : Type 0 where
  pub count : length words ≡ lanes + 4
  pub register_next_is : slice_index words 0 ≡ register_next
  pub desk_next_is : slice_index words 1 ≡ desk_next
  pub shows : (q : Queue) → IsQueue lanes q → slice_index words (word_of q) ≡ len_of h q

-- each number that was drawn or issued and not passed is in hand once, and a turn is held only
-- under the number that the word shows
pub record AreClaimedOnce {Q V T R N X : Type 0} (next len : Queue → ℕ)
    (views : List (View Q V T R N X)) : Type 0 where
  pub once : (q : Queue) (n : ℕ) → claimed (waits q n) views + claimed (holds_at q n)
      views + once_below n (len q) ≡ once_below n (next q)
  pub turns : (q : Queue) → claimed (holds q) views ≡ claimed (holds_at q (len q)) views
  pub early : (q : Queue) (n : ℕ) → 0 < claimed (holds_at q n) views → n < limit_of q
  pub register_drawn : claimed (numbers OfRegister) views + len OfRegister ≡ next OfRegister
  pub desk_drawn : claimed (numbers OfDesk) views + len OfDesk ≡ next OfDesk

-- each number below `passes` is a name of one view, once
pub record AreNamedOnce {Q V T R N X : Type 0} (passes : ℕ) (views : List (View Q V T R N X))
    : Type 0 where
  pub few : passes < 2 ^ 32
  pub named : (x : ℕ) → total (λ v. times x (names v)) views ≡ once_below x passes
  pub all_names : total (λ v. length (names v)) views ≡ passes

-- what a pass knows, and what the state of the hall's table is
abbrev pub HallView : (service : Service) (M N E : Type 0) → Type 0
HallView service M N E =
    View service.Asked service.Verdict service.Task service.Reply N (Start M N E)

abbrev pub HallState : (service : Service) (M N P E : Type 0) → Type 0
HallState service M N P E = State (HallSlot service M N P) (HallView service M N E)

-- a view, and the slots that are out with it
abbrev pub HallHand : (service : Service) (M N P E : Type 0) → Type 0
HallHand service M N P E = Me (HallSlot service M N P) (HallView service M N E)

pub record IsHallHistory {service : Service} {M N P E : Type 0} (m : Machines service M N P E)
    (passes : ℕ) (start : Start M N E) (h : SeenLists service N) : Type 0 where
  pub count : length h.lanes ≡ length start.owners
  pub was_count : length h.was ≡ length start.owners
  pub legal : IsLegal service (world_of m start) (history_of service h)
  pub seconds : SecondsFollow service (history_of service h).lane
  pub short : (q : Queue) → len_of h q ≤ limit_of q
  pub strangers : (x : ℕ) → passes ≤ x → own x h.register ≡ []

-- what the rule says of one view
pub record IsViewOf {service : Service} {M N P E : Type 0} (m : Machines service M N P E)
    (start : Start M N E) (h : SeenLists service N) (v : HallView service M N E) : Type 0 where
  pub start_is : v.live ≡ true → v.start ≡ Some start
  pub begins : v.live ≡ true → GrowsFrom h v.seen
  pub legal : v.live ≡ true → IsLegal service (world_of m start) (history_of service v.seen)
  pub owns : (x : ℕ) → 0 < times x (names v) → (0 < times x v.guests)
      ⊎ (own x h.register ≡ own x v.seen.register)
  pub guest_begins : v.live ≡ true → GrowsFrom h v.guest_seen
  pub guest_owns : (x : ℕ) → 0 < times x v.guests → own x h.register ≡ own x v.guest_seen.register
  pub guest_names : (x : ℕ) → times x v.guests ≤ times x (names v)
  pub unused : (x : ℕ) → v.live ≡ true → 0 < times x v.spare → own x h.register ≡ []
  -- who holds a turn has seen its list whole
  pub current : (q : Queue) → 0 < total (holds q) v.claims → SameList q v.seen h
  -- who holds the desk's turn has seen each cut
  pub uncut : 0 < total (holds OfDesk) v.claims → GrowsUncut h v.seen
  pub one_register : total (numbers OfRegister) v.claims ≤ alive v
  pub one_desk : total (numbers OfDesk) v.claims ≤ alive v
  pub one_turn : total busy v.claims ≤ 1
  pub idle : v.live ≡ false → v.claims ≡ []

-- a slot whose turn nobody holds is at home, and its machine stands for the list
pub record AreAtHome {service : Service} {M N P E : Type 0} (m : Machines service M N P E)
    (start : Start M N E) (h : SeenLists service N) (views : List (HallView service M N E))
    (homes : List (maybe.Option (HallSlot service M N P))) : Type 0 where
  pub count : length homes ≡ length start.owners + 2
  pub home : (q : Queue) → IsQueue (length start.owners) q → claimed (holds q) views ≡ 0
      → (s : HallSlot service M N P) × (get_elem? homes (slot_of q) ≡ some (some s))
      × StandsFor m q s start h

pub record FollowsRule {service : Service} {M N P E : Type 0} (m : Machines service M N P E)
    (passes : ℕ) (start : Start M N E)
    (s : HallState service M N P E) : Type 0 where
  pub history : SeenLists service N
  pub register_next : ℕ
  pub desk_next : ℕ
  pub words_show : ShowsLengths (length start.owners) register_next desk_next history s.words
  pub claims_once : AreClaimedOnce (next_of service register_next desk_next history)
      (len_of history)
      s.views
  pub names_once : AreNamedOnce passes s.views
  pub lists_are : IsHallHistory m passes start history
  pub homes_are : AreAtHome m start history s.views s.homes
  pub views_are : (id : ℕ) (v : HallView service M N E) → get_elem? s.views id ≡ some v
      → IsViewOf m start history v

abbrev pub head_or_zero : List ℕ → ℕ
head_or_zero [] = 0
head_or_zero (x ∷ xs) = x

abbrev pub tail_of : List ℕ → List ℕ
tail_of [] = []
tail_of (x ∷ xs) = xs

module _ {Q V T R N X : Type 0} where
  abbrev pub first_view : ℕ → List N → X → View Q V T R N X
  first_view passes owners start = record {
    live = true;
    number = 0;
    spare = upward 1 (passes - 1);
    joined = [];
    claims = [];
    start = Some start;
    seen = nothing owners;
    guests = [];
    guest_seen = nothing owners;
  }

  -- a view that was joined into another
  abbrev pub spent_view : View Q V T R N X
  spent_view = record {
    live = false;
    number = 0;
    spare = [];
    joined = [];
    claims = [];
    start = None;
    seen = nothing [];
    guests = [];
    guest_seen = nothing [];
  }

  -- what a pass keeps at a split, and the pass that it gives away
  abbrev pub left_by_split : View Q V T R N X → View Q V T R N X
  left_by_split v = record v { spare = tail_of v.spare }

  abbrev pub given_by_split : View Q V T R N X → View Q V T R N X
  given_by_split v = record {
    live = true;
    number = head_or_zero v.spare;
    spare = [];
    joined = [];
    claims = [];
    start = v.start;
    seen = v.seen;
    guests = [];
    guest_seen = v.seen;
  }

  -- a view with no name, which has the lists that a pass has seen
  abbrev pub note_of : View Q V T R N X → View Q V T R N X
  note_of v = record {
    live = false;
    number = 0;
    spare = [];
    joined = [];
    claims = [];
    start = v.start;
    seen = v.seen;
    guests = [];
    guest_seen = v.seen;
  }

  -- two passes are joined; a load then tells what the guest's lists mean
  abbrev pub merged : View Q V T R N X → View Q V T R N X → View Q V T R N X
  merged v w = record {
    live = v.live;
    number = v.number;
    spare = v.spare ++ w.spare;
    joined = (v.joined ++ w.number ∷ []) ++ w.joined;
    claims = v.claims;
    start = v.start;
    seen = v.seen;
    guests = names w;
    guest_seen = w.seen;
  }

  -- the view has seen these lists, and has these claims
  abbrev pub seeing : View Q V T R N X → List Claim → Lists Q V T R N → View Q V T R N X
  seeing v claims h = record v { claims = claims; seen = h; guests = []; guest_seen = h }
