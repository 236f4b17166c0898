-- What a worker's visits to the links of its door have to do with the entries of its pass.
--     Visit                    a link that a door gave, as it was given and as it was given back
--     telling door link        what a door and its links tell
--     AreServed tells vs s t   links served one after another
--     Attends ..               they were taken in order and given back, with one end each
--     Works ..                 a worker's whole work at its door
use Rattle.std.specs.Prelude.{◌≡◌, ◌⊎◌, ℕ, ◌≤◌, List, [], ◌∷◌, ◌++◌, length, map, Option, Some, None, Bool, true, false, ⊤}
use Rattle.std.specs.Io.KnownBytes.{Appends, Consumes}
use Rattle.edge_traits.specs.Causes.{Rose}
use Rattle.edge_traits.specs.declared.door.Door as doors
use Rattle.edge_traits.specs.declared.source.Source as sources
use Rattle.edge_traits.specs.declared.sink.Sink as sinks
use Rattle.rest_session.specs.Links.Links.{HasCauses, IsTranscript}
use Rattle.rest_session.specs.declared.links.end.LinkEnd.{LinkEnd}
use Rattle.rest_session.specs.Halls.Accounts.{Account}
use Rattle.rest_session.specs.Halls.Asking.{IsAskedOf}

-- ---- lists that an object may tell

-- a told list loses these first elements, in order
abbrev pub LosesFront : {A : Type 0} → Option (List A) → Option (List A) → List A → Type 0
LosesFront None now xs = ⊤
LosesFront (Some all) None xs = ⊥
LosesFront (Some all) (Some rest) xs = all ≡ xs ++ rest

-- a told list gains these elements at its end, in order
abbrev pub GainsBack : {A : Type 0} → Option (List A) → Option (List A) → List A → Type 0
GainsBack None now xs = ⊤
GainsBack (Some before) None xs = ⊥
GainsBack (Some before) (Some now) xs = now ≡ before ++ xs

-- these are all elements of a told list
abbrev pub IsAllOf : {A : Type 0} → Option (List A) → List A → Type 0
IsAllOf None xs = ⊤
IsAllOf (Some all) xs = all ≡ xs

-- ---- visits

-- a link that a door gave, as it was given and as it was given back, and the account of the pass before and behind it
pub record Visit (L : Type 0) : Type 0 where
  pub link : L
  pub after : L
  pub end : LinkEnd
  pub begin : Account
  pub now : Account

-- what a door tells: the links that are left and that were given back, how many are out, and its faults; and what a link tells: the
-- bytes that are left and that were written, and its faults
pub record Telling (F L : Type 0) : Type 0 where
  pub left : F → Option (List L)
  pub ended : F → Option (List L)
  pub out : F → ℕ
  pub faults : F → ℕ
  pub bytes : L → Option (List ℕ)
  pub written : L → Option (List ℕ)
  pub read_faults : L → ℕ
  pub write_faults : L → ℕ

abbrev pub telling : {F L : Type 0} → doors.Ghosts F L → sources.Ghosts L → sinks.Ghosts L → Telling F L
telling d r w = record {
  left = d.left;
  ended = d.ended;
  out = d.out;
  faults = d.faults;
  bytes = r.left;
  written = w.held;
  read_faults = r.faults;
  write_faults = w.faults;
}

-- the transcript of a link, by the entries of the pass
pub record IsVisit {F L : Type 0} (tells : Telling F L) (v : Visit L) : Type 0 where
  pub taken : List ℕ
  pub sent : List ℕ
  pub consumed : Consumes (tells.bytes v.link) (tells.bytes v.after) taken
  pub appended : Appends (tells.written v.link) (tells.written v.after) sent
  pub transcript : IsTranscript IsAskedOf v.begin taken sent (tells.bytes v.after) v.now v.end
  pub causes : HasCauses (tells.read_faults v.link) (tells.read_faults v.after) (tells.write_faults v.link) (tells.write_faults v.after) v.end

-- one link after another: each begins where the one before it left the account
abbrev pub AreServed : {F L : Type 0} → Telling F L → List (Visit L) → Account → Account → Type 0
AreServed tells [] s t = t ≡ s
AreServed tells (v ∷ vs) s t = (v.begin ≡ s) × IsVisit tells v × AreServed tells vs v.now t

module _ {F L : Type 0} (tells : Telling F L) where
  -- the links were taken in order and each was given back, with one end each; they were served one after another
  pub record Attends (visits : List (Visit L)) (door now : F) (ends ends_now : List LinkEnd) (s t : Account) : Type 0 where
    pub taken : LosesFront (tells.left door) (tells.left now) (map (λ v. v.link) visits)
    pub given_back : GainsBack (tells.ended door) (tells.ended now) (map (λ v. v.after) visits)
    pub none_out : tells.out now ≡ tells.out door
    pub one_end_each : ends_now ≡ ends ++ map (λ v. v.end) visits
    pub served : AreServed tells visits s t
    pub later : tells.faults door ≤ tells.faults now

  -- the door was asked until it had none left or had given so many links, unless it failed
  abbrev pub IsAskedToTheEnd : ℕ → F → List L → Bool → Type 0
  IsAskedToTheEnd links door given true = Unit {0}
  IsAskedToTheEnd links door given false = (length given ≡ links) ⊎ IsAllOf (tells.left door) given

  -- a door failed only where its count of faults rose
  abbrev pub IsFailedFor : F → F → Bool → Type 0
  IsFailedFor door now true = Rose (tells.faults door) (tells.faults now)
  IsFailedFor door now false = Unit {0}

  -- a worker's whole work at its door
  pub record Works (links : ℕ) (door now : F) (ends : List LinkEnd) (s t : Account) (failed : Bool) : Type 0 where
    pub visits : List (Visit L)
    pub attends : Attends visits door now [] ends s t
    pub few : length visits ≤ links
    pub asked : IsAskedToTheEnd links door (map (λ v. v.link) visits) failed
    pub cause : IsFailedFor door now failed
