-- What a pass has in hand behind its entry, and what an `ask` does.
--     MayServe ..     the tickets of an entry are in hand
--     ArePassed ..    all tickets of an entry were passed
--     HasServed ..    all were passed, and this is what the turns came to
--     HasAsked ..     the whole `ask`: one entry of its own, and the reply of its place
use Rattle.std.specs.Prelude.{◌≡◌, ◌≢◌, ℕ, ◌<◌, List, [], ◌∷◌, ◌++◌, Some}
use Rattle.lane_histories.specs.Services.{Service}
use Rattle.lane_histories.specs.Histories.{IsIn, StartsWith, Ticket, own, places, register_after}
use Rattle.lane_histories.specs.Histories.{tickets, tickets_of}
use Rattle.lane_histories.specs.declared.items.RegisterItem.{RegisterItem}
use Rattle.lane_histories.specs.declared.items.Entry.{Entry}
use Rattle.lane_histories.specs.declared.items.RegisterItem.TheVariants.{Entered}
use Rattle.lane_histories.specs.Legal.{IsLegal}
use Rattle.lane_histories.specs.Replies.{What, turns_what, reply}
use Rattle.hall_rule.specs.declared.view.Start.{Start}
use Rattle.hall_rule.specs.Sums.{times}
use Rattle.hall_rule.specs.Machines.{Machines, world_of}
use Rattle.hall_rule.specs.Seen.{GrowsFrom, SeenLists, history_of, lane_of, lanes_of}
use Rattle.hall_rule.specs.Claims.{claims_of, count_of}
use Rattle.hall_rule.specs.Rule.{names, HallView, seeing}
use Rattle.hall_rule.specs.WholeTurns.{IsPass, entry_behind}

-- each ticket of the entry has its item in its lane
abbrev pub ArePassed : (service : Service) {N : Type 0} → SeenLists service N
    → Entry service.Asked service.Verdict → Type 0
ArePassed service h e = (lane : ℕ) (ticket : Ticket service.Task)
    → IsIn (tickets_of service lane (Entered e)) ticket
    → IsIn (tickets (lane_of h.lanes lane)) ticket

-- the pass has the tickets of its entry in hand, and nothing else
pub record MayServe {service : Service} {M N P E : Type 0} (m : Machines service M N P E)
    (start : Start M N E) (before : List (RegisterItem service.Asked service.Verdict))
    (e : Entry service.Asked service.Verdict) (v : HallView service M N E) : Type 0 where
  pub pass : IsPass start v
  pub fresh : v ≡ seeing v v.claims v.seen
  pub entered : StartsWith v.seen.register (before ++ Entered e ∷ [])
  pub is_claims : v.claims ≡ claims_of (count_of service before)
      (lanes_of service.lanes (service.turns e.asked e.verdict))
  pub legal : IsLegal service (world_of m start) (history_of service v.seen)

-- every ticket was passed, each entry that is new is another pass's, and this is what the entry's
-- turns came to
pub record HasServed {service : Service} {M N P E : Type 0} (m : Machines service M N P E)
    (start : Start M N E) (e : Entry service.Asked service.Verdict)
    (what : What service.Verdict service.Reply) (v w : HallView service M N E) : Type 0 where
  pub seen : SeenLists service N
  pub is : w ≡ seeing v [] seen
  pub longer : GrowsFrom seen v.seen
  pub own_same : (x : ℕ) → 0 < times x (names v) → own x seen.register ≡ own x v.seen.register
  pub legal : IsLegal service (world_of m start) (history_of service seen)
  pub passed : ArePassed service seen e
  pub what_is : turns_what service (history_of service seen).lane e
      (service.turns e.asked e.verdict) ≡ Some what

-- What an `ask` leaves. The lists seen before are beginnings of those seen now, which are legal.
-- The pass's own entries have grown by this one, which stands at this place, and each of its
-- tickets was passed; its verdict is one that the register gives there, and the answer is the
-- place's reply.
pub record HasAsked {service : Service} {M N P E : Type 0} (m : Machines service M N P E)
    (start : Start M N E) (place : ℕ) (asked : service.Asked) (verdict : service.Verdict)
    (what : What service.Verdict service.Reply) (v w : HallView service M N E) : Type 0 where
  pub before : SeenLists service N
  pub seen : SeenLists service N
  pub is : w ≡ seeing v [] seen
  pub longer : GrowsFrom seen v.seen
  pub legal : IsLegal service (world_of m start) (history_of service seen)
  pub begins : GrowsFrom before v.seen
  pub place_is : place ≡ places before.register
  pub entered : StartsWith seen.register
      (before.register ++ Entered (entry_behind before.register v.number asked verdict) ∷ [])
  pub decided : service.MayAnswer (register_after service (world_of m start).register
      before.register) asked verdict
  pub own_grew : own v.number seen.register
      ≡ own v.number v.seen.register ++ entry_behind before.register v.number asked verdict ∷ []
  pub own_others : (x : ℕ) → v.number ≢ x → 0 < times x (names v)
      → own x seen.register ≡ own x v.seen.register
  pub passed : ArePassed service seen (entry_behind before.register v.number asked verdict)
  pub replied : reply service (history_of service seen) place ≡ Some what
