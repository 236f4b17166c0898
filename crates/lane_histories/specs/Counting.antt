-- A register that counts what it gave out.
-- CountsTickets s counts    each verdict and each drawn cut adds its tickets to the lanes' counts
--     CountsPlaces s count      and each verdict a place
--     RegistersCount s          so the counts are those of its list
use Rattle.std.specs.Prelude.{◌≡◌, ℕ, ◌+◌, ◌*◌, ◌≤◌, Bool, length}
use Rattle.lane_histories.specs.Services.{Service, World}
use Rattle.lane_histories.specs.Histories.{History, Ticket, cut_of, in_each, issued, places}
use Rattle.lane_histories.specs.Histories.{register_after, tickets_for}
use Rattle.lane_histories.specs.Legal.{IsLegal}

pub record CountsTickets (s : Service) (counts : s.Register → ℕ → ℕ) : Type 0 where
  pub decided : (d : s.Register) (asked : s.Asked) (verdict : s.Verdict) (l place : ℕ)
      → s.MayAnswer d asked verdict → counts (s.decided d asked verdict) l
      ≡ counts d l + length (tickets_for s l place (s.turns asked verdict))
  pub drawn : (d : s.Register) (l number c : ℕ)
      → counts (s.drawn d) l ≡ counts d l + length
      (in_each {X = Ticket s.Task} s.lanes l (cut_of number c))
  pub recorded : (d : s.Register) (l : ℕ) (found : Bool)
      → counts (s.recorded found d) l ≡ counts d l

pub record CountsPlaces (s : Service) (count : s.Register → ℕ) : Type 0 where
  pub decided : (d : s.Register) (asked : s.Asked) (verdict : s.Verdict)
      → s.MayAnswer d asked verdict
      → count (s.decided d asked verdict) ≡ count d + 1
  pub drawn : (d : s.Register) → count (s.drawn d) ≡ count d
  pub recorded : (d : s.Register) (found : Bool) → count (s.recorded found d) ≡ count d

pub record RegistersCount (s : Service) : Type 0 where
  pub tickets : (counts : s.Register → ℕ → ℕ) → CountsTickets s counts
      → (start : World s) (h : History s)
      → IsLegal s start h → (l : ℕ) → counts (register_after s start.register h.register) l
      ≡ counts start.register l + length (issued s l h.register)
  pub places : (count : s.Register → ℕ) → CountsPlaces s count → (start : World s) (h : History s)
      → IsLegal s start h
      → count (register_after s start.register h.register)
      ≡ count start.register + places h.register
  -- an item issues two tickets in a lane at most
  pub few : (h : History s) (l : ℕ) → length (issued s l h.register) ≤ 2 * length h.register
