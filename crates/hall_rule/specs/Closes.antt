-- What the end of a hall gives back.
--     HasClosed m start v register owners desk    machines that one history has brought so far
use Rattle.std.specs.Prelude.{◌≡◌, ℕ, ◌<◌, ◌≤◌, List, [], length}
use mathlib.Core.Option.{some}
use lib.ListN.{get_elem?}
use Rattle.lane_histories.specs.Services.{Service}
use Rattle.lane_histories.specs.Histories.{IsIn, entries, issued, own, tickets}
use Rattle.lane_histories.specs.declared.items.Entry.{Entry}
use Rattle.lane_histories.specs.declared.items.RegisterItem.TheVariants.{Entered}
use Rattle.hall_rule.specs.declared.view.Start.{Start}
use Rattle.hall_rule.specs.Machines.{Machines}
use Rattle.hall_rule.specs.Standing.{IsDeskOf, IsOwnerOf, IsRegisterOf}
use Rattle.hall_rule.specs.Seen.{SeenLists, lane_of}
use Rattle.hall_rule.specs.Rule.{HallView, names}
use Rattle.hall_rule.specs.Sums.{times}
use Rattle.hall_rule.specs.Steps.{HasGrown}

-- There is one legal history, which begins with all that the last pass had seen. The pass has seen
-- each of its entries, each of them is of one of its numbers, which are those below their count, and
-- each ticket was passed. Each machine is where its list of it has brought it.
pub record HasClosed {service : Service} {M N P E : Type 0} (m : Machines service M N P E)
    (start : Start M N E) (v : HallView service M N E) (register : M) (owners : List N)
    (desk : P) : Type 0 where
  pub seen : SeenLists service N
  pub grown : HasGrown m start v seen
  pub all_seen : entries seen.register ≡ entries v.seen.register
  pub named : (e : Entry service.Asked service.Verdict) → IsIn seen.register (Entered e)
      → 0 < times e.by (names v)
  pub strangers : (x : ℕ) → length (names v) ≤ x → own x seen.register ≡ []
  pub all_passed : (lane : ℕ)
      → tickets (lane_of seen.lanes lane) ≡ issued service lane seen.register
  pub register_is : IsRegisterOf m start seen.register register
  pub desk_is : IsDeskOf m start seen desk
  pub count : length owners ≡ length start.owners
  pub owners_are : (lane : ℕ) → lane < length start.owners → (o : N)
      × (get_elem? owners lane ≡ some o) × IsOwnerOf m start seen lane o
