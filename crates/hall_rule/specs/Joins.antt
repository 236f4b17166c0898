-- What a join leaves.
--     HasJoined m start v w u    the pass v has taken in the pass w, and is u
use Rattle.std.specs.Prelude.{◌≡◌, ℕ, ◌+◌, ◌<◌, [], ◌∷◌, ◌++◌, length}
use Rattle.lane_histories.specs.Services.{Service}
use Rattle.lane_histories.specs.Histories.{own}
use Rattle.lane_histories.specs.Legal.{IsLegal}
use Rattle.hall_rule.specs.declared.view.Start.{Start}
use Rattle.hall_rule.specs.Sums.{times}
use Rattle.hall_rule.specs.Machines.{Machines, world_of}
use Rattle.hall_rule.specs.Seen.{GrowsFrom, SeenLists, history_of}
use Rattle.hall_rule.specs.Rule.{names, HallView}

-- The pass has seen lists that begin with what each of the two had seen, and that have of each no
-- more entries than it had seen. It has the names of both.
pub record HasJoined {service : Service} {M N P E : Type 0} (m : Machines service M N P E)
    (start : Start M N E) (v w u : HallView service M N E) : Type 0 where
  pub seen : SeenLists service N
  pub is : u ≡ record v {
    spare = v.spare ++ w.spare;
    joined = (v.joined ++ w.number ∷ []) ++ w.joined;
    seen = seen;
    guests = [];
    guest_seen = seen;
  }
  pub mine_begin : GrowsFrom seen v.seen
  pub theirs_begin : GrowsFrom seen w.seen
  pub mine_same : (x : ℕ) → 0 < times x (names v) → own x seen.register ≡ own x v.seen.register
  pub theirs_same : (x : ℕ) → 0 < times x (names w) → own x seen.register ≡ own x w.seen.register
  pub legal : IsLegal service (world_of m start) (history_of service seen)
  pub both_names : (x : ℕ) → times x (names u) ≡ times x (names v) + times x (names w)
  pub as_many : length (names u) ≡ length (names v) + length (names w)
