-- The replay in which each turn finds memory: requests are done one after another.
--     plainly s items w         the world after some items of the register's list
--     plain_answers s items w   what the requests are answered, in order of places
use Rattle.std.specs.Prelude.{ℕ, Bool, true, false, List, [], ◌∷◌, if◌then◌else◌, nat_lt}
use Rattle.lane_histories.specs.Services.{Service, Turns, World, no_turn, one_turn, two_turns, each_lane}
use Rattle.lane_histories.specs.Histories.{RegisterItem, Entered, DrawnCut, RegisterCut, RegisterList, changed_at}
use Rattle.lane_histories.specs.Replies.{What, by_register, by_turn}

-- the objects after the turns, each done; a second only where the first went well
abbrev pub second_done : (s : Service) → Bool → ℕ → s.Task → (ℕ → s.Objects) → ℕ → s.Objects
second_done s true b next o = changed_at b (s.acted next (o b)).1 o
second_done s false b next o = o

abbrev pub turns_done : (s : Service) → Turns s.Task → (ℕ → s.Objects) → ℕ → s.Objects
turns_done s no_turn o = o
turns_done s (one_turn l task) o = changed_at l (s.acted task (o l)).1 o
turns_done s (two_turns a task b next) o =
    second_done s (s.went_well (s.acted task (o a)).0) b next (changed_at a (s.acted task (o a)).1 o)
turns_done s (each_lane task) o = λ l. if nat_lt l s.lanes then (s.acted task (o l)).1 else o l

abbrev pub plain_step : (s : Service) → World s → RegisterItem s.Asked s.Verdict → World s
plain_step s w (Entered e) =
    record { register = s.decided w.register e.asked e.verdict; objects = turns_done s (s.turns e.asked e.verdict) w.objects }
plain_step s w (DrawnCut number c) = record w { register = s.drawn w.register }
plain_step s w (RegisterCut p found) = record w { register = s.recorded found w.register }

abbrev pub plainly : (s : Service) → RegisterList s → World s → World s
plainly s [] w = w
plainly s (i ∷ items) w = plainly s items (plain_step s w i)

-- ---- what a request is answered

-- by the register where it has no turn, or one in each lane; else by its one turn, or the last that was reached
abbrev pub second_reply : (s : Service) → Bool → ℕ → s.Task → (ℕ → s.Objects) → s.Reply → s.Reply
second_reply s true b next o first = (s.acted next (o b)).0
second_reply s false b next o first = first

abbrev pub turns_reply : (s : Service) → s.Verdict → Turns s.Task → (ℕ → s.Objects) → What s.Verdict s.Reply
turns_reply s verdict no_turn o = by_register verdict
turns_reply s verdict (one_turn l task) o = by_turn (s.acted task (o l)).0
turns_reply s verdict (two_turns a task b next) o =
    by_turn (second_reply s (s.went_well (s.acted task (o a)).0) b next (changed_at a (s.acted task (o a)).1 o) (s.acted task (o a)).0)
turns_reply s verdict (each_lane task) o = by_register verdict

abbrev pub plain_answers : (s : Service) → RegisterList s → World s → List (What s.Verdict s.Reply)
plain_answers s [] w = []
plain_answers s (Entered e ∷ items) w =
    turns_reply s e.verdict (s.turns e.asked e.verdict) w.objects ∷ plain_answers s items (plain_step s w (Entered e))
plain_answers s (DrawnCut number c ∷ items) w = plain_answers s items (plain_step s w (DrawnCut number c))
plain_answers s (RegisterCut p found ∷ items) w = plain_answers s items (plain_step s w (RegisterCut p found))
