-- The queues of a hall: the register's, the desk's, and one a lane.
--     word_of q, slot_of q    where the length of its list is shown, and where its machine lies
--     IsQueue lanes q         a hall with so many lanes has it
--     same_queue q r          they are the same
--     limit_of q              a number or a ticket from here on waits without end
use Rattle.std.specs.Prelude.{ℕ, ◌+◌, ◌^◌, ◌<◌, Bool, true, false, ◌==◌}
use Rattle.hall_rule.specs.declared.queue.Queue.{Queue}
use Rattle.hall_rule.specs.declared.queue.Queue.TheVariants.{OfRegister, OfDesk, OfLane}

-- the word that shows how long the queue's list is
abbrev pub word_of : Queue → ℕ
word_of OfRegister = 2
word_of OfDesk = 3
word_of (OfLane lane) = lane + 4

abbrev pub slot_of : Queue → ℕ
slot_of OfRegister = 0
slot_of OfDesk = 1
slot_of (OfLane lane) = lane + 2

-- An item of the register's list issues two tickets in a lane at most, so those of lanes stay
-- below.
abbrev pub limit_of : Queue → ℕ
limit_of OfRegister = 2 ^ 61
limit_of OfDesk = 2 ^ 61
limit_of (OfLane lane) = 2 ^ 62

-- a hall with so many lanes has this queue
abbrev pub IsQueue : ℕ → Queue → Type 0
IsQueue lanes OfRegister = Unit {0}
IsQueue lanes OfDesk = Unit {0}
IsQueue lanes (OfLane lane) = lane < lanes

abbrev pub same_queue : Queue → Queue → Bool
same_queue OfRegister OfRegister = true
same_queue OfRegister OfDesk = false
same_queue OfRegister (OfLane b) = false
same_queue OfDesk OfRegister = false
same_queue OfDesk OfDesk = true
same_queue OfDesk (OfLane b) = false
same_queue (OfLane a) OfRegister = false
same_queue (OfLane a) OfDesk = false
same_queue (OfLane a) (OfLane b) = a == b
