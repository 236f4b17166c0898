-- Which calls of an object in memory are to fail.
use Rattle.std.specs.Prelude.{ℕ, ◌+◌, ◌-◌, ◌^◌, min, List, Contains}
use Rattle.edge_traits.specs.declared.schedule.Schedule.{Schedule}
use Rattle.edge_traits.specs.declared.mem_source.MemSource.{MemSource}
use Rattle.edge_traits.specs.declared.mem_sink.MemSink.{MemSink}
use Rattle.edge_traits.specs.declared.mem_door.MemDoor.{MemDoor}
use Rattle.edge_traits.specs.declared.mem_disk.MemDisk.{MemDisk}

pub record Plan : Type 0 where
  -- the numbers of the calls that fail
  pub failing : List ℕ
  -- the number of the next call
  pub next : ℕ

-- the plan before the first call
abbrev pub first_plan : List ℕ → Plan
first_plan failing = record { failing = failing; next = 0 }

-- the plan after one call more
abbrev pub later_plan : Plan → Plan
later_plan plan = record { failing = plan.failing; next = min (plan.next + 1) (2 ^ 64 - 1) }

-- the next call fails
abbrev pub FailsNext : Plan → Type 0
FailsNext plan = Contains plan.failing plan.next

abbrev pub schedule_plan : Schedule → Plan
schedule_plan s = record { failing = s.failing.items; next = s.calls }

-- the plan of the reads
abbrev pub read_plan : MemSource → Plan
read_plan s = schedule_plan s.schedule

-- the most that one read gives
abbrev pub piece_of : MemSource → ℕ
piece_of s = s.piece

-- the plan of the writes
abbrev pub write_plan : MemSink → Plan
write_plan s = schedule_plan s.schedule

-- the plan of the calls for a link
abbrev pub door_plan : MemDoor → Plan
door_plan d = schedule_plan d.schedule

-- the plan of a disk's calls, but for that of its room
abbrev pub disk_plan : MemDisk → Plan
disk_plan d = schedule_plan d.schedule
