-- A disk that remembers that a sync failed.
use Rattle.std.specs.Prelude.{Bool}
use Rattle.edge_traits.specs.declared.fail_stop.FailStop.{FailStop}

-- the disk of which it is made
abbrev pub inside : {D : Type 0} → FailStop D → D
inside d = d.disk

-- a sync has failed
abbrev pub has_stopped : {D : Type 0} → FailStop D → Bool
has_stopped d = d.stopped
