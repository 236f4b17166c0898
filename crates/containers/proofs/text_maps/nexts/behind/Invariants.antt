use Rattle.std.proofs.Common.{◌≡◌}
use Rattle.std.specs.List.{filter}
use Rattle.std.specs.Ordering.{is_lt}
use Rattle.containers.specs.TextMaps.Nexts.{first}
use Rattle.containers.proofs.text_maps.nexts.behind.Given as goal

abbrev pub invariant-loop-key : goal.invariant-loop-key
invariant-loop-key g l =
    first (filter (λ e. is_lt (g.Q.Comparable.compare l.after e.0)) l.entries.entries)
    ≡ first (filter (λ e. is_lt (g.Q.Comparable.compare l.after e.0)) l.key-iterator)
