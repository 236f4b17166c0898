use Rattle.std.proofs.Common.{length}
use Rattle.std.specs.FinMap.{entries}
use Rattle.std.specs.Option.{option_copied}
use Rattle.containers.specs.TextMaps.Keyed.{text_order}
use Rattle.containers.specs.TextMaps.Nexts.{left}
use Rattle.flush_journal.specs.Batches.{records}
use Rattle.register.proofs.PathWalks.{IsPathWalk}
use Rattle.register.proofs.cuts.append_paths.Given as goal

abbrev pub invariant-loop-path : goal.invariant-loop-path
invariant-loop-path g l = IsPathWalk l.catalogue l.keys l.missing (records l.fn.into) (records l.into) (option_copied l.last)

abbrev pub decreases-loop-path : goal.decreases-loop-path
decreases-loop-path g l = length (left text_order (option_copied l.last) (entries l.keys))
