use Rattle.std.proofs.Common.{vec_items}
use Rattle.containers.specs.TextMaps.Keyed.{keyed}
use Rattle.service_core.proofs.OfStrays.StrayLemmas.{IsSearched}
use Rattle.service_core.proofs.strays.first_stray.Given as goal

abbrev pub invariant-loop-key : goal.invariant-loop-key
invariant-loop-key l = IsSearched l.kept (keyed vec_items l.key-iterator)
