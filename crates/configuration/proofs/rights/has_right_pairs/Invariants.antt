use Rattle.std.proofs.Common.{◌≡◌}
use Rattle.std.specs.List.{list_all}
use Rattle.configuration.specs.Settings.{is_right_pair}
use Rattle.configuration.proofs.TableLemmas.{rest_of}
use Rattle.configuration.proofs.rights.has_right_pairs.Given as goal

abbrev pub invariant-pairs : goal.invariant-pairs
invariant-pairs l = list_all is_right_pair (rest_of l.key-iterator) ≡ list_all is_right_pair (rest_of l.table.entries)
