use Rattle.std.proofs.Common.{vec_items}
use Rattle.containers.specs.TextMaps.Keyed.{keyed}
use Rattle.register.specs.Installed.Walks.{IsNodeWalk}
use Rattle.register.proofs.installed.installs.install_nodes.Given as goal

abbrev pub invariant-loop-key : goal.invariant-loop-key
invariant-loop-key l = IsNodeWalk l.kept (keyed vec_items l.key-iterator) l.catalogue l.roots
