use Rattle.std.proofs.Common.{◌≡◌, ◌++◌}
use Rattle.service_core.specs.Journals.Groups.{roots_in}
use Rattle.service_core.proofs.journals.roots.roots_in.Given as goal

-- what is found so far, in front of what is left
abbrev pub invariant-loop-node : goal.invariant-loop-node
invariant-loop-node l = l.roots.items ++ roots_in l.node-iterator ≡ roots_in l.nodes.entries
