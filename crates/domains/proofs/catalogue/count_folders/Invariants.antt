use Rattle.std.proofs.Common.{◌≡◌, ◌+◌, ◌<◌, ◌^◌, count_by, length}
use Rattle.domains.specs.Changes.{is_folder_node}
use Rattle.domains.proofs.catalogue.count_folders.Given as goal

-- what is counted so far, and what is left
abbrev pub invariant-loop-node : goal.invariant-loop-node
invariant-loop-node l =
    (l.count + count_by (λ e. is_folder_node e.1) l.node-iterator ≡ count_by (λ e. is_folder_node e.1) l.nodes.entries) × (length l.nodes.entries < 2 ^ 64)
