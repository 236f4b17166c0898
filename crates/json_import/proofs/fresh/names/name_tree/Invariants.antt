use Rattle.std.proofs.Common.{◌≡◌, ◌+◌, ◌<◌, ◌^◌, length, map, string_bytes}
use Rattle.json_import.specs.Fresh.Names.{name_each}
use Rattle.json_import.proofs.fresh.names.name_tree.Given as goal

-- with those that are left, all get their ids, and there are serials for these
abbrev pub invariant-loop-text : goal.invariant-loop-text
invariant-loop-text g l =
    (name_each l.kind l.naming (map (λ e. string_bytes e.0) l.text-iterator)
    ≡ name_each l.kind l.fn.naming (map (λ e. string_bytes e.0) l.objects.entries))
    × (l.naming.last.serial + length l.text-iterator < 2 ^ 40)
