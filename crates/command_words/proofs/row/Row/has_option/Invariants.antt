use Rattle.std.proofs.Common.{◌≡◌, map, drop}
use Rattle.command_words.specs.Lines.{has}
use Rattle.command_words.proofs.row.Row.has_option.Given as goal

abbrev pub invariant-loop-own : goal.invariant-loop-own
invariant-loop-own l =
    has l.name (map (λ n. n.now) (drop l.own-index l.own-items))
    ≡ has l.name (map (λ n. n.now) l.own-items)
