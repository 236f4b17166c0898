use Rattle.std.proofs.Common.{◌≡◌, length, reverse}
use Rattle.httparse.specs.Grammar.{skip_ows}
use Rattle.http_wire.proofs.closing.without_end.Given as goal

-- only blanks were passed over
abbrev pub invariant-blanks : goal.invariant-blanks
invariant-blanks l = skip_ows (reverse l.rest) ≡ skip_ows (reverse l.word)

abbrev pub decreases-blanks : goal.decreases-blanks
decreases-blanks l = length l.rest
