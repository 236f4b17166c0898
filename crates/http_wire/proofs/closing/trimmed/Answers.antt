use Rattle.std.proofs.Common.{◌∙◌, ap, sym, reverse}
use Rattle.std.proofs.lemmas.List.{reverse-reverse}
use Rattle.httparse.specs.Grammar.{skip_ows, trim_ows}
use Rattle.http_wire.proofs.closing.trimmed.Goals as goal

pub returns : goal.returns
unfolding trim_ows
returns c =
    sym (reverse-reverse c.without_end.result.now) ∙ ap reverse (c.without_end.ensures ∙ ap (λ l. skip_ows (reverse l)) c.without_front.ensures)
