use Rattle.std.proofs.Common.{◌∙◌, ap, map, string_bytes}
use Rattle.std.proofs.lemmas.Result.{IfErr-weaker}
use Rattle.clap.specs.Words.{App, takes}
use Rattle.command_words.proofs.Whole.{line_is_read}
use Rattle.command_words.proofs.app.matched.Goals as goal

pub returns-clause-memory : goal.returns-clause-memory
returns-clause-memory c =
    IfErr-weaker c.try_get_matches_from.result _ _
    (λ e h some. h (ap (λ (a : App). takes a (map string_bytes c.args.words.now)) c.in_ok-app.ensures
    ∙ (line_is_read (map string_bytes c.args.words.now) some).passes))
    c.try_get_matches_from.ensures.passes
