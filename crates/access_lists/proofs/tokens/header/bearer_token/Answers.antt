use Rattle.std.proofs.Common.{sym, ◌∙◌}
use Rattle.access_lists.proofs.OfTokens.Shown.{parts-from_token, token-from_parts}
use Rattle.access_lists.proofs.tokens.header.bearer_token.Goals as goal

pub returns-clause-parts : goal.returns-clause-parts
returns-clause-parts c = λ token. (
  (λ is. parts-from_token c.args.value.now token (sym c.read_token.ensures ∙ is)),
  (λ shown. c.read_token.ensures ∙ token-from_parts c.args.value.now token shown),
)
