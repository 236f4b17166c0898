use Rattle.http_wire.proofs.Bounds.{spelling_size, body_bound}
use Rattle.http_wire.proofs.laws.sizes_of_messages.Goals as goal

pub returns-clause-least : goal.returns-clause-least
returns-clause-least c = spelling_size

pub returns-clause-body : goal.returns-clause-body
returns-clause-body c = body_bound
