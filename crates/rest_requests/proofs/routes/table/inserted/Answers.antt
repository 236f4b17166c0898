use Rattle.rest_requests.proofs.OfRoutes.PutLemmas.{none_other, put_is}
use Rattle.rest_requests.proofs.routes.table.inserted.Goals as goal

pub returns-clause-row : goal.returns-clause-row
returns-clause-row c = put_is c.args.text.now c.args.route c.args.router.now c.insert.new.self c.insert.result c.insert.ensures

pub returns-clause-memory : goal.returns-clause-memory
returns-clause-memory c = λ is. none_other c.args.text.now c.args.route c.args.router.now c.insert.new.self c.insert.result is c.insert.ensures
