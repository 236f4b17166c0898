use Rattle.rest_requests.proofs.NumberLemmas.{are_numbered}
use Rattle.rest_requests.proofs.OrderLemmas.{request_first}
use Rattle.rest_requests.proofs.laws.refusals_in_order.Goals as goal

pub returns-clause-first : goal.returns-clause-first
returns-clause-first c = request_first

pub returns-clause-numbers : goal.returns-clause-numbers
returns-clause-numbers c = are_numbered
