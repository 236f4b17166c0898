-- An empty body, an object, or why there is none.
use Rattle.serde_json.specs.Data.{object}
use Rattle.request_bodies.proofs.ValueBodyLemmas.{body_found, empty_body, why_told}
use Rattle.request_bodies.proofs.value_bodies.value_body_of.Goals as goal

pub returns-then-is_empty : goal.returns-then-is_empty
returns-then-is_empty c = empty_body c.args.bytes.now c.nothing.result c.if-is_empty.ensures c.nothing.ensures

pub returns-in-Ok : goal.returns-in-Ok
returns-in-Ok c = let h = c.in-Ok.ensures.read in (object h.0, body_found c.args.bytes.now h.0 c.if-is_empty.ensures h.1, h.2)

pub returns-in-Err : goal.returns-in-Err
returns-in-Err c = why_told c.args.bytes.now c.object_of.result c.in-Err.fault c.from.result c.in-Err.is c.from.ensures c.if-is_empty.ensures c.object_of.ensures.refused
