use Rattle.std.proofs.Common.{◌≡◌, map, drop}
use Rattle.rest_requests.specs.Routes.Rows.{AreNew, put_all, text_row}
use Rattle.rest_requests.proofs.routes.table.insert_all.Given as goal

abbrev pub invariant-loop-row : goal.invariant-loop-row
invariant-loop-row l = AreNew (map text_row (drop l.row-index l.rows)) l.router × (put_all (map text_row (drop l.row-index l.rows)) l.router ≡ put_all (map text_row l.rows) l.fn.router)
