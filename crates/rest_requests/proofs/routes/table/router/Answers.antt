use Rattle.std.proofs.Common.{◌∙◌, ap₂, map, List, ℕ, Bor}
use Rattle.rest_requests.specs.Routes.Rows.{Rows, put_all, text_row}
use Rattle.rest_requests.specs.declared.routes.routes.Route.{Route}
use Rattle.rest_requests.proofs.OfRoutes.PutLemmas.{all_is, all_new}
use Rattle.rest_requests.proofs.routes.table.router.Goals as goal

pub insert_all-requires : goal.insert_all-requires
insert_all-requires c = rw (c.as_slice.ensures, c.new-router.ensures) all_new

pub returns : goal.returns
returns c =
    c.in_ok-insert_all.ensures ∙ ap₂ (λ (l : List (Bor (List ℕ) × Route)) (r : Rows). put_all (map text_row l) r) c.as_slice.ensures c.new-router.ensures ∙ all_is
