-- The routes as `matchit` has them, and what inserts make of them.
use Rattle.std.specs.Prelude.{◌≡◌, ℕ, ◌+◌, length, List, [], ◌∷◌, ◌++◌, Bool, true, false, is_none, Result, Ok, Err}
use Rattle.std.specs.Borrow.{Bor}
use Rattle.matchit.specs.Order.{placed}
use Rattle.matchit.specs.Route.{Scan, parse_route}
use Rattle.matchit.specs.Router.{RouteOf, nearest, route_from}
use Rattle.matchit.specs.Rows.{RowsOf}
use Rattle.matchit.specs.declared.error.InsertError.{InsertError}
use Rattle.rest_requests.specs.declared.routes.routes.Route.{Route}
use Rattle.rest_requests.specs.Routes.Table.{Part, Row, word, param}
use Rattle.rest_requests.specs.Queries.Pairs.{Text}

-- the tokens of parts, as `matchit` has them
abbrev pub tokens_of : Part → List ℕ
tokens_of (word w) = w
tokens_of (param name) = 256 ∷ []

abbrev pub pattern_of : List Part → List ℕ
pattern_of [] = []
pattern_of (p ∷ ps) = 47 ∷ (tokens_of p ++ pattern_of ps)

-- the text of parts, and where it has the names of its parameters
abbrev pub text_of_part : Part → List ℕ
text_of_part (word w) = w
text_of_part (param name) = 123 ∷ (name ++ 125 ∷ [])

abbrev pub text_of : List Part → List ℕ
text_of [] = []
text_of (p ∷ ps) = 47 ∷ (text_of_part p ++ text_of ps)

abbrev pub names_at : ℕ → List Part → List (ℕ × ℕ)
names_at at [] = []
names_at at (word w ∷ ps) = names_at (at + 1 + length w) ps
names_at at (param name ∷ ps) = (at + 2, at + 2 + length name) ∷ names_at (at + 3 + length name) ps

abbrev pub shown : Row → List ℕ × RouteOf Route
shown r = (pattern_of r.0, record { pattern = pattern_of r.0; text = text_of r.0; names = names_at 0 r.0; value = r.1 })

abbrev pub Rows : Type 0
Rows = RowsOf (RouteOf Route)

abbrev pub put_scan : Result Scan InsertError → Route → Rows → Rows
put_scan (Ok scan) route rows = placed (scan.pattern, route_from scan route) rows
put_scan (Err error) route rows = rows

unfoldable pub put : Text → Route → Rows → Rows
put text route rows = put_scan (parse_route text) route rows

abbrev pub is_new_scan : Result Scan InsertError → Rows → Bool
is_new_scan (Ok scan) rows = is_none (nearest scan.pattern rows)
is_new_scan (Err error) rows = false

-- a text spells a route, which conflicts with none of the rows
unfoldable pub IsNew : Text → Rows → Type 0
IsNew text rows = is_new_scan (parse_route text) rows ≡ true

abbrev pub put_all : List (Text × Route) → Rows → Rows
put_all [] rows = rows
put_all (x ∷ rest) rows = put_all rest (put x.0 x.1 rows)

-- each of the texts is new among the rows and the texts before it
abbrev pub AreNew : List (Text × Route) → Rows → Type 0
AreNew [] rows = Unit {0}
AreNew (x ∷ rest) rows = IsNew x.0 rows × AreNew rest (put x.0 x.1 rows)

abbrev pub text_row : Bor (List ℕ) × Route → Text × Route
text_row row = (row.0.now, row.1)
