-- The route that the parts of a path find.
use Rattle.std.specs.Prelude.{List, [], ◌∷◌, Option, Some, None, option_and_then, if◌then◌else◌}
use Rattle.std.specs.List.{slice_split}
use Rattle.std.specs.Str.{bytes_eq}
use Rattle.matchit.specs.Seek.{or_else}
use Rattle.object_ids.specs.Paths.{is_slash}
use Rattle.rest_requests.specs.declared.routes.routes.Route.{Route}
use Rattle.rest_requests.specs.Routes.Table.{Part, word, param, table}
use Rattle.rest_requests.specs.Queries.Pairs.{Text}

-- rows of which a part of the path was read, each with its key
abbrev pub RowsOf : Type 0 → Type 0
RowsOf K = List (List Part × K)

module _ {K : Type 0} where
  -- the rows that go on after a part that is this word
  abbrev pub on_word : Text → List Part → K → RowsOf K → RowsOf K
  on_word s [] k rest = rest
  on_word s (word w ∷ ps) k rest = if bytes_eq w s then (ps, k) ∷ rest else rest
  on_word s (param n ∷ ps) k rest = rest

  abbrev pub after_word : Text → RowsOf K → RowsOf K
  after_word s [] = []
  after_word s ((ps, k) ∷ rest) = on_word s ps k (after_word s rest)

  -- the rows that go on after a parameter
  abbrev pub on_param : List Part → K → RowsOf K → RowsOf K
  on_param [] k rest = rest
  on_param (word w ∷ ps) k rest = rest
  on_param (param n ∷ ps) k rest = (ps, k) ∷ rest

  abbrev pub after_param : RowsOf K → RowsOf K
  after_param [] = []
  after_param ((ps, k) ∷ rest) = on_param ps k (after_param rest)

  -- the row that ends here
  abbrev pub ended : RowsOf K → Option K
  ended [] = None
  ended (([], k) ∷ rest) = Some k
  ended ((p ∷ ps, k) ∷ rest) = ended rest

  abbrev pub unless_empty : Text → Option K → Option K
  unless_empty [] o = None
  unless_empty (b ∷ s) o = o

  -- a word goes before a parameter, and a parameter isn't empty
  abbrev pub found : RowsOf K → List Text → Option K
  found rows [] = ended rows
  found rows (s ∷ ss) = or_else (found (after_word s rows) ss) (unless_empty s (found (after_param rows) ss))

-- the parts of a path between slashes, where it begins with one
abbrev pub segments : Text → Option (List Text)
segments [] = None
segments (byte ∷ rest) = if is_slash byte then Some (slice_split is_slash rest) else None

-- what a path names
abbrev pub route_for : Text → Option Route
route_for path = option_and_then (found table) (segments path)
