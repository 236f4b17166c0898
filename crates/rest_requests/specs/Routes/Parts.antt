-- The parts of each route, and the paths that have them.
use Rattle.std.specs.Prelude.{◌≡◌, List, [], ◌∷◌, Bool, true, false, ◌&&◌, Option, Some, None, codes}
use Rattle.std.specs.Str.{bytes_eq}
use Rattle.object_ids.specs.declared.ids.Kind.{Kind}
use Rattle.object_ids.specs.declared.ids.Kind.TheVariants as kind
use Rattle.rest_requests.specs.declared.routes.routes.Route.{Route}
use Rattle.rest_requests.specs.declared.routes.routes.Route.TheVariants.{Node, Domains, Acls, Acl, Collection, Object, Attributes, Attribute, Links, Link, Shape, Elem, Value}
use Rattle.rest_requests.specs.Routes.Table.{Part, word, param, acls, attributes, datasets, datatypes, groups, id, links, name}
use Rattle.rest_requests.specs.Routes.Found.{segments}
use Rattle.rest_requests.specs.Queries.Pairs.{Text}

abbrev pub collection : Kind → Part
collection kind.Group = groups
collection kind.Dataset = datasets
collection kind.Datatype = datatypes

abbrev pub parts_of : Route → List Part
parts_of Node = word [] ∷ []
parts_of Domains = word (codes "domains") ∷ []
parts_of Acls = acls ∷ []
parts_of Acl = acls ∷ name ∷ []
parts_of (Collection kind) = collection kind ∷ []
parts_of (Object kind) = collection kind ∷ id ∷ []
parts_of (Attributes kind) = collection kind ∷ id ∷ attributes ∷ []
parts_of (Attribute kind) = collection kind ∷ id ∷ attributes ∷ name ∷ []
parts_of Links = groups ∷ id ∷ links ∷ []
parts_of Link = groups ∷ id ∷ links ∷ param (codes "title") ∷ []
parts_of Shape = datasets ∷ id ∷ word (codes "shape") ∷ []
parts_of Elem = datasets ∷ id ∷ word (codes "type") ∷ []
parts_of Value = datasets ∷ id ∷ word (codes "value") ∷ []

abbrev pub is_any : Text → Bool
is_any [] = false
is_any (byte ∷ rest) = true

-- part by part: a word is itself, and a parameter is any text but the empty one
abbrev pub fits : List Part → List Text → Bool
fits [] [] = true
fits [] (s ∷ ss) = false
fits (p ∷ ps) [] = false
fits (word w ∷ ps) (s ∷ ss) = bytes_eq w s && fits ps ss
fits (param n ∷ ps) (s ∷ ss) = is_any s && fits ps ss

abbrev pub fits_path : List Part → Option (List Text) → Bool
fits_path ps None = false
fits_path ps (Some ss) = fits ps ss

-- a path that has the parts of a route
abbrev pub IsPathOf : Route → Text → Type 0
IsPathOf route path = fits_path (parts_of route) (segments path) ≡ true
