-- The routes, each by its parts between slashes.
use Rattle.std.specs.Prelude.{List, [], ◌∷◌, codes}
use Rattle.object_ids.specs.declared.ids.Kind.TheVariants as kind
use Rattle.rest_requests.specs.declared.routes.routes.Route.{Route}
use Rattle.rest_requests.specs.declared.routes.routes.Route.TheVariants.{Node, Domains, Acls, Acl, Collection, Object, Attributes, Attribute, Links, Link, Shape, Elem, Value}
use Rattle.rest_requests.specs.Queries.Pairs.{Text}

-- a part of a route: a word, or a parameter by its name
pub data Part : Type 0 where
  word : Text → Part
  param : Text → Part

-- what is left of a route's parts, and the route
abbrev pub Row : Type 0
Row = List Part × Route

abbrev pub acls : Part
acls = word (codes "acls")

abbrev pub attributes : Part
attributes = word (codes "attributes")

abbrev pub datasets : Part
datasets = word (codes "datasets")

abbrev pub datatypes : Part
datatypes = word (codes "datatypes")

abbrev pub groups : Part
groups = word (codes "groups")

abbrev pub links : Part
links = word (codes "links")

abbrev pub id : Part
id = param (codes "id")

abbrev pub name : Part
name = param (codes "name")

-- in `matchit`'s order: byte by byte, and a longer one before what it begins with
abbrev pub table : List Row
table =
    (acls ∷ name ∷ [], Acl)
    ∷ (acls ∷ [], Acls)
    ∷ (datasets ∷ id ∷ attributes ∷ name ∷ [], Attribute kind.Dataset)
    ∷ (datasets ∷ id ∷ attributes ∷ [], Attributes kind.Dataset)
    ∷ (datasets ∷ id ∷ word (codes "shape") ∷ [], Shape)
    ∷ (datasets ∷ id ∷ word (codes "type") ∷ [], Elem)
    ∷ (datasets ∷ id ∷ word (codes "value") ∷ [], Value)
    ∷ (datasets ∷ id ∷ [], Object kind.Dataset)
    ∷ (datasets ∷ [], Collection kind.Dataset)
    ∷ (datatypes ∷ id ∷ attributes ∷ name ∷ [], Attribute kind.Datatype)
    ∷ (datatypes ∷ id ∷ attributes ∷ [], Attributes kind.Datatype)
    ∷ (datatypes ∷ id ∷ [], Object kind.Datatype)
    ∷ (datatypes ∷ [], Collection kind.Datatype)
    ∷ (word (codes "domains") ∷ [], Domains)
    ∷ (groups ∷ id ∷ attributes ∷ name ∷ [], Attribute kind.Group)
    ∷ (groups ∷ id ∷ attributes ∷ [], Attributes kind.Group)
    ∷ (groups ∷ id ∷ links ∷ param (codes "title") ∷ [], Link)
    ∷ (groups ∷ id ∷ links ∷ [], Links)
    ∷ (groups ∷ id ∷ [], Object kind.Group)
    ∷ (groups ∷ [], Collection kind.Group)
    ∷ (word [] ∷ [], Node)
    ∷ []
