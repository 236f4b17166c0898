-- The methods of each route.
use Rattle.std.specs.Prelude.{ℕ, List, [], ◌∷◌, Bool, true, false, Option, Some, None, codes, if◌then◌else◌}
use Rattle.std.specs.Str.{bytes_eq}
use Rattle.rest_requests.specs.declared.routes.routes.Route.{Route}
use Rattle.rest_requests.specs.declared.routes.routes.Route.TheVariants.{Node, Domains, Acls, Acl, Collection, Object, Attributes, Attribute, Links, Link, Shape, Elem, Value}
use Rattle.rest_requests.specs.declared.routes.routes.Method.{Method}
use Rattle.rest_requests.specs.declared.routes.routes.Method.TheVariants.{Delete, Get, Post, Put}
use Rattle.rest_requests.specs.declared.routes.routes.Methods.{Methods}

-- the method of a name
abbrev pub method_named : List ℕ → Option Method
method_named name =
    if bytes_eq name (codes "DELETE") then Some Delete
    else if bytes_eq name (codes "GET") then Some Get
    else if bytes_eq name (codes "POST") then Some Post
    else if bytes_eq name (codes "PUT") then Some Put
    else None

abbrev pub has_method : Methods → Method → Bool
has_method methods Delete = methods.delete
has_method methods Get = methods.get
has_method methods Post = methods.post
has_method methods Put = methods.put

abbrev pub no_methods : Methods
no_methods = record { delete = false; get = false; post = false; put = false }

abbrev pub with_method : Method → Methods → Methods
with_method Delete methods = record methods { delete = true }
with_method Get methods = record methods { get = true }
with_method Post methods = record methods { post = true }
with_method Put methods = record methods { put = true }

-- just these methods
abbrev pub just : List Method → Methods
just [] = no_methods
just (method ∷ rest) = with_method method (just rest)

abbrev pub methods_of : Route → Methods
methods_of Node = just (Delete ∷ Get ∷ Put ∷ [])
methods_of Domains = just (Get ∷ [])
methods_of Acls = just (Get ∷ [])
methods_of Acl = just (Get ∷ Put ∷ [])
methods_of (Collection kind) = just (Post ∷ [])
methods_of (Object kind) = just (Delete ∷ Get ∷ [])
methods_of (Attributes kind) = just (Get ∷ [])
methods_of (Attribute kind) = just (Delete ∷ Get ∷ Put ∷ [])
methods_of Links = just (Get ∷ [])
methods_of Link = just (Delete ∷ Get ∷ Put ∷ [])
methods_of Shape = just (Get ∷ Put ∷ [])
methods_of Elem = just (Get ∷ [])
methods_of Value = just (Get ∷ Post ∷ Put ∷ [])
