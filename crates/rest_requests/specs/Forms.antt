-- What each method of a route asks.
use Rattle.std.specs.Prelude.{Option, Some, None}
use Rattle.rest_requests.specs.declared.routes.routes.Route.{Route}
use Rattle.rest_requests.specs.declared.routes.routes.Route.TheVariants as at
use Rattle.rest_requests.specs.declared.routes.routes.Method.{Method}
use Rattle.rest_requests.specs.declared.routes.routes.Method.TheVariants.{Delete, Get, Post, Put}
use Rattle.rest_requests.specs.declared.forms.Form.{Form}
use Rattle.rest_requests.specs.declared.forms.Form.TheVariants.{GetNode, PutNode, DropNode, ListNodes, GetAcls, GetAcl, PutAcl, MakeObject, GetObject, DropObject, ListLinks, GetLink, PutLink, DropLink, ListAttributes, GetAttribute, PutAttribute, DropAttribute, GetShape, PutShape, GetElem, GetValue, PutValue, GetPoints}

abbrev pub drop_form : Route → Option Form
drop_form at.Node = Some DropNode
drop_form (at.Object kind) = Some (DropObject kind)
drop_form at.Link = Some DropLink
drop_form (at.Attribute kind) = Some (DropAttribute kind)
drop_form route = None

abbrev pub get_form : Route → Option Form
get_form at.Node = Some GetNode
get_form at.Domains = Some ListNodes
get_form at.Acls = Some GetAcls
get_form at.Acl = Some GetAcl
get_form (at.Object kind) = Some (GetObject kind)
get_form at.Links = Some ListLinks
get_form at.Link = Some GetLink
get_form (at.Attributes kind) = Some (ListAttributes kind)
get_form (at.Attribute kind) = Some (GetAttribute kind)
get_form at.Shape = Some GetShape
get_form at.Elem = Some GetElem
get_form at.Value = Some GetValue
get_form (at.Collection kind) = None

abbrev pub post_form : Route → Option Form
post_form (at.Collection kind) = Some (MakeObject kind)
post_form at.Value = Some GetPoints
post_form route = None

abbrev pub put_form : Route → Option Form
put_form at.Node = Some PutNode
put_form at.Acl = Some PutAcl
put_form at.Link = Some PutLink
put_form (at.Attribute kind) = Some (PutAttribute kind)
put_form at.Shape = Some PutShape
put_form at.Value = Some PutValue
put_form route = None

abbrev pub form_at : Route → Method → Option Form
form_at route Delete = drop_form route
form_at route Get = get_form route
form_at route Post = post_form route
form_at route Put = put_form route
