-- The request that a message is, or the first refusal.
use Rattle.std.specs.Prelude.{◌≡◌, ℕ, List, Bool, false, Option, Some, None, Result, Ok, Err, codes, option_and_then, if◌then◌else◌}
use Rattle.std.specs.Option.{option_copied, option_map_or}
use Rattle.std.specs.Borrow.{Bor}
use Rattle.std.specs.Str.{bytes_eq}
use Rattle.json_trees.specs.Faults.{Gives, ◌>>=◌}
use Rattle.access_lists.specs.declared.people.Caller.{Caller}
use Rattle.access_lists.specs.Tokens.Bearer.{TokenTable, caller_of}
use Rattle.object_ops.specs.declared.ops.Op.{Op}
use Rattle.object_ops.specs.declared.ops.Request.{Request}
use Rattle.object_ops.specs.declared.refusals.Refusal.{Refusal}
use Rattle.object_ops.specs.declared.refusals.Refusal.TheVariants as no
use Rattle.rest_requests.specs.Routes.Found.{route_for}
use Rattle.rest_requests.specs.Routes.Methods.{method_named, methods_of, no_methods}
use Rattle.rest_requests.specs.declared.routes.routes.Route.{Route}
use Rattle.rest_requests.specs.declared.routes.routes.Methods.{Methods}
use Rattle.rest_requests.specs.Queries.Targets.{path_of, query_of}
use Rattle.rest_requests.specs.Queries.Pairs.{Text, pairs_of, value_of}
use Rattle.request_bodies.specs.Refusing.{or_refuse}
use Rattle.rest_requests.specs.Domains.{domain_of}
use Rattle.rest_requests.specs.Forms.{form_at}
use Rattle.rest_requests.specs.Operations.{op_of}
use Rattle.rest_requests.specs.declared.fault.RequestFault.{RequestFault}
use Rattle.rest_requests.specs.declared.fault.RequestFault.TheVariants.{Refused, NoMemory}
use Rattle.rest_requests.specs.declared.forms.Form.{Form}
use Rattle.rest_requests.specs.declared.forms.Form.TheVariants.{PutNode, Flush}
use Rattle.rest_requests.specs.declared.parts.RequestParts.{RequestParts}

-- what a message says
pub record RequestText : Type 0 where
  pub method : Text
  pub target : Text
  pub authorization : Option Text
  pub domain : Option Text
  pub body : Text

abbrev pub said : RequestParts → RequestText
said parts = record {
  method = parts.method.now;
  target = parts.target.now;
  authorization = option_copied parts.authorization;
  domain = option_copied parts.domain;
  body = parts.body.now;
}

-- what a path names
abbrev pub routed : Text → Result Route Refusal
routed path = or_refuse no.NoRoute (route_for path)

-- what a method asks there
abbrev pub form_of : Route → Text → Result Form Refusal
form_of route method = or_refuse no.Method (option_and_then (form_at route) (method_named method))

-- whether a query asks for a flush
abbrev pub is_flush : Text → Bool
is_flush query = option_map_or (λ value. bytes_eq value (codes "1")) (value_of (codes "flush") (pairs_of query)) false

-- where a folder or a domain would be put, a query may ask for a flush in its place
abbrev pub form_by : Text → Form → Form
form_by query PutNode = if is_flush query then Flush else PutNode
form_by query form = form

-- who asks
abbrev pub known : TokenTable → Option Text → Result Caller Refusal
known tokens authorization = or_refuse no.BadToken (caller_of tokens authorization)

abbrev pub request_at : Text → Op → Request
request_at path op = record { path = path; op = op }

-- the caller and the request, or the first refusal in the stated order
abbrev pub request_of : TokenTable → RequestText → Result (Caller × Request) Refusal
request_of tokens m =
    let path = path_of m.target in
    let query = query_of m.target in
    routed path >>= λ route. form_of route m.method >>= λ form.
    known tokens m.authorization >>= λ caller. domain_of query m.domain >>= λ domain.
    op_of (form_by query form) path query m.body >>= λ op. Ok (caller, request_at domain op)

-- the methods of what a target names
abbrev pub methods_in : Option Route → Methods
methods_in None = no_methods
methods_in (Some route) = methods_of route

abbrev pub methods_at : Text → Methods
methods_at target = methods_in (route_for (path_of target))

-- the methods that the answer to a refusal lists: those of the route, where it lacks the method
abbrev pub allow_of : Text → Refusal → Methods
allow_of target no.Method = methods_at target
allow_of target refusal = no_methods

-- a fault is the refusal, with the methods to be listed, or memory ran out
abbrev pub Tells : {A : Type 0} → Text → RequestFault → Result A Refusal → Type 0
Tells target NoMemory r = Unit {0}
Tells target (Refused refusal allow) r = (r ≡ Err refusal) × (allow ≡ allow_of target refusal)

-- a call gives what the tests find of a message with this target, or memory ran out
abbrev pub AnswersAt : {A : Type 0} → Text → Result A RequestFault → Result A Refusal → Type 0
AnswersAt target given found = Gives (Tells target) (λ x. x) given found

-- a caller that is lent, and a request
abbrev pub copied : Bor Caller × Request → Caller × Request
copied read = (read.0.now, read.1)

-- the same, where the caller is lent
abbrev pub LendsAt : Text → Result (Bor Caller × Request) RequestFault → Result (Caller × Request) Refusal → Type 0
LendsAt target given found = Gives (Tells target) copied given found
