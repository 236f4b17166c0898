use Rattle.std.proofs.Common.{◌≡◌, refl, ℕ, true, List, [], ◌∷◌, map, Option, Some, None, is_none, Result, Ok, Err, IfErr, OnOk, codes}
use Rattle.std.proofs.lemmas.Bool.{false≢true}
use Rattle.matchit.specs.Route.{Scan, parse_route}
use Rattle.matchit.specs.Router.{InsertsRead, Refused, RouteOf, nearest}
use Rattle.matchit.specs.declared.error.InsertError.{InsertError}
use Rattle.matchit.specs.declared.error.InsertError.TheVariants.{Conflict, InvalidParam, InvalidParamSegment, InvalidCatchAll, OutOfMemory}
use Rattle.matchit.proofs.OnLiterals.{matchit_on_literals}
use Rattle.object_ids.specs.declared.ids.Kind.TheVariants as kind
use Rattle.rest_requests.specs.Routes.Table.{table}
use Rattle.rest_requests.specs.Routes.Rows.{AreNew, IsNew, Rows, is_new_scan, put, put_all, put_scan, shown}
use Rattle.rest_requests.specs.declared.routes.routes.Route.{Route}
use Rattle.rest_requests.specs.declared.routes.routes.Route.TheVariants.{Node, Domains, Acls, Acl, Collection, Object, Attributes, Attribute, Links, Link, Shape, Elem, Value}
use Rattle.rest_requests.specs.Queries.Pairs.{Text}

pub put_is : (text : Text) (route : Route) (old new : Rows) (r : Result (Unit {0}) InsertError) → InsertsRead (parse_route text) route old new r
    → OnOk r (new ≡ put text route old)
unfolding put
put_is text route old new (Err error) h = tt
put_is text route old new (Ok u) h = go (parse_route text) h
  where
    go : (s : Result Scan InsertError) → InsertsRead s route old new (Ok u) → new ≡ put_scan s route old
    go (Ok scan) h = h.1
    go (Err error) h = h.0

-- the rows as they are inserted
abbrev pub texts : List (Text × Route)
texts =
    (codes "/", Node)
    ∷ (codes "/domains", Domains)
    ∷ (codes "/acls", Acls)
    ∷ (codes "/acls/{name}", Acl)
    ∷ (codes "/groups", Collection kind.Group)
    ∷ (codes "/groups/{id}", Object kind.Group)
    ∷ (codes "/groups/{id}/attributes", Attributes kind.Group)
    ∷ (codes "/groups/{id}/attributes/{name}", Attribute kind.Group)
    ∷ (codes "/groups/{id}/links", Links)
    ∷ (codes "/groups/{id}/links/{title}", Link)
    ∷ (codes "/datasets", Collection kind.Dataset)
    ∷ (codes "/datasets/{id}", Object kind.Dataset)
    ∷ (codes "/datasets/{id}/attributes", Attributes kind.Dataset)
    ∷ (codes "/datasets/{id}/attributes/{name}", Attribute kind.Dataset)
    ∷ (codes "/datasets/{id}/shape", Shape)
    ∷ (codes "/datasets/{id}/type", Elem)
    ∷ (codes "/datasets/{id}/value", Value)
    ∷ (codes "/datatypes", Collection kind.Datatype)
    ∷ (codes "/datatypes/{id}", Object kind.Datatype)
    ∷ (codes "/datatypes/{id}/attributes", Attributes kind.Datatype)
    ∷ (codes "/datatypes/{id}/attributes/{name}", Attribute kind.Datatype)
    ∷ []

pub all_is : put_all texts [] ≡ map shown table
unfolding matchit_on_literals put
all_is = refl

pub all_new : AreNew texts []
unfolding matchit_on_literals put IsNew
all_new = (refl, (refl, (refl, (refl, (refl, (refl, (refl, (refl, (refl, (refl, (refl, (refl, (refl, (refl, (refl, (refl, (refl, (refl, (refl, (refl, (refl, tt)))))))))))))))))))))

-- a new row is refused for want of memory alone
pub none_other : (text : Text) (route : Route) (old new : Rows) (r : Result (Unit {0}) InsertError) → IsNew text old
    → InsertsRead (parse_route text) route old new r → IfErr r (λ error. error ≡ OutOfMemory)
unfolding IsNew
none_other text route old new (Ok u) is h = tt
none_other text route old new (Err error) is h = go (parse_route text) is h
  where
    other : (o : Option (RouteOf Route)) (n : RouteOf Route) → is_none o ≡ true → o ≡ Some n → ⊥
    other None n is e = cc
    other (Some m) n is e = false≢true is

    refused : (p : List ℕ) (e : InsertError) → is_none (nearest p old) ≡ true → Refused p old e → e ≡ OutOfMemory
    refused p (Conflict with) is h = absurd (other (nearest p old) h.0 is h.1)
    refused p OutOfMemory is h = refl
    refused p InvalidParamSegment is h = absurd h
    refused p InvalidParam is h = absurd h
    refused p InvalidCatchAll is h = absurd h

    go : (s : Result Scan InsertError) → is_new_scan s old ≡ true → InsertsRead s route old new (Err error) → error ≡ OutOfMemory
    go (Ok scan) is h = refused scan.pattern error is h.1
    go (Err e) is h = absurd (false≢true is)
