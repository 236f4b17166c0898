-- What stands at the path that decides.
use Rattle.std.proofs.Common.{◌≡◌, ℕ, ◌<◌, List, Some, option_map, true, refl, ap, sym, ◌∙◌, arith}
use Rattle.std.specs.FinMap.{get}
use Rattle.std.proofs.lemmas.Bool.{false≢true}
use Rattle.access_lists.specs.declared.people.Caller.{Caller}
use Rattle.domains.specs.Contents.{Contents, IsCatalogue, IsFolderAt, NumberFits, class_at}
use Rattle.domains.specs.declared.classes.Node.{Node}
use Rattle.domains.specs.declared.classes.NodeClass.{NodeClass}
use Rattle.domains.specs.declared.classes.NodeClass.TheVariants.{Folder, Domain}
use Rattle.object_ops.specs.Needs.{decided_at, on_for, path_on}
use Rattle.object_ops.specs.declared.ops.Op.TheVariants.{ListNodes}
use Rattle.object_ops.specs.declared.ops.Request.{Request}
use Rattle.register.specs.declared.looking.Looked.TheVariants as looks
use Rattle.register.specs.Decided.{RegisterState, fits, is_folder}
use Rattle.register.specs.Looks.{looked}
use Rattle.register.proofs.Settling.{allowed}

folder_of : (class : NodeClass) → is_folder class ≡ true → class ≡ Folder
folder_of Folder e = refl
folder_of (Domain number root) e = absurd (false≢true e)

-- where the children are asked for stands a folder
pub listed : (c : Contents) (request : Request) (class : NodeClass) → request.op ≡ ListNodes → class_at c (decided_at request) ≡ Some class → fits request.op class ≡ true
    → IsFolderAt c request.path
listed c request class op at fit =
    let path : decided_at request ≡ request.path = ap (λ o. path_on (on_for o) request.path) op in
    ap (class_at c) (sym path) ∙ at ∙ ap Some (folder_of class (sym (ap (λ o. fits o class) op) ∙ fit))

-- the class that was met is that of the node
pub met : (d : RegisterState) (caller : Caller) (request : Request) (class : NodeClass) → looked caller request.op (get d.catalogue.nodes (decided_at request)) ≡ looks.Allowed class
    → class_at d.catalogue (decided_at request) ≡ Some class
met d caller request class e =
    let a = allowed d caller request.path request.op (get d.catalogue.nodes (decided_at request)) class e in
    ap (option_map (λ n. n.class)) a.there ∙ ap Some a.same

numbers : (c : Contents) → IsCatalogue c → (path : List ℕ) (class : NodeClass) → class_at c path ≡ Some class → NumberFits class
numbers c valid path Folder at = tt
numbers c valid path (Domain number root) at = let below : number < c.next = valid.below path number root at in omega (arith, valid.fits)

-- the numbers of domains are below 2^48
pub numbered : (c : Contents) → IsCatalogue c → (path : List ℕ) (node : Node) → Some node ≡ get c.nodes path → NumberFits node.class
numbered c valid path node e = numbers c valid path node.class (ap (option_map (λ n. n.class)) (sym e))
