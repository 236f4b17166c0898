-- The read of a slab, from a world that holds a sample.
use Rattle.std.proofs.Common.{Result, Ok, Err, ◌≡◌, ℕ, ◌+◌, ◌^◌, ◌<◌, ◌≤◌, List, [], ◌∷◌, Bool, None, codes, refl, sym, subst, true, false, Option, Some, ap, ◌∙◌}
use Rattle.std.specs.Prelude.{if◌then◌else◌, unwrap_or, option_map, option_and_then}
use Rattle.std.specs.FinMap.{empty, get, insert}
use Rattle.std.specs.Cmp.Lexicographic.{nat_list_cmp_total}
use Rattle.access_lists.specs.InForce.{Entries, group_entries, has, union_holds, default_entry}
use Rattle.access_lists.specs.RightWords.{all_rights, holds}
use Rattle.access_lists.specs.declared.people.Caller.{Caller}
use Rattle.access_lists.specs.declared.right.Right.TheVariants.{Read}
use Rattle.access_lists.specs.declared.rights.Rights.{Rights}
use Rattle.object_ids.specs.IdValues.{Id}
use Rattle.object_ids.specs.declared.ids.Kind.TheVariants as kind
use Rattle.object_ops.specs.declared.grants.Grant.{Grant}
use Rattle.object_ops.specs.declared.grants.Step.TheVariants.{Only}
use Rattle.object_ops.specs.declared.ops.Op.{Op}
use Rattle.object_ops.specs.declared.ops.Op.TheVariants.{GetValue}
use Rattle.object_acts.specs.declared.objects.Object.{Object}
use Rattle.chunk_owner.specs.Acts.{acted, on_object}
use Rattle.chunk_owner.specs.Lanes.{set_at}
use Rattle.domains.specs.Changes.{new_domain, root_of}
use Rattle.domains.specs.declared.classes.Node.{Node}
use Rattle.object_ops.specs.Needs.{on_for, path_on}
use Rattle.object_ops.specs.declared.ops.Request.{Request}
use Rattle.register.specs.Decided.{RegisterState, at_maybe, decided, grant_of, granted, passed}
use Rattle.register.specs.Tickets.{Issue, counted, turn_at}
use Rattle.register.specs.declared.verdicts.Verdict.{Verdict}
use Rattle.register.specs.declared.verdicts.Verdict.TheVariants.{Denied, Granted}
use Rattle.serde_json.specs.Data.{Data}
use Rattle.object_ids.specs.IdOrder.{id_order}
use Rattle.object_ids.proofs.IdOrders.{id_order_total}
use Rattle.object_ops.specs.Replies.{only}
use Rattle.object_ops.specs.declared.replies.Reply.{Reply}
use Rattle.object_ops.specs.declared.replies.Reply.TheVariants.{Done}
use Rattle.object_acts.specs.Objects.{bare, Objects}
use Rattle.object_acts.specs.declared.objects.Body.TheVariants.{Dataset}
use Rattle.service_core.specs.Steps.{IsAnswered, World, by_verdict, served, step}
use Rattle.service_core.specs.declared.answers.What.{What}
use Rattle.service_core.specs.declared.answers.What.TheVariants.{Replied}
use Rattle.samples.specs.Trees.{read_tree}
use Rattle.samples.specs.Worlds.{HoldsSample, IsSumOf, IsSummed}
use Rattle.samples.proofs.AnswerLemmas.{slab_answered}
use Rattle.samples.specs.Requests.{IsSlabRequest, dataset_id, sample_path, sample_user, slab_op}
use Rattle.samples.proofs.MapLemmas.{get_put}

-- ---- the verdict

-- the owner of a new domain has all rights
owner_reads : (caller : Caller) (user : List ℕ) → caller.user ≡ Some user → has (insert empty user all_rights) caller Read ≡ true
owner_reads caller user is =
    let list : Entries = insert empty user all_rights in
    let otherwise = unwrap_or (union_holds Read (group_entries list caller.groups)) (unwrap_or (option_map (holds Read) (default_entry list)) false) in
    ap (λ (u : Option (List ℕ)). unwrap_or (option_map (holds Read) (option_and_then (get list) u)) otherwise) is
    ∙ ap (λ (r : Option Rights). unwrap_or (option_map (holds Read) r) otherwise) (get_put nat_list_cmp_total empty user all_rights)

abbrev issue_of : RegisterState → Issue
issue_of d = record { place = d.places; grant = grant_of d 1 (root_of 1 1 0) None; left = turn_at d.issued dataset_id Only ∷ [] }

abbrev register_after : RegisterState → RegisterState
register_after d = record (passed d) { issued = counted d.issued dataset_id }

decided_read : (a : ℕ) (d : RegisterState) (caller : Caller) (request : Request) → get d.catalogue.nodes sample_path ≡ Some (new_domain 1 1 0 sample_user) → caller.user ≡ Some sample_user
    → request.path ≡ sample_path → request.op ≡ slab_op a → decided d caller request ≡ (Granted (issue_of d), register_after d)
decided_read a d caller request node user path op =
    ap (λ (o : Op). at_maybe d caller request.path o (get d.catalogue.nodes (path_on (on_for o) request.path))) op
    ∙ ap (λ (p : List ℕ). at_maybe d caller p (slab_op a) (get d.catalogue.nodes p)) path
    ∙ ap (λ (o : Option Node). at_maybe d caller sample_path (slab_op a) o) node
    ∙ ap (λ (b : Bool). if b then granted d caller sample_path (slab_op a) (new_domain 1 1 0 sample_user) else (Denied Read, passed d)) (owner_reads caller sample_user user)

-- ---- the answer

read_served : (a : ℕ) (d : RegisterState) (m : Objects) (o : Object) → get m dataset_id ≡ Some o → served (slab_op a) (issue_of d) m ≡ ((on_object (grant_of d 1 (root_of 1 1 0) None) (slab_op a) dataset_id (Some o)).0, insert m dataset_id o)
read_served a d m o is =
    let g = grant_of d 1 (root_of 1 1 0) None in
    ap (λ (x : Option Object). ((on_object g (slab_op a) dataset_id x).0, set_at m dataset_id (on_object g (slab_op a) dataset_id x).1)) is

-- the world afterwards
abbrev after : World → Object → World
after w o = record { register = register_after w.register; objects = insert w.objects dataset_id o }

abbrev body_of : ℕ → ℕ → Data
body_of n a = only (codes "value") (read_tree n a 100 143)

abbrev dataset_of : (n : ℕ) (w : World) → HoldsSample n w → Object
dataset_of n w h = record { attributes = h.attributes; body = Dataset (bare h.array) }

step_is : (n a : ℕ) (w : World) (caller : Caller) (request : Request) → n < 2 ^ 64 → a + 100 ≤ 1000 → (h : HoldsSample n w) → caller.user ≡ Some sample_user → request.path ≡ sample_path → request.op ≡ slab_op a
    → step w caller request ≡ (Replied (Done 200 (body_of n a)), after w (dataset_of n w h))
step_is n a w caller request small low h user path op =
    let o = dataset_of n w h in
    let next = λ (x : Op) (p : Verdict × RegisterState). let q = by_verdict x p.0 w.objects in (let whole : What × World = (q.0, record { register = p.1; objects = q.1 }) in whole) in
    ap (λ (x : Op). next x (decided w.register caller request)) op
    ∙ ap (next (slab_op a)) (decided_read a w.register caller request h.node user path op)
    ∙ ap (λ (q : Reply × Objects). let whole : What × World = (Replied q.0, record { register = register_after w.register; objects = q.1 }) in whole) (read_served a w.register w.objects o h.object)
    ∙ ap (λ (r : Reply). let whole : What × World = (Replied r, after w o) in whole) (slab_answered a n h.array small low h.elements)

holds_after : (n : ℕ) (w : World) (h : HoldsSample n w) → HoldsSample n (after w (dataset_of n w h))
holds_after n w h = record {
  node = h.node;
  attributes = h.attributes;
  array = h.array;
  object = get_put id_order_total w.objects dataset_id (dataset_of n w h);
  elements = h.elements;
}

-- ---- a call that was done

pub record IsRead (n a : ℕ) (body : Data) (new : World) : Type 0 where
  pub tree : body ≡ body_of n a
  pub holds : HoldsSample n new

abbrev pair_of : What → World → What × World
pair_of what w = (what, w)

told : (what : What) (status : ℕ) (body : Data) (w new v : World) (caller : Caller) (request : Request) (b : Data) → what ≡ Replied (Done status body) → IsAnswered w caller request what new
    → step w caller request ≡ (Replied (Done 200 b), v) → (body ≡ b) × (new ≡ v)
told what status body w new v caller request b is answered done =
    let both = subst (λ (x : What). IsAnswered w caller request x new) is answered ∙ done in
    (same_body status body b new v both, ap (λ p. p.1) both)
  where
    same_body : (status : ℕ) (x y : Data) (p q : World) → pair_of (Replied (Done status x)) p ≡ pair_of (Replied (Done 200 y)) q → x ≡ y
    same_body status x y p q e =
        let first : Replied (Done status x) ≡ Replied (Done 200 y) = ap (λ z. z.0) e in
        cc

pub slab_was_read : (n a : ℕ) (w new : World) (caller : Caller) (request : Request) (what : What) (status : ℕ) (body : Data) → n < 2 ^ 64 → a + 100 ≤ 1000 → HoldsSample n w
    → caller.user ≡ Some sample_user → request.path ≡ sample_path → request.op ≡ slab_op a → what ≡ Replied (Done status body) → IsAnswered w caller request what new
    → IsRead n a body new
slab_was_read n a w new caller request what status body small low h user path op is answered =
    let v = after w (dataset_of n w h) in
    let both = told what status body w new v caller request (body_of n a) is answered (step_is n a w caller request small low h user path op) in
    record { tree = both.0; holds = subst (HoldsSample n) (sym both.1) (holds_after n w h) }

pub slab_summed : {E : Type 0} (n a : ℕ) (w new : World) (caller : Caller) (request : Request) (what : What) (r : Result ℕ E) → n < 2 ^ 64 → a + 100 ≤ 1000 → HoldsSample n w
    → caller.user ≡ Some sample_user → IsSlabRequest a request → IsAnswered w caller request what new → IsSumOf what r → IsSummed n a r new
slab_summed n a w new caller request what (Ok sum) small low h user asked answered sums =
    let read = slab_was_read n a w new caller request what sums.0 sums.1 small low h user asked.path asked.op sums.2 answered in
    (sums.3 n a read.tree, read.holds)
slab_summed n a w new caller request what (Err e) small low h user asked answered sums = tt
