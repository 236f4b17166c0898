-- What is done among objects, from what is done to one of them.
use Rattle.std.proofs.Common.{◌≡◌, ℕ, Bool, true, false, cond, ◌==◌, IfOk, Option, Some, None, is_some, Result, Ok, Err, sym, ap, subst, refl, ◌∙◌, eqb-true, arith}
use Rattle.std.specs.Ordering.{eq_by_cmp}
use Rattle.std.specs.FinMap.{get, len, insert, remove, get-insert, get-remove, same_map}
use Rattle.std.proofs.lemmas.Bool.{and_parts}
use Rattle.object_ids.specs.IdOrder.{id_order, id_eq, kind_rank}
use Rattle.object_ids.specs.IdValues.{Id}
use Rattle.object_ids.specs.declared.ids.Kind.{Kind}
use Rattle.object_ids.specs.declared.ids.Kind.TheVariants as kind
use Rattle.object_ids.proofs.IdOrders.{id_order_once, id_order_total, tied_ids}
use Rattle.object_ops.specs.declared.grants.Grant.{Grant}
use Rattle.object_ops.specs.declared.replies.Reply.{Reply}
use Rattle.object_ops.specs.declared.replies.Reply.TheVariants.{Done, Refused}
use Rattle.object_ops.specs.declared.refusals.Refusal.{Refusal}
use Rattle.object_ops.specs.declared.refusals.Refusal.TheVariants.{Root}
use Rattle.object_ops.specs.Replies.{Follows, nothing, was_done}
use Rattle.object_acts.specs.declared.objects.Object.{Object}
use Rattle.object_acts.specs.declared.objects.Body.{Body}
use Rattle.object_acts.specs.declared.objects.Body.TheVariants.{Group, Dataset, Datatype}
use Rattle.object_acts.specs.Objects.{unmarked, unmarked_body, empty_group, Objects}
use Rattle.object_acts.specs.Trees.{body_tree, object_tree}
use Rattle.chunk_owner.specs.Slots.Changed.{ChangesAt}
use Rattle.chunk_owner.specs.Lanes.{set_at, at_id}
use Rattle.chunk_owner.specs.Acts.{missing, object_or_root, object_here, read_by, reading, left, changed_by, changing, removed, removing}

-- to put in what is there changes nothing
insert_same : (m : Objects) (k : Id) (v : Object) → get m k ≡ Some v → insert m k v ≡ m
insert_same m k v there = same_map id_order_total id_order_once _ _ (λ q. get-insert id_order_total m k v q ∙ at q (eq_by_cmp id_order q k) refl) where
  at : (q : Id) (b : Bool) → eq_by_cmp id_order q k ≡ b → cond b (Some v) (get m q) ≡ get m q
  at q true e = sym (ap (get m) (tied_ids q k e) ∙ there)
  at q false e = refl

-- to take out what isn't there changes nothing
remove_same : (m : Objects) (k : Id) → get m k ≡ None → remove m k ≡ m
remove_same m k none = same_map id_order_total id_order_once _ _ (λ q. get-remove id_order_total m k q ∙ at q (eq_by_cmp id_order q k) refl) where
  at : (q : Id) (b : Bool) → eq_by_cmp id_order q k ≡ b → cond b None (get m q) ≡ get m q
  at q true e = sym (ap (get m) (tied_ids q k e) ∙ none)
  at q false e = refl

pub own_set : (m : Objects) (id : Id) (o : Option Object) → get m id ≡ o → set_at m id o ≡ m
own_set m id None e = remove_same m id e
own_set m id (Some x) e = insert_same m id x e

-- ---- a definition at an id, where this stands there

at_here : {A : Type 0} (id : Id) (f : Option Object → A × Option Object) (m : Objects) (o : Option Object) → get m id ≡ o
    → ((f o).0 ≡ (at_id id f m).0) × (set_at m id (f o).1 ≡ (at_id id f m).1)
at_here id f m o is = (ap (λ x. (f x).0) (sym is), ap (λ x. set_at m id (f x).1) (sym is))

pub follows_here : {E : Type 0} (id : Id) (f : Option Object → Reply × Option Object) (m n : Objects) (o w : Option Object) (r : Result Reply E)
    → get m id ≡ o → n ≡ set_at m id w → Follows (f o) o r w → Follows (at_id id f m) m r n
follows_here id f m n o w (Ok reply) is put h =
    let here = at_here id f m o is in (h.0 ∙ here.0, put ∙ ap (set_at m id) h.1 ∙ here.1)
follows_here id f m n o w (Err e) is put h = put ∙ ap (set_at m id) h ∙ own_set m id o is

-- the same where nothing is left otherwise
pub answers_here : (id : Id) (f : Option Object → Reply × Option Object) (m : Objects) (o : Option Object) (r : Reply)
    → get m id ≡ o → f o ≡ (r, o) → (r ≡ (at_id id f m).0) × (m ≡ (at_id id f m).1)
answers_here id f m o r is e =
    let here = at_here id f m o is in
    (sym (ap (λ p. p.0) e) ∙ here.0, sym (own_set m id o is) ∙ sym (ap (λ p. set_at m id p.1) e) ∙ here.1)

-- ---- whose domain the object is of

here_own : (g : Grant) (id : Id) (o : Option Object) → (id.domain == g.number) ≡ true → object_here g id o ≡ object_or_root g id o
here_own g id o e = ap (λ b. cond b (object_or_root g id o) None) e

pub here_foreign : (g : Grant) (id : Id) (o : Option Object) → (id.domain == g.number) ≡ false → object_here g id o ≡ None
here_foreign g id o e = ap (λ b. cond b (object_or_root g id o) None) e

pub or_root_empty : (g : Grant) (id : Id) → id_eq id g.root ≡ true → object_or_root g id None ≡ Some empty_group
or_root_empty g id e = ap (λ b. cond b (Some empty_group) None) e

pub or_root_none : (g : Grant) (id : Id) → id_eq id g.root ≡ false → object_or_root g id None ≡ None
or_root_none g id e = ap (λ b. cond b (Some empty_group) None) e

-- ---- an object is read

pub reads_own : {E : Type 0} (g : Grant) (id : Id) (f : Object → Reply) (m : Objects) (o : Option Object) (r : Result Reply E)
    → (id.domain == g.number) ≡ true → get m id ≡ o → IfOk r (λ y. y ≡ read_by f (missing g id) (object_or_root g id o)) → Follows (at_id id (reading g id f) m) m r m
reads_own g id f m o (Ok y) own is said =
    answers_here id (reading g id f) m o y is (λ i. ((ap (read_by f (missing g id)) (here_own g id o own) ∙ sym said) i, o))
reads_own g id f m o (Err e) own is said = refl

pub reads_foreign : (g : Grant) (id : Id) (f : Object → Reply) (m : Objects) (r : Refusal)
    → (id.domain == g.number) ≡ false → r ≡ missing g id → (Refused r ≡ (at_id id (reading g id f) m).0) × (m ≡ (at_id id (reading g id f) m).1)
reads_foreign g id f m r foreign said =
    answers_here id (reading g id f) m (get m id) (Refused r) refl (λ i. ((ap (read_by f (missing g id)) (here_foreign g id (get m id) foreign) ∙ ap Refused (sym said)) i, get m id))

-- ---- an object is changed

changed_there : {E : Type 0} (p : Reply × Object) (x y : Object) (r : Result Reply E) → Follows p x r y → Follows (left (Some x) p) (Some x) r (Some y)
changed_there p x y (Ok reply) h = (h.0, ap (λ o. Some o) h.1)
changed_there p x y (Err e) h = ap (λ o. Some o) h

changing_as : (g : Grant) (id : Id) (f : Object → Reply × Object) (o s : Option Object) → object_here g id o ≡ s → changed_by f (missing g id) o s ≡ changing g id f o
changing_as g id f o s e = ap (changed_by f (missing g id) o) (sym e)

pub changes_there : {E : Type 0} (g : Grant) (id : Id) (f : Object → Reply × Object) (m n : Objects) (r : Result Reply E)
    → (id.domain == g.number) ≡ true → is_some (get m id) ≡ true → ChangesAt id f m r n → Follows (at_id id (changing g id f) m) m r n
changes_there {E} g id f m n r own held changes = at (get m id) refl held where
  at : (o : Option Object) → get m id ≡ o → is_some o ≡ true → Follows (at_id id (changing g id f) m) m r n
  at None is e = absurd (let both : false ≡ true = e in cc)
  at (Some x) is e =
      let c = changes x is in
      follows_here id (changing g id f) m n (Some x) (Some c.0) r is c.1
      (subst (λ p. Follows p (Some x) r (Some c.0)) (changing_as g id f (Some x) (Some x) (here_own g id (Some x) own)) (changed_there (f x) x c.0 r c.2))

pub changes_foreign : (g : Grant) (id : Id) (f : Object → Reply × Object) (m : Objects) (r : Refusal)
    → (id.domain == g.number) ≡ false → r ≡ missing g id → (Refused r ≡ (at_id id (changing g id f) m).0) × (m ≡ (at_id id (changing g id f) m).1)
changes_foreign g id f m r foreign said =
    answers_here id (changing g id f) m (get m id) (Refused r) refl
    (sym (changing_as g id f (get m id) None (here_foreign g id (get m id) foreign)) ∙ (λ i. (Refused (sym said i), get m id)))

pub changes_absent : (g : Grant) (id : Id) (f : Object → Reply × Object) (m : Objects) (r : Refusal)
    → (id.domain == g.number) ≡ true → id_eq id g.root ≡ false → get m id ≡ None → r ≡ missing g id
    → (Refused r ≡ (at_id id (changing g id f) m).0) × (m ≡ (at_id id (changing g id f) m).1)
changes_absent g id f m r own other none said =
    answers_here id (changing g id f) m None (Refused r) none
    (sym (changing_as g id f None None (here_own g id None own ∙ or_root_none g id other)) ∙ (λ i. (Refused (sym said i), None)))

left-reply : (reply : Reply) (o : Object) → (left None (reply, o)).0 ≡ reply
left-reply (Done status body) o = refl
left-reply (Refused r) o = refl

-- a root that wasn't held
pub changes_root : {E : Type 0} (g : Grant) (id : Id) (f : Object → Reply × Object) (m n : Objects) (y : Object) (reply : Reply) (r : Result Reply E)
    → (id.domain == g.number) ≡ true → id_eq id g.root ≡ true → get m id ≡ None → reply ≡ (f empty_group).0 → y ≡ (f empty_group).1
    → Follows (reply, set_at m id (left None (reply, y)).1) m r n → Follows (at_id id (changing g id f) m) m r n
changes_root g id f m n y reply (Ok said) own root none done left_there h =
    let e : left None (reply, y) ≡ changing g id f None =
    (λ i. left None (done i, left_there i)) ∙ changing_as g id f None (Some empty_group) (here_own g id None own ∙ or_root_empty g id root) in
    let here = at_here id (changing g id f) m None none in
    (h.0 ∙ sym (left-reply reply y) ∙ ap (λ p. p.0) e ∙ here.0, h.1 ∙ ap (λ p. set_at m id p.1) e ∙ here.1)
changes_root g id f m n y reply (Err e) own root none done left_there h = h

-- ---- an object is put where none was

pub puts_refused : (m : Objects) (id : Id) (o : Object) (reply : Reply) → get m id ≡ None → was_done reply ≡ false → m ≡ set_at m id (left None (reply, o)).1
puts_refused m id o (Done status body) none e = absurd (cc)
puts_refused m id o (Refused r) none e = sym (own_set m id None none)

pub puts_done : (m n : Objects) (id : Id) (o : Object) (reply : Reply) → n ≡ insert m id o → was_done reply ≡ true → n ≡ set_at m id (left None (reply, o)).1
puts_done m n id o (Done status body) put e = put
puts_done m n id o (Refused r) put e = absurd (cc)

-- an object is written as requests see it
tree-unmarked : (id root : Id) (n : ℕ) (b : Body) → body_tree id root n (unmarked_body b) ≡ body_tree id root n b
tree-unmarked id root n (Group links) = refl
tree-unmarked id root n (Dataset array) = refl
tree-unmarked id root n (Datatype type) = refl

pub object_tree-unmarked : (id root : Id) (o new : Object) → unmarked o ≡ new → object_tree id root o ≡ object_tree id root new
object_tree-unmarked id root o new e = sym (tree-unmarked id root (len o.attributes) o.body) ∙ ap (object_tree id root) e

group_rank : (k : Kind) → kind_rank k ≡ 0 → k ≡ kind.Group
group_rank kind.Group e = refl
group_rank kind.Dataset e = absurd (omega arith)
group_rank kind.Datatype e = absurd (omega arith)

-- a root is a group
pub root_kind : (id root : Id) → id_eq id root ≡ true → root.kind ≡ kind.Group → id.kind ≡ kind.Group
root_kind id root e group = group_rank id.kind (eqb-true (kind_rank id.kind) (kind_rank root.kind) (and_parts _ _ e).0 ∙ ap kind_rank group)

-- ---- an object is removed

removing-as : (g : Grant) (id : Id) (o s : Option Object) (b : Bool) → id_eq id g.root ≡ b → object_here g id o ≡ s → removing g id o ≡ removed b (missing g id) o s
removing-as g id o s b root e = λ i. removed (root i) (missing g id) o (e i)

pub removing-foreign : (g : Grant) (id : Id) (o : Option Object) → (id.domain == g.number) ≡ false → removing g id o ≡ (Refused (missing g id), o)
removing-foreign g id o foreign = removing-as g id o None (id_eq id g.root) refl (here_foreign g id o foreign)

removed_root : (g : Grant) (id : Id) (o : Option Object) → id_eq id g.root ≡ true → removed true (missing g id) o (object_or_root g id o) ≡ (Refused Root, o)
removed_root g id None root = ap (removed true (missing g id) None) (or_root_empty g id root)
removed_root g id (Some x) root = refl

pub drops_foreign : (g : Grant) (id : Id) (m : Objects) (r : Refusal) → (id.domain == g.number) ≡ false → r ≡ missing g id
    → (Refused r ≡ (at_id id (removing g id) m).0) × (m ≡ (at_id id (removing g id) m).1)
drops_foreign g id m r foreign said =
    answers_here id (removing g id) m (get m id) (Refused r) refl (removing-foreign g id (get m id) foreign ∙ (λ i. (Refused (sym said i), get m id)))

pub drops_root : (g : Grant) (id : Id) (m : Objects) → (id.domain == g.number) ≡ true → id_eq id g.root ≡ true
    → (Refused Root ≡ (at_id id (removing g id) m).0) × (m ≡ (at_id id (removing g id) m).1)
drops_root g id m own root =
    let o = get m id in
    answers_here id (removing g id) m o (Refused Root) refl (removing-as g id o (object_or_root g id o) true root (here_own g id o own) ∙ removed_root g id o root)

pub drops_there : (g : Grant) (id : Id) (m n : Objects) (r : Reply) → (id.domain == g.number) ≡ true → id_eq id g.root ≡ false
    → is_some (get m id) ≡ true → n ≡ remove m id → r ≡ Done 200 nothing
    → (r ≡ (at_id id (removing g id) m).0) × (n ≡ (at_id id (removing g id) m).1)
drops_there g id m n r own other held gone said = at (get m id) refl held where
  at : (o : Option Object) → get m id ≡ o → is_some o ≡ true → (r ≡ (at_id id (removing g id) m).0) × (n ≡ (at_id id (removing g id) m).1)
  at None is e = absurd (let both : false ≡ true = e in cc)
  at (Some x) is e =
      let here = at_here id (removing g id) m (Some x) is in
      let done = removing-as g id (Some x) (Some x) false other (here_own g id (Some x) own) in
      (said ∙ sym (ap (λ p. p.0) done) ∙ here.0, gone ∙ sym (ap (λ p. set_at m id p.1) done) ∙ here.1)

pub drops_absent : (g : Grant) (id : Id) (m : Objects) (r : Refusal) → (id.domain == g.number) ≡ true → id_eq id g.root ≡ false
    → get m id ≡ None → r ≡ missing g id
    → (Refused r ≡ (at_id id (removing g id) m).0) × (m ≡ (at_id id (removing g id) m).1)
drops_absent g id m r own other none said =
    answers_here id (removing g id) m None (Refused r) none
    (removing-as g id None None false other (here_own g id None own ∙ or_root_none g id other) ∙ (λ i. (Refused (sym said i), None)))
