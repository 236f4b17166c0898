-- What a decision leaves of a register, and that the turns which it grants can be taken.
use Rattle.std.proofs.Common.{◌≡◌, ℕ, ◌+◌, ◌<◌, ◌≤◌, ◌==◌, nat_lt, option_map, Bool, true, false, cond, List, [], ◌∷◌, length, Option, Some, None, refl, sym, ap, subst, ◌∙◌, arith}
use Rattle.std.proofs.Math.Nat.{le-max_left}
use Rattle.std.specs.Ordering.{eq_by_cmp}
use Rattle.std.specs.FinMap.{get}
use Rattle.serde_json.specs.Data.{Data}
use Rattle.object_ids.specs.IdValues.{Id}
use Rattle.object_ids.specs.IdOrder.{id_eq, id_order}
use Rattle.object_ids.specs.Ids.{lane_of}
use Rattle.object_ids.specs.declared.ids.Kind.TheVariants.{Group}
use Rattle.access_lists.specs.declared.people.Caller.{Caller}
use Rattle.access_lists.specs.declared.rights.Rights.{Rights}
use Rattle.access_lists.specs.InForce.{has}
use Rattle.domains.specs.Contents.{Contents, IsCatalogue, IsDomainAt}
use Rattle.domains.specs.NodeTrees.{node_tree}
use Rattle.domains.specs.Changes.{domain_fault, entry_fault, make_fault, new_domain, remove_fault, without_node}
use Rattle.domains.specs.declared.classes.Node.{Node}
use Rattle.domains.specs.declared.classes.NodeClass.{NodeClass}
use Rattle.domains.specs.declared.classes.NodeClass.TheVariants.{Folder, Domain}
use Rattle.domains.specs.declared.faults.CatFault.{CatFault}
use Rattle.object_ops.specs.Needs.{decided_at, right_for}
use Rattle.object_ops.specs.Parts.{id_of, kind_made}
use Rattle.object_ops.specs.declared.ops.Request.{Request}
use Rattle.object_ops.specs.declared.ops.Op.{Op}
use Rattle.object_ops.specs.declared.ops.Op.TheVariants.{GetNode, PutNode, Flush, DropNode, ListNodes, GetAcls, GetAcl, PutAcl, MakeObject}
use Rattle.object_ops.specs.declared.ops.Make.{Make}
use Rattle.object_ops.specs.declared.ops.LinkPlace.{LinkPlace}
use Rattle.object_ops.specs.declared.grants.Grant.{Grant}
use Rattle.object_ops.specs.declared.grants.Step.TheVariants.{Only, Link}
use Rattle.object_ops.specs.Replies.{nothing}
use Rattle.object_ops.specs.declared.replies.Reply.{Reply}
use Rattle.object_ops.specs.declared.replies.Reply.TheVariants.{Done}
use Rattle.object_ops.specs.declared.refusals.Refusal.{Refusal}
use Rattle.object_ops.specs.declared.refusals.Refusal.TheVariants.{Limit, NoDomain, NoName, NoObject}
use Rattle.object_ids.specs.declared.limits.LimitKind.TheVariants as limit
use Rattle.object_acts.specs.declared.objects.Object.{Object}
use Rattle.object_acts.specs.Objects.{empty_group, Objects}
use Rattle.chunk_owner.specs.Acts.{HasFresh, IsStepOf, IsTouchedIn, acted, changed_by, linking, link_to, missing}
use Rattle.chunk_owner.proofs.KeptLemmas.{touched_named}
use Rattle.register.proofs.Counting.{length-counted}
use Rattle.register.proofs.GrantLemmas.{each_from}
use Rattle.register.specs.Marks.{Marked, with_path}
use Rattle.register.specs.Decided.{Decides, IsRegister, RegisterState, acl_body, acls_body, answered, at_maybe, cat_refusal, children_body, decided, domain_added, domain_made, entry_put, entry_read, fits, folder_made, foreign_in, forgotten, grant_of, granted, in_domain, make_granted, make_steps, most_of, node_made, node_removed, object_granted, one_step, owner_of, passed, refused, serial_limit}
use Rattle.register.specs.Tickets.{Issue, all_counted, counted}
use Rattle.register.specs.declared.tickets.Turn.{Turn}
use Rattle.register.specs.declared.verdicts.Verdict.{Verdict}
use Rattle.register.specs.declared.verdicts.Verdict.TheVariants as verdict
use Rattle.service_core.specs.Steps.{AreGiven, IsGiven}
use Rattle.service_core.specs.Turns.{AreReady, AreServable, IsServable}
use Rattle.service_core.proofs.GivenLemmas.{HasGiven, MayGrant, given_same}
use Rattle.chunk_owner.proofs.OfOwners.WholeLemmas.{get-set_at}
use Rattle.object_ids.proofs.IdOrders.{tied_ids}

-- what was given stays given, of as many lanes, and one place more is
pub record Grows (old new : RegisterState) : Type 0 where
  pub run : new.run ≡ old.run
  pub serial : old.serial ≤ new.serial
  pub next : old.catalogue.next ≤ new.catalogue.next
  pub lanes : length new.issued ≡ length old.issued
  pub places : new.places ≡ old.places + 1

pub given_later : (old new : RegisterState) → Grows old new → (id : Id) → IsGiven old id → IsGiven new id
given_later old new grows id h = record {
  number = omega (arith, h.number, grows.next);
  out = record { run = omega (arith, h.out.run, grows.run); serial = λ same. omega (arith, h.out.serial (same ∙ grows.run), grows.serial) };
}

-- the register has grown, and what was granted can be served
pub record IsDecided (d : RegisterState) (op : Op) (m : Objects) (p : Verdict × RegisterState) : Type 0 where
  pub grows : Grows d p.1
  pub given : MayGrant p.1 p.0
  pub servable : IsServable (length d.issued) op p.0 m

pub no_id : (id : Id) → None ≡ Some id → ⊥
no_id id e = let both : None ≡ Some id = e in absurd (cc)

-- ---- lists of counts

length-all : (counts : List ℕ) → length (all_counted counts) ≡ length counts
length-all [] = refl
length-all (n ∷ ns) = let e = length-all ns in omega (arith, e)

-- ---- operations

only_step : (op : Op) (id : Id) → id_of op ≡ Some id → IsStepOf op Only
only_step (MakeObject make place) id e = absurd (no_id id e)
only_step op id e = refl

no_fresh : (g : Grant) (op : Op) (m : Objects) (id : Id) → id_of op ≡ Some id → HasFresh g op m
no_fresh g (MakeObject make place) m id e = absurd (no_id id e)
no_fresh g op m id e = tt

object_servable : (n : ℕ) (op : Op) (issue : Issue) (m : Objects) (id : Id) → id_of op ≡ Some id → (issue.grant.root.kind ≡ Group) × AreReady n issue.grant op m issue.left → AreServable n op issue m
object_servable n DropNode issue m id e h = absurd (no_id id e)
object_servable n op issue m id e h = h

some_id : (x y : Id) → Some x ≡ Some y → x ≡ y
some_id x y e = cc

module _ (d : RegisterState) (m : Objects) (register : IsRegister d) (all : AreGiven d m) where
  -- ---- the register

  grows_with : (c : Contents) (marks : Marked) → d.catalogue.next ≤ c.next → Grows d (record (passed d) { catalogue = c; marks = marks })
  grows_with c marks h = record { run = refl; serial = omega arith; next = h; lanes = refl; places = refl }

  pub grows_place : Grows d (passed d)
  grows_place = record { run = refl; serial = omega arith; next = omega arith; lanes = refl; places = refl }

  -- nothing is granted
  refused_is : (op : Op) (r : Refusal) → IsDecided d op m (refused r d)
  refused_is op r = record { grows = grows_place; given = tt; servable = tt }

  answered_is : (op : Op) (status : ℕ) (body : Data) → IsDecided d op m (answered status body d)
  answered_is op status body = record { grows = grows_place; given = tt; servable = tt }

  denied_is : (op : Op) → IsDecided d op m (verdict.Denied (right_for op), passed d)
  denied_is op = record { grows = grows_place; given = tt; servable = tt }

  -- ---- folders and domains

  folder_is : (op : Op) (path owner : List ℕ) (fault : Option CatFault) → IsDecided d op m (folder_made d path owner fault)
  folder_is op path owner None = record { grows = grows_with _ _ (omega arith); given = tt; servable = tt }
  folder_is op path owner (Some fault) = refused_is op (cat_refusal path fault)

  new_domain_is : (op : Op) (path owner : List ℕ) (few : Bool)
      → IsDecided d op m (let node = new_domain d.catalogue.next d.run d.serial owner in
      cond few (verdict.Answered (Done 201 (node_tree node)), passed (domain_added d path owner)) (refused (Limit (most_of limit.Serial) limit.Serial) d))
  new_domain_is op path owner true = record {
    grows = record { run = refl; serial = omega arith; next = le-max_left d.catalogue.next (d.catalogue.next + 1); lanes = refl; places = refl };
    given = tt;
    servable = tt;
  }
  new_domain_is op path owner false = refused_is op _

  domain_is : (op : Op) (path owner : List ℕ) (fault : Option CatFault) → IsDecided d op m (domain_made d path owner fault)
  domain_is op path owner None = new_domain_is op path owner (nat_lt d.serial serial_limit)
  domain_is op path owner (Some fault) = refused_is op (cat_refusal path fault)

  node_is : (op : Op) (caller : Caller) (path : List ℕ) (folder : Bool) → IsDecided d op m (node_made d caller path folder)
  node_is op caller path true = folder_is op path (owner_of caller) (make_fault d.catalogue path)
  node_is op caller path false = domain_is op path (owner_of caller) (domain_fault d.catalogue path)

  entry_is : (op : Op) (name : List ℕ) (o : Option Rights) → IsDecided d op m (entry_read d name o)
  entry_is op name None = refused_is op (NoName name)
  entry_is op name (Some rights) = answered_is op 200 (acl_body name rights)

  put_is : (op : Op) (path name : List ℕ) (rights : Rights) (fault : Option CatFault) → IsDecided d op m (entry_put d path name rights fault)
  put_is op path name rights None = record { grows = grows_with _ _ (omega arith); given = tt; servable = tt }
  put_is op path name rights (Some fault) = refused_is op (cat_refusal path fault)

  -- ---- domains

  module _ (number : ℕ) (root : Id) (group : root.kind ≡ Group) (given : IsGiven d root) (below : number < d.catalogue.next) where
    -- the objects of a removed domain are dropped
    dropped_is : (c : Contents) (marks : Marked) → d.catalogue.next ≤ c.next → IsDecided d DropNode m (forgotten (record d { catalogue = c; marks = marks }) (Domain number root))
    dropped_is c marks h =
        let grows : Grows d (record (passed (record d { catalogue = c; marks = marks })) { issued = all_counted d.issued }) = record { run = refl; serial = omega arith; next = h; lanes = length-all d.issued; places = refl } in
        record {
          grows = grows;
          given = record { root = given_later d _ grows root given; fresh = λ id e. absurd (no_id id e) };
          servable = each_from (length d.issued) 0 d.issued (omega arith);
        }

    -- ---- one step

    lane_below : (counts : List ℕ) (id : Id) → length counts ≡ length d.issued → lane_of (length counts) id < length d.issued
    lane_below counts id e = let some : 0 < length d.issued = register.some_lane in subst (λ j. lane_of j id < length d.issued) (sym e) (omega arith)

    step_is : (op : Op) (o : Option Id) → id_of op ≡ o → IsDecided d op m (one_step d number root o)
    step_is op None e = refused_is op NoDomain
    step_is op (Some id) e =
        let g = grant_of d number root None in
        let grows : Grows d (record (passed d) { issued = counted d.issued id }) = record { run = refl; serial = omega arith; next = omega arith; lanes = length-counted d.issued id; places = refl } in
        record {
          grows = grows;
          given = record { root = given_later d _ grows root given; fresh = λ i none. absurd (no_id i none) };
          servable = object_servable (length d.issued) op _ m id e (
            group,
            (
              lane_below d.issued id refl,
              record {
                step = only_step op id e;
                touches = subst (IsTouchedIn (lane_of (length d.issued) id) (length d.issued)) (sym (touched_named g op Only id e)) refl;
                fresh = no_fresh g op m id e;
              },
              λ done. tt,
            ),
          );
        }

    object_is : (op : Op) (foreign : Option Id) → IsDecided d op m (object_granted d number root op foreign)
    object_is op None = step_is op (id_of op) refl
    object_is op (Some target) = refused_is op (NoObject target)

    -- ---- a new object

    module _ (make : Make) where
      abbrev fresh : Id
      fresh = record { kind = kind_made make; domain = number; run = d.run; serial = d.serial }

      abbrev taken : RegisterState
      taken = record d { serial = d.serial + 1 }

      -- the new id was not given before
      not_given : IsGiven d fresh → ⊥
      not_given h = let below : d.serial < d.serial = h.out.serial refl in absurd (omega arith)

      fresh_none : (o : Option Object) → get m fresh ≡ o → get m fresh ≡ None
      fresh_none None e = e
      fresh_none (Some x) e = absurd (not_given (all fresh x e))

      new_here : get m fresh ≡ None
      new_here = fresh_none (get m fresh) refl

      grows_make : (counts : List ℕ) → length counts ≡ length d.issued → Grows d (record (passed taken) { issued = counts })
      grows_make counts e = record { run = refl; serial = omega arith; next = omega arith; lanes = e; places = refl }

      abbrev grant : Grant
      grant = grant_of taken number root (Some fresh)

      granted_given : (counts : List ℕ) (turns : List Turn) → length counts ≡ length d.issued
          → HasGiven (record (passed taken) { issued = counts }) (record { place = d.places; grant = grant; left = turns })
      granted_given counts turns e = record {
        root = given_later d _ (grows_make counts e) root given;
        fresh = λ id same. subst (IsGiven (record (passed taken) { issued = counts })) (some_id fresh id same)
            (record { number = below; out = record { run = omega arith; serial = λ _. omega arith } });
      }

      -- a link to the new object is not put into that object
      link_none : (place : LinkPlace) (own same : Bool) → (same ≡ true → ⊥) → (f : Object → Reply × Object)
          → (changed_by f (missing grant place.group) None (cond own (cond same (Some empty_group) None) None)).1 ≡ None
      link_none place true true differ f = absurd (differ refl)
      link_none place true false differ f = refl
      link_none place false same differ f = refl

      after_or : (place : LinkPlace) (tied : Bool) → eq_by_cmp id_order fresh place.group ≡ tied
          → cond tied (linking grant (Some place) (Some fresh) (get m place.group)).1 (get m fresh) ≡ None
      after_or place true e =
          let same : fresh ≡ place.group = tied_ids fresh place.group e in
          let none : get m place.group ≡ None = ap (get m) (sym same) ∙ new_here in
          ap (λ o. (linking grant (Some place) (Some fresh) o).1) none
          ∙ link_none place (place.group.domain == number) (id_eq place.group root)
          (λ t. not_given (subst (IsGiven d) (sym same) (given_same d place.group root t given))) (link_to place fresh)
      after_or place false e = new_here

      after_link : (place : LinkPlace) → get (acted grant (MakeObject make (Some place)) Link m).1 fresh ≡ None
      after_link place = get-set_at m place.group (linking grant (Some place) (Some fresh) (get m place.group)).1 fresh ∙ after_or place (eq_by_cmp id_order fresh place.group) refl

      make_is : (place : Option LinkPlace) → IsDecided d (MakeObject make place) m (make_steps taken number root fresh place)
      make_is None = record {
        grows = grows_make (counted d.issued fresh) (length-counted d.issued fresh);
        given = granted_given (counted d.issued fresh) _ (length-counted d.issued fresh);
        servable = (group, (lane_below d.issued fresh refl, record { step = refl; touches = refl; fresh = record { kind = refl; new = new_here } }, λ done. tt));
      }
      make_is (Some place) =
          let first = counted d.issued place.group in
          let e : length first ≡ length d.issued = length-counted d.issued place.group in
          let both : length (counted first fresh) ≡ length d.issued = length-counted first fresh ∙ e in
          record {
            grows = grows_make (counted first fresh) both;
            given = granted_given (counted first fresh) _ both;
            servable = (
              group,
              (
                lane_below d.issued place.group refl,
                record { step = tt; touches = refl; fresh = record { kind = refl; new = new_here } },
                λ done. (lane_below first fresh e, record { step = tt; touches = ap (λ j. lane_of j fresh) (sym e); fresh = record { kind = refl; new = after_link place } }, λ last. tt),
              ),
            );
          }

      make_or : (place : Option LinkPlace) (few : Bool)
          → IsDecided d (MakeObject make place) m (cond few (make_steps taken number root fresh place) (refused (Limit (most_of limit.Serial) limit.Serial) d))
      make_or place true = make_is place
      make_or place false = refused_is (MakeObject make place) _

      pub made_is : (place : Option LinkPlace) → IsDecided d (MakeObject make place) m (make_granted d number root make place)
      made_is place = make_or place (nat_lt d.serial serial_limit)

  -- ---- at a node

  -- the root of a domain in the catalogue is a group that was given
  module _ (catalogue : IsCatalogue d.catalogue) (path : List ℕ) (node : Node) (here : get d.catalogue.nodes path ≡ Some node) where
    stands : (number : ℕ) (root : Id) → node.class ≡ Domain number root → IsDomainAt d.catalogue path number root
    stands number root e = ap (option_map (λ n. n.class)) here ∙ ap Some e

    root_group : (number : ℕ) (root : Id) → node.class ≡ Domain number root → root.kind ≡ Group
    root_group number root e = (catalogue.roots path number root (stands number root e)).0

    root_below : (number : ℕ) (root : Id) → node.class ≡ Domain number root → number < d.catalogue.next
    root_below number root e = catalogue.below path number root (stands number root e)

    root_given : (number : ℕ) (root : Id) → node.class ≡ Domain number root → IsGiven d root
    root_given number root e = record {
      number = omega (arith, root_below number root e, (catalogue.roots path number root (stands number root e)).1);
      out = register.roots path number root (stands number root e);
    }

    drop_at : (class : NodeClass) → node.class ≡ class → (c : Contents) (marks : Marked) → d.catalogue.next ≤ c.next → IsDecided d DropNode m (forgotten (record d { catalogue = c; marks = marks }) class)
    drop_at Folder e c marks h = record { grows = grows_with c marks h; given = tt; servable = tt }
    drop_at (Domain number root) e c marks h = dropped_is number root (root_group number root e) (root_given number root e) (root_below number root e) c marks h

    removed_is : (own : List ℕ) (fault : Option CatFault) → IsDecided d DropNode m (node_removed d own node.class fault)
    removed_is own None = drop_at node.class refl (without_node d.catalogue own) (with_path d.marks own) (omega arith)
    removed_is own (Some fault) = refused_is DropNode (cat_refusal own fault)

    make_at : (make : Make) (place : Option LinkPlace) (class : NodeClass) → node.class ≡ class → IsDecided d (MakeObject make place) m (in_domain d (MakeObject make place) class)
    make_at make place Folder e = refused_is (MakeObject make place) NoDomain
    make_at make place (Domain number root) e = made_is number root (root_group number root e) (root_given number root e) (root_below number root e) make place

    in_is : (op : Op) (class : NodeClass) → node.class ≡ class → IsDecided d op m (in_domain d op class)
    in_is (MakeObject make place) class e = make_at make place class e
    in_is op Folder e = refused_is op NoDomain
    in_is op (Domain number root) e = object_is number root (root_group number root e) (root_given number root e) (root_below number root e) op (foreign_in number op)

    granted_is : (caller : Caller) (own : List ℕ) (op : Op) → IsDecided d op m (granted d caller own op node)
    granted_is caller own GetNode = answered_is GetNode 200 (node_tree node)
    granted_is caller own (PutNode folder) = node_is (PutNode folder) caller own folder
    granted_is caller own Flush = answered_is Flush 204 nothing
    granted_is caller own DropNode = removed_is own (remove_fault d.catalogue own)
    granted_is caller own ListNodes = answered_is ListNodes 200 (children_body d.catalogue own)
    granted_is caller own GetAcls = answered_is GetAcls 200 (acls_body node.list)
    granted_is caller own (GetAcl name) = entry_is (GetAcl name) name (get node.list name)
    granted_is caller own (PutAcl name rights) = put_is (PutAcl name rights) own name rights (entry_fault d.catalogue own name)
    granted_is caller own op = in_is op node.class refl

    allowed_or : (caller : Caller) (own : List ℕ) (op : Op) (fit given : Bool)
        → IsDecided d op m (cond fit (cond given (granted d caller own op node) (verdict.Denied (right_for op), passed d)) (refused NoDomain d))
    allowed_or caller own op true true = granted_is caller own op
    allowed_or caller own op true false = denied_is op
    allowed_or caller own op false given = refused_is op NoDomain

  maybe_is : IsCatalogue d.catalogue → (caller : Caller) (own path : List ℕ) (op : Op) (o : Option Node) → get d.catalogue.nodes path ≡ o → IsDecided d op m (at_maybe d caller own op o)
  maybe_is catalogue caller own path op None e = refused_is op NoDomain
  maybe_is catalogue caller own path op (Some node) e = allowed_or catalogue path node e caller own op (fits op node.class) (has node.list caller (right_for op))

  decided_is : IsCatalogue d.catalogue → (caller : Caller) (request : Request) → IsDecided d request.op m (decided d caller request)
  decided_is catalogue caller request = maybe_is catalogue caller request.path (decided_at request) request.op (get d.catalogue.nodes (decided_at request)) refl

  -- the same of what a call says
  pub decides_is : IsCatalogue d.catalogue → (caller : Caller) (request : Request) (v : Verdict) (new : RegisterState) → Decides d caller request v new → IsDecided d request.op m (v, new)
  decides_is catalogue caller request (verdict.Granted issue) new e = subst (IsDecided d request.op m) (sym e) (decided_is catalogue caller request)
  decides_is catalogue caller request (verdict.Answered answer) new e = subst (IsDecided d request.op m) (sym e) (decided_is catalogue caller request)
  decides_is catalogue caller request (verdict.Denied right) new e = subst (IsDecided d request.op m) (sym e) (decided_is catalogue caller request)
  decides_is catalogue caller request (verdict.Refused refusal) new e = subst (IsDecided d request.op m) (sym e) (decided_is catalogue caller request)
  decides_is catalogue caller request verdict.NoMemory new e =
      subst (λ (x : RegisterState). IsDecided d request.op m (verdict.NoMemory, x)) (sym e.2) (record { grows = grows_place; given = tt; servable = tt })
