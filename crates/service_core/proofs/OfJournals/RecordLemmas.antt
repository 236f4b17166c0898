-- The records that the first cut of a catalogue's world adds.
use Rattle.std.proofs.Common.{◌≡◌, ◌≢◌, ◌∙◌, ⊎_elim, inl, inr, ℕ, Bool, true, false, List, [], ◌∷◌, ◌++◌, Option, Some, None, is_some, sym, ap, subst}
use Rattle.std.specs.Prelude.{◌&&◌, ◌||◌, option_and_then}
use Rattle.std.specs.FinMap.{contains_key, empty, get, get-empty}
use Rattle.std.specs.List.{AllByRecursion}
use Rattle.containers.specs.TextMaps.Keyed.{text_order}
use Rattle.flush_journal.specs.Records.{Held, Record, kept_body, put_all, put_record}
use Rattle.flush_journal.proofs.PutLemmas.{put_last}
use Rattle.flush_journal.specs.Cuts.Cuts.{AppendsOnce, AreOnce, IsCut}
use Rattle.flush_journal.proofs.OfCuts.CutLemmas.{all_more}
use Rattle.object_records.specs.Keys.Keys.{chunk_key, next_key, node_key, object_key, run_key}
use Rattle.object_records.specs.Keys.Numbers.{next_bytes, run_bytes}
use Rattle.domains.specs.Records.Nodes.{node_of_body}
use Rattle.domains.specs.Contents.{Contents}
use Rattle.domains.specs.declared.classes.Node.{Node}
use Rattle.object_ids.specs.IdValues.{Id}
use Rattle.object_ids.specs.Ids.{InRange}
use Rattle.object_acts.specs.declared.objects.Body.TheVariants as body
use Rattle.object_acts.specs.declared.objects.Object.{Object}
use Rattle.object_acts.specs.Objects.{empty_group, kind_of_body, Objects}
use Rattle.object_records.specs.Entries.{entry_of}
use Rattle.object_records.specs.Objects.{object_of_body}
use Rattle.chunk_owner.specs.Slots.Bodies.{IsRecordOf, of_chunk, of_none, of_object}
use Rattle.chunk_owner.specs.Slots.Slots.{Describes}
use Rattle.chunk_owner.specs.Lanes.{Lane}
use Rattle.chunk_owner.specs.Owners.Records.{AreUndropped, IsMarkedIn}
use Rattle.register.specs.Decided.{RegisterState, opened}
use Rattle.register.specs.Kept.{IsRegisterRecord, a_node, all_kept, is_marked, of_next, of_node, of_run, the_next, the_run}
use Rattle.register.specs.Kept.{numbers_marked}
use Rattle.register.specs.Kept.{of_none as of_no_node}
use Rattle.service_core.specs.Cutting.{CutsInTurn}
use Rattle.service_core.specs.Records.{DescribesWorld, IsCutRecord, IsKept, IsSameWorld, IsWorldMarked, IsWorldRecord, WorldSays, as_kept}
use Rattle.service_core.specs.Steps.{World}
use Rattle.service_core.specs.Worlds.{State, seen}
use Rattle.service_core.specs.Journals.FirstJournals.{AreFirstRecords}
use Rattle.service_core.specs.Journals.Groups.{HasFirstGroups, groups_on, roots_of}
use Rattle.service_core.proofs.OfJournals.GroupLemmas.{first_groups}

-- ---- lists of records

all_both : (P Q R : Record → Type 0) → ((r : Record) → P r → Q r → R r) → (rs : List Record) → AllByRecursion P rs → AllByRecursion Q rs → AllByRecursion R rs
all_both P Q R f [] h g = tt
all_both P Q R f (r ∷ rs) h g = (f r h.0 g.0, all_both P Q R f rs h.1 g.1)

-- of records of which no two have one key, the map has at each key what its record says
each_is_held : (m : Held) (rs : List Record) → AreOnce rs → AllByRecursion (λ r. get (put_all rs m) r.0 ≡ kept_body r.1) rs
each_is_held m [] once = tt
each_is_held m (r ∷ rs) once = (put_last m [] rs r.0 r.1 once.0, each_is_held (put_record r m) rs once.1)

-- ---- records without a byte

-- the key of a node is none of a lane
no_lane_key : (ls : List Lane) (key path : List ℕ) → key ≡ node_key path → IsMarkedIn ls key → ⊥
no_lane_key [] key path is marked = absurd marked
no_lane_key (l ∷ ls) key path is (inl m) = ⊎_elim
    (λ of. absurd (let bad : node_key path ≡ object_key m.id = sym is ∙ of.0 in cc))
    (λ of. absurd (let bad : node_key path ≡ chunk_key m.id of.0 = sym is ∙ of.1 in cc))
    m.part
no_lane_key (l ∷ ls) key path is (inr later) = no_lane_key ls key path is later

-- the first cut writes no record of a missing node
module _ (c : Contents) (lanes : ℕ) (s : State) (opens : s.register ≡ opened c lanes 0) where
  no_missing_node : (key path : List ℕ) → key ≡ node_key path → get c.nodes path ≡ None → IsWorldMarked s key → ⊥
  no_missing_node key path is none (inl (the_run on same)) = let bad : node_key path ≡ run_key = sym is ∙ same in cc
  no_missing_node key path is none (inl (the_next on same)) = let bad : node_key path ≡ next_key = sym is ∙ same in cc
  no_missing_node key path is none (inl (a_node q on same)) =
      let keys : node_key q ≡ node_key path = sym same ∙ is in
      let paths : q ≡ path = cc in
      let marked : is_marked (opened c lanes 0) path ≡ true = subst (λ (p : List ℕ). is_marked (opened c lanes 0) p ≡ true) paths (subst (λ (d : RegisterState). is_marked d q ≡ true) opens on) in
      let off : is_marked (opened c lanes 0) path ≡ false =
      ap (λ (o : Option Node). contains_key (empty {X = Bool} {R = text_order}) path || (true && is_some o)) none
      ∙ ap (λ (o : Option Bool). is_some o || (true && false)) (get-empty text_order path) in
      absurd (let bad : true ≡ false = sym marked ∙ off in cc)
  no_missing_node key path is none (inr marked) = no_lane_key s.lanes key path is marked

-- once what is held describes the world
module _ (c : Contents) (lanes : ℕ) (s : State) (opens : s.register ≡ opened c lanes 0) (groups : HasFirstGroups c (as_kept s).objects) (undropped : AreUndropped s.lanes) (held : Held) (run : ℕ)
    (told : DescribesWorld held run (as_kept s)) where
  is_held : (r : Record) (key found : List ℕ) → r.0 ≡ key → get held r.0 ≡ None → get held key ≡ Some found → ⊥
  is_held r key found is none here = absurd (let bad : None ≡ Some found = sym none ∙ ap (get held) is ∙ here in cc)

  no_register_gap : (r : Record) → IsWorldMarked s r.0 → get held r.0 ≡ None → IsRegisterRecord (all_kept s.register) r → ⊥
  no_register_gap r marked none (of_run is) = is_held r run_key (run_bytes run) (ap (λ (x : Record). x.0) is) none told.register.kept.here
  no_register_gap r marked none (of_next is) = is_held r next_key (next_bytes s.register.catalogue.next) (ap (λ (x : Record). x.0) is) none told.register.next.here
  no_register_gap r marked none (of_node path node here is) =
      let gone : get held (node_key path) ≡ None = sym (ap (λ (x : Record). get held x.0) is) ∙ none in
      absurd (let bad : Some node ≡ None = sym here ∙ told.register.nodes path ∙ ap (option_and_then node_of_body) gone in cc)
  no_register_gap r marked none (of_no_node path missing is) =
      no_missing_node c lanes s opens r.0 path (ap (λ (x : Record). x.0) is) (sym (ap (λ (d : RegisterState). get d.catalogue.nodes path) opens) ∙ missing) marked

  group_there : (id : Id) (o : Object) → get (as_kept s).objects id ≡ Some o → o ≡ empty_group
  group_there id o here =
      let domain = groups.at_roots_only id (ap is_some here) in
      let both : ◌≡◌ {A = Option Object} (Some o) (Some empty_group) = sym here ∙ groups.at_roots domain.0 domain.1 id domain.2 in
      cc

  no_object_gap : (r : Record) → get held r.0 ≡ None → (id : Id) → InRange id → (o : Object) → get (as_kept s).objects id ≡ Some o → IsRecordOf id (Some o) r → ⊥
  no_object_gap r none id range o here (of_object x same is) =
      let gone : get held (object_key id) ≡ None = sym (ap (λ (y : Record). get held y.0) is) ∙ none in
      let read = (subst (Describes held id) here (told.objects id range)).1 in
      absurd (let bad : None ≡ Some (entry_of o) = sym (ap (option_and_then (object_of_body (kind_of_body o.body))) gone) ∙ read in cc)
  no_object_gap r none id range o here (of_chunk x array i same dataset index kind is) =
      let only : o ≡ x = cc in
      absurd (let bad : empty_group.body ≡ body.Dataset array = ap (λ (y : Object). y.body) (sym (group_there id o here) ∙ only) ∙ dataset in cc)
  no_object_gap r none id range o here (of_none gone bare key) = absurd (let bad : ◌≡◌ {A = Option Object} (Some o) None = gone in cc)

  has_body : (r : Record) → IsCutRecord s r → get held r.0 ≡ kept_body r.1 → r.1 ≢ []
  has_body r cut there bare = ⊎_elim (no_register_gap r cut.marked none) (λ o. no_object_gap r none o.id o.range o.object o.here o.of) (cut.standing undropped) where
    none : get held r.0 ≡ None
    none = there ∙ ap kept_body bare

-- ---- all of them

pub first_records : (c : Contents) (lanes : ℕ) (old new : State) (before after : List Record)
    → seen old ≡ record { register = opened c lanes 0; objects = groups_on empty (roots_of c) }
    → WorldSays old empty → AreUndropped old.lanes → before ≡ []
    → ((base : Held) → IsCut (IsWorldMarked old) base before after (λ held. WorldSays old base → WorldSays new held))
    → AppendsOnce (IsCutRecord old) before after
    → IsSameWorld old new → IsKept new
    → ((held : Held) → WorldSays new held → DescribesWorld held new.register.run (seen new))
    → CutsInTurn old before after
    → AreFirstRecords c after
first_records c lanes old new before after is says undropped none cut bodies same kept described turn = record {
  some = some;
  holds = record { world = as_kept old; nodes = ap (λ (w : World). w.register.catalogue) is; groups = groups; described = told };
  once = once;
  each = all_more (IsCutRecord old) (IsWorldRecord (as_kept old)) after (λ r h. h.stands) each;
  bodies = all_both (IsCutRecord old) (λ r. get (put_all after empty) r.0 ≡ kept_body r.1) (λ r. r.1 ≢ [])
      (has_body c lanes old (ap (λ (w : World). w.register) is) groups undropped (put_all after empty) 0 told) after each (each_is_held empty after once);
  order = record {
    nodes = turn.register.nodes;
    groups = turn.objects.added;
    are = turn.objects.appended ∙ ap (λ (rs : List Record). rs ++ turn.objects.added) (turn.register.added ∙ numbers);
    of_nodes = turn.register.of_nodes;
    of_groups = turn.objects.each;
  };
}
  where
    opens : old.register ≡ opened c lanes 0
    opens = ap (λ (w : World). w.register) is

    -- in front of the records of nodes
    numbers : before ++ (numbers_marked old.register.run old.register.catalogue old.register.marks ++ turn.register.nodes)
        ≡ (run_key, run_bytes 0) ∷ (next_key, next_bytes c.next) ∷ turn.register.nodes
    numbers = λ i. none i ++ (numbers_marked (opens i).run (opens i).catalogue (opens i).marks ++ turn.register.nodes)

    -- nothing stood in the batch before
    whole : (added : List Record) → after ≡ before ++ added → added ≡ after
    whole added appended = sym (appended ∙ ap (λ (rs : List Record). rs ++ added) none)

    once : AreOnce after
    once = subst AreOnce (whole bodies.added bodies.appended) bodies.once

    each : AllByRecursion (IsCutRecord old) after
    each = subst (λ (rs : List Record). AllByRecursion (IsCutRecord old) rs) (whole bodies.added bodies.appended) bodies.each

    groups : HasFirstGroups c (as_kept old).objects
    groups = subst (λ (m : Objects). HasFirstGroups c m) (sym (ap (λ (w : World). w.objects) is)) (first_groups c)

    one : IsCut (IsWorldMarked old) empty before after (λ held. WorldSays old empty → WorldSays new held)
    one = cut empty

    said : WorldSays new (put_all after empty)
    said = subst (λ (rs : List Record). WorldSays new (put_all rs empty)) (whole one.added one.appended) (one.stands says)

    -- the new world is the old one, of which nothing is to be written
    world_is : seen new ≡ as_kept old
    world_is = λ i. record { register = (kept.register ∙ same.register) i; objects = same.objects i }

    run_is : new.register.run ≡ 0
    run_is = ap (λ (w : World). w.register.run) world_is ∙ ap (λ (w : World). w.register.run) is

    told : DescribesWorld (put_all after empty) 0 (as_kept old)
    told = subst (λ (run : ℕ). DescribesWorld (put_all after empty) run (as_kept old)) run_is
        (subst (λ (w : World). DescribesWorld (put_all after empty) new.register.run w) world_is (described (put_all after empty) said))

    some : after ≢ []
    some e =
        let nothing : put_all after empty ≡ empty = ap (λ (rs : List Record). put_all rs empty) e in
        let bad = sym (get-empty text_order run_key) ∙ ap (λ (m : Held). get m run_key) (sym nothing) ∙ told.register.kept.here in
        cc
