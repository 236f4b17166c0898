-- What a cut of a register leaves.
use Rattle.std.proofs.Common.{◌≡◌, ◌≢◌, ◌⊎◌, inl, inr, ℕ, List, [], ◌∷◌, ◌++◌, Bool, true, false, not, ◌&&◌, ◌||◌, Option, Some, None, is_eq, refl, sym, ap, subst, ◌∙◌}
use Rattle.std.specs.Prelude.{option_and_then}
use Rattle.std.specs.Cmp.Lexicographic.{nat_list_cmp_total}
use Rattle.std.specs.FinMap.{contains_key, get}
use Rattle.std.specs.List.{AllByRecursion}
use Rattle.std.proofs.lemmas.Cmp.{tied_itself}
use Rattle.containers.specs.TextMaps.Keyed.{text_order}
use Rattle.flush_journal.specs.Records.{Held, Record, kept_body, put_all, put_record}
use Rattle.flush_journal.proofs.PutLemmas.{put_last, put_others, tied}
use Rattle.flush_journal.specs.Cuts.Cuts.{AppendsEach, IsCut}
use Rattle.flush_journal.proofs.OfCuts.CutLemmas.{all_more, appends_all}
use Rattle.domains.specs.Contents.{Contents}
use Rattle.domains.specs.declared.classes.Node.{Node}
use Rattle.object_records.specs.Keys.Keys.{next_key, node_key, run_key}
use Rattle.object_records.specs.Keys.Numbers.{next_bytes, run_bytes}
use Rattle.domains.specs.Records.Nodes.{node_of_body}
use Rattle.register.specs.Marks.{Marked}
use Rattle.register.specs.Decided.{RegisterState}
use Rattle.register.specs.Kept.{IsHeldNode, IsRegisterMarked, the_run, the_next, a_node, IsRegisterRecord, of_run, of_next, of_node, of_none, RegisterSays, all_kept, is_marked, is_marked_in}
use Rattle.register.specs.Cutting.{AddsRegister, AreAdded, IsAmong, IsDueNode, IsDueOne, IsNodeBody, IsRightNode, IsRightOne, OfEither, is_of_all, is_of_paths}
use Rattle.containers.proofs.Passing.{by_bool, contrary}
use Rattle.register.proofs.Parts.{AreApart}
use Rattle.register.proofs.OfInstalled.NodeKeys.{key_path}

-- ---- where the last record of a key says what stands there

module _ (P : Option (List ℕ) → Type 0) (key : List ℕ) where
  pub settled : (added : List Record) (held : Held) → AllByRecursion (λ r. r.0 ≡ key → P (kept_body r.1)) added → P (get held key) ⊎ IsAmong key added → P (get (put_all added held) key)
  settled [] held h (inl before) = before
  settled [] held h (inr among) = absurd among
  settled (r ∷ rs) held h s = by_bool (is_eq (text_order r.0 key)) (P (get (put_all rs (put_record r held)) key))
      (λ y. let same = tied r.0 key y in
      settled rs (put_record r held) h.1 (inl (subst P (sym (ap (get (put_record r held)) (sym same) ∙ put_last held [] [] r.0 r.1 tt)) (h.0 same))))
      (λ n. settled rs (put_record r held) h.1 (other (elsewhere n) s)) where
        elsewhere : is_eq (text_order r.0 key) ≡ false → r.0 ≢ key
        elsewhere n same = contrary (is_eq (text_order r.0 key)) ⊥ (ap (λ (k : List ℕ). is_eq (text_order r.0 k)) (sym same) ∙ ap is_eq (tied_itself nat_list_cmp_total r.0)) n

        other : r.0 ≢ key → P (get held key) ⊎ IsAmong key (r ∷ rs) → P (get (put_record r held) key) ⊎ IsAmong key rs
        other apart (inl before) = inl (subst P (sym (put_others held (r ∷ []) key (apart, tt))) before)
        other apart (inr (inl same)) = absurd (apart same)
        other apart (inr (inr later)) = inr later

kept_some : (body : List ℕ) → body ≢ [] → kept_body body ≡ Some body
kept_some [] some = absurd (some refl)
kept_some (b ∷ body) some = refl

held_node : (o : Option Node) (body : List ℕ) → IsNodeBody o body → IsHeldNode o (kept_body body)
held_node None body is = ap kept_body is
held_node (Some node) body is = ap (option_and_then node_of_body) (kept_some body is.1) ∙ is.0

-- ---- marks, by truth values: a path is marked, all nodes are, and one stands there

marked_is : (a b n : Bool) → (a || (b && n)) ≡ true → ((b && (n && not (false && n))) ≡ true) ⊎ ((a && not (b && n)) ≡ true)
marked_is a true true e = inl refl
marked_is true true false e = inr refl
marked_is false true false e = contrary false (((true && (false && not (false && false))) ≡ true) ⊎ ((false && not (true && false)) ≡ true)) e refl
marked_is true false n e = inr refl
marked_is false false n e = contrary false (((false && (n && not (false && n))) ≡ true) ⊎ ((false && not (false && n)) ≡ true)) e refl

of_all_marked : (a b n : Bool) → (b && (n && not (false && n))) ≡ true → (a || (b && n)) ≡ true
of_all_marked true b n e = refl
of_all_marked false true true e = refl
of_all_marked false true false e = contrary false ((false || (true && false)) ≡ true) e refl
of_all_marked false false n e = contrary false ((false || (false && n)) ≡ true) e refl

of_paths_marked : (a b n : Bool) → (a && not (b && n)) ≡ true → (a || (b && n)) ≡ true
of_paths_marked true b n e = refl
of_paths_marked false b n e = contrary false ((false || (b && n)) ≡ true) e refl

not_both : (a b n : Bool) → (b && (n && not (false && n))) ≡ true → (a && not (b && n)) ≡ true → ⊥
not_both true true true e f = contrary false ⊥ f refl
not_both false true true e f = contrary false ⊥ f refl
not_both a true false e f = contrary false ⊥ e refl
not_both a false n e f = contrary false ⊥ e refl

-- ---- parts are apart

pub numbers_apart : (c : Contents) (m : Marked) (run : ℕ) → AreApart (IsRightOne m.run run_key (run_bytes run)) (IsRightOne m.next next_key (next_bytes c.next)) (IsDueOne m.run run_key) (IsDueOne m.next next_key)
numbers_apart c m run r s h g same = absurd (let e : run_key ≡ next_key = sym (ap (λ (x : Record). x.0) h.1) ∙ same ∙ ap (λ (x : Record). x.0) g.1 in cc)

pub nodes_apart : (c : Contents) (m : Marked) → AreApart (IsRightNode c (is_of_all c m)) (IsRightNode c (is_of_paths c m)) (IsDueNode (is_of_all c m)) (IsDueNode (is_of_paths c m))
nodes_apart c m r s h g same =
    not_both (contains_key m.paths g.0) m.all (contains_key c.nodes g.0)
    (subst (λ (p : List ℕ). is_of_all c m p ≡ true) (key_path h.0 g.0 (sym h.2 ∙ same ∙ g.2)) h.1) g.1

module _ (run : ℕ) (c : Contents) (m : Marked) where
  abbrev Right : Record → Type 0
  Right = OfEither (OfEither (IsRightOne m.run run_key (run_bytes run)) (IsRightOne m.next next_key (next_bytes c.next))) (OfEither (IsRightNode c (is_of_all c m)) (IsRightNode c (is_of_paths c m)))

  abbrev Due : List ℕ → Type 0
  Due = OfEither (OfEither (IsDueOne m.run run_key) (IsDueOne m.next next_key)) (OfEither (IsDueNode (is_of_all c m)) (IsDueNode (is_of_paths c m)))

  no_run : (path : List ℕ) → run_key ≡ node_key path → ⊥
  no_run path e = absurd (cc)

  no_next : (path : List ℕ) → next_key ≡ node_key path → ⊥
  no_next path e = absurd (cc)

  no_two : run_key ≡ next_key → ⊥
  no_two e = absurd (cc)

  pub parts_apart : AreApart (OfEither (IsRightOne m.run run_key (run_bytes run)) (IsRightOne m.next next_key (next_bytes c.next))) (OfEither (IsRightNode c (is_of_all c m)) (IsRightNode c (is_of_paths c m)))
      (OfEither (IsDueOne m.run run_key) (IsDueOne m.next next_key)) (OfEither (IsDueNode (is_of_all c m)) (IsDueNode (is_of_paths c m)))
  parts_apart r s (inl h) (inl g) same = no_run g.0 (sym (ap (λ (x : Record). x.0) h.1) ∙ same ∙ g.2)
  parts_apart r s (inl h) (inr g) same = no_run g.0 (sym (ap (λ (x : Record). x.0) h.1) ∙ same ∙ g.2)
  parts_apart r s (inr h) (inl g) same = no_next g.0 (sym (ap (λ (x : Record). x.0) h.1) ∙ same ∙ g.2)
  parts_apart r s (inr h) (inr g) same = no_next g.0 (sym (ap (λ (x : Record). x.0) h.1) ∙ same ∙ g.2)

  -- ---- what each right record says

  four : (n : ℕ) → run_bytes n ≢ []
  four n e = absurd (cc)

  eight : (n : ℕ) → next_bytes n ≢ []
  eight n e = absurd (cc)

  run_said : (r : Record) → Right r → r.0 ≡ run_key → kept_body r.1 ≡ Some (run_bytes run)
  run_said r (inl (inl h)) same = ap (λ (x : Record). kept_body x.1) h.1 ∙ kept_some (run_bytes run) (four run)
  run_said r (inl (inr h)) same = absurd (no_two (sym same ∙ ap (λ (x : Record). x.0) h.1))
  run_said r (inr (inl h)) same = absurd (no_run h.0 (sym same ∙ h.2))
  run_said r (inr (inr h)) same = absurd (no_run h.0 (sym same ∙ h.2))

  next_said : (r : Record) → Right r → r.0 ≡ next_key → kept_body r.1 ≡ Some (next_bytes c.next)
  next_said r (inl (inl h)) same = absurd (no_two (sym (ap (λ (x : Record). x.0) h.1) ∙ same))
  next_said r (inl (inr h)) same = ap (λ (x : Record). kept_body x.1) h.1 ∙ kept_some (next_bytes c.next) (eight c.next)
  next_said r (inr (inl h)) same = absurd (no_next h.0 (sym same ∙ h.2))
  next_said r (inr (inr h)) same = absurd (no_next h.0 (sym same ∙ h.2))

  at_path : (path : List ℕ) (r : Record) (p : List ℕ) → r.0 ≡ node_key p → IsNodeBody (get c.nodes p) r.1 → r.0 ≡ node_key path → IsHeldNode (get c.nodes path) (kept_body r.1)
  at_path path r p is body same = subst (λ (q : List ℕ). IsHeldNode (get c.nodes q) (kept_body r.1)) (key_path p path (sym is ∙ same)) (held_node (get c.nodes p) r.1 body)

  node_said : (path : List ℕ) (r : Record) → Right r → r.0 ≡ node_key path → IsHeldNode (get c.nodes path) (kept_body r.1)
  node_said path r (inl (inl h)) same = absurd (no_run path (sym (ap (λ (x : Record). x.0) h.1) ∙ same))
  node_said path r (inl (inr h)) same = absurd (no_next path (sym (ap (λ (x : Record). x.0) h.1) ∙ same))
  node_said path r (inr (inl h)) same = at_path path r h.0 h.2 h.3 same
  node_said path r (inr (inr h)) same = at_path path r h.0 h.2 h.3 same

  due_node : (path : List ℕ) → is_marked_in c m path ≡ true → Due (node_key path)
  due_node path e = at (marked_is (contains_key m.paths path) m.all (contains_key c.nodes path) e) where
    at : (is_of_all c m path ≡ true) ⊎ (is_of_paths c m path ≡ true) → Due (node_key path)
    at (inl of) = inr (inl (path, of, refl))
    at (inr of) = inr (inr (path, of, refl))

-- ---- the register

module _ (d : RegisterState) where
  right_marked : (r : Record) → Right d.run d.catalogue d.marks r → IsRegisterMarked d r.0
  right_marked r (inl (inl h)) = the_run h.0 (ap (λ (x : Record). x.0) h.1)
  right_marked r (inl (inr h)) = the_next h.0 (ap (λ (x : Record). x.0) h.1)
  right_marked r (inr (inl h)) = a_node h.0 (of_all_marked (contains_key d.marks.paths h.0) d.marks.all (contains_key d.catalogue.nodes h.0) h.1) h.2
  right_marked r (inr (inr h)) = a_node h.0 (of_paths_marked (contains_key d.marks.paths h.0) d.marks.all (contains_key d.catalogue.nodes h.0) h.1) h.2

  node_stands : (path : List ℕ) (r : Record) (o : Option Node) → get d.catalogue.nodes path ≡ o → r.0 ≡ node_key path → IsNodeBody o r.1 → IsRegisterRecord d r
  node_stands path r None there key body = of_none path there (λ i. (key i, body i))
  node_stands path r (Some node) there key body = of_node path node there (λ i. (key i, body.2 i))

  right_stands : (r : Record) → Right d.run d.catalogue d.marks r → IsRegisterRecord d r
  right_stands r (inl (inl h)) = of_run h.1
  right_stands r (inl (inr h)) = of_next h.1
  right_stands r (inr (inl h)) = node_stands h.0 r (get d.catalogue.nodes h.0) refl h.2 h.3
  right_stands r (inr (inr h)) = node_stands h.0 r (get d.catalogue.nodes h.0) refl h.2 h.3

  -- each record that was added is of a key that is marked, and of what stands
  pub appends_right : (whole : Bool) (old new : List Record) → AddsRegister d.run d.catalogue d.marks whole old new → AppendsEach (λ r. IsRegisterMarked d r.0 × IsRegisterRecord d r) old new
  appends_right whole old new adds =
      appends_all (λ r. IsRegisterMarked d r.0 × IsRegisterRecord d r) old new adds.0
      (all_more (Right d.run d.catalogue d.marks) (λ r. IsRegisterMarked d r.0 × IsRegisterRecord d r) adds.0 (λ r h. (right_marked r h, right_stands r h)) adds.1.right) adds.2

module _ (d : RegisterState) (added : List Record) (whole : Bool) (a : AreAdded (Right d.run d.catalogue d.marks) (Due d.run d.catalogue d.marks) whole added) (base : Held) where
  run_there : (get base run_key ≡ Some (run_bytes d.run)) ⊎ IsAmong run_key added → get (put_all added base) run_key ≡ Some (run_bytes d.run)
  run_there s = settled (λ o. o ≡ Some (run_bytes d.run)) run_key added base
      (all_more (Right d.run d.catalogue d.marks) (λ r. r.0 ≡ run_key → kept_body r.1 ≡ Some (run_bytes d.run)) added (λ r h. run_said d.run d.catalogue d.marks r h) a.right) s

  next_there : (get base next_key ≡ Some (next_bytes d.catalogue.next)) ⊎ IsAmong next_key added → get (put_all added base) next_key ≡ Some (next_bytes d.catalogue.next)
  next_there s = settled (λ o. o ≡ Some (next_bytes d.catalogue.next)) next_key added base
      (all_more (Right d.run d.catalogue d.marks) (λ r. r.0 ≡ next_key → kept_body r.1 ≡ Some (next_bytes d.catalogue.next)) added (λ r h. next_said d.run d.catalogue d.marks r h) a.right) s

  node_there : (path : List ℕ) → IsHeldNode (get d.catalogue.nodes path) (get base (node_key path)) ⊎ IsAmong (node_key path) added
      → IsHeldNode (get d.catalogue.nodes path) (get (put_all added base) (node_key path))
  node_there path s = settled (λ o. IsHeldNode (get d.catalogue.nodes path) o) (node_key path) added base
      (all_more (Right d.run d.catalogue d.marks) (λ r. r.0 ≡ node_key path → IsHeldNode (get d.catalogue.nodes path) (kept_body r.1)) added (λ r h. node_said d.run d.catalogue d.marks path r h) a.right) s

  says_still : RegisterSays d base → RegisterSays d (put_all added base)
  says_still s = record {
    run = λ e. run_there (inl (s.run e));
    next = λ e. next_there (inl (s.next e));
    nodes = λ path e. node_there path (inl (s.nodes path e));
  }

  says_all : whole ≡ true → RegisterSays d base → RegisterSays (all_kept d) (put_all added base)
  says_all w s = record {
    run = λ _. run_there (by_bool d.marks.run ((get base run_key ≡ Some (run_bytes d.run)) ⊎ IsAmong run_key added)
        (λ y. inr (a.all w run_key (inl (inl (y, refl))))) (λ n. inl (s.run n)));
    next = λ _. next_there (by_bool d.marks.next ((get base next_key ≡ Some (next_bytes d.catalogue.next)) ⊎ IsAmong next_key added)
        (λ y. inr (a.all w next_key (inl (inr (y, refl))))) (λ n. inl (s.next n)));
    nodes = λ path _. node_there path (by_bool (is_marked d path) (IsHeldNode (get d.catalogue.nodes path) (get base (node_key path)) ⊎ IsAmong (node_key path) added)
        (λ y. inr (a.all w (node_key path) (due_node d.run d.catalogue d.marks path y))) (λ n. inl (s.nodes path n)));
  }

  added_cut : (old new : List Record) (later : Held → Type 0) → new ≡ old ++ added → later (put_all added base) → IsCut (IsRegisterMarked d) base old new later
  added_cut old new later e stands = record {
    added = added;
    appended = e;
    changed = all_more (Right d.run d.catalogue d.marks) (λ r. IsRegisterMarked d r.0) added (right_marked d) a.right;
    once = a.once;
    stands = stands;
  }

pub whole_cut : (d : RegisterState) (old new : List Record) → AddsRegister d.run d.catalogue d.marks true old new → (base : Held)
    → IsCut (IsRegisterMarked d) base old new (λ held. RegisterSays d base → RegisterSays (all_kept d) held)
whole_cut d old new adds base = added_cut d adds.0 true adds.1 base old new (λ held. RegisterSays d base → RegisterSays (all_kept d) held) adds.2 (says_all d adds.0 true adds.1 base refl)

pub front_cut : (d : RegisterState) (old new : List Record) → AddsRegister d.run d.catalogue d.marks false old new → (base : Held)
    → IsCut (IsRegisterMarked d) base old new (λ held. RegisterSays d base → RegisterSays d held)
front_cut d old new adds base = added_cut d adds.0 false adds.1 base old new (λ held. RegisterSays d base → RegisterSays d held) adds.2 (says_still d adds.0 false adds.1 base)
