-- The least key of the register at fault.
use Rattle.std.proofs.Common.{◌≡◌, ◌≢◌, ◌⊎◌, inl, inr, ℕ, List, [], ◌∷◌, Option, Some, None, IsSome, option_and_then, option_map, true, Ordering, Less, Equal, Greater, refl, sym, ap, subst, ◌∙◌, arith}
use Rattle.std.proofs.lemmas.Bool.{cases_eq, cases_lt}
use Rattle.std.specs.Cmp.Lexicographic.{nat_list_cmp_total}
use Rattle.std.specs.FinMap.{get}
use Rattle.std.specs.Ordering.{is_lt, ordering_reverse, ordering_then}
use Rattle.std.proofs.lemmas.Option.{none-some}
use Rattle.containers.proofs.TextMaps.KeyedMaps.{exact_texts}
use Rattle.containers.specs.TextMaps.Keyed.{text_order}
use Rattle.containers.specs.TextMaps.Nexts.{IsNext}
use Rattle.flush_journal.specs.Records.{Held, Record}
use Rattle.object_ids.specs.Paths.{root_path}
use Rattle.object_ids.proofs.NumberOrders.{cmp_more}
use Rattle.domains.specs.Contents.{Contents}
use Rattle.domains.specs.declared.classes.NodeClass.TheVariants.{Folder}
use Rattle.object_records.specs.Keys.Keys.{next_key, node_key, run_key}
use Rattle.domains.specs.Records.Nodes.{node_of_body}
use Rattle.domains.specs.declared.records.faults.NodeFault.{NodeFault}
use Rattle.domains.specs.declared.records.faults.NodeFault.TheVariants as of_nodes
use Rattle.object_records.specs.InstallFaults.{MatchFault}
use Rattle.containers.specs.TextMaps.Fronts.{IsLeast, held_by}
use Rattle.object_records.specs.declared.install_fault.InstallFault.{InstallFault}
use Rattle.object_records.specs.declared.install_fault.InstallFault.TheVariants.{BadRecord, NoMemory}
use Rattle.containers.proofs.TextMaps.Fronts.{held_before, held_here}
use Rattle.register.specs.Installed.Registers.{IsNextNumber, IsNodeRecord, IsRegisterFault, IsRun, bad_node, class_at, no_next, no_root, no_run}
use Rattle.register.specs.Installed.Walks.{Blames, IsBadNode, IsFirst, IsNodeWalk, Names, Roots}
use Rattle.register.proofs.OfInstalled.NodeWalks.{IsRooted, never_some}
use Rattle.containers.proofs.Passing.{lt_less}
use Rattle.containers.proofs.TextMaps.TextOrders.{never_less}
use Rattle.object_ids.proofs.PathOrders.{root_first}

abbrev Least : Held → List ℕ → Type 0
Least held key = IsLeast (IsRegisterFault held) key

not_rootless : (held : Held) → IsRooted held → get held (node_key root_path) ≡ None → ⊥
not_rootless held rooted none = none-some Folder (sym (ap (λ o. option_map (λ node. node.class) (option_and_then node_of_body o)) none) ∙ rooted)

pub named : (held : Held) (key : List ℕ) (f : NodeFault) (fault : InstallFault) → Names key f fault → Blames f (Least held key) → MatchFault fault (IsLeast (IsRegisterFault held))
named held key of_nodes.BadNode (BadRecord k) names least = subst (λ (q : List ℕ). Least held q) (sym names) least
named held key of_nodes.BadNode NoMemory names least = tt
named held key of_nodes.NoMemory (BadRecord k) names least = absurd names
named held key of_nodes.NoMemory NoMemory names least = tt

not_low : (a b : List ℕ) → text_order a b ≡ Greater → text_order a b ≡ Less → ⊥
not_low a b high low = let c : Greater ≡ Less = sym high ∙ low in cc

lacks : (held : Held) (q body : List ℕ) → get held q ≡ None → get held q ≡ Some body → ⊥
lacks held q body none there = none-some body (sym none ∙ there)

-- ---- no run

pub least_run : (held : Held) → ((run : ℕ) → IsRun held run → ⊥) → Least held run_key
least_run held none = record { has = no_run refl none; least = λ q f low. below q f low } where
  below : (q : List ℕ) → IsRegisterFault held q → text_order q run_key ≡ Less → ⊥
  below q (no_run is n) low = never_less run_key (ap (λ k. text_order k run_key) (sym is) ∙ low)
  below q (bad_node path body is there broken) low = not_low (node_key path) run_key refl (ap (λ k. text_order k run_key) (sym is) ∙ low)
  below q (no_root is n) low = not_low (node_key root_path) run_key refl (ap (λ k. text_order k run_key) (sym is) ∙ low)
  below q (no_next is n) low = not_low next_key run_key refl (ap (λ k. text_order k run_key) (sym is) ∙ low)

-- ---- no next number

pub least_next : (held : Held) (run : ℕ) → IsRun held run → IsRooted held → ((path body : List ℕ) → get held (node_key path) ≡ Some body → IsNodeRecord held path body)
    → ((next : ℕ) → IsNextNumber held next → ⊥) → Least held next_key
least_next held run is_run rooted rules none = record { has = no_next refl none; least = λ q f low. below q f low } where
  below : (q : List ℕ) → IsRegisterFault held q → text_order q next_key ≡ Less → ⊥
  below q (no_run is n) low = n run is_run
  below q (bad_node path body is there broken) low = broken (rules path body (ap (get held) (sym is) ∙ there))
  below q (no_root is n) low = not_rootless held rooted (ap (get held) (sym is) ∙ n)
  below q (no_next is n) low = never_less next_key (ap (λ k. text_order k next_key) (sym is) ∙ low)

-- ---- a node's record in a walk

pub least_node : (held : Held) (rest : List Record) (e : Record) (c : Contents) (roots : Roots) (run : ℕ) → IsRun held run → IsRooted held → IsNodeWalk held (e ∷ rest) c roots → IsBadNode held e.0 e.1 → Least held e.0
least_node held rest e c roots run is_run rooted w bad = record { has = bad_node bad.path e.1 bad.is (held_here held w.front rest e w.split) bad.broken; least = λ q f low. below q f low } where
  below : (q : List ℕ) → IsRegisterFault held q → text_order q e.0 ≡ Less → ⊥
  below q (no_run is n) low = n run is_run
  below q (bad_node path body is there broken) low =
      broken (w.rules path body (ap (get (held_by w.front)) (sym is) ∙ sym (held_before held w.front rest e w.split q low) ∙ there))
  below q (no_root is n) low = not_rootless held rooted (ap (get held) (sym is) ∙ n)
  below q (no_next is n) low = not_low next_key (node_key bad.path) refl (ap (λ k. text_order k (node_key bad.path)) (sym is) ∙ ap (text_order q) (sym bad.is) ∙ low)

-- ---- no folder at `/`

pub least_first : (held : Held) (run : ℕ) (key : List ℕ) → IsRun held run → (class_at held root_path ≢ Some Folder) → IsFirst held key → Least held key
least_first held run key is_run unrooted f = record { has = has (get held key) refl f.up_to; least = λ q g low. below q g low } where
  has : (o : Option (List ℕ)) → get held key ≡ o → (key ≡ node_key root_path) ⊎ (IsSome (get held key) × (text_order key (node_key root_path) ≡ Less)) → IsRegisterFault held key
  has None is (inl at_root) = no_root at_root is
  has (Some body) is (inl at_root) = bad_node root_path body at_root is (λ r. unrooted r.parent)
  has None is (inr before) = absurd (never_some (get held key) is before.0)
  has (Some body) is (inr before) = bad_node f.path body f.is is (λ r. root_first f.path r.canonical.canonical (ap (λ k. text_order k (node_key root_path)) (sym f.is) ∙ before.1))

  low_root : (q : List ℕ) → q ≡ node_key root_path → text_order q key ≡ Less → (key ≡ node_key root_path) ⊎ (IsSome (get held key) × (text_order key (node_key root_path) ≡ Less)) → ⊥
  low_root q is low (inl at_root) = never_less (node_key root_path) (ap (λ k. text_order k (node_key root_path)) (sym is) ∙ ap (text_order q) (sym at_root) ∙ low)
  low_root q is low (inr before) = never_less key (nat_list_cmp_total.trans key (node_key root_path) key before.1 (ap (λ k. text_order k key) (sym is) ∙ low))

  below : (q : List ℕ) → IsRegisterFault held q → text_order q key ≡ Less → ⊥
  below q (no_run is n) low = n run is_run
  below q (bad_node path body is there broken) low = lacks held q body (ap (get held) is ∙ f.none path (ap (λ k. text_order k key) (sym is) ∙ low)) there
  below q (no_root is n) low = low_root q is low f.up_to
  below q (no_next is n) low = not_low next_key (node_key f.path) refl (ap (λ k. text_order k (node_key f.path)) (sym is) ∙ ap (text_order q) (sym f.is) ∙ low)

-- ---- the first key

pub first_alone : (held : Held) → IsSome (get held (2 ∷ [])) → IsFirst held (2 ∷ [])
first_alone held there = record { path = []; is = refl; up_to = inr (there, refl); none = λ other low. absurd (never other low) } where
  never : (other : List ℕ) → text_order (node_key other) (2 ∷ []) ≡ Less → ⊥
  never [] low = cc
  never (b ∷ bs) low = cc

-- between the key 2 and that of `/` there are keys of nodes alone
node_between : (key : List ℕ) → text_order (2 ∷ []) key ≡ Less → text_order key (node_key root_path) ≡ Less → (path : List ℕ) × (key ≡ node_key path)
node_between [] low high = cc
node_between (b ∷ bs) low high = elim (cases_eq b 2) [
  | inl two ↦ (bs, ap (λ x. x ∷ bs) two)
  | inr other ↦ elim (cases_lt b 2) [
    | inl less ↦ absurd (let c : Greater ≡ Less = ap (λ o. ordering_then o (text_order [] bs)) (sym (cmp_more 2 b less)) ∙ low in cc)
    | inr more ↦ absurd (let c : Greater ≡ Less = ap (λ o. ordering_then o (text_order bs root_path)) (sym (cmp_more b 2 (omega (arith, more, other)))) ∙ high in cc)
  ]
]

behind_alone : (other : List ℕ) → (node_key other ≡ 2 ∷ []) ⊎ (text_order (2 ∷ []) (node_key other) ≡ Less)
behind_alone [] = inl refl
behind_alone (b ∷ bs) = inr refl

pub lt_true : (o : Ordering) → o ≡ Less → is_lt o ≡ true
lt_true o e = ap is_lt e

pub first_between : (held : Held) (key : List ℕ) → get held (2 ∷ []) ≡ None → IsNext held (Some (2 ∷ [])) (Some key) → text_order key (node_key root_path) ≡ Less → IsFirst held key
first_between held key none next low = record { path = between.0; is = between.1; up_to = inr (next.1, low); none = λ other less. at other (behind_alone other) less } where
  between : (path : List ℕ) × (key ≡ node_key path)
  between = node_between key (lt_less _ next.0) low

  at : (other : List ℕ) → (node_key other ≡ 2 ∷ []) ⊎ (text_order (2 ∷ []) (node_key other) ≡ Less) → text_order (node_key other) key ≡ Less → get held (node_key other) ≡ None
  at other (inl same) less = ap (get held) same ∙ none
  at other (inr behind) less = next.2 (node_key other) (lt_true _ behind) less

-- none stands between
pub first_root : (held : Held) (o : Option (List ℕ)) → get held (2 ∷ []) ≡ None → IsNext held (Some (2 ∷ [])) o → ((key : List ℕ) → o ≡ Some key → text_order key (node_key root_path) ≢ Less) → IsFirst held (node_key root_path)
first_root held o none next far = record { path = root_path; is = refl; up_to = inl refl; none = λ other less. at other (behind_alone other) less } where
  later : (o : Option (List ℕ)) → IsNext held (Some (2 ∷ [])) o → ((key : List ℕ) → o ≡ Some key → text_order key (node_key root_path) ≢ Less) → (q : List ℕ) → text_order (2 ∷ []) q ≡ Less → text_order q (node_key root_path) ≡ Less → get held q ≡ None
  later None next far q behind less = next q (lt_true _ behind)
  later (Some key) next far q behind less = next.2 q (lt_true _ behind) (before (text_order key (node_key root_path)) refl) where
    before : (r : Ordering) → text_order key (node_key root_path) ≡ r → text_order q key ≡ Less
    before Less e = absurd (far key refl e)
    before Equal e = ap (text_order q) (exact_texts key (node_key root_path) e) ∙ less
    before Greater e = nat_list_cmp_total.trans q (node_key root_path) key less (nat_list_cmp_total.antisymm (node_key root_path) key ∙ ap ordering_reverse e)

  at : (other : List ℕ) → (node_key other ≡ 2 ∷ []) ⊎ (text_order (2 ∷ []) (node_key other) ≡ Less) → text_order (node_key other) (node_key root_path) ≡ Less → get held (node_key other) ≡ None
  at other (inl same) less = ap (get held) same ∙ none
  at other (inr behind) less = later o next far (node_key other) behind less
