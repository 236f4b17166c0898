-- Which ids the members of a list have, and what is held at them.
use Rattle.std.proofs.Common.{◌≡◌, ℕ, suc, ◌+◌, ◌<◌, ◌≤◌, ◌⊎◌, inl, inr, List, [], ◌∷◌, ◌++◌, T, Less, Bool, true, false, map, cond, length, Some, None, IsSome, is_some, unwrap_or, refl, sym, ap, subst, ◌∙◌, arith}
use Rattle.std.specs.Cmp.{Equal-is}
use Rattle.std.specs.Cmp.Lexicographic.{nat_list_cmp_total}
use Rattle.std.specs.List.{AllByRecursion, range_with_len}
use Rattle.std.specs.Ordering.{eq_by_cmp}
use Rattle.std.specs.FinMap.{FinMap, entries, find, get, get-entries, get-insert, insert, is_sorted}
use Rattle.std.specs.FinMap.Entries.{below_all}
use Rattle.std.proofs.lemmas.Option.{same_Some}
use Rattle.containers.specs.TextMaps.Keyed.{text_order}
use Rattle.containers.proofs.TextMaps.KeyedMaps.{exact_texts}
use Rattle.object_ids.specs.IdOrder.{id_order}
use Rattle.object_ids.specs.IdValues.{Id}
use Rattle.object_ids.specs.declared.ids.Kind.{Kind}
use Rattle.object_ids.proofs.IdOrders.{id_order_once, id_order_total}
use Rattle.json_import.specs.Fresh.Names.{behind, id_in, name_next, numbered_by, with_each}
use Rattle.json_import.specs.declared.fresh.names.Naming.{Naming}
use Rattle.json_import.proofs.OfFresh.StandingLemmas.{AreOnce, id_put, name_all, name_kept, object_kept, text_put}
use Rattle.containers.proofs.Plain.{halves, less}
use Rattle.containers.proofs.TextMaps.TextOrders.{never_less}
use Rattle.json_trees.proofs.ListLemmas.{all_weaker}

-- the id is one of so many behind another
pub record IsBehind (last : Id) (many : ℕ) (k : Kind) (id : Id) : Type 0 where
  pub kind : id.kind ≡ k
  pub domain : id.domain ≡ last.domain
  pub run : id.run ≡ last.run
  pub above : last.serial < id.serial
  pub within : id.serial ≤ last.serial + many

module _ {X : Type 0} (kind_of : X → Kind) where
  -- the text stands for one of so many ids behind another
  abbrev pub IsNamedBehind : Naming → Id → ℕ → List ℕ × X → Type 0
  IsNamedBehind n last many e = (id : Id) × (get n.names e.0 ≡ Some id) × IsBehind last many (kind_of e.1) id

  further : (n : Naming) (last : Id) (k : Kind) (many : ℕ) (e : List ℕ × X) → IsNamedBehind n (behind last k) many e
      → IsNamedBehind n last (suc many) e
  further n last k many e h = (
    h.0,
    h.1,
    record {
      kind = h.2.kind;
      domain = h.2.domain;
      run = h.2.run;
      above = omega (arith, h.2.above);
      within = omega (arith, h.2.within);
    },
  )

  pub all_behind : (es : List (List ℕ × X)) (n : Naming) → AreOnce es
      → AllByRecursion (IsNamedBehind (name_all kind_of n es) n.last (length es)) es
  all_behind [] n once = tt
  all_behind (e ∷ es) n once =
      let next = name_next (kind_of e.1) n e.0 in
      let id = behind n.last (kind_of e.1) in (
        (
          id,
          name_kept kind_of e.0 es next once.0 ∙ text_put n.names e.0 id,
          record { kind = refl; domain = refl; run = refl; above = omega arith; within = omega arith },
        ),
        all_weaker _ _ (further (name_all kind_of next es) n.last (kind_of e.1) (length es)) es (all_behind es next once.1),
      )

  -- what is held then was held before, or is a member at the id of its text
  pub there_told : (P : List ℕ → X → Type 0) (es : List (List ℕ × X)) (n : Naming) (m : FinMap id_order X) (id : Id) (x : X) → AreOnce es
      → AllByRecursion (λ e. P e.0 e.1) es
      → get (with_each m (numbered_by kind_of n.last (map (λ e. e.1) es))) id ≡ Some x
      → (get m id ≡ Some x) ⊎ ((text : List ℕ) × (get (name_all kind_of n es).names text ≡ Some id) × P text x)
  there_told P [] n m id x once all is = inl is
  there_told P (e ∷ es) n m id x once all is = at (there_told P es next (insert m own e.1) id x once.1 all.1 is) where
    next : Naming
    next = name_next (kind_of e.1) n e.0

    own : Id
    own = behind n.last (kind_of e.1)

    here : (b : Bool) → eq_by_cmp id_order id own ≡ b → cond b (Some e.1) (get m id) ≡ Some x
        → (get m id ≡ Some x) ⊎ ((text : List ℕ) × (get (name_all kind_of next es).names text ≡ Some id) × P text x)
    here true tie is =
        let same : id ≡ own = id_order_once id own ((Equal-is (id_order id own)).0 tie) in
        inr (e.0, name_kept kind_of e.0 es next once.0 ∙ text_put n.names e.0 own ∙ ap Some (sym same), subst (P e.0) (same_Some e.1 x is) all.0)
    here false tie is = inl is

    at : (get (insert m own e.1) id ≡ Some x) ⊎ ((text : List ℕ) × (get (name_all kind_of next es).names text ≡ Some id) × P text x)
        → (get m id ≡ Some x) ⊎ ((text : List ℕ) × (get (name_all kind_of next es).names text ≡ Some id) × P text x)
    at (inl before) = here (eq_by_cmp id_order id own) refl (sym (get-insert id_order_total m own e.1 id) ∙ before)
    at (inr later) = inr later

  -- an id of the domain at which a member is held
  abbrev pub IsThereIn : ℕ → FinMap id_order X → Id → Type 0
  IsThereIn number m id = (id.domain ≡ number) × IsSome (get m id)

  -- a text stands for what it stood for, or for such an id
  pub name_told : (es : List (List ℕ × X)) (n : Naming) (m : FinMap id_order X) (text : List ℕ) (id : Id)
      → get (name_all kind_of n es).names text ≡ Some id
      → (get n.names text ≡ Some id) ⊎ IsThereIn n.last.domain (with_each m (numbered_by kind_of n.last (map (λ e. e.1) es))) id
  name_told [] n m text id is = inl is
  name_told (e ∷ es) n m text id is = at (name_told es (name_next (kind_of e.1) n e.0) (insert m own e.1) text id is) where
    own : Id
    own = behind n.last (kind_of e.1)

    here : (b : Bool) → eq_by_cmp text_order text e.0 ≡ b → cond b (Some own) (get n.names text) ≡ Some id
        → (get n.names text ≡ Some id) ⊎ IsThereIn n.last.domain (with_each (insert m own e.1) (numbered_by kind_of own (map (λ d. d.1) es))) id
    here true tie is = inr (
        subst (IsThereIn n.last.domain (with_each (insert m own e.1) (numbered_by kind_of own (map (λ d. d.1) es)))) (same_Some own id is)
        (refl, ap is_some (object_kept kind_of own (map (λ d. d.1) es) own (insert m own e.1) (omega arith) ∙ id_put m own e.1)))
    here false tie is = inl is

    at : (get (insert n.names e.0 own) text ≡ Some id) ⊎ IsThereIn n.last.domain (with_each (insert m own e.1) (numbered_by kind_of own (map (λ d. d.1) es))) id
        → (get n.names text ≡ Some id) ⊎ IsThereIn n.last.domain (with_each (insert m own e.1) (numbered_by kind_of own (map (λ d. d.1) es))) id
    at (inl before) = here (eq_by_cmp text_order text e.0) refl (sym (get-insert nat_list_cmp_total n.names e.0 own text) ∙ before)
    at (inr later) = inr later

  -- ---- no two texts stand for one id

  abbrev pub Stands : Naming → List ℕ → Id → Type 0
  Stands n text id = get n.names text ≡ Some id

  -- the text is that of a member
  abbrev pub IsText : List ℕ → List (List ℕ × X) → Type 0
  IsText text [] = ⊥
  IsText text (e ∷ es) = (text ≡ e.0) ⊎ IsText text es

  pub text_named : (names : Naming) (last : Id) (many : ℕ) (es : List (List ℕ × X)) (text : List ℕ)
      → AllByRecursion (IsNamedBehind names last many) es → IsText text es → (id : Id) × Stands names text id
  text_named names last many [] text all there = absurd there
  text_named names last many (e ∷ es) text all (inl same) = (all.0.0, ap (get names.names) same ∙ all.0.1)
  text_named names last many (e ∷ es) text all (inr later) = text_named names last many es text all.1 later

  pub text_front : (es fs : List (List ℕ × X)) (text : List ℕ) → IsText text es → IsText text (es ++ fs)
  text_front [] fs text there = absurd there
  text_front (e ∷ es) fs text (inl same) = inl same
  text_front (e ∷ es) fs text (inr later) = inr (text_front es fs text later)

  pub text_behind : (es fs : List (List ℕ × X)) (text : List ℕ) → IsText text fs → IsText text (es ++ fs)
  text_behind [] fs text there = there
  text_behind (e ∷ es) fs text there = inr (text_behind es fs text there)

  found_text : (es : List (List ℕ × X)) (text : List ℕ) (x : X) → find text_order text es ≡ Some x → IsText text es
  found_text [] text x is = let both : None ≡ Some x = is in absurd (cc)
  found_text (e ∷ es) text x is = at (eq_by_cmp text_order text e.0) refl is (found_text es text x) where
    at : (b : Bool) → eq_by_cmp text_order text e.0 ≡ b → cond b (Some e.1) (find text_order text es) ≡ Some x
        → (find text_order text es ≡ Some x → IsText text es) → (text ≡ e.0) ⊎ IsText text es
    at true tie is later = inl (exact_texts text e.0 ((Equal-is (text_order text e.0)).0 tie))
    at false tie is later = inr (later is)

  pub entry_text : (m : FinMap text_order X) (text : List ℕ) (x : X) → get m text ≡ Some x → IsText text (entries m)
  entry_text m text x is = found_text (entries m) text x (sym (get-entries m text) ∙ is)

  pub text_above : (names : Naming) (last : Id) (many : ℕ) (es : List (List ℕ × X)) (text : List ℕ) (id : Id)
      → AllByRecursion (IsNamedBehind names last many) es → IsText text es → Stands names text id
      → last.serial < id.serial
  text_above names last many [] text id all there is = absurd there
  text_above names last many (e ∷ es) text id all (inl same) is =
      let one : all.0.0 ≡ id = same_Some all.0.0 id (sym all.0.1 ∙ ap (get names.names) (sym same) ∙ is) in
      let serial : all.0.0.serial ≡ id.serial = ap (λ (i : Id). i.serial) one in
      omega (arith, all.0.2.above, serial)
  text_above names last many (e ∷ es) text id all (inr later) is = text_above names last many es text id all.1 later is

  -- the text in front has the next serial, and those behind have greater ones
  pub apart : (es : List (List ℕ × X)) (n : Naming) (s t : List ℕ) (id : Id) → AreOnce es → IsText s es → IsText t es
      → Stands (name_all kind_of n es) s id → Stands (name_all kind_of n es) t id → s ≡ t
  apart [] n s t id once one two is too = absurd one
  apart (e ∷ es) n s t id once one two is too = at one two (λ p q. apart es (name_next (kind_of e.1) n e.0) s t id once.1 p q is too) where
    next : Naming
    next = name_next (kind_of e.1) n e.0

    own : Id
    own = behind n.last (kind_of e.1)

    first : (text : List ℕ) → text ≡ e.0 → Stands (name_all kind_of next es) text id → own ≡ id
    first text same stands = same_Some own id (sym (name_kept kind_of e.0 es next once.0 ∙ text_put n.names e.0 own) ∙ ap (get (name_all kind_of next es).names) (sym same) ∙ stands)

    never : (text other : List ℕ) → text ≡ e.0 → Stands (name_all kind_of next es) text id → IsText other es
        → Stands (name_all kind_of next es) other id → ⊥
    never text other same stands there behind_it =
        let serial : own.serial ≡ id.serial = ap (λ (i : Id). i.serial) (first text same stands) in
        let above = text_above (name_all kind_of next es) own (length es) es other id (all_behind es next once.1) there behind_it in
        absurd (omega (arith, serial, above))

    at : IsText s (e ∷ es) → IsText t (e ∷ es) → (IsText s es → IsText t es → s ≡ t) → s ≡ t
    at (inl same) (inl other) rest = same ∙ sym other
    at (inl same) (inr later) rest = absurd (never s t same is later too)
    at (inr later) (inl same) rest = absurd (never t s same too later is)
    at (inr later) (inr other) rest = rest later other

  -- ---- their serials are the numbers behind the last

  pub serials_follow : (root : Id) (es : List (List ℕ × X)) (n : Naming) → AreOnce es
      → map (λ text. (id_in (name_all kind_of n es).names root text).serial) (map (λ e. e.0) es) ≡ range_with_len (n.last.serial + 1) (length es)
  serials_follow root [] n once = refl
  serials_follow root (e ∷ es) n once =
      let next = name_next (kind_of e.1) n e.0 in
      let own = behind n.last (kind_of e.1) in
      let first : (id_in (name_all kind_of next es).names root e.0).serial ≡ own.serial =
      ap (λ o. (unwrap_or o root).serial) (name_kept kind_of e.0 es next once.0 ∙ text_put n.names e.0 own) in
      λ i. first i ∷ serials_follow root es next once.1 i

  -- ---- texts behind one another have rising serials

  abbrev pub IsBefore : List ℕ → List ℕ → List (List ℕ × X) → Type 0
  IsBefore s t [] = ⊥
  IsBefore s t (e ∷ es) = ((s ≡ e.0) × IsText t es) ⊎ IsBefore s t es

  pub before_texts : (es : List (List ℕ × X)) (s t : List ℕ) → IsBefore s t es → IsText s es × IsText t es
  before_texts [] s t before = absurd before
  before_texts (e ∷ es) s t (inl h) = (inl h.0, inr h.1)
  before_texts (e ∷ es) s t (inr later) = let rest = before_texts es s t later in (inr rest.0, inr rest.1)

  pub before_front : (es fs : List (List ℕ × X)) (s t : List ℕ) → IsBefore s t es → IsBefore s t (es ++ fs)
  before_front [] fs s t before = absurd before
  before_front (e ∷ es) fs s t (inl h) = inl (h.0, text_front es fs t h.1)
  before_front (e ∷ es) fs s t (inr later) = inr (before_front es fs s t later)

  pub before_behind : (es fs : List (List ℕ × X)) (s t : List ℕ) → IsBefore s t fs → IsBefore s t (es ++ fs)
  before_behind [] fs s t before = before
  before_behind (e ∷ es) fs s t before = inr (before_behind es fs s t before)

  pub rising : (es : List (List ℕ × X)) (n : Naming) (s t : List ℕ) (i j : Id) → AreOnce es → IsBefore s t es
      → Stands (name_all kind_of n es) s i → Stands (name_all kind_of n es) t j → i.serial < j.serial
  rising [] n s t i j once before is too = absurd before
  rising (e ∷ es) n s t i j once (inl h) is too =
      let next = name_next (kind_of e.1) n e.0 in
      let own = behind n.last (kind_of e.1) in
      let same : own ≡ i = same_Some own i (sym (name_kept kind_of e.0 es next once.0 ∙ text_put n.names e.0 own) ∙ ap (get (name_all kind_of next es).names) (sym h.0) ∙ is) in
      let serial : own.serial ≡ i.serial = ap (λ (q : Id). q.serial) same in
      let above = text_above (name_all kind_of next es) own (length es) es t j (all_behind es next once.1) h.1 too in
      omega (arith, serial, above)
  rising (e ∷ es) n s t i j once (inr later) is too = rising es (name_next (kind_of e.1) n e.0) s t i j once.1 later is too

  text_below : (k t : List ℕ) (es : List (List ℕ × X)) → T (below_all text_order k es) → IsText t es → text_order k t ≡ Less
  text_below k t [] low there = absurd there
  text_below k t (e ∷ es) low (inl same) = ap (text_order k) same ∙ less (text_order k e.0) (halves _ _ low).0
  text_below k t (e ∷ es) low (inr later) = text_below k t es (halves _ _ low).1 later

  -- of two texts in order the lesser stands before the other
  pub before_sorted : (es : List (List ℕ × X)) (s t : List ℕ) → T (is_sorted text_order es) → IsText s es → IsText t es
      → text_order s t ≡ Less → IsBefore s t es
  before_sorted [] s t sorted one two below = absurd one
  before_sorted (e ∷ es) s t sorted (inl first) (inl second) below = absurd (never_less s (ap (text_order s) (first ∙ sym second) ∙ below))
  before_sorted (e ∷ es) s t sorted (inl first) (inr there) below = inl (first, there)
  before_sorted (e ∷ es) s t sorted (inr there) (inl second) below =
      let above : text_order t s ≡ Less = ap (λ k. text_order k s) second ∙ text_below e.0 s es (halves _ _ sorted).0 there in
      absurd (never_less s (nat_list_cmp_total.trans s t s below above))
  before_sorted (e ∷ es) s t sorted (inr one) (inr two) below = inr (before_sorted es s t (halves _ _ sorted).1 one two below)
