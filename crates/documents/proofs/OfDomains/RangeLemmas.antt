-- The walk over the objects of one kind in a domain.
use Rattle.std.proofs.Common.{◌≡◌, ◌≢◌, ◌⊎◌, inl, inr, ◌+◌, ◌<◌, ◌≤◌, ◌==◌, ℕ, true, false, cond, T, List, [], ◌∷◌, Option, Some, None, Ordering, Less, Equal, Greater, is_eq, is_lt, refl, sym, ap, subst, ◌∙◌, arith}
use Rattle.std.specs.FinMap.{entries, entries_sorted, find, get, get-entries, is_sorted}
use Rattle.std.specs.FinMap.Entries.{below_all}
use Rattle.std.specs.List.{AllByRecursion}
use Rattle.std.specs.Ordering.{MatchOrdering, nat_cmp, ordering_reverse, ordering_then}
use Rattle.std.proofs.lemmas.Bool.{and_parts, eqb-true}
use Rattle.std.proofs.lemmas.Cmp.{ranked}
use Rattle.serde_json.specs.Data.{Members, put}
use Rattle.containers.specs.TextMaps.Nexts.{IsKeyStep, left}
use Rattle.containers.proofs.Passing.{by_bool, contrary}
use Rattle.containers.proofs.Plain.{halves, less}
use Rattle.containers.proofs.TextMaps.Walks.{found_above}
use Rattle.object_ids.specs.IdOrder.{id_order, kind_rank}
use Rattle.object_ids.specs.IdValues.{Id}
use Rattle.object_ids.specs.Ids.{InRange, text_of_id}
use Rattle.object_ids.specs.declared.ids.Kind.{Kind}
use Rattle.object_ids.specs.declared.ids.Kind.TheVariants.{Dataset}
use Rattle.object_ids.proofs.IdOrders.{id_order_once, id_order_total, rank_once}
use Rattle.object_acts.specs.Objects.{Objects}
use Rattle.object_acts.specs.declared.objects.Object.{Object}
use Rattle.documents.specs.Domains.Documents.{is_of, put_at}
use Rattle.documents.specs.Domains.Entries.{entry_tree}
use Rattle.documents.specs.Domains.Lengths.{AreInRangeFrom, least_at, least_body, least_values}
use Rattle.documents.specs.Domains.Ranges.{IsFirstOf, IsNextOf}
use Rattle.documents.specs.declared.domains.home.Home.{Home}
use Rattle.documents.proofs.OfDomains.MemberLemmas.{AreWithin, all_within}

-- ---- the order of ids, by kind and domain

first_le : (a b : ℕ) (rest : Ordering) → ordering_then (nat_cmp a b) rest ≡ Less → (a < b) ⊎ ((a ≡ b) × (rest ≡ Less))
first_le a b rest e = at (nat_cmp a b) (ranked a b (nat_cmp a b) refl) e where
  at : (o : Ordering) → MatchOrdering o (a < b) (a ≡ b) (b < a) → ordering_then o rest ≡ Less → (a < b) ⊎ ((a ≡ b) × (rest ≡ Less))
  at Less lt e = inl lt
  at Equal same e = inr (same, e)
  at Greater gt e = absurd (let both : Greater ≡ Less = e in cc)

-- where the first number isn't less, the rest decides
not_first : (a b : ℕ) (rest : Ordering) → b ≤ a → ordering_then (nat_cmp a b) rest ≡ Less → rest ≡ Less
not_first a b rest more e = at (first_le a b rest e) where
  at : (a < b) ⊎ ((a ≡ b) × (rest ≡ Less)) → rest ≡ Less
  at (inl lt) = absurd (omega arith)
  at (inr h) = h.1

not_more : (a b : ℕ) (rest : Ordering) → ordering_then (nat_cmp a b) rest ≡ Less → a ≤ b
not_more a b rest e = at (first_le a b rest e) where
  at : (a < b) ⊎ ((a ≡ b) × (rest ≡ Less)) → a ≤ b
  at (inl lt) = omega arith
  at (inr h) = omega (arith, h.0)

abbrev by_run : Id → Id → Ordering
by_run a b = ordering_then (nat_cmp a.run b.run) (nat_cmp a.serial b.serial)

abbrev by_domain : Id → Id → Ordering
by_domain a b = ordering_then (nat_cmp a.domain b.domain) (by_run a b)

no_greater_kind : (a b : Id) → id_order a b ≡ Less → kind_rank a.kind ≤ kind_rank b.kind
no_greater_kind a b e = not_more (kind_rank a.kind) (kind_rank b.kind) (by_domain a b) e

no_greater_domain : (a b : Id) → kind_rank a.kind ≡ kind_rank b.kind → id_order a b ≡ Less → a.domain ≤ b.domain
no_greater_domain a b same e =
    not_more a.domain b.domain (by_run a b) (not_first (kind_rank a.kind) (kind_rank b.kind) (by_domain a b) (omega (arith, same)) e)

-- ---- of which kind and domain an id is

pub record IsHere (k : Kind) (h : Home) (id : Id) : Type 0 where
  pub rank : kind_rank id.kind ≡ kind_rank k
  pub domain : id.domain ≡ h.number

pub is_here : (k : Kind) (h : Home) (id : Id) → is_of k h id ≡ true → IsHere k h id
is_here k h id is =
    let parts = and_parts (kind_rank id.kind == kind_rank k) (id.domain == h.number) is in
    record { rank = eqb-true (kind_rank id.kind) (kind_rank k) parts.0; domain = eqb-true id.domain h.number parts.1 }

elsewhere : (k : Kind) (h : Home) (id : Id) → (IsHere k h id → ⊥) → is_of k h id ≡ false
elsewhere k h id never = by_bool (is_of k h id) (is_of k h id ≡ false) (λ is. absurd (never (is_here k h id is))) (λ isnt. isnt)

-- none of the kind in the domain comes before the first one
before_first : (k : Kind) (h : Home) (first id : Id) → IsFirstOf k h first → id_order first id ≡ Greater → is_of k h id ≡ false
before_first k h first id f past = elsewhere k h id never where
  never : IsHere k h id → ⊥
  never here =
      let before : id_order id first ≡ Less = id_order_total.antisymm id first ∙ ap ordering_reverse past in
      let same : kind_rank first.kind ≡ kind_rank k = ap kind_rank f.kind in
      let domains = not_first (kind_rank id.kind) (kind_rank first.kind) (by_domain id first) (omega (arith, here.rank, same)) before in
      let runs = not_first id.domain first.domain (by_run id first) (omega (arith, here.domain, f.domain)) domains in
      let serials = not_first id.run first.run (nat_cmp id.serial first.serial) (omega (arith, f.run)) runs in
      let less_serial : id.serial < first.serial = ranked id.serial first.serial Less (sym serials) in
      omega (arith, f.serial, less_serial)

-- ---- what stands behind an id

abbrev AllIds : (Id → Type 0) → List (Id × Object) → Type 0
AllIds P = AllByRecursion (λ e. P e.0)

behind_all : (P : Id → Type 0) (after : Id) (es : List (Id × Object)) → ((q : Id) → id_order after q ≡ Less → P q) → AllIds P (left id_order (Some after) es)
behind_all P after [] each = tt
behind_all P after (e ∷ es) each = at (id_order after e.0) refl (behind_all P after es each) where
  at : (o : Ordering) → id_order after e.0 ≡ o → AllIds P (left id_order (Some after) es) → AllIds P (left id_order (Some after) (e ∷ es))
  at Less is rest = subst (λ (o : Ordering). AllIds P (cond (is_lt o) (e ∷ left id_order (Some after) es) (left id_order (Some after) es))) (sym is) (each e.0 is, rest)
  at Equal is rest = subst (λ (o : Ordering). AllIds P (cond (is_lt o) (e ∷ left id_order (Some after) es) (left id_order (Some after) es))) (sym is) rest
  at Greater is rest = subst (λ (o : Ordering). AllIds P (cond (is_lt o) (e ∷ left id_order (Some after) es) (left id_order (Some after) es))) (sym is) rest

module _ (m : Objects) (h : Home) (after id : Id) (step : IsKeyStep m (Some after) (Some id)) where
  behind : id_order after id ≡ Less
  behind = (subst (AllIds (λ q. id_order after q ≡ Less)) step.2 (behind_all (λ q. id_order after q ≡ Less) after (entries m) (λ q b. b))).0

  none_behind : (IsHere after.kind h id → ⊥) → ((q : Id) → id_order id q ≡ Less → IsHere after.kind h q → ⊥) → IsNextOf m h after None
  none_behind here later =
      subst (AllIds (λ q. is_of after.kind h q ≡ false)) (sym step.2)
      (elsewhere after.kind h id here, behind_all (λ q. is_of after.kind h q ≡ false) id (entries m) (λ q b. elsewhere after.kind h q (later q b)))

  -- an id of another kind, or of a later domain, comes behind all of them
  pub past_kind : id.kind ≢ after.kind → IsNextOf m h after None
  past_kind other = none_behind (λ here. other (rank_once id.kind after.kind here.rank)) (λ q b here. other (rank_once id.kind after.kind (same q b here))) where
    same : (q : Id) → id_order id q ≡ Less → IsHere after.kind h q → kind_rank id.kind ≡ kind_rank after.kind
    same q b here = omega (arith, no_greater_kind after id behind, no_greater_kind id q b, here.rank)

  pub past_domain : h.number < id.domain → IsNextOf m h after None
  past_domain more = none_behind (λ here. omega (arith, here.domain)) later where
    later : (q : Id) → id_order id q ≡ Less → IsHere after.kind h q → ⊥
    later q b here =
        let same : kind_rank id.kind ≡ kind_rank q.kind = omega (arith, no_greater_kind after id behind, no_greater_kind id q b, here.rank) in
        omega (arith, no_greater_domain id q same b, here.domain)

-- ---- a walk from the first one on

all_behind : (first x : Id) (es : List (Id × Object)) → ((q : Id) → id_order x q ≡ Less → id_order first q ≡ Less) → T (below_all id_order x es) → left id_order (Some first) es ≡ es
all_behind first x [] on above = refl
all_behind first x (e ∷ es) on above =
    ap (λ o. cond (is_lt o) (e ∷ left id_order (Some first) es) (left id_order (Some first) es)) (on e.0 (less _ (halves _ _ above).0))
    ∙ ap (λ r. e ∷ r) (all_behind first x es on (halves _ _ above).1)

none_found : (first : Id) (e : Id × Object) (es : List (Id × Object)) → T (below_all id_order e.0 es) → id_order first e.0 ≡ Less → find id_order first es ≡ None
none_found first e es above before = at (find id_order first es) refl where
  at : (o : Option Object) → find id_order first es ≡ o → find id_order first es ≡ None
  at None there = there
  at (Some x) there =
      let back : id_order first e.0 ≡ Greater = id_order_total.antisymm first e.0 ∙ ap ordering_reverse (found_above id_order_total e.0 first es x above there) in
      absurd (let both : Less ≡ Greater = sym before ∙ back in cc)

-- `f` makes something of what is made so far and the entries that are left; `one` does so for what stands at an id, and only
-- for ids of the kind in the domain
module _ {A : Type 0} (m : Objects) (h : Home) (k : Kind) (f : List (Id × Object) → A → A) (one : Id → Option Object → A → A)
    (takes : (e : Id × Object) (es : List (Id × Object)) (a : A) → f (e ∷ es) a ≡ f es (one e.0 (Some e.1) a))
    (absent : (q : Id) (a : A) → one q None a ≡ a) (other : (q : Id) (o : Option Object) (a : A) → is_of k h q ≡ false → one q o a ≡ a) where
  from_first : (first : Id) → IsFirstOf k h first → (es : List (Id × Object)) (a : A) → T (is_sorted id_order es)
      → f (left id_order (Some first) es) (one first (find id_order first es) a) ≡ f es a
  from_first first is [] a rising = ap (f []) (absent first a)
  from_first first is (e ∷ es) a rising = at (id_order first e.0) refl (from_first first is es a (halves _ _ rising).1) where
    above : T (below_all id_order e.0 es)
    above = (halves _ _ rising).0

    split : (o : Ordering) → id_order first e.0 ≡ o → f (left id_order (Some first) (e ∷ es)) (one first (find id_order first (e ∷ es)) a)
        ≡ f (cond (is_lt o) (e ∷ left id_order (Some first) es) (left id_order (Some first) es)) (one first (cond (is_eq o) (Some e.1) (find id_order first es)) a)
    split o e_is = ap (λ r. f (cond (is_lt r) (e ∷ left id_order (Some first) es) (left id_order (Some first) es)) (one first (cond (is_eq r) (Some e.1) (find id_order first es)) a)) e_is

    at : (o : Ordering) → id_order first e.0 ≡ o → f (left id_order (Some first) es) (one first (find id_order first es) a) ≡ f es a
        → f (left id_order (Some first) (e ∷ es)) (one first (find id_order first (e ∷ es)) a) ≡ f (e ∷ es) a
    at Less before later = split Less before
        ∙ ap (λ r. f (e ∷ r) (one first (find id_order first es) a)) (all_behind first e.0 es (λ q b. id_order_total.trans first e.0 q before b) above)
        ∙ ap (λ o. f (e ∷ es) (one first o a)) (none_found first e es above before)
        ∙ ap (f (e ∷ es)) (absent first a)
    at Equal same later = split Equal same
        ∙ ap (λ r. f r (one first (Some e.1) a)) (all_behind first e.0 es (λ q b. ap (λ (x : Id). id_order x q) (id_order_once first e.0 same) ∙ b) above)
        ∙ ap (λ q. f es (one q (Some e.1) a)) (id_order_once first e.0 same)
        ∙ sym (takes e es a)
    at Greater past later = split Greater past ∙ later
        ∙ ap (f es) (sym (other e.0 (Some e.1) a (before_first k h first e.0 is past)))
        ∙ sym (takes e es a)

  pub walk_first : (first : Id) (old new : A) → IsFirstOf k h first → new ≡ one first (get m first) old → f (left id_order (Some first) (entries m)) new ≡ f (entries m) old
  walk_first first old new is made =
      ap (f (left id_order (Some first) (entries m))) (made ∙ ap (λ o. one first o old) (get-entries m first))
      ∙ from_first first is (entries m) old (entries_sorted m)

  passed : (es : List (Id × Object)) (a : A) → AllIds (λ q. is_of k h q ≡ false) es → f es a ≡ f [] a
  passed [] a none = refl
  passed (e ∷ es) a none = takes e es a ∙ ap (f es) (other e.0 (Some e.1) a none.0) ∙ passed es a none.1

  pub walk_last : (last : Id) (a whole : A) → last.kind ≡ k → IsNextOf m h last None → f [] a ≡ a → f (left id_order (Some last) (entries m)) a ≡ whole → a ≡ whole
  walk_last last a whole kind none nil so_far =
      sym nil
      ∙ sym (passed (left id_order (Some last) (entries m)) a (subst (λ (x : Kind). AllIds (λ q. is_of x h q ≡ false) (left id_order (Some last) (entries m))) kind none))
      ∙ so_far

-- ---- objects that are put

pub put_elsewhere : (m : Objects) (h : Home) (k : Kind) (q : Id) (o : Option Object) (ms : Members) → is_of k h q ≡ false → put_at m h k q o ms ≡ ms
put_elsewhere m h k q None ms isnt = refl
put_elsewhere m h k q (Some o) ms isnt = ap (λ b. cond b (put (text_of_id q) (entry_tree m h o) ms) ms) isnt

-- ---- lengths that are added

abbrev pub added : Home → Id → Option Object → ℕ → ℕ
added h q o n = n + least_at h q o

abbrev pub added_all : Home → List (Id × Object) → ℕ → ℕ
added_all h es n = n + least_values h es

pub adds_one : (h : Home) (e : Id × Object) (es : List (Id × Object)) (n : ℕ) → added_all h (e ∷ es) n ≡ added_all h es (added h e.0 (Some e.1) n)
adds_one h e es n = omega arith

pub adds_none : (h : Home) (q : Id) (n : ℕ) → added h q None n ≡ n
adds_none h q n = omega arith

pub adds_elsewhere : (h : Home) (q : Id) (o : Option Object) (n : ℕ) → is_of Dataset h q ≡ false → added h q o n ≡ n
adds_elsewhere h q None n isnt = omega arith
adds_elsewhere h q (Some o) n isnt = ap (λ b. n + cond b (least_body o.body) 0) isnt ∙ nothing n where
  nothing : (n : ℕ) → n + 0 ≡ n
  nothing n = omega arith

-- ---- what holds of each entry of the kind in the domain

module _ (m : Objects) (h : Home) (k : Kind) (P : Id × Object → Type 0) where
  abbrev pub HoldsOf : List (Id × Object) → Type 0
  HoldsOf = AllByRecursion (λ e. is_of k h e.0 ≡ true → P e)

  -- it holds of what stands at an id, where that is of the kind in the domain
  abbrev pub HoldsAt : Id → Type 0
  HoldsAt id = (o : Object) → get m id ≡ Some o → is_of k h id ≡ true → P (id, o)

  from_first_on : (first : Id) → IsFirstOf k h first → HoldsAt first → (es : List (Id × Object)) → AreWithin (is_of k h) (entry_tree m h) es (entries m) → HoldsOf (left id_order (Some first) es) → HoldsOf es
  from_first_on first is here [] within all = tt
  from_first_on first is here (e ∷ es) within all = at (id_order first e.0) refl all (from_first_on first is here es within.1) where
    at : (o : Ordering) → id_order first e.0 ≡ o → HoldsOf (left id_order (Some first) (e ∷ es)) → (HoldsOf (left id_order (Some first) es) → HoldsOf es) → HoldsOf (e ∷ es)
    at Less before all later =
        let both = subst (λ (o : Ordering). HoldsOf (cond (is_lt o) (e ∷ left id_order (Some first) es) (left id_order (Some first) es))) before all in
        (both.0, later both.1)
    at Equal same all later = (
      (λ one. subst HoldsAt (id_order_once first e.0 same) here e.1 (get-entries m e.0 ∙ within.0) one),
      later (subst (λ (o : Ordering). HoldsOf (cond (is_lt o) (e ∷ left id_order (Some first) es) (left id_order (Some first) es))) same all),
    )
    at Greater past all later = (
      (λ one. contrary (is_of k h e.0) (P e) one (before_first k h first e.0 is past)),
      later (subst (λ (o : Ordering). HoldsOf (cond (is_lt o) (e ∷ left id_order (Some first) es) (left id_order (Some first) es))) past all),
    )

  pub holds_first : (first : Id) → IsFirstOf k h first → HoldsAt first → HoldsOf (left id_order (Some first) (entries m)) → HoldsOf (entries m)
  holds_first first is here all = from_first_on first is here (entries m) (all_within (is_of k h) (entry_tree m h) (entries m) (entries_sorted m)) all

  pub holds_more : (after id : Id) → IsKeyStep m (Some after) (Some id) → HoldsAt id → HoldsOf (left id_order (Some id) (entries m)) → HoldsOf (left id_order (Some after) (entries m))
  holds_more after id step here behind = subst HoldsOf (sym step.2) ((λ one. here step.0 step.1 one), behind)

  holds_of_none : (es : List (Id × Object)) → AllIds (λ q. is_of k h q ≡ false) es → HoldsOf es
  holds_of_none [] none = tt
  holds_of_none (e ∷ es) none = ((λ one. contrary (is_of k h e.0) (P e) one none.0), holds_of_none es none.1)

  pub holds_last : (last : Id) → last.kind ≡ k → IsNextOf m h last None → HoldsOf (left id_order (Some last) (entries m))
  holds_last last kind none = holds_of_none (left id_order (Some last) (entries m)) (subst (λ (x : Kind). AllIds (λ q. is_of x h q ≡ false) (left id_order (Some last) (entries m))) kind none)

-- ---- ids that are in range

module _ (m : Objects) (h : Home) where
  pub range_first : (first : Id) → IsFirstOf Dataset h first → AreInRangeFrom h (left id_order (Some first) (entries m)) → AreInRangeFrom h (entries m)
  range_first first is = holds_first m h Dataset (λ e. InRange e.0) first is (λ o there one. is.range)

  pub range_more : (after id : Id) → IsKeyStep m (Some after) (Some id) → InRange id → AreInRangeFrom h (left id_order (Some id) (entries m)) → AreInRangeFrom h (left id_order (Some after) (entries m))
  range_more after id step range = holds_more m h Dataset (λ e. InRange e.0) after id step (λ o there one. range)

  pub range_last : (last : Id) → last.kind ≡ Dataset → IsNextOf m h last None → AreInRangeFrom h (left id_order (Some last) (entries m))
  range_last last kind none = holds_last m h Dataset (λ e. InRange e.0) last kind none
