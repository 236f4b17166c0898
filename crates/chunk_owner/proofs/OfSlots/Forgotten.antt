-- The objects of one domain are removed, kind by kind.
use Rattle.std.proofs.Common.{◌≡◌, ◌≢◌, ◌⊎◌, inl, inr, ℕ, ◌<◌, ◌≤◌, ◌==◌, Bool, true, false, cond, List, length, Option, Some, None, IsSome, Ordering, Less, Equal, Greater, refl, sym, ap, subst, ◌∙◌, arith, eqb-true, eq-eqb}
use Rattle.std.specs.FinMap.{entries, get}
use Rattle.std.specs.Ordering.{MatchOrdering, nat_cmp, ordering_then}
use Rattle.std.specs.Cmp.{nat_cmp_is}
use Rattle.std.proofs.lemmas.Cmp.{ranked}
use Rattle.containers.specs.TextMaps.Nexts.{is_behind, left, IsNext}
use Rattle.object_ids.specs.IdOrder.{id_order, kind_rank}
use Rattle.object_ids.specs.IdValues.{Id}
use Rattle.object_ids.specs.declared.ids.Kind.{Kind}
use Rattle.object_ids.specs.declared.ids.Kind.TheVariants.{Group, Dataset, Datatype}
use Rattle.object_ids.proofs.IdOrders.{rank_once}
use Rattle.flush_journal.specs.Records.{Held}
use Rattle.chunk_owner.specs.declared.slots.slot.Slot.{Slot}
use Rattle.chunk_owner.specs.Slots.Forgetting.{ForgetsKind, IsNextIn, IsToForgetIn}
use Rattle.chunk_owner.specs.Slots.Marking.{AddsMarks, IsToDrop, IsToForget}
use Rattle.chunk_owner.specs.Slots.Slots.{AreOfKind, HasSameIds, IsMarked, Says, Slots, object_of}
use Rattle.containers.proofs.Passing.{by_bool, contrary, lt_less}
use Rattle.chunk_owner.proofs.OfSlots.LaneCuts.{by_place, itself_not, weaker_behind}
use Rattle.chunk_owner.proofs.OfSlots.Standing.{fewer_left}

-- ---- the order of ids, by kind and domain

less_first : (a b : ℕ) (rest : Ordering) → a < b → ordering_then (nat_cmp a b) rest ≡ Less
less_first a b rest less = ap (λ (o : Ordering). ordering_then o rest) (sym (nat_cmp_is a b Less less))

same_first : (a b : ℕ) (rest : Ordering) → a ≡ b → ordering_then (nat_cmp a b) rest ≡ rest
same_first a b rest same = ap (λ (o : Ordering). ordering_then o rest) (sym (nat_cmp_is a b Equal same))

greater_first : (a b : ℕ) (rest : Ordering) → b < a → ordering_then (nat_cmp a b) rest ≡ Greater
greater_first a b rest more = ap (λ (o : Ordering). ordering_then o rest) (sym (nat_cmp_is a b Greater more))

pub less_kind : (a b : Id) → kind_rank a.kind < kind_rank b.kind → id_order a b ≡ Less
less_kind a b less = less_first (kind_rank a.kind) (kind_rank b.kind) _ less

pub less_domain : (a b : Id) → a.kind ≡ b.kind → a.domain < b.domain → id_order a b ≡ Less
less_domain a b same less = same_first (kind_rank a.kind) (kind_rank b.kind) _ (ap kind_rank same) ∙ less_first a.domain b.domain _ less

-- where the first number isn't less, the rest decides
not_first : (a b : ℕ) (rest : Ordering) → b ≤ a → ordering_then (nat_cmp a b) rest ≡ Less → rest ≡ Less
not_first a b rest more less = at (nat_cmp a b) (ranked a b (nat_cmp a b) refl) less where
  at : (o : Ordering) → MatchOrdering o (a < b) (a ≡ b) (b < a) → ordering_then o rest ≡ Less → rest ≡ Less
  at Less lt e = absurd (omega (arith, lt, more))
  at Equal same e = e
  at Greater gt e = let both : Greater ≡ Less = e in absurd (cc)

-- what is behind has no lesser kind
behind_kind : (a b : Id) → is_behind id_order (Some a) b ≡ true → kind_rank b.kind < kind_rank a.kind → ⊥
behind_kind a b behind less = at (greater_first (kind_rank a.kind) (kind_rank b.kind) _ less) (lt_less (id_order a b) behind) where
  at : id_order a b ≡ Greater → id_order a b ≡ Less → ⊥
  at greater before = let both : Greater ≡ Less = sym greater ∙ before in absurd (cc)

-- an id of that kind and domain is the first one or behind it
pub from_first : (first q : Id) → first.kind ≡ q.kind → first.domain ≤ q.domain → first.run ≡ 0 → first.serial ≡ 0 → is_behind id_order (Some first) q ≡ false → q ≡ first
from_first first q kind domain run serial isnt = by_place first q (q ≡ first) isnt (λ same. same) (λ other less. absurd (never less)) where
  same_rank : kind_rank first.kind ≡ kind_rank q.kind
  same_rank = ap kind_rank kind

  never : id_order q first ≡ Less → ⊥
  never less =
      let by_domain = not_first (kind_rank q.kind) (kind_rank first.kind) _ (omega (arith, same_rank)) less in
      let by_run = not_first q.domain first.domain _ domain by_domain in
      let by_serial = not_first q.run first.run _ (omega (arith, run)) by_run in
      let before : q.serial < first.serial = ranked q.serial first.serial Less (sym by_serial) in
      omega (arith, serial, before)

-- ---- the next id of the kind

pub next_in : (number : ℕ) (slots : Slots) (after id : Id) → IsNext slots (Some after) (Some id) → id.kind ≡ after.kind → IsNextIn number slots after (Some id)
next_in number slots after id next kind = (next.0, next.1, kind, next.2)

pub no_later : (number : ℕ) (slots : Slots) (after : Id) → IsNext slots (Some after) None → IsNextIn number slots after None
no_later number slots after none q behind kind domain = none q behind

-- an id of another kind, or of a later domain, comes behind all of them
pub past_kind : (number : ℕ) (slots : Slots) (after id : Id) → IsNext slots (Some after) (Some id) → id.kind ≢ after.kind → IsNextIn number slots after None
past_kind number slots after id next other q behind kind domain =
    let rank : kind_rank q.kind ≡ kind_rank after.kind = ap kind_rank kind in
    next.2 q behind (less_kind q id (greater rank (λ e. other (rank_once id.kind after.kind e)) (behind_kind after id next.0))) where
      greater : {a b c : ℕ} → a ≡ b → c ≢ b → (c < b → ⊥) → a < c
      greater {a} {b} {c} same differ least = at (splits c b) where
        splits : (x y : ℕ) → (x < y) ⊎ (x ≡ y) ⊎ (y < x)
        splits x y = grind arith

        at : (c < b) ⊎ (c ≡ b) ⊎ (b < c) → a < c
        at (inl less) = absurd (least less)
        at (inr (inl e)) = absurd (differ e)
        at (inr (inr more)) = omega (arith, same, more)

pub past_domain : (number : ℕ) (slots : Slots) (after id : Id) → IsNext slots (Some after) (Some id) → id.kind ≡ after.kind → number < id.domain → IsNextIn number slots after None
past_domain number slots after id next same more q behind kind domain =
    next.2 q behind (less_domain q id (kind ∙ sym same) (omega (arith, domain, more)))

-- ---- those of one kind

-- those up to an id are gone
pub record IsForgot (kind : Kind) (number : ℕ) (old cur : Slots) (last : Id) : Type 0 where
  pub at : last.kind ≡ kind
  pub gone : (q : Id) → q.kind ≡ kind → q.domain ≡ number → is_behind id_order (Some last) q ≡ false → object_of (get cur q) ≡ None
  pub ahead : (q : Id) → is_behind id_order (Some last) q ≡ true → get cur q ≡ get old q
  pub others : (q : Id) → (q.kind ≡ kind → q.domain ≢ number) → get cur q ≡ get old q
  pub says : (q : Id) (held : Held) → Says (get old q) q held → Says (get cur q) q held
  pub alone : AddsMarks (IsToForgetIn kind number (get old)) old cur
  pub kinds : AreOfKind cur
  pub ids : HasSameIds old cur

pub same_domain : (a b : ℕ) → (a ≡ b) ⊎ (a ≢ b)
same_domain a b = grind arith

-- one slot was looked at, which stays where its domain is another
record Forgets (number : ℕ) (old new : Slots) (id : Id) : Type 0 where
  here : id.domain ≡ number → object_of (get new id) ≡ None
  stays : id.domain ≢ number → new ≡ old
  others : (q : Id) → q ≢ id → get new q ≡ get old q
  says : (q : Id) (held : Held) → Says (get old q) q held → Says (get new q) q held
  alone : AddsMarks (λ key. (id.domain ≡ number) × IsToDrop id (get old id) key) old new
  kinds : AreOfKind new
  ids : HasSameIds old new

-- an id that isn't meant keeps its slot
kept_others : (kind : Kind) (number : ℕ) (old new : Slots) (id q : Id) → id.kind ≡ kind → Forgets number old new id → (q.kind ≡ kind → q.domain ≢ number) → get new q ≡ get old q
kept_others kind number old new id q of f apart = at (same_domain id.domain number) where
  at : (id.domain ≡ number) ⊎ (id.domain ≢ number) → get new q ≡ get old q
  at (inl same) = f.others q (λ e. apart (ap (λ (x : Id). x.kind) e ∙ of) (ap (λ (x : Id). x.domain) e ∙ same))
  at (inr other) = ap (λ (m : Slots). get m q) (f.stays other)

gone_here : (number : ℕ) (old new : Slots) (id q : Id) → Forgets number old new id → q ≡ id → q.domain ≡ number → object_of (get new q) ≡ None
gone_here number old new id q f same domain =
    subst (λ (x : Id). object_of (get new x) ≡ None) (sym same) (f.here (ap (λ (x : Id). x.domain) (sym same) ∙ domain))

marked_in : (kind : Kind) (number : ℕ) (old cur : Slots) (id : Id) → id.kind ≡ kind → get cur id ≡ get old id → (key : List ℕ) → (id.domain ≡ number) × IsToDrop id (get cur id) key → IsToForgetIn kind number (get old) key
marked_in kind number old cur id of same key new = (id, of, new.0, subst (λ (o : Option Slot). IsToDrop id o key) same new.1)

-- the first one was looked at
pub forgot_first : (kind : Kind) (number : ℕ) (old new : Slots) (first : Id) → first.kind ≡ kind → first.domain ≤ number → first.run ≡ 0 → first.serial ≡ 0
    → (first.domain ≡ number → object_of (get new first) ≡ None) → (first.domain ≢ number → new ≡ old) → ((q : Id) → q ≢ first → get new q ≡ get old q)
    → ((q : Id) (held : Held) → Says (get old q) q held → Says (get new q) q held) → AddsMarks (λ key. (first.domain ≡ number) × IsToDrop first (get old first) key) old new
    → AreOfKind new → HasSameIds old new → IsForgot kind number old new first
forgot_first kind number old new first of below run serial here stays others says alone kinds ids = let f : Forgets number old new first = record {
  here = here;
  stays = stays;
  others = others;
  says = says;
  alone = alone;
  kinds = kinds;
  ids = ids;
} in record {
  at = of;
  gone = λ q k d isnt. gone_here number old new first q f (from_first first q (of ∙ sym k) (omega (arith, below, d)) run serial isnt) d;
  ahead = λ q b. others q (λ same. contrary (is_behind id_order (Some first) q) ⊥ b (subst (λ (x : Id). is_behind id_order (Some first) x ≡ false) (sym same) (itself_not first)));
  others = λ q apart. kept_others kind number old new first q of f apart;
  says = says;
  alone = λ key marked. to_forget key (alone key marked);
  kinds = kinds;
  ids = ids;
} where
  to_forget : (key : List ℕ) → IsMarked old key ⊎ ((first.domain ≡ number) × IsToDrop first (get old first) key) → IsMarked old key ⊎ IsToForgetIn kind number (get old) key
  to_forget key (inl was) = inl was
  to_forget key (inr new) = inr (marked_in kind number old old first of refl key new)

module _ (kind : Kind) (number : ℕ) (old cur : Slots) (last : Id) (f : IsForgot kind number old cur last) where
  -- the next one was
  pub forgot_next : (new : Slots) (id : Id) → IsNextIn number cur last (Some id)
      → (id.domain ≡ number → object_of (get new id) ≡ None) → (id.domain ≢ number → new ≡ cur) → ((q : Id) → q ≢ id → get new q ≡ get cur q)
      → ((q : Id) (held : Held) → Says (get cur q) q held → Says (get new q) q held) → AddsMarks (λ key. (id.domain ≡ number) × IsToDrop id (get cur id) key) cur new
      → AreOfKind new → HasSameIds cur new → IsForgot kind number old new id
  forgot_next new id next here stays others says alone kinds ids = record {
    at = of;
    gone = λ q k d isnt. by_place id q (object_of (get new q) ≡ None) isnt
        (λ same. gone_here number cur new id q g same d)
        (λ other less. ap object_of (others q other) ∙ by_bool (is_behind id_order (Some last) q) (object_of (get cur q) ≡ None) (λ b. ap object_of (next.3 q b less)) (λ b. f.gone q k d b));
    ahead = λ q b. others q (λ same. contrary (is_behind id_order (Some id) q) ⊥ b (subst (λ (x : Id). is_behind id_order (Some id) x ≡ false) (sym same) (itself_not id))) ∙ f.ahead q (weaker_behind (Some last) id q next.0 b);
    others = λ q apart. kept_others kind number cur new id q of g apart ∙ f.others q apart;
    says = λ q held said. says q held (f.says q held said);
    alone = λ key marked. to_forget key (alone key marked);
    kinds = kinds;
    ids = λ q none. ids q (f.ids q none);
  } where
    of : id.kind ≡ kind
    of = next.2 ∙ f.at

    g : Forgets number cur new id
    g = record { here = here; stays = stays; others = others; says = says; alone = alone; kinds = kinds; ids = ids }

    to_forget : (key : List ℕ) → IsMarked cur key ⊎ ((id.domain ≡ number) × IsToDrop id (get cur id) key) → IsMarked old key ⊎ IsToForgetIn kind number (get old) key
    to_forget key (inl was) = f.alone key was
    to_forget key (inr new) = inr (marked_in kind number old cur id of (f.ahead id next.0) key new)

  pub forgot_fewer : (id : Id) → IsNextIn number cur last (Some id) → length (left id_order (Some id) (entries old)) < length (left id_order (Some last) (entries old))
  forgot_fewer id next = fewer_left old (Some last) id next.0 (subst (λ (o : Option Slot). IsSome o) (f.ahead id next.0) next.1)

  -- no other is left
  pub forgot_kind : IsNextIn number cur last None → ForgetsKind kind number old cur
  forgot_kind none = record {
    gone = λ q k d. by_bool (is_behind id_order (Some last) q) (object_of (get cur q) ≡ None) (λ b. ap object_of (none q b (k ∙ sym f.at) d)) (λ b. f.gone q k d b);
    others = f.others;
  }

-- ---- of all kinds

-- a slot of another kind stays
other_kind : (kind : Kind) (number : ℕ) (old new : Slots) → ForgetsKind kind number old new → (q : Id) → q.kind ≢ kind → get new q ≡ get old q
other_kind kind number old new f q other = f.others q (λ same. absurd (other same))

module _ (number : ℕ) (old a b new : Slots) (first : ForgetsKind Group number old a) (second : ForgetsKind Dataset number a b) (third : ForgetsKind Datatype number b new) where
  of_domain : (q : Id) (k : Kind) → q.kind ≡ k → q.domain ≡ number → object_of (get new q) ≡ None
  of_domain q Group k d = ap object_of (other_kind Datatype number b new third q (λ e. let both : Group ≡ Datatype = sym k ∙ e in absurd (cc)))
      ∙ ap object_of (other_kind Dataset number a b second q (λ e. let both : Group ≡ Dataset = sym k ∙ e in absurd (cc))) ∙ first.gone q k d
  of_domain q Dataset k d = ap object_of (other_kind Datatype number b new third q (λ e. let both : Dataset ≡ Datatype = sym k ∙ e in absurd (cc))) ∙ second.gone q k d
  of_domain q Datatype k d = third.gone q k d

  pub forgot_rest : (q : Id) → object_of (get new q) ≡ cond (q.domain == number) None (object_of (get old q))
  forgot_rest q = at (q.domain == number) refl where
    at : (b : Bool) → (q.domain == number) ≡ b → object_of (get new q) ≡ cond (q.domain == number) None (object_of (get old q))
    at true e = of_domain q q.kind refl (eqb-true q.domain number e) ∙ sym (ap (λ x. cond x None (object_of (get old q))) e)
    at false e =
        let other : q.domain ≢ number = (λ same. contrary (q.domain == number) ⊥ (eq-eqb q.domain number same) e) in
        ap object_of (third.others q (λ k. other)) ∙ ap object_of (second.others q (λ k. other)) ∙ ap object_of (first.others q (λ k. other))
        ∙ sym (ap (λ x. cond x None (object_of (get old q))) e)

  pub forgot_others : (q : Id) → q.domain ≢ number → get new q ≡ get old q
  forgot_others q other = third.others q (λ k. other) ∙ second.others q (λ k. other) ∙ first.others q (λ k. other)

  module _ (one : AddsMarks (IsToForgetIn Group number (get old)) old a) (two : AddsMarks (IsToForgetIn Dataset number (get a)) a b) (three : AddsMarks (IsToForgetIn Datatype number (get b)) b new) where
    by_first : (key : List ℕ) → IsMarked old key ⊎ IsToForgetIn Group number (get old) key → IsMarked old key ⊎ IsToForget number (get old) key
    by_first key (inl was) = inl was
    by_first key (inr new) = inr (new.0, new.2, new.3)

    by_second : (key : List ℕ) → IsMarked a key ⊎ IsToForgetIn Dataset number (get a) key → IsMarked old key ⊎ IsToForget number (get old) key
    by_second key (inl was) = by_first key (one key was)
    by_second key (inr new) = inr (
      new.0,
      new.2,
      subst (λ (o : Option Slot). IsToDrop new.0 o key)
          (other_kind Group number old a first new.0 (λ e. let both : Dataset ≡ Group = sym new.1 ∙ e in absurd (cc))) new.3,
    )

    by_third : (key : List ℕ) → IsMarked b key ⊎ IsToForgetIn Datatype number (get b) key → IsMarked old key ⊎ IsToForget number (get old) key
    by_third key (inl was) = by_second key (two key was)
    by_third key (inr new) = inr (
      new.0,
      new.2,
      subst (λ (o : Option Slot). IsToDrop new.0 o key)
          (other_kind Dataset number a b second new.0 (λ e. let both : Datatype ≡ Dataset = sym new.1 ∙ e in absurd (cc))
          ∙ other_kind Group number old a first new.0 (λ e. let both : Datatype ≡ Group = sym new.1 ∙ e in absurd (cc))) new.3,
    )

    pub forgot_alone : AddsMarks (IsToForget number (get old)) old new
    forgot_alone key marked = by_third key (three key marked)
