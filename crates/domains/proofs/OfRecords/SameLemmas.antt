-- Two objects in order are the same where one has all members of the other, and no more.
use Rattle.std.proofs.Common.{◌≡◌, ◌≤◌, ℕ, suc, List, length, Some, None, Ordering, Less, Equal, Greater, refl, sym, ap, subst, arith, ◌∙◌}
use Rattle.std.specs.Ordering.{match_ordering}
use Rattle.serde_json.specs.Data.{Data, Members, no_members, member}
use Rattle.serde_json.specs.Find.{get_member}
use Rattle.containers.specs.TextMaps.Keyed.{text_order}
use Rattle.containers.proofs.TextMaps.KeyedMaps.{exact_texts}
use Rattle.domains.proofs.OfRecords.TidyLemmas.{Above, IsRising, above_weaker}
use Rattle.containers.proofs.TextMaps.TextOrders.{turned, turned_back}
use Rattle.json_trees.specs.Trees.{pairs_of}

abbrev pub count : Members → ℕ
count no_members = 0
count (member k d ms) = suc (count ms)

pub length-pairs : (ms : Members) → length (pairs_of ms) ≡ count ms
length-pairs no_members = refl
length-pairs (member k d ms) = ap suc (length-pairs ms)

-- each member of the first is one of the second
abbrev pub Within : Members → Members → Type 0
Within no_members ns = Unit {0}
Within (member k d ms) ns = (get_member k ns ≡ Some d) × Within ms ns

none_above : (k : List ℕ) (ms : Members) → Above k ms → get_member k ms ≡ None
none_above k no_members h = refl
none_above k (member l e ms) h = ap (λ (o : Ordering). match_ordering o (get_member k ms) (Some e) (get_member k ms)) h.0 ∙ none_above k ms h.1

-- a key before all others is none of them
before_all : (k l : List ℕ) (d e : Data) (ns : Members) → text_order k l ≡ Less → Above l ns → get_member k (member l e ns) ≡ Some d → ⊥
before_all k l d e ns lt above there =
    let both : None ≡ Some d = sym (none_above k (member l e ns) (lt, above_weaker k l ns lt above)) ∙ there in absurd (cc)

within_drop : (l : List ℕ) (e : Data) (ns ms : Members) → Above l ms → Within ms (member l e ns) → Within ms ns
within_drop l e ns no_members above h = tt
within_drop l e ns (member k d ms) above h = (
  sym (ap (λ (o : Ordering). match_ordering o (get_member k ns) (Some e) (get_member k ns)) (turned_back l k above.0)) ∙ h.0,
  within_drop l e ns ms above.1 h.1,
)

fewer : (ms ns : Members) → IsRising ms → IsRising ns → Within ms ns → count ms ≤ count ns
fewer no_members ns up rising within = omega arith
fewer (member k d ms) no_members up rising within = let both : None ≡ Some d = within.0 in absurd (cc)
fewer (member k d ms) (member l e ns) up rising within = at (text_order k l) refl (λ w. fewer ms ns up.1 rising.1 w) (λ w. fewer (member k d ms) ns up rising.1 w) where
  at : (o : Ordering) → text_order k l ≡ o → (Within ms ns → count ms ≤ count ns) → (Within (member k d ms) ns → suc (count ms) ≤ count ns) → suc (count ms) ≤ suc (count ns)
  at Less is one none = absurd (before_all k l d e ns is rising.0 within.0)
  at Equal is one none = omega (arith, one (within_drop l e ns ms (subst (λ (t : List ℕ). Above t ms) (exact_texts k l is) up.0) within.1))
  at Greater is one none = omega (arith, none (within_drop l e ns (member k d ms) (turned k l is, above_weaker l k ms (turned k l is) up.0) within))

pub same : (ms ns : Members) → IsRising ms → IsRising ns → Within ms ns → count ns ≤ count ms → ms ≡ ns
same no_members no_members up rising within few = refl
same no_members (member l e ns) up rising within few = absurd (omega (arith, few))
same (member k d ms) no_members up rising within few = let both : None ≡ Some d = within.0 in absurd (cc)
same (member k d ms) (member l e ns) up rising within few = at (text_order k l) refl (λ w. same ms ns up.1 rising.1 w (omega (arith, few))) where
  at : (o : Ordering) → text_order k l ≡ o → (Within ms ns → ms ≡ ns) → member k d ms ≡ member l e ns
  at Less is rest = absurd (before_all k l d e ns is rising.0 within.0)
  at Equal is rest =
      let key = exact_texts k l is in
      let found : Some e ≡ Some d = sym (ap (λ (o : Ordering). match_ordering o (get_member k ns) (Some e) (get_member k ns)) is) ∙ within.0 in
      let value : d ≡ e = cc in
      let tail = rest (within_drop l e ns ms (subst (λ (t : List ℕ). Above t ms) key up.0) within.1) in
      (λ i. member (key i) (value i) (tail i))
  at Greater is rest =
      absurd (omega (arith, few, fewer (member k d ms) ns up rising.1 (within_drop l e ns (member k d ms) (turned k l is, above_weaker l k ms (turned k l is) up.0) within)))
