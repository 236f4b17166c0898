-- The key that is named.
use Rattle.std.proofs.Common.{◌≡◌, ◌⊎◌, inl, inr, ℕ, List, Ordering, Less, Equal, Greater, refl, ap, subst, ◌∙◌, arith}
use Rattle.std.proofs.lemmas.Bool.{cases_eq, cases_lt}
use Rattle.std.specs.Cmp.Lexicographic.{nat_list_cmp_total}
use Rattle.std.specs.Ordering.{ordering_reverse}
use Rattle.containers.specs.TextMaps.Keyed.{text_order}
use Rattle.containers.proofs.TextMaps.KeyedMaps.{exact_texts}
use Rattle.flush_journal.specs.Records.{Held}
use Rattle.chunk_owner.specs.Installs.Records.{IsFault}
use Rattle.containers.specs.TextMaps.Fronts.{IsLeast}
use Rattle.chunk_owner.specs.Owners.Records.{IsFirstFault}
use Rattle.register.specs.Installed.Registers.{IsNextNumber, IsRegisterFault, IsRun}
use Rattle.register.proofs.OfInstalled.NodeWalks.{one_next}
use Rattle.service_core.specs.Strays.Strays.{IsStray}
use Rattle.register.proofs.Installing.{one_run as same_run}
use Rattle.service_core.specs.Records.{of_lane, of_none, of_register}
use Rattle.service_core.specs.Described.Faultless.{FaultsAreOne}

-- one key is the least
least_once : (P : List ℕ → Type 0) (key other : List ℕ) → IsLeast P key → IsLeast P other → other ≡ key
least_once P key other x y = at (text_order other key) refl where
  at : (o : Ordering) → text_order other key ≡ o → other ≡ key
  at Less e = absurd (x.least other y.has e)
  at Equal e = exact_texts other key e
  at Greater e = absurd (y.least key x.has (nat_list_cmp_total.antisymm key other ∙ ap ordering_reverse e))

-- and one lane is the first
module _ (lanes run next : ℕ) (held : Held) where
  first_lane : (key other : List ℕ) → IsFirstFault lanes run next held key → IsFirstFault lanes run next held other → other ≡ key
  first_lane key other x y = at (cases_eq y.lane x.lane) where
    at : (y.lane ≡ x.lane) ⊎ (y.lane ≡ x.lane → ⊥) → other ≡ key
    at (inl same) = least_once (IsFault lanes x.lane run next held) key other x.least (subst (λ (n : ℕ). IsLeast (IsFault lanes n run next held) other) same y.least)
    at (inr apart) = elim (cases_lt y.lane x.lane) [
      | inl before ↦ absurd (x.before y.lane before other y.least.has)
      | inr behind ↦ absurd (y.before x.lane (omega (arith, behind, apart)) key x.least.has)
    ]

pub same_lane_fault : (lanes run next last after : ℕ) (held : Held) (key : List ℕ) → IsRun held run → IsRun held last → IsNextNumber held next → IsNextNumber held after → IsFirstFault lanes last after held key
    → IsFirstFault lanes run next held key
same_lane_fault lanes run next last after held key is_run is_last is_next is_after first =
    subst (λ (n : ℕ). IsFirstFault lanes n next held key) (same_run held last run is_last is_run)
    (subst (λ (n : ℕ). IsFirstFault lanes last n held key) (one_next held after next is_after is_next) first)

pub faults_are_one : FaultsAreOne
faults_are_one held lanes key other (of_register x) (of_register y) = least_once (IsRegisterFault held) key other x y
faults_are_one held lanes key other (of_register x) (of_lane run next r n none y) = absurd (none key x.has)
faults_are_one held lanes key other (of_register x) (of_none run next r n none all y) = absurd (none key x.has)
faults_are_one held lanes key other (of_lane run next r n none x) (of_register y) = absurd (none other y.has)
faults_are_one held lanes key other (of_lane run next r n none x) (of_lane last after l a also y) =
    first_lane lanes run next held key other x (same_lane_fault lanes run next last after held other r l n a y)
faults_are_one held lanes key other (of_lane run next r n none x) (of_none last after l a also all y) =
    let first = same_lane_fault lanes last after run next held key l r a n x in absurd (all first.lane first.of key first.least.has)
faults_are_one held lanes key other (of_none run next r n none all x) (of_register y) = absurd (none other y.has)
faults_are_one held lanes key other (of_none run next r n none all x) (of_lane last after l a also y) =
    let first = same_lane_fault lanes run next last after held other r l n a y in absurd (all first.lane first.of other first.least.has)
faults_are_one held lanes key other (of_none run next r n none all x) (of_none last after l a also others y) = least_once (IsStray held) key other x y
