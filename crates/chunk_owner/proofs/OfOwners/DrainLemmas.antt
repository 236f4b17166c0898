-- Records that are taken out of a map one after another, in the order of their keys.
use Rattle.std.proofs.Common.{◌≡◌, ◌≢◌, inl, inr, ℕ, suc, ◌<◌, true, false, cond, List, [], ◌∷◌, length, IsSome, is_some, Option, Some, None, Ordering, Less, Equal, Greater, option_map, T, refl, sym, ap, subst, ◌∙◌, arith}
use Rattle.std.specs.Ordering.{is_lt, ordering_reverse}
use Rattle.std.specs.Cmp.Lexicographic.{nat_list_cmp_total}
use Rattle.std.specs.FinMap.{entries, get, get-remove}
use Rattle.containers.specs.TextMaps.Keyed.{text_order}
use Rattle.containers.specs.TextMaps.Nexts.{IsKeyStep, IsNext, first, is_behind, left}
use Rattle.containers.proofs.Plain.{less}
use Rattle.containers.proofs.TextMaps.KeyedMaps.{exact_texts}
use Rattle.containers.proofs.TextMaps.TextOrders.{itself, not_itself, turned, unlike}
use Rattle.containers.proofs.TextMaps.Walks.{found_key}
use Rattle.flush_journal.specs.Records.{Held, Record}
use Rattle.chunk_owner.specs.Installs.Records.{IsOther}
use Rattle.chunk_owner.specs.Owners.Records.{HasOthersAlone, KeepsOthers}
use Rattle.chunk_owner.specs.Owners.Walks.{TakesOut}

-- ---- the step of a walk

same_or : (r : Ordering) (P : Type 0) → (r ≡ Less → P) → (r ≡ Equal → P) → (r ≡ Greater → P) → P
same_or Less P l e g = l refl
same_or Equal P l e g = e refl
same_or Greater P l e g = g refl

none_some : (o : Option (List ℕ)) → o ≡ None → IsSome o → ⊥
none_some o none some = let both : false ≡ true = sym (ap is_some none) ∙ some in absurd (cc)

next_once : (m : Held) (after a b : Option (List ℕ)) → IsNext m after a → IsNext m after b → a ≡ b
next_once m after None None x y = refl
next_once m after None (Some b) x y = absurd (none_some (get m b) (x b y.0) y.1)
next_once m after (Some a) None x y = absurd (none_some (get m a) (y a x.0) x.1)
next_once m after (Some a) (Some b) x y = same_or (text_order a b) (Some a ≡ Some b)
    (λ l. absurd (none_some (get m a) (y.2 a x.0 l) x.1))
    (λ e. ap (λ (i : List ℕ). Some i) (exact_texts a b e))
    (λ g. absurd (none_some (get m b) (x.2 b y.0 (nat_list_cmp_total.antisymm b a ∙ ap ordering_reverse g)) y.1))

next_step : (m : Held) (after r : Option (List ℕ)) → IsNext m after r → IsKeyStep m after r
next_step m after r next =
    let found = found_key nat_list_cmp_total m after (option_map (λ e. e.0) (first (left text_order after (entries m)))) refl in
    subst (λ (k : Option (List ℕ)). IsKeyStep m after k) (next_once m after _ r found.0 next) found.1

-- ---- what is left of a walk over what is held

-- the records from a key on
abbrev pub IsAt : Held → Option (List ℕ) → List Record → Type 0
IsAt held None rest = rest ≡ []
IsAt held (Some k) rest = (body : List ℕ) × (get held k ≡ Some body) × (rest ≡ (k, body) ∷ left text_order (Some k) (entries held))

-- how many they are
abbrev pub size_at : Held → Option (List ℕ) → ℕ
size_at held None = 0
size_at held (Some k) = suc (length (left text_order (Some k) (entries held)))

step_at : (held : Held) (after o : Option (List ℕ)) → IsKeyStep held after o → IsAt held o (left text_order after (entries held))
step_at held after None s = s
step_at held after (Some k) s = s

all_left : (es : List Record) → left text_order None es ≡ es
all_left [] = refl
all_left (e ∷ es) = ap (λ (r : List Record). e ∷ r) (all_left es)

pub at_begin : (held : Held) (o : Option (List ℕ)) → IsNext held None o → IsAt held o (entries held)
at_begin held o next = subst (λ (r : List Record). IsAt held o r) (all_left (entries held)) (step_at held None o (next_step held None o next))

pub at_more : (held : Held) (k : List ℕ) (o : Option (List ℕ)) → IsNext held (Some k) o → IsAt held o (left text_order (Some k) (entries held))
at_more held k o next = step_at held (Some k) o (next_step held (Some k) o next)

smaller_by : (held : Held) (k : List ℕ) (o : Option (List ℕ)) → IsKeyStep held (Some k) o → size_at held o < size_at held (Some k)
smaller_by held k None s = omega arith
smaller_by held k (Some q) s = let e = ap (λ (r : List Record). length r) s.2 in omega (arith, e)

pub smaller : (held : Held) (k : List ℕ) (o : Option (List ℕ)) → IsNext held (Some k) o → size_at held o < size_at held (Some k)
smaller held k o next = smaller_by held k o (next_step held (Some k) o next)

-- ---- what is left in the map

-- from a key on it has what is held
abbrev pub AgreesFrom : Held → Held → Option (List ℕ) → Type 0
AgreesFrom held m None = Unit {0}
AgreesFrom held m (Some k) = (get m k ≡ get held k) × ((q : List ℕ) → is_behind text_order (Some k) q ≡ true → get m q ≡ get held q)

pub agrees_begin : (held : Held) (o : Option (List ℕ)) → AgreesFrom held held o
agrees_begin held None = tt
agrees_begin held (Some k) = (refl, λ q behind. refl)

-- the next key is the next one of what is held
pub next_held : (held m : Held) (k : List ℕ) (o : Option (List ℕ)) → AgreesFrom held m (Some k) → IsNext m (Some k) o → IsNext held (Some k) o
next_held held m k None agree next = λ q behind. sym (agree.1 q behind) ∙ next q behind
next_held held m k (Some a) agree next = (
  next.0,
  subst (λ (o : Option (List ℕ)). IsSome o) (agree.1 a next.0) next.1,
  λ q behind low. sym (agree.1 q behind) ∙ next.2 q behind low,
)

behind_less : (k q : List ℕ) → is_behind text_order (Some k) q ≡ true → text_order k q ≡ Less
behind_less k q behind = less (text_order k q) (subst T (sym behind) tt)

taken_else : (k : List ℕ) (m n : Held) → TakesOut k m n → (q : List ℕ) → q ≢ k → get n q ≡ get m q
taken_else k m n (inl same) q other = ap (λ (x : Held). get x q) same.1
taken_else k m n (inr gone) q other = ap (λ (x : Held). get x q) gone.1 ∙ get-remove nat_list_cmp_total m k q ∙ ap (λ b. cond b None (get m q)) (unlike q k other)

pub agrees_more : (held m n : Held) (k : List ℕ) (o : Option (List ℕ)) → AgreesFrom held m (Some k) → IsNext m (Some k) o → TakesOut k m n → AgreesFrom held n o
agrees_more held m n k None agree next taken = tt
agrees_more held m n k (Some a) agree next taken =
    let above = behind_less k a next.0 in (
      taken_else k m n taken a (not_itself k a above) ∙ agree.1 a next.0,
      λ q behind.
          let low : text_order k q ≡ Less = nat_list_cmp_total.trans k a q above (behind_less a q behind) in
          taken_else k m n taken q (not_itself k q low) ∙ agree.1 q (ap is_lt low),
    )

pub keeps_more : (held m n : Held) (k : List ℕ) → KeepsOthers held m → TakesOut k m n → KeepsOthers held n
keeps_more held m n k keeps (inl same) q other = ap (λ (x : Held). get x q) same.1 ∙ keeps q other
keeps_more held m n k keeps (inr gone) q other = taken_else k m n (inr gone) q (λ same. gone.0 (subst IsOther same other)) ∙ keeps q other

-- ---- what was taken out

-- of the records in front of a key none of a lane is left
abbrev pub IsDrainedTo : Held → Option (List ℕ) → Type 0
IsDrainedTo m None = HasOthersAlone m
IsDrainedTo m (Some k) = (q : List ℕ) → (IsOther q → ⊥) → text_order q k ≡ Less → get m q ≡ None

pub drained_begin : (held : Held) (o : Option (List ℕ)) → IsNext held None o → IsDrainedTo held o
drained_begin held None next = λ q lane. next q refl
drained_begin held (Some k) next = λ q lane low. next.2 q refl low

taken_itself : (k : List ℕ) (m n : Held) → TakesOut k m n → (IsOther k → ⊥) → get n k ≡ None
taken_itself k m n (inl same) lane = absurd (lane same.0)
taken_itself k m n (inr gone) lane =
    ap (λ (x : Held). get x k) gone.1 ∙ get-remove nat_list_cmp_total m k k ∙ ap (λ b. cond b None (get m k)) (itself k)

module _ (m n : Held) (k : List ℕ) (taken : TakesOut k m n) (before : IsDrainedTo m (Some k)) where
  drained_at : (q : List ℕ) → (IsOther q → ⊥) → (text_order k q ≡ Less → get m q ≡ None) → get n q ≡ None
  drained_at q lane behind = same_or (text_order q k) (get n q ≡ None)
      (λ low. taken_else k m n taken q (λ same. not_itself q k low (sym same)) ∙ before q lane low)
      (λ same. let is = exact_texts q k same in
      ap (get n) is ∙ taken_itself k m n taken (λ other. lane (subst IsOther (sym is) other)))
      (λ high. let low : text_order k q ≡ Less = turned q k high in taken_else k m n taken q (not_itself k q low) ∙ behind low)

  pub drained_more : (o : Option (List ℕ)) → IsNext m (Some k) o → IsDrainedTo n o
  drained_more None next = λ q lane. drained_at q lane (λ low. next q (ap is_lt low))
  drained_more (Some a) next = λ q lane under. drained_at q lane (λ low. next.2 q (ap is_lt low) under)
