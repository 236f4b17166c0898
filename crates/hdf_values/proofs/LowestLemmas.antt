-- The fault that is told is the lowest of all that the parts have.
use Rattle.std.proofs.Common.{◌≡◌, ◌≢◌, ◌↔◌, ◌⊎◌, ℕ, ◌≤◌, ◌<◌, ◌&&◌, not, ℤ, Bool, true, false, nat_le, if◌then◌else◌, List, [], ◌∷◌, length, Option, Some, None, Result, Ok, Err, inl, inr, refl, sym, ap, subst, ◌∙◌, arith}
use Rattle.std.specs.List.{AllByRecursion, list_any}
use Rattle.std.specs.Option.{MatchOption}
use Rattle.std.proofs.lemmas.Bool.{ltb-false, le-ltb, leb-true, leb-false, false≢true, cases_Bool}
use Rattle.serde_json.specs.Data.{Data}
use Rattle.serde_json.specs.Find.{as_str}
use Rattle.json_trees.specs.Trees.{list_in}
use Rattle.hdf_types.specs.declared.IntType.{IntType}
use Rattle.hdf_types.specs.declared.TextType.{TextType}
use Rattle.hdf_types.specs.Elems.{Elem, int, text, compound, FieldList, no_fields, field}
use Rattle.hdf_values.specs.declared.faults.Misfit.{Misfit}
use Rattle.hdf_values.specs.declared.faults.Misfit.TheVariants.{NotOfType, OutOfRange, TooLong, NotAscii, Nul}
use Rattle.hdf_values.specs.Faults.{rank, lower}
use Rattle.hdf_values.specs.Integers.{in_range, integer_in}
use Rattle.hdf_values.specs.Texts.{most_of, IsNoNul, text_misfit, padded}
use Rattle.hdf_values.specs.Elements.{Fits, bytes_of, encoded, fields_encoded, int_encoded, text_encoded, misfit_or, listed_or, joined}
use Rattle.hdf_values.specs.Lowest.{HasIntFault, HasTextFault, HasFault, SomeFieldHas, IsLowest, field_count}
use Rattle.hdf_values.proofs.IntegerLemmas.{range_told, range_read}
use Rattle.hdf_values.proofs.TextLemmas.{ascii_told, ascii_read, no_nul_told, no_nul_read}
use Rattle.hdf_values.proofs.ElementLemmas.{encoded-fits}

-- a test tells the lowest of some faults, or that there is none
abbrev Tells : Result (List ℕ) Misfit → (Misfit → Type 0) → Type 0
Tells (Ok bs) P = (m : Misfit) → ¬ P m
Tells (Err m) P = P m × ((n : Misfit) → P n → rank m ≤ rank n)

-- ---- ranks

rank_order : (m n k : Misfit) → n ≡ k → rank m ≤ rank k → rank m ≤ rank n
rank_order m n k e h = subst (λ (x : Misfit). rank m ≤ rank x) (sym e) h

least : (n : Misfit) → rank NotOfType ≤ rank n
least NotOfType = omega arith
least OutOfRange = omega arith
least TooLong = omega arith
least NotAscii = omega arith
least Nul = omega arith

lower_of : (m n : Misfit) → ((lower m n ≡ m) × (rank m ≤ rank n)) ⊎ ((lower m n ≡ n) × (rank n ≤ rank m))
lower_of m n = elim (cases_Bool (nat_le (rank m) (rank n))) [
  | inl e ↦ inl (ap (λ b. if b then m else n) e, leb-true _ _ e)
  | inr e ↦
      let less = leb-false (rank m) (rank n) e in
      inr (ap (λ b. if b then m else n) e, omega (arith, less))
]

-- ---- tests of parts

joined_tells : (a b : Result (List ℕ) Misfit) (P Q : Misfit → Type 0) → Tells a P → Tells b Q → Tells (joined a b) (λ m. P m ⊎ Q m)
joined_tells (Ok x) (Ok y) P Q h k = λ m p. elim p [ inl q ↦ h m q | inr q ↦ k m q ]
joined_tells (Ok x) (Err n) P Q h k = (inr k.0, λ m p. elim p [ inl q ↦ absurd (h m q) | inr q ↦ k.1 m q ])
joined_tells (Err m) (Ok y) P Q h k = (inl h.0, λ n p. elim p [ inl q ↦ h.1 n q | inr q ↦ absurd (k n q) ])
joined_tells (Err m) (Err n) P Q h k =
    let T = λ (x : Misfit). (P x ⊎ Q x) × ((z : Misfit) → (P z ⊎ Q z) → rank x ≤ rank z) in
    elim (lower_of m n) [
      | inl low ↦ subst T (sym low.0) (inl h.0, λ z p. elim p [ inl q ↦ h.1 z q | inr q ↦ omega (arith, k.1 z q, low.1) ])
      | inr low ↦ subst T (sym low.0) (inr k.0, λ z p. elim p [ inl q ↦ omega (arith, h.1 z q, low.1) | inr q ↦ k.1 z q ])
    ]

-- a test and what it stands for
told : (b : Bool) (P : Type 0) → (b ≡ false → P) → (P → b ≡ false) → (b ≡ true → ¬ P) × (¬ P → b ≡ true)
told true P f g = (λ e p. false≢true (sym (g p)), λ n. refl)
told false P f g = (λ e. absurd (false≢true e), λ n. absurd (n (f refl)))

int_tells : (t : IntType) (o : Option ℤ) → Tells (int_encoded t o) (HasIntFault t o)
int_tells t None = (refl, λ n h. rank_order NotOfType n NotOfType h (omega arith))
int_tells t (Some z) = elim (cases_Bool (in_range t z)) [
  | inl e ↦ rw e (λ m h. h.1 (range_told t z e))
  | inr e ↦ rw e ((refl, λ h. false≢true (sym e ∙ range_read t z h)), λ n h. rank_order OutOfRange n OutOfRange h.0 (omega arith))
]

three_tell : (a b c : Bool) (bs : List ℕ) (A B C : Type 0) → (a ≡ true → A) × (A → a ≡ true) → (b ≡ true → B) × (B → b ≡ true) → (c ≡ true → C) × (C → c ≡ true)
    → Tells (misfit_or (if a then Some TooLong else (if b then Some NotAscii else (if c then Some Nul else None))) bs) (λ m. ((m ≡ TooLong) × A) ⊎ (((m ≡ NotAscii) × B) ⊎ ((m ≡ Nul) × C)))
three_tell true b c bs A B C h k l = (
  inl (refl, h.0 refl),
  λ n p. elim p [
    | inl q ↦ rank_order TooLong n TooLong q.0 (omega arith)
    | inr r ↦ elim r [ inl q ↦ rank_order TooLong n NotAscii q.0 (omega arith) | inr q ↦ rank_order TooLong n Nul q.0 (omega arith) ]
  ],
)
three_tell false true c bs A B C h k l = (
  inr (inl (refl, k.0 refl)),
  λ n p. elim p [
    | inl q ↦ absurd (false≢true (h.1 q.1))
    | inr r ↦ elim r [ inl q ↦ rank_order NotAscii n NotAscii q.0 (omega arith) | inr q ↦ rank_order NotAscii n Nul q.0 (omega arith) ]
  ],
)
three_tell false false true bs A B C h k l = (
  inr (inr (refl, l.0 refl)),
  λ n p. elim p [
    | inl q ↦ absurd (false≢true (h.1 q.1))
    | inr r ↦ elim r [ inl q ↦ absurd (false≢true (k.1 q.1)) | inr q ↦ rank_order Nul n Nul q.0 (omega arith) ]
  ],
)
three_tell false false false bs A B C h k l = λ n p. elim p [
  | inl q ↦ false≢true (h.1 q.1)
  | inr r ↦ elim r [ inl q ↦ false≢true (k.1 q.1) | inr q ↦ false≢true (l.1 q.1) ]
]

ascii_test : (utf8 : Bool) (s : List ℕ) → ((not utf8 && list_any (λ b. nat_le 128 b) s) ≡ true → (utf8 ≡ false) × ¬ AllByRecursion (λ b. b < 128) s)
    × ((utf8 ≡ false) × ¬ AllByRecursion (λ b. b < 128) s → (not utf8 && list_any (λ b. nat_le 128 b) s) ≡ true)
ascii_test true s = (λ e. absurd (false≢true e), λ h. absurd (false≢true (sym h.0)))
ascii_test false s =
    let test = told (list_any (λ b. nat_le 128 b) s) (AllByRecursion (λ b. b < 128) s) (ascii_told s) (ascii_read s) in
    (λ e. (refl, test.0 e), λ h. test.1 h.1)

text_tells : (t : TextType) (o : Option (List ℕ)) → Tells (text_encoded t o) (HasTextFault t o)
unfolding text_misfit
text_tells t None = (refl, λ n h. rank_order NotOfType n NotOfType h (omega arith))
text_tells t (Some s) =
    three_tell _ _ _ (padded t s) _ _ _
    (told _ (length s ≤ most_of t.pad t.len) (ltb-false _ _) (le-ltb (most_of t.pad t.len) (length s)))
    (ascii_test t.utf8 s)
    (told _ (IsNoNul s) (no_nul_told s) (no_nul_read s))

-- ---- a list of fields

-- the faults of a list beside so many fields, and of its members
abbrev ListHas : FieldList → List Data → Misfit → Type 0
ListHas fs ds m = ((m ≡ NotOfType) × (length ds ≢ field_count fs)) ⊎ SomeFieldHas fs ds m

-- other words for the same faults
same_tells : (r : Result (List ℕ) Misfit) (P Q : Misfit → Type 0) → ((m : Misfit) → P m → Q m) → ((m : Misfit) → Q m → P m) → Tells r P → Tells r Q
same_tells (Ok bs) P Q f g h = λ m q. h m (g m q)
same_tells (Err m) P Q f g h = (f m h.0, λ n q. h.1 n (g n q))

more_has : (n : List ℕ) (e : Elem) (rest : FieldList) (d : Data) (ds : List Data) (m : Misfit) → HasFault e d m ⊎ ListHas rest ds m → ListHas (field n e rest) (d ∷ ds) m
more_has n e rest d ds m (inl h) = inr (inl h)
more_has n e rest d ds m (inr (inl h)) = inl (h.0, λ q. h.1 (omega (arith, q)))
more_has n e rest d ds m (inr (inr h)) = inr (inr h)

more_had : (n : List ℕ) (e : Elem) (rest : FieldList) (d : Data) (ds : List Data) (m : Misfit) → ListHas (field n e rest) (d ∷ ds) m → HasFault e d m ⊎ ListHas rest ds m
more_had n e rest d ds m (inl h) = inr (inl (h.0, λ q. h.1 (omega (arith, q))))
more_had n e rest d ds m (inr (inl h)) = inl h
more_had n e rest d ds m (inr (inr h)) = inr (inr h)

listed_tells : (fs : FieldList) (o : Option (List Data)) → ((ds : List Data) → Tells (fields_encoded fs ds) (ListHas fs ds)) → Tells (listed_or (fields_encoded fs) o) (λ m. MatchOption o (m ≡ NotOfType) (λ ds. ListHas fs ds m))
listed_tells fs None h = (refl, λ n k. rank_order NotOfType n NotOfType k (omega arith))
listed_tells fs (Some ds) h = h ds

mutual
  tells : (e : Elem) (d : Data) → Tells (encoded e d) (HasFault e d)
  tells (int t) d = int_tells t (integer_in d)
  tells (text t) d = text_tells t (as_str d)
  tells (compound fs) d = listed_tells fs (list_in d) (fields_tell fs)

  fields_tell : (fs : FieldList) (ds : List Data) → Tells (fields_encoded fs ds) (ListHas fs ds)
  fields_tell no_fields [] = λ m h. elim h [ inl q ↦ q.1 refl | inr q ↦ q ]
  fields_tell no_fields (d ∷ ds) = (inl (refl, λ q. absurd (omega (arith, q))), λ n h. least n)
  fields_tell (field n e rest) [] = (inl (refl, λ q. absurd (omega (arith, q))), λ m h. least m)
  fields_tell (field n e rest) (d ∷ ds) =
      same_tells (joined (encoded e d) (fields_encoded rest ds)) (λ m. HasFault e d m ⊎ ListHas rest ds m) (ListHas (field n e rest) (d ∷ ds)) (more_has n e rest d ds) (more_had n e rest d ds)
      (joined_tells (encoded e d) (fields_encoded rest ds) (HasFault e d) (ListHas rest ds) (tells e d) (fields_tell rest ds))

-- ---- laws

lowest_told : (r : Result (List ℕ) Misfit) (e : Elem) (d : Data) (m : Misfit) → Tells r (HasFault e d) → r ≡ Err m → IsLowest e d m
lowest_told (Ok bs) e d m h q = absurd cc
lowest_told (Err n) e d m h q =
    let same : n ≡ m = cc in
    subst (IsLowest e d) same (record { has = h.0; lowest = h.1 })

same_rank : (m n : Misfit) → rank m ≡ rank n → m ≡ n
same_rank NotOfType NotOfType e = refl
same_rank NotOfType OutOfRange e = absurd (omega (arith, e))
same_rank NotOfType TooLong e = absurd (omega (arith, e))
same_rank NotOfType NotAscii e = absurd (omega (arith, e))
same_rank NotOfType Nul e = absurd (omega (arith, e))
same_rank OutOfRange NotOfType e = absurd (omega (arith, e))
same_rank OutOfRange OutOfRange e = refl
same_rank OutOfRange TooLong e = absurd (omega (arith, e))
same_rank OutOfRange NotAscii e = absurd (omega (arith, e))
same_rank OutOfRange Nul e = absurd (omega (arith, e))
same_rank TooLong NotOfType e = absurd (omega (arith, e))
same_rank TooLong OutOfRange e = absurd (omega (arith, e))
same_rank TooLong TooLong e = refl
same_rank TooLong NotAscii e = absurd (omega (arith, e))
same_rank TooLong Nul e = absurd (omega (arith, e))
same_rank NotAscii NotOfType e = absurd (omega (arith, e))
same_rank NotAscii OutOfRange e = absurd (omega (arith, e))
same_rank NotAscii TooLong e = absurd (omega (arith, e))
same_rank NotAscii NotAscii e = refl
same_rank NotAscii Nul e = absurd (omega (arith, e))
same_rank Nul NotOfType e = absurd (omega (arith, e))
same_rank Nul OutOfRange e = absurd (omega (arith, e))
same_rank Nul TooLong e = absurd (omega (arith, e))
same_rank Nul NotAscii e = absurd (omega (arith, e))
same_rank Nul Nul e = refl

lowest_read : (r : Result (List ℕ) Misfit) (e : Elem) (d : Data) (m : Misfit) → Tells r (HasFault e d) → IsLowest e d m → r ≡ Err m
lowest_read (Ok bs) e d m h k = absurd (h m k.has)
lowest_read (Err n) e d m h k = ap (λ x. Err x) (same_rank n m (omega (arith, h.1 m k.has, k.lowest n h.0)))

pub lowest_where : (e : Elem) (d : Data) (m : Misfit) → (encoded e d ≡ Err m) ↔ IsLowest e d m
lowest_where e d m = (lowest_told (encoded e d) e d m (tells e d), lowest_read (encoded e d) e d m (tells e d))

none_told : (r : Result (List ℕ) Misfit) (e : Elem) (d : Data) (bs : List ℕ) → Tells r (HasFault e d) → r ≡ Ok bs → (m : Misfit) → ¬ HasFault e d m
none_told (Ok xs) e d bs h q = h
none_told (Err n) e d bs h q = absurd cc

-- what has bytes has no fault
pub faultless : (e : Elem) (d : Data) (bs : List ℕ) → encoded e d ≡ Ok bs → (m : Misfit) → ¬ HasFault e d m
faultless e d bs q = none_told (encoded e d) e d bs (tells e d) q

pub value_faultless : (e : Elem) (d : Data) (m : Misfit) → Fits e d → ¬ HasFault e d m
value_faultless e d m h = faultless e d (bytes_of e d) (encoded-fits e d h) m
