-- A text and its bytes.
use Rattle.std.proofs.Common.{◌≡◌, ◌≢◌, ℕ, zero, suc, ◌+◌, ◌-◌, ◌≤◌, ◌<◌, ◌&&◌, not, Bool, true, false, nat_le, nat_eq, if◌then◌else◌, List, [], ◌∷◌, ◌++◌, length, take, get_or, replicate, Option, Some, None, is_some, inl, inr, refl, sym, ap, ◌∙◌, subst, arith}
use Rattle.std.specs.Prelude.{IsUtf8, IsTrue, ◌↔◌}
use Rattle.std.specs.List.{AllByRecursion, list_any}
use Rattle.std.proofs.lemmas.Bool.{ltb-false, le-ltb, leb-false, lt-leb, eqb-false, eq-eqb, ne_eqb, or_parts, or_from, cases_eq}
use Rattle.std.proofs.lemmas.List.{append-nil, append_assoc, length-append, length-replicate, get_or_at, take_all, take_at, take_more}
use Rattle.std.proofs.lemmas.Str.{IsUtf8-take, IsCharBoundary-before_ascii}
use Rattle.serde_json.specs.Data.{Data, null, boolean, number, string, array, object}
use Rattle.serde_json.specs.Find.{as_str}
use Rattle.hdf_types.specs.declared.TextType.{TextType}
use Rattle.hdf_types.specs.declared.Pad.{Pad}
use Rattle.hdf_types.specs.declared.Pad.TheVariants.{NullTerm, NullPad, SpacePad}
use Rattle.hdf_types.specs.Elems.{text}
use Rattle.hdf_values.specs.declared.faults.Misfit.{Misfit}
use Rattle.hdf_values.specs.Texts.{FitsText, IsNoNul, text_misfit, padded, without_end, kept, fill, most_of}
use Rattle.hdf_values.specs.Elements.{Fits, IsEncoded, bytes_of}

-- ---- the tests

passed : (a b c : Bool) (x y z : Misfit) → (if a then Some x else (if b then Some y else (if c then Some z else None))) ≡ None → (a ≡ false) × (b ≡ false) × (c ≡ false)
passed true b c x y z e = cc
passed false true c x y z e = cc
passed false false true x y z e = cc
passed false false false x y z e = (refl, refl, refl)

pub ascii_told : (s : List ℕ) → list_any (λ b. nat_le 128 b) s ≡ false → AllByRecursion (λ b. b < 128) s
ascii_told [] e = tt
ascii_told (b ∷ s) e =
    let parts = or_parts (nat_le 128 b) (list_any (λ b. nat_le 128 b) s) e in
    (leb-false 128 b parts.0, ascii_told s parts.1)

pub ascii_read : (s : List ℕ) → AllByRecursion (λ b. b < 128) s → list_any (λ b. nat_le 128 b) s ≡ false
ascii_read [] h = refl
ascii_read (b ∷ s) h = or_from (nat_le 128 b) (list_any (λ b. nat_le 128 b) s) (lt-leb 128 b h.0) (ascii_read s h.1)

pub no_nul_told : (s : List ℕ) → list_any (λ b. nat_eq b 0) s ≡ false → IsNoNul s
no_nul_told [] e = tt
no_nul_told (b ∷ s) e =
    let parts = or_parts (nat_eq b 0) (list_any (λ b. nat_eq b 0) s) e in
    (eqb-false b 0 parts.0, no_nul_told s parts.1)

pub no_nul_read : (s : List ℕ) → IsNoNul s → list_any (λ b. nat_eq b 0) s ≡ false
no_nul_read [] h = refl
no_nul_read (b ∷ s) h = or_from (nat_eq b 0) (list_any (λ b. nat_eq b 0) s) (ne_eqb b 0 h.0) (no_nul_read s h.1)

set_told : (utf8 : Bool) (s : List ℕ) → (not utf8 && list_any (λ b. nat_le 128 b) s) ≡ false → utf8 ≡ false → AllByRecursion (λ b. b < 128) s
set_told true s e f = cc
set_told false s e f = ascii_told s e

set_read : (utf8 : Bool) (s : List ℕ) → (utf8 ≡ false → AllByRecursion (λ b. b < 128) s) → (not utf8 && list_any (λ b. nat_le 128 b) s) ≡ false
set_read true s h = refl
set_read false s h = ascii_read s (h refl)

pub text_told : (t : TextType) (s : List ℕ) → text_misfit t s ≡ None → FitsText t s
unfolding text_misfit
text_told t s e =
    let parts = passed _ _ _ _ _ _ e in
    record { short = ltb-false _ _ parts.0; ascii = set_told t.utf8 s parts.1; no_nul = no_nul_told s parts.2 }

pub text_read : (t : TextType) (s : List ℕ) → FitsText t s → text_misfit t s ≡ None
unfolding text_misfit
text_read t s h = rw (le-ltb (most_of t.pad t.len) (length s) h.short, set_read t.utf8 s h.ascii, no_nul_read s h.no_nul) refl

-- ---- what fills up

pub most_short : (p : Pad) (len : ℕ) → most_of p len ≤ len
most_short NullTerm len = omega arith
most_short NullPad len = omega arith
most_short SpacePad len = omega arith

fill_ascii : (p : Pad) → fill p < 128
fill_ascii NullTerm = omega arith
fill_ascii NullPad = omega arith
fill_ascii SpacePad = omega arith

length_filled : (s : List ℕ) (n f : ℕ) → length (s ++ replicate n f) ≡ length s + n
length_filled s n f = omega (arith, length-append s (replicate n f), length-replicate n f)

pub length-padded : (t : TextType) (s : List ℕ) → FitsText t s → length (padded t s) ≡ t.len
length-padded t s h = omega (arith, length_filled s (t.len - length s) (fill t.pad), most_short t.pad t.len, h.short)

none_kept : (f n : ℕ) → without_end f (replicate n f) ≡ []
none_kept f zero = refl
none_kept f (suc n) = ap (kept f f) (none_kept f n) ∙ rw (eq-eqb f f refl) refl

kept_filled : (f n : ℕ) (s : List ℕ) → without_end f (s ++ replicate n f) ≡ without_end f s
kept_filled f n [] = none_kept f n
kept_filled f n (b ∷ s) = ap (kept f b) (kept_filled f n s)

-- what is read back is the text without what fills up
pub kept-padded : (t : TextType) (s : List ℕ) → without_end (fill t.pad) (padded t s) ≡ without_end (fill t.pad) s
kept-padded t s = kept_filled (fill t.pad) (t.len - length s) s

filled_more : (f b : ℕ) (bs r : List ℕ) (n : ℕ) → bs ≡ r ++ replicate n f → (m : ℕ) × (b ∷ bs ≡ kept f b r ++ replicate m f)
filled_more f b bs [] n e = elim (cases_eq b f) [
  | inl same ↦ (suc n, rw (eq-eqb b f same) (cc))
  | inr other ↦ (n, rw (ne_eqb b f other) (ap (λ xs. b ∷ xs) e))
]
filled_more f b bs (c ∷ rest) n e = (n, ap (λ xs. b ∷ xs) e)

-- all that follows what is kept fills up
pub filled : (f : ℕ) (s : List ℕ) → (n : ℕ) × (s ≡ without_end f s ++ replicate n f)
filled f [] = (0, refl)
filled f (b ∷ s) =
    let rest = filled f s in
    filled_more f b s (without_end f s) rest.0 rest.1

pub padded-kept : (t : TextType) (bs : List ℕ) → length bs ≡ t.len → padded t (without_end (fill t.pad) bs) ≡ bs
padded-kept t bs e =
    let f = fill t.pad in
    let front = without_end f bs in
    let rest = filled f bs in
    let left : t.len - length front ≡ rest.0 = omega (arith, e, ap length rest.1, length_filled front rest.0 f) in
    ap (λ n. front ++ replicate n f) left ∙ sym rest.1

each_front : (P : ℕ → Type 0) (xs ys : List ℕ) → AllByRecursion P (xs ++ ys) → AllByRecursion P xs
each_front P [] ys h = tt
each_front P (x ∷ xs) ys h = (h.0, each_front P xs ys h.1)

each_kept : (P : ℕ → Type 0) (f : ℕ) (s : List ℕ) → AllByRecursion P s → AllByRecursion P (without_end f s)
each_kept P f s h =
    let rest = filled f s in
    each_front P (without_end f s) (replicate rest.0 f) (subst (λ xs. AllByRecursion P xs) rest.1 h)

kept_short : (f : ℕ) (s : List ℕ) → length (without_end f s) ≤ length s
kept_short f s =
    let rest = filled f s in
    omega (arith, ap length rest.1, length_filled (without_end f s) rest.0 f)

pub fits_kept : (t : TextType) (s : List ℕ) → FitsText t s → FitsText t (without_end (fill t.pad) s)
fits_kept t s h = record {
  short = omega (arith, kept_short (fill t.pad) s, h.short);
  ascii = λ e. each_kept (λ b. b < 128) (fill t.pad) s (h.ascii e);
  no_nul = each_kept (λ b. b ≢ 0) (fill t.pad) s h.no_nul;
}

utf8_front : (f n : ℕ) (s front : List ℕ) → f < 128 → s ≡ front ++ replicate n f → IsUtf8 s → IsUtf8 front
utf8_front f zero s front l e h = subst IsUtf8 (e ∙ append-nil front) h
utf8_front f (suc n) s front l e h =
    let whole = front ++ replicate (suc n) f in
    let here : get_or whole (length front) 0 ≡ f = get_or_at front f (replicate n f) 0 (length front) refl in
    let more = length_filled front (suc n) f in
    let boundary = IsCharBoundary-before_ascii whole (length front) (omega arith) (omega arith) in
    subst IsUtf8 (take_at front (replicate (suc n) f) (length front) refl) (IsUtf8-take whole (length front) (subst IsUtf8 e h) boundary)

pub utf8_kept : (p : Pad) (s : List ℕ) → IsUtf8 s → IsUtf8 (without_end (fill p) s)
utf8_kept p s h =
    let rest = filled (fill p) s in
    utf8_front (fill p) rest.0 s (without_end (fill p) s) (fill_ascii p) rest.1 h

kept_stays : (f b : ℕ) (r : List ℕ) → without_end f r ≡ r → without_end f (kept f b r) ≡ kept f b r
kept_stays f b [] e = elim (cases_eq b f) [
  | inl same ↦ rw (eq-eqb b f same) refl
  | inr other ↦ rw (ne_eqb b f other, ne_eqb b f other) refl
]
kept_stays f b (c ∷ rest) e = ap (kept f b) e

pub kept_twice : (f : ℕ) (s : List ℕ) → without_end f (without_end f s) ≡ without_end f s
kept_twice f [] = refl
kept_twice f (b ∷ s) = kept_stays f b (without_end f s) (kept_twice f s)

-- a text and its front have the same bytes where the rest is filling
pub padded_again : (t : TextType) (s : List ℕ) → length s ≤ t.len → padded t (without_end (fill t.pad) s) ≡ padded t s
padded_again t s h =
    let whole : length (padded t s) ≡ t.len = omega (arith, length_filled s (t.len - length s) (fill t.pad)) in
    ap (padded t) (sym (kept-padded t s)) ∙ padded-kept t (padded t s) whole

pub empty_fits : (t : TextType) → FitsText t []
empty_fits t = record { short = omega arith; ascii = λ e. tt; no_nul = tt }

-- ---- the bytes of some text

pub record IsText (t : TextType) (bs : List ℕ) : Type 0 where
  pub whole : length bs ≡ t.len
  pub fits : FitsText t (without_end (fill t.pad) bs)
  pub utf8 : IsUtf8 (without_end (fill t.pad) bs)

pub encoded_told : (t : TextType) (bs : List ℕ) → IsEncoded (text t) bs → IsText t bs
encoded_told t bs h =
    let s = h.1.0 in
    let spelled : padded t s ≡ bs = sym (ap (bytes_of (text t)) h.1.1) ∙ h.2 in
    let same : without_end (fill t.pad) s ≡ without_end (fill t.pad) bs = sym (kept-padded t s) ∙ ap (without_end (fill t.pad)) spelled in
    record {
      whole = sym (ap length spelled) ∙ length-padded t s h.1.3;
      fits = subst (FitsText t) same (fits_kept t s h.1.3);
      utf8 = subst IsUtf8 same (utf8_kept t.pad s h.1.2);
    }

pub encoded_read : (t : TextType) (bs : List ℕ) → IsText t bs → IsEncoded (text t) bs
encoded_read t bs h =
    let s = without_end (fill t.pad) bs in
    (string s, (s, refl, h.utf8, h.fits), padded-kept t bs h.whole)

none_told : (o : Option Misfit) (none : Bool) → is_some o ≡ not none → none ≡ true → o ≡ None
none_told None none e h = refl
none_told (Some m) none e h = cc (e, ap not h)

none_read : (o : Option Misfit) (none : Bool) → is_some o ≡ not none → o ≡ None → none ≡ true
none_read o true e h = refl
none_read o false e h = cc (ap is_some h)

-- the bytes are some text's exactly where no test fails what is kept
pub encoded_where : (t : TextType) (bs s : List ℕ) (o : Option Misfit) (none : Bool) → length bs ≡ t.len → s ≡ without_end (fill t.pad) bs → IsUtf8 s → o ≡ text_misfit t s → is_some o ≡ not none
    → IsTrue none ↔ IsEncoded (text t) bs
encoded_where t bs s o none l k u m e = (
  (λ h. encoded_read t bs (record { whole = l; fits = subst (FitsText t) k (text_told t s (sym m ∙ none_told o none e h)); utf8 = subst IsUtf8 k u })),
  (λ h. none_read o none e (m ∙ text_read t s (subst (FitsText t) (sym k) (encoded_told t bs h).fits))),
)

pub not_encoded : (t : TextType) (bs s : List ℕ) → s ≡ without_end (fill t.pad) bs → (IsUtf8 s → ⊥) → IsTrue false ↔ IsEncoded (text t) bs
not_encoded t bs s k n = (λ h. cc, λ h. absurd (n (subst IsUtf8 (sym k) (encoded_told t bs h).utf8)))

-- ---- the text of a tree

pub text_short : (t : TextType) (s : List ℕ) → text_misfit t s ≡ None → length s ≤ t.len
text_short t s e = omega (arith, (text_told t s e).short, most_short t.pad t.len)

pub string_read : (d : Data) (s : List ℕ) → Some s ≡ as_str d → d ≡ string s
string_read null s e = cc
string_read (boolean b) s e = cc
string_read (number n) s e = cc
string_read (string t) s e = cc
string_read (array ds) s e = cc
string_read (object ms) s e = cc

pub tree_fits : (t : TextType) (d : Data) (s : List ℕ) → Some s ≡ as_str d → IsUtf8 s → text_misfit t s ≡ None → Fits (text t) d
tree_fits t d s e u m = (s, string_read d s e, u, text_told t s m)

-- ---- the walk over what fills up

end_kept : (f b : ℕ) (xs : List ℕ) → b ≢ f → without_end f (xs ++ b ∷ []) ≡ xs ++ b ∷ []
end_kept f b [] h = rw (ne_eqb b f h) refl
end_kept f b (x ∷ []) h = ap (kept f x) (end_kept f b [] h)
end_kept f b (x ∷ y ∷ xs) h = ap (kept f x) (end_kept f b (y ∷ xs) h)

end_dropped : (f b : ℕ) (xs : List ℕ) → b ≡ f → without_end f (xs ++ b ∷ []) ≡ without_end f xs
end_dropped f b xs e = ap (λ c. without_end f (xs ++ c ∷ [])) e ∙ kept_filled f 1 xs

pub kept_less : (f n : ℕ) (bs : List ℕ) → 0 < n → n ≤ length bs → get_or bs (n - 1) 0 ≡ f → without_end f (take (n - 1) bs) ≡ without_end f (take n bs)
kept_less f n bs h l e =
    let same : n - 1 + 1 ≡ n = omega arith in
    let front : take n bs ≡ take (n - 1) bs ++ get_or bs (n - 1) 0 ∷ [] = sym (ap (λ m. take m bs) same) ∙ take_more bs (n - 1) 0 (omega arith) in
    sym (ap (without_end f) front ∙ end_dropped f (get_or bs (n - 1) 0) (take (n - 1) bs) e)

pub kept_whole : (f n : ℕ) (bs : List ℕ) → 0 < n → n ≤ length bs → get_or bs (n - 1) 0 ≢ f → take n bs ≡ without_end f (take n bs)
kept_whole f n bs h l e =
    let same : n - 1 + 1 ≡ n = omega arith in
    let front : take n bs ≡ take (n - 1) bs ++ get_or bs (n - 1) 0 ∷ [] = sym (ap (λ m. take m bs) same) ∙ take_more bs (n - 1) 0 (omega arith) in
    front ∙ sym (end_kept f (get_or bs (n - 1) 0) (take (n - 1) bs) e) ∙ sym (ap (without_end f) front)

-- behind what stands there a text, and behind it what fills it up
pub text_behind : (t : TextType) (old given mid new : List ℕ) (from len f : ℕ) → text_misfit t given ≡ None → from ≡ length old → len ≡ length mid → f ≡ fill t.pad → mid ≡ old ++ given
    → new ≡ take (from + t.len) mid ++ replicate (from + t.len - len) f → new ≡ old ++ padded t given
text_behind t old given mid new from len f none start many fills put is =
    let long : length mid ≡ length old + length given = ap length put ∙ length-append old given in
    let whole : take (from + t.len) mid ≡ mid = take_all (from + t.len) mid (omega (arith, text_short t given none, start, long)) in
    let left : from + t.len - len ≡ t.len - length given = omega (arith, start, many, long) in
    is ∙ ap (λ x. x ++ replicate (from + t.len - len) f) whole ∙ ap (λ k. mid ++ replicate k f) left ∙ ap (λ b. mid ++ replicate (t.len - length given) b) fills ∙ ap (λ x. x ++ replicate (t.len - length given) (fill t.pad)) put
    ∙ append_assoc old given (replicate (t.len - length given) (fill t.pad))
