-- Cells in two parts: what is done to the first, and then to those behind.
use Rattle.std.proofs.Common.{◌≡◌, ℕ, ◌-◌, ◌*◌, ◌<◌, ◌≤◌, ◌||◌, Bool, true, false, cond, is_some, bytes_eq, List, [], ◌∷◌, ◌++◌, length, get_or, Option, Some, None, option_map, refl, sym, ap, subst, ◌∙◌, ◌⊎◌, inl, inr, arith}
use Rattle.std.proofs.lemmas.Bool.{cases_lt}
use Rattle.std.proofs.lemmas.List.{get_or_append_left, length-append}
use Rattle.std.proofs.Math.Seq.{get_or-append_right}
use Rattle.std.specs.BTreeMap.{BTreeMap}
use Rattle.chunk_layout.specs.Chunks.{quotients}
use Rattle.chunk_store.specs.Buffers.{AreFull, AreThere, IsGrown, IsNoted, IsWritten, bytes_at, flag_at}
use Rattle.chunk_store.specs.Cells.{find_in, has}
use Rattle.chunk_store.specs.Grids.{written}
use Rattle.chunk_store.specs.Marks.{touches}
use Rattle.chunk_store.specs.declared.buffers.Frame.{Frame}
use Rattle.chunk_store.specs.declared.buffers.Held.{Held}
use Rattle.chunk_store.proofs.BufferLemmas.{Chunks}
use Rattle.chunk_store.proofs.MarkLemmas.{put_cond, touched_here}
use Rattle.chunk_store.proofs.ValueLemmas.{written_joined}
use Rattle.chunk_store.proofs.WriteLemmas.{written_on}

-- ---- which chunks are touched, and what is known of them

or_assoc : (a b c : Bool) → (a || (b || c)) ≡ ((a || b) || c)
or_assoc true b c = refl
or_assoc false b c = refl

touches_append : (chunk : List ℕ) (front back : List (List ℕ)) (i : List ℕ) → touches chunk (front ++ back) i ≡ (touches chunk front i || touches chunk back i)
touches_append chunk [] back i = refl
touches_append chunk (at ∷ front) back i = ap (λ b. bytes_eq (quotients at chunk) i || b) (touches_append chunk front back i) ∙ or_assoc (bytes_eq (quotients at chunk) i) (touches chunk front i) (touches chunk back i)

noted_both : (a b : Bool) (o p r : Option Bool) → IsNoted a o p → IsNoted b p r → IsNoted (a || b) o r
noted_both a b o p r (inl same) step = subst (λ (x : Option Bool). IsNoted (a || b) x r) same (noted_late a b p r step)
  where
    noted_late : (a b : Bool) (p r : Option Bool) → IsNoted b p r → IsNoted (a || b) p r
    noted_late true b p r (inl same) = inl same
    noted_late true b p r (inr new) = inr (new.0, refl, new.2)
    noted_late false b p r step = step
noted_both a b o p r (inr new) (inl same) = inr (new.0, ap (λ x. x || b) new.1, same ∙ new.2)
noted_both a b o p r (inr new) (inr again) = inr (new.0, ap (λ x. x || b) new.1, again.2)

some_flag : (o : Option Held) → is_some o ≡ is_some (option_map (λ h. h.dirty) o)
some_flag None = refl
some_flag (Some h) = refl

-- a chunk is held where something is known of it
pub has_flag : (m : Chunks) (i : List ℕ) → has m i ≡ is_some (flag_at m i)
has_flag m i = some_flag (find_in m i)

still_some : (touched : Bool) (o p : Option Bool) → IsNoted touched o p → is_some o ≡ true → is_some p ≡ true
still_some touched o p (inl same) there = ap is_some same ∙ there
still_some touched o p (inr new) there = ap is_some new.2

still_flagged : (touched : Bool) (o : Option Bool) → is_some o ≡ true → is_some (cond touched (Some true) o) ≡ true
still_flagged true o there = refl
still_flagged false o there = there

pub there_joined : {X : Type 0} (m : BTreeMap (List ℕ) X) (f : Frame) (front back : List (List ℕ)) → AreThere m f front → AreThere m f back → AreThere m f (front ++ back)
there_joined m f front back here there = λ k low. elim (cases_lt k (length front)) [
  | inl first ↦ ap (λ x. has m (quotients x f.layout.chunk)) (get_or_append_left front back [] k first) ∙ here k first
  | inr later ↦
      ap (λ x. has m (quotients x f.layout.chunk)) (get_or-append_right front back k [] later)
      ∙ there (k - length front) (omega (arith, length-append front back, low, later))
]

-- ---- chunks come

pub none_grown : (m : Chunks) (f : Frame) → AreFull m f → IsGrown m m f []
none_grown m f full = record { same = λ q rank. refl; full = full; noted = λ i. inl refl }

pub grown_joined : (m n p : Chunks) (f : Frame) (front back : List (List ℕ)) → IsGrown m n f front → IsGrown n p f back → IsGrown m p f (front ++ back)
grown_joined m n p f front back h k = record {
  same = λ q rank. k.same q rank ∙ h.same q rank;
  full = k.full;
  noted = λ i.
      subst (λ (b : Bool). IsNoted b (flag_at m i) (flag_at p i)) (sym (touches_append f.layout.chunk front back i))
      (noted_both (touches f.layout.chunk front i) (touches f.layout.chunk back i) (flag_at m i) (flag_at n i) (flag_at p i) (h.noted i) (k.noted i));
}

pub grown_there : (m n : Chunks) (f : Frame) (front back : List (List ℕ)) → IsGrown m n f front → AreThere m f back → AreThere n f back
grown_there m n f front back h there = λ k low.
    let i = quotients (get_or back k []) f.layout.chunk in
    has_flag n i ∙ still_some (touches f.layout.chunk front i) (flag_at m i) (flag_at n i) (h.noted i) (sym (has_flag m i) ∙ there k low)

-- cells of one chunk, which may have come
pub grown_once : (m n : Chunks) (f : Frame) (ats : List (List ℕ)) (index : List ℕ) → 1 ≤ length ats → ((j : ℕ) → j < length ats → quotients (get_or ats j []) f.layout.chunk ≡ index)
    → ((q : List ℕ) → length q ≡ length f.layout.chunk → bytes_at n f q ≡ bytes_at m f q) → AreFull n f
    → ((i : List ℕ) → (flag_at n i ≡ flag_at m i) ⊎ ((index ≡ i) × (flag_at m i ≡ None) × (flag_at n i ≡ Some false))) → IsGrown m n f ats
grown_once m n f ats index some each same full noted = record {
  same = same;
  full = full;
  noted = λ i. elim (noted i) [
    | inl stays ↦ inl stays
    | inr new ↦ inr (new.1, touched_here f.layout.chunk ats 0 (get_or ats 0 []) index i some refl (sym (each 0 some)) new.0, new.2)
  ];
}

pub there_once : {X : Type 0} (n : BTreeMap (List ℕ) X) (f : Frame) (ats : List (List ℕ)) (index : List ℕ) → ((j : ℕ) → j < length ats → quotients (get_or ats j []) f.layout.chunk ≡ index) → has n index ≡ true → AreThere n f ats
there_once n f ats index each there = λ j low. ap (has n) (each j low) ∙ there

-- ---- cells are written

pub none_written : (m : Chunks) (f : Frame) → AreFull m f → IsWritten m m f [] []
none_written m f full = record { cells = λ q rank. refl; full = full; flags = λ i. refl }

pub written_both : (m n p : Chunks) (f : Frame) (front back : List (List ℕ)) (xs ys : List ℕ) → length xs ≡ length front * f.size → IsWritten m n f front xs → IsWritten n p f back ys → IsWritten m p f (front ++ back) (xs ++ ys)
written_both m n p f front back xs ys size h k = record {
  cells = λ q rank.
      k.cells q rank
      ∙ written_on (λ x. length x ≡ length f.layout.chunk) (bytes_at n f) (written (bytes_at m f) f.size front xs) h.cells f.size back ys q rank
      ∙ sym (written_joined (bytes_at m f) f.size front back xs ys q size);
  full = k.full;
  flags = λ i.
      k.flags i
      ∙ ap (cond (touches f.layout.chunk back i) (Some true)) (h.flags i)
      ∙ put_cond (touches f.layout.chunk front i) (touches f.layout.chunk back i) (flag_at m i)
      ∙ ap (λ b. cond b (Some true) (flag_at m i)) (sym (touches_append f.layout.chunk front back i));
}

pub written_there : (m n : Chunks) (f : Frame) (front back : List (List ℕ)) (xs : List ℕ) → IsWritten m n f front xs → AreThere m f back → AreThere n f back
written_there m n f front back xs h there = λ k low.
    let i = quotients (get_or back k []) f.layout.chunk in
    has_flag n i ∙ ap is_some (h.flags i) ∙ still_flagged (touches f.layout.chunk front i) (flag_at m i) (sym (has_flag m i) ∙ there k low)
