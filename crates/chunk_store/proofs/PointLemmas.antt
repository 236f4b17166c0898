-- Walks over points.
use Rattle.std.proofs.Common.{◌≡◌, ℕ, zero, suc, ◌+◌, ◌*◌, ◌<◌, true, false, List, [], ◌∷◌, ◌++◌, length, take, drop, get_or, Some, None, sym, ap, subst, ◌∙◌, ◌⊎◌, arith}
use Rattle.std.proofs.Math.Seq.{take-add}
use Rattle.std.proofs.lemmas.List.{drop_more, drop-drop, get_or_default, length-take-le}
use Rattle.std.proofs.lemmas.Nat.{mul-le}
use Rattle.std.specs.BTreeMap.{BTreeMap}
use Rattle.chunk_layout.specs.Chunks.{quotients, offset_of}
use Rattle.chunk_store.specs.Buffers.{AreFull, AreThere, IsGrown, IsWritten, bytes_at, flag_at}
use Rattle.chunk_store.specs.Cells.{has}
use Rattle.chunk_store.specs.Stretches.{IsNumber, IsStretch}
use Rattle.chunk_store.specs.declared.buffers.Frame.{Frame}
use Rattle.chunk_store.specs.declared.stretches.Stretch.{Stretch}
use Rattle.chunk_store.proofs.BufferLemmas.{Chunks}
use Rattle.chunk_store.proofs.TurnLemmas.{grown_joined, grown_once, there_joined, there_once, written_both}

-- one cell is a stretch
pub one_stretch : (chunk at : List ℕ) (t : Stretch) → length at ≡ length chunk → t.index ≡ quotients at chunk → t.offset ≡ offset_of at chunk → t.len ≡ 1 → IsStretch chunk t (at ∷ [])
one_stretch chunk at t rank index offset one = record {
  some = omega (arith, one);
  many = sym one;
  each = λ j low.
      let first : j ≡ 0 = omega (arith, low) in
      subst (λ (k : ℕ). IsNumber chunk t k (get_or (at ∷ []) k [])) (sym first) (record { rank = rank; index = sym index; offset = sym offset ∙ omega arith });
}

pub item_here : (ats : List (List ℕ)) (k : ℕ) (at : List ℕ) → k < length ats → at ≡ get_or ats k at → get_or ats k [] ≡ at
item_here ats k at low is = get_or_default ats k [] at low ∙ sym is

points_next : (ats : List (List ℕ)) (k : ℕ) (at : List ℕ) → k < length ats → at ≡ get_or ats k at → take (k + 1) ats ≡ take k ats ++ at ∷ []
points_next ats k at low is = take-add k 1 ats ∙ ap (λ l. take k ats ++ take 1 l) (drop_more ats k [] low) ∙ ap (λ x. take k ats ++ x ∷ []) (item_here ats k at low is)

index_here : (chunk at index : List ℕ) → index ≡ quotients at chunk → (j : ℕ) → j < length (at ∷ []) → quotients (get_or (at ∷ []) j []) chunk ≡ index
index_here chunk at index is zero h = sym is
index_here chunk at index is (suc j) h = absurd (omega (arith, h))

module _ {X : Type 0} (n p : BTreeMap (List ℕ) X) (f : Frame) (ats : List (List ℕ)) (k : ℕ) (at : List ℕ) (low : k < length ats) (here : at ≡ get_or ats k at) where
  pub point_there : (index : List ℕ) → index ≡ quotients at f.layout.chunk → AreThere n f (take k ats) → ((i : List ℕ) → has n i ≡ true → has p i ≡ true) → has p index ≡ true → AreThere p f (take (k + 1) ats)
  point_there index is before more there =
      subst (AreThere p f) (sym (points_next ats k at low here)) (there_joined p f (take k ats) (at ∷ []) (λ j less. more _ (before j less)) (there_once p f (at ∷ []) index (index_here f.layout.chunk at index is) there))

module _ (m n p : Chunks) (f : Frame) (ats : List (List ℕ)) (k : ℕ) (at : List ℕ) (low : k < length ats) (here : at ≡ get_or ats k at) where
  pub point_grown : (index : List ℕ) → index ≡ quotients at f.layout.chunk → IsGrown m n f (take k ats) → ((q : List ℕ) → length q ≡ length f.layout.chunk → bytes_at p f q ≡ bytes_at n f q) → AreFull p f
      → ((i : List ℕ) → (flag_at p i ≡ flag_at n i) ⊎ ((index ≡ i) × (flag_at n i ≡ None) × (flag_at p i ≡ Some false))) → IsGrown m p f (take (k + 1) ats)
  point_grown index is before same full noted =
      subst (IsGrown m p f) (sym (points_next ats k at low here)) (grown_joined m n p f (take k ats) (at ∷ []) before (grown_once n p f (at ∷ []) index (omega arith) (index_here f.layout.chunk at index is) same full noted))

  pub point_written : (bytes rest front : List ℕ) → length bytes ≡ length ats * f.size → rest ≡ drop (k * f.size) bytes → front ≡ take f.size rest → IsWritten m n f (take k ats) (take (k * f.size) bytes) → IsWritten n p f (at ∷ []) front
      → IsWritten m p f (take (k + 1) ats) (take ((k + 1) * f.size) bytes)
  point_written bytes rest front whole rest_is front_is before now =
      let wide = mul-le k f.size (length ats) f.size (omega (arith, low)) (omega arith) in
      let many : length (take k ats) ≡ k = length-take-le k ats (omega (arith, low)) in
      let size : length (take (k * f.size) bytes) ≡ length (take k ats) * f.size = length-take-le (k * f.size) bytes (omega (arith, wide, whole)) ∙ ap (λ n. n * f.size) (sym many) in
      let sum : (k + 1) * f.size ≡ k * f.size + f.size = omega arith in
      let joined : take (k * f.size) bytes ++ front ≡ take ((k + 1) * f.size) bytes =
      ap (λ l. take (k * f.size) bytes ++ l) (front_is ∙ ap (take f.size) rest_is) ∙ sym (take-add (k * f.size) f.size bytes) ∙ ap (λ n. take n bytes) (sym sum) in
      let both = written_both m n p f (take k ats) (at ∷ []) (take (k * f.size) bytes) front size before now in
      subst (IsWritten m p f (take (k + 1) ats)) joined (subst (λ (xs : List (List ℕ)). IsWritten m p f xs (take (k * f.size) bytes ++ front)) (sym (points_next ats k at low here)) both)

-- the chunk of one cell is held, as those of all cells are
pub point_held : (m : Chunks) (f : Frame) (ats : List (List ℕ)) (k : ℕ) (at : List ℕ) (t : Stretch) → AreThere m f ats → k < length ats → at ≡ get_or ats k at → IsStretch f.layout.chunk t (at ∷ []) → has m t.index ≡ true
point_held m f ats k at t there low is on =
    ap (has m) (sym (on.each 0 (omega arith)).index ∙ ap (λ x. quotients x f.layout.chunk) (sym (item_here ats k at low is))) ∙ there k low

pub point_rest : (size k : ℕ) (bytes rest back : List ℕ) → rest ≡ drop (k * size) bytes → back ≡ drop size rest → back ≡ drop ((k + 1) * size) bytes
point_rest size k bytes rest back rest_is back_is =
    let sum : k * size + size ≡ (k + 1) * size = omega arith in
    back_is ∙ ap (drop size) rest_is ∙ drop-drop size (k * size) bytes ∙ ap (λ n. drop n bytes) sum
