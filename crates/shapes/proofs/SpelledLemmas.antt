-- The first numbers of a list are all of it where a shape has room for them.
use Rattle.std.proofs.Common.{◌≡◌, ℕ, zero, suc, ◌+◌, ◌*◌, ◌-◌, ◌^◌, ◌<◌, ◌≤◌, ◌&&◌, min, max, Bool, true, false, cond, List, [], ◌∷◌, ◌++◌, length, take, drop, get_or, Option, Some, None, option_map, option_and_then, Result, Err, nat_le, nat_eq, refl, sym, ap, ◌∙◌, arith, zero-add, add-one, mul_assoc, inl, inr}
use Rattle.std.proofs.lemmas.List.{append-nil, take_all, drop_more, drop_all, append_assoc}
use Rattle.std.proofs.lemmas.Bool.{leb-true, le-leb, eqb-true, cases_lt}
use Rattle.std.proofs.lemmas.Bool.Decides.{nat_tests}
use Rattle.std.proofs.lemmas.Nat.{mul-le}
use Rattle.serde_json.specs.Data.{Data}
use Rattle.json_trees.specs.Trees.{all_in}
use Rattle.shapes.specs.declared.Shape.{Shape}
use Rattle.shapes.specs.declared.ShapeFault.{ShapeFault}
use Rattle.shapes.specs.declared.ShapeFault.TheVariants.{Rank}
use Rattle.shapes.specs.declared.TheConstants.{MAX_RANK, MAX_CELLS}
use Rattle.shapes.specs.declared.reading.Spelled.{Spelled}
use Rattle.shapes.specs.RowMajor.{room_of}
use Rattle.shapes.specs.Extents.{limits_in}
use Rattle.shapes.specs.Shapes.{fitted_of, grid_of, limited_of, simple_of, first_over, is_over}
use Rattle.shapes.specs.Spelled.{kept_of, kept_after, kept_grid, kept_limited, kept_simple, few_of}
use Rattle.std.proofs.lemmas.Option.{same_Some}
use Rattle.shapes.proofs.RowMajorLemmas.{one-room}

-- the front of a list, and then more
pub take_kept : (m : ℕ) (xs ys : List ℕ) → take m (take m xs ++ ys) ≡ take m (xs ++ ys)
take_kept zero xs ys = refl
take_kept (suc m) [] ys = refl
take_kept (suc m) (x ∷ xs) ys = ap (λ zs. x ∷ zs) (take_kept m xs ys)

pub kept_start : (o : Option (List ℕ)) → option_map kept_of o ≡ option_map (kept_after 0 []) o
kept_start None = refl
kept_start (Some ns) = ap (λ n. Some (kept n ns)) (sym (zero-add (length ns)))
  where
    kept : ℕ → List ℕ → Spelled
    kept n ns = record { kept = take MAX_RANK ns; count = n }

abbrev pub kept_with : List ℕ → ℕ → Spelled
kept_with kept n = record { kept = kept; count = n }

kept_one : (i n : ℕ) (kept : List ℕ) (o : Option (List ℕ)) → option_map (kept_after i kept) (option_map (λ ns. n ∷ ns) o) ≡ option_map (kept_after (i + 1) (take MAX_RANK (kept ++ n ∷ []))) o
kept_one i n kept None = refl
kept_one i n kept (Some ns) =
    let fewer : i + suc (length ns) ≡ (i + 1) + length ns = omega arith in
    let same : take MAX_RANK (kept ++ n ∷ ns) ≡ take MAX_RANK (take MAX_RANK (kept ++ n ∷ []) ++ ns) = ap (take MAX_RANK) (sym (append_assoc kept (n ∷ []) ns)) ∙ sym (take_kept MAX_RANK (kept ++ n ∷ []) ns) in
    cc

-- one number more has been kept, or one could not be read
pub kept_step : (f : Data → Option ℕ) (ds : List Data) (i : ℕ) (d : Data) (n : ℕ) (kept : List ℕ) → f d ≡ Some n
    → option_map (kept_after i kept) (all_in f (d ∷ ds)) ≡ option_map (kept_after (i + 1) (take MAX_RANK (kept ++ n ∷ []))) (all_in f ds)
kept_step f ds i d n kept e = rw e (kept_one i n kept (all_in f ds))

pub kept_stop : (f : Data → Option ℕ) (ds : List Data) (i : ℕ) (d : Data) (kept : List ℕ) → f d ≡ None → option_map (kept_after i kept) (all_in f (d ∷ ds)) ≡ None
kept_stop f ds i d kept e = rw e

grid_kept_at : (a b c : Bool) (ns ls : List ℕ) → (a ≡ true → length ns ≤ MAX_RANK) → (c ≡ true → length ns ≡ length ls)
    → cond (b && a && c) (fitted_of (take MAX_RANK ns) (take MAX_RANK ls)) (Err Rank) ≡ cond (b && a) (cond c (fitted_of ns ls) (Err Rank)) (Err Rank)
grid_kept_at a false c ns ls h k = refl
grid_kept_at false true c ns ls h k = refl
grid_kept_at true true false ns ls h k = refl
grid_kept_at true true true ns ls h k =
    let few : length ns ≤ MAX_RANK = h refl in
    let same = k refl in
    let also : length ls ≤ MAX_RANK = omega (arith, few, same) in
    rw (take_all MAX_RANK ns few, take_all MAX_RANK ls also)

unfolded : (c : Bool) (r : Result Shape ShapeFault) → cond c (cond c r (Err Rank)) (Err Rank) ≡ cond c r (Err Rank)
unfolded true r = refl
unfolded false r = refl

fitted_twice : (ns ls : List ℕ) → cond (nat_eq (length ns) (length ls)) (fitted_of ns ls) (Err Rank) ≡ fitted_of ns ls
unfolding fitted_of
fitted_twice ns ls = unfolded (nat_eq (length ns) (length ls)) _

pub grid_kept : (ns ls : List ℕ) → kept_grid (kept_of ns) (kept_of ls) ≡ grid_of ns ls
unfolding grid_of
grid_kept ns ls =
    grid_kept_at (nat_le (length ns) MAX_RANK) (nat_le 1 (length ns)) (nat_eq (length ns) (length ls)) ns ls (leb-true (length ns) MAX_RANK) (eqb-true (length ns) (length ls))
    ∙ ap (λ r. cond (nat_le 1 (length ns) && nat_le (length ns) MAX_RANK) r (Err Rank)) (fitted_twice ns ls)

limited_kept : (ns : List ℕ) (o : Option (List ℕ)) → kept_limited (kept_of ns) (option_map kept_of o) ≡ limited_of ns o
unfolding limited_of
limited_kept ns None = refl
limited_kept ns (Some ls) = grid_kept ns ls

pub simple_kept : (o : Option (List ℕ)) (limits : Option Data) → kept_simple (option_map kept_of o) limits ≡ simple_of o limits
unfolding simple_of
simple_kept None limits = refl
simple_kept (Some ns) None = grid_kept ns ns
simple_kept (Some ns) (Some d) = limited_kept ns (limits_in d)

-- ---- the first dim over its limit, and the room

pub over_next : (i : ℕ) (dims limits : List ℕ) → i < length dims → i < length limits → is_over (get_or dims i 0) (get_or limits i 0) ≡ false
    → first_over i (drop i dims) (drop i limits) ≡ first_over (i + 1) (drop (i + 1) dims) (drop (i + 1) limits)
over_next i dims limits h k e = rw (drop_more dims i 0 h, drop_more limits i 0 k, e, add-one)

pub over_here : (i : ℕ) (dims limits : List ℕ) → i < length dims → i < length limits → is_over (get_or dims i 0) (get_or limits i 0) ≡ true → first_over i (drop i dims) (drop i limits) ≡ Some i
over_here i dims limits h k e = rw (drop_more dims i 0 h, drop_more limits i 0 k, e)

capped : (t n r m : ℕ) → 1 ≤ n → 1 ≤ r → min (min (t * n) m * r) m ≡ min (t * (n * r)) m
capped t n r m h k =
    let whole = mul_assoc t n r in
    elim (cases_lt m (t * n)) [
      | inl high ↦
          let top : min (t * n) m ≡ m = omega (arith, high) in
          let full : m * 1 ≤ m * r = mul-le m 1 m r (omega arith) k in
          let more : (t * n) * 1 ≤ (t * n) * r = mul-le (t * n) 1 (t * n) r (omega arith) k in
          ap (λ x. min (x * r) m) top ∙ omega (arith, full, more, whole, high)
      | inr low ↦
          let plain : min (t * n) m ≡ t * n = omega (arith, low) in
          ap (λ x. min (x * r) m) plain ∙ ap (λ x. min x m) whole
    ]

-- the capped product, one dim further
pub room_next : (t i m : ℕ) (dims : List ℕ) → i < length dims → min (min (t * max (get_or dims i 0) 1) m * room_of (drop (i + 1) dims)) m ≡ min (t * room_of (drop i dims)) m
room_next t i m dims h = capped t (max (get_or dims i 0) 1) (room_of (drop (i + 1) dims)) m (omega arith) (one-room (drop (i + 1) dims)) ∙ ap (λ ns. min (t * room_of ns) m) (sym (drop_more dims i 0 h))

pub room_end : (t i m : ℕ) (dims : List ℕ) → length dims ≤ i → t ≤ m → t ≡ min (t * room_of (drop i dims)) m
room_end t i m dims h k = rw (drop_all i dims h) (omega (arith, k))

-- a cap above the most cells doesn't hide them
pub cap_hides_none : (r : ℕ) → nat_le (min r (2 ^ 64 - 1)) MAX_CELLS ≡ nat_le r MAX_CELLS
cap_hides_none r = grind (arith, nat_tests)

-- the dims that are kept are all dims where they are few
pub few_kept : (o : Option (List ℕ)) (s : Spelled) → option_map kept_of o ≡ Some s → 1 ≤ s.count → s.count ≤ MAX_RANK → Some s.kept ≡ option_and_then few_of o
few_kept None s e h k = cc
few_kept (Some ns) s e h k =
    let same = same_Some (kept_of ns) s e in
    let counted : s.count ≡ length ns = ap (λ t. t.count) (sym same) in
    let few : length ns ≤ MAX_RANK = omega (arith, counted, k) in
    let any : 1 ≤ length ns = omega (arith, counted, h) in
    let whole : s.kept ≡ ns = ap (λ t. t.kept) (sym same) ∙ take_all MAX_RANK ns few in
    rw (le-leb 1 (length ns) any, le-leb (length ns) MAX_RANK few) (ap Some whole)

-- where nothing is left, the numbers are those kept
pub kept_end : (i n : ℕ) (kept : List ℕ) → i ≡ n → length kept ≤ MAX_RANK → Some (kept_after i kept []) ≡ Some (kept_with kept n)
kept_end i n kept same short =
    let whole : take MAX_RANK (kept ++ []) ≡ kept = ap (take MAX_RANK) (append-nil kept) ∙ take_all MAX_RANK kept short in
    let counted : i + 0 ≡ n = omega (arith, same) in
    cc
