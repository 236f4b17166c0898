-- The unused bytes of a buffer, and what a read puts behind them.
use Rattle.std.proofs.Common.{◌≡◌, ℕ, ◌+◌, ◌-◌, ◌≤◌, List, ◌++◌, length, take, drop, slice_range, Option, None, Some, false, ◌||◌, sym, ap, ◌∙◌, subst, append_assoc, append-nil, arith, length-take, length-drop}
use Rattle.std.proofs.Math.Seq.{take-add}
use Rattle.std.proofs.lemmas.List.{take_at, drop_at, drop_all, drop-drop, take-append-drop, take-append-le}
use Rattle.std.proofs.lemmas.List.Folds.{list_any-append}
use Rattle.std.specs.List.{list_any}
use Rattle.http_wire.specs.Heads.{is_feed}
use Rattle.http_wire.specs.LineReads.{CameBehind}
use Rattle.std.proofs.lemmas.Slice.{between_is}
use borrow.Rule.Slice.PartMut.{put_mid}
use Rattle.std.proofs.KnownBytes.{Keeps-trans, Consumes-trans, Consumes-kept}
use Rattle.std.specs.Io.KnownBytes.{Keeps, Consumes, prepend_known}

-- a piece that was read stands behind the unused bytes
known_more : (a b : Option (List ℕ)) (front piece : List ℕ) → Consumes a b piece → Keeps (prepend_known front a) (prepend_known (front ++ piece) b)
known_more None b front piece h = tt
known_more (Some x) None front piece h = absurd h
known_more (Some x) (Some y) front piece h = append_assoc front piece y ∙ ap (λ l. front ++ l) (sym h)

pub known_same : (a b : Option (List ℕ)) (front : List ℕ) → Keeps a b → Keeps (prepend_known front a) (prepend_known front b)
known_same None b front h = tt
known_same (Some x) None front h = absurd h
known_same (Some x) (Some y) front h = ap (λ l. front ++ l) h

pub front_range : (k : ℕ) (xs : List ℕ) → slice_range xs 0 k ≡ take k xs
front_range k xs = ap (λ (n : ℕ). take n xs) (let e : k - 0 ≡ k = omega arith in e)

-- the unused bytes after a read of n bytes behind the first u
pub window_more : (u n : ℕ) (new front : List ℕ) → take u new ≡ front → slice_range new 0 (u + n) ≡ front ++ take n (drop u new)
window_more u n new front same = front_range (u + n) new ∙ take-add u n new ∙ ap (λ l. l ++ take n (drop u new)) same

pub kept_more : (all a b : Option (List ℕ)) (u n : ℕ) (new front : List ℕ) → Keeps all (prepend_known front a) → take u new ≡ front
    → Consumes a b (take n (drop u new)) → Keeps all (prepend_known (slice_range new 0 (u + n)) b)
kept_more all a b u n new front before same given =
    Keeps-trans all _ _ before
    (subst (λ l. Keeps (prepend_known front a) (prepend_known l b)) (sym (window_more u n new front same)) (known_more a b front _ given))

pub kept_same : (all a b : Option (List ℕ)) (u : ℕ) (new front : List ℕ) → Keeps all (prepend_known front a) → take u new ≡ front
    → Keeps a b → Keeps all (prepend_known (slice_range new 0 u) b)
kept_same all a b u new front before same given =
    Keeps-trans all _ _ before
    (subst (λ l. Keeps (prepend_known front a) (prepend_known l b)) (sym (front_range u new ∙ same)) (known_same a b front given))

pub length-slice_range : (xs : List ℕ) (i j : ℕ) → i ≤ j → j ≤ length xs → length (slice_range xs i j) ≡ j - i
length-slice_range xs i j ordered within = omega (arith, length-take (j - i) (drop i xs), length-drop i xs)

-- what stands from a place on, after a write to all from there on
pub behind : (at : ℕ) (xs ys : List ℕ) → at ≤ length xs → length ys ≡ length xs - at → drop at (put_mid at (length xs - at) xs ys) ≡ ys
behind at xs ys within size =
    drop_at (take at xs) _ at (let e : length (take at xs) ≡ at = omega (arith, length-take at xs) in e)
    ∙ ap (λ l. ys ++ l) (drop_all (length xs - at) (drop at xs) (omega (arith, length-drop at xs))) ∙ append-nil ys

-- the unused bytes, after they were moved to the front
pub moved : (i j : ℕ) (xs now : List ℕ) → i ≤ j → j ≤ length xs → now ≡ drop i (take j xs) ++ take i (take j xs)
    → take (j - i) (now ++ drop j xs) ≡ slice_range xs i j
moved i j xs now ordered within is =
    let size : length (drop i (take j xs)) ≡ j - i = omega (arith, length-drop i (take j xs), length-take j xs) in
    ap (take (j - i)) (ap (λ l. l ++ drop j xs) is ∙ append_assoc (drop i (take j xs)) (take i (take j xs)) (drop j xs))
    ∙ take_at (drop i (take j xs)) _ (j - i) size ∙ sym (between_is xs i j)

-- the window without its first n bytes
pub window_less : (i j n : ℕ) (xs : List ℕ) → slice_range xs (i + n) j ≡ drop n (slice_range xs i j)
window_less i j n xs =
    between_is xs (i + n) j ∙ sym (drop-drop n i (take j xs)) ∙ ap (drop n) (sym (between_is xs i j))

-- what stood in front of the rest was used
pub known_less : (left : Option (List ℕ)) (old new front : List ℕ) → old ≡ front ++ new → Consumes (prepend_known old left) (prepend_known new left) front
known_less None old new front is = tt
known_less (Some x) old new front is = ap (λ l. l ++ x) is ∙ append_assoc front new x

-- the bytes behind the first at, after n more were put behind the first end
pub behind_more : (at end n : ℕ) (old new : List ℕ) → at ≤ end → end ≤ length old → take end new ≡ take end old
    → take (end + n - at) (drop at new) ≡ take (end - at) (drop at old) ++ take n (drop end new)
behind_more at end n old new ordered within same =
    let count : end + n - at ≡ (end - at) + n = omega (arith, ordered) in
    let place : at + (end - at) ≡ end = omega (arith, ordered) in
    ap (λ (k : ℕ). take k (drop at new)) count
    ∙ take-add (end - at) n (drop at new)
    ∙ ap (λ l. l ++ take n (drop (end - at) (drop at new))) (between_is new at end ∙ ap (drop at) same ∙ sym (between_is old at end))
    ∙ ap (λ l. take (end - at) (drop at old) ++ take n l) (drop-drop (end - at) at new ∙ ap (λ (k : ℕ). drop k new) place)

-- n more bytes behind those that came before
pub came_more : (a b c : Option (List ℕ)) (at end n : ℕ) (old new : List ℕ) → at ≤ end → end ≤ length old → take end new ≡ take end old
    → Consumes a b (take (end - at) (drop at old)) → Consumes b c (take n (drop end new)) → Consumes a c (take (end + n - at) (drop at new))
came_more a b c at end n old new ordered within same before more =
    subst (Consumes a c) (sym (behind_more at end n old new ordered within same)) (Consumes-trans a b c _ _ before more)

front_less : (at end : ℕ) (xs : List ℕ) → at ≤ end → end ≤ length xs → take at xs ≡ take at (take end xs)
front_less at end xs ordered within =
    ap (take at) (sym (take-append-drop end xs))
    ∙ take-append-le at (take end xs) (drop end xs) (omega (arith, ordered, within, length-take end xs))

-- what a source gave behind the first at bytes, up to end
pub record Came (a b : Option (List ℕ)) (at end : ℕ) (first now : List ℕ) : Type 0 where
  pub ordered : at ≤ end
  pub within : end ≤ length now
  pub size : length now ≡ length first
  pub front : take at now ≡ take at first
  pub given : Consumes a b (take (end - at) (drop at now))

front_kept : (at end : ℕ) (old new first : List ℕ) → at ≤ end → end ≤ length old → length new ≡ length old → take end new ≡ take end old
    → take at old ≡ take at first → take at new ≡ take at first
front_kept at end old new first ordered within size same before =
    front_less at end new ordered (omega (arith, within, size)) ∙ ap (take at) same ∙ sym (front_less at end old ordered within) ∙ before

same_behind : (at end : ℕ) (old new : List ℕ) → at ≤ end → take end new ≡ take end old → take (end - at) (drop at new) ≡ take (end - at) (drop at old)
same_behind at end old new ordered same = between_is new at end ∙ ap (drop at) same ∙ sym (between_is old at end)

-- a read that gave nothing
pub came_none : (a b c : Option (List ℕ)) (at end : ℕ) (first old new : List ℕ) → Came a b at end first old → length new ≡ length old
    → take end new ≡ take end old → Keeps b c → Came a c at end first new
came_none a b c at end first old new came size same kept = record {
  ordered = came.ordered;
  within = (let w = came.within in omega (arith, w, size));
  size = size ∙ came.size;
  front = front_kept at end old new first came.ordered came.within size same came.front;
  given = Consumes-kept a b c _ (let P : List ℕ → Type 0 = λ l. Consumes a b l in subst P (sym (same_behind at end old new came.ordered same)) came.given) kept;
}

-- a read that gave n bytes
pub came_some : (a b c : Option (List ℕ)) (at end n : ℕ) (first old new : List ℕ) → Came a b at end first old → length new ≡ length old
    → take end new ≡ take end old → end + n ≤ length new → Consumes b c (take n (drop end new))
    → CameBehind a c at new (end + n - at) × (take at new ≡ take at first)
came_some a b c at end n first old new came size same within more = (
  (let o = came.ordered in omega (arith, o, within), came_more a b c at end n old new came.ordered came.within same came.given more),
  front_kept at end old new first came.ordered came.within size same came.front,
)

pub came_on : (a b c : Option (List ℕ)) (at end n : ℕ) (first old new : List ℕ) → Came a b at end first old → length new ≡ length old
    → take end new ≡ take end old → end + n ≤ length new → Consumes b c (take n (drop end new))
    → Came a c at (end + n) first new
came_on a b c at end n first old new came size same within more = record {
  ordered = (let o = came.ordered in omega (arith, o));
  within = within;
  size = size ∙ came.size;
  front = front_kept at end old new first came.ordered came.within size same came.front;
  given = came_more a b c at end n old new came.ordered came.within same came.given more;
}

pub quiet_none : (at end : ℕ) (old new : List ℕ) → at ≤ end → take end new ≡ take end old
    → list_any is_feed (take (end - at) (drop at old)) ≡ false → list_any is_feed (take (end - at) (drop at new)) ≡ false
quiet_none at end old new ordered same quiet = ap (list_any is_feed) (same_behind at end old new ordered same) ∙ quiet

pub quiet_on : (at end n : ℕ) (old new : List ℕ) → at ≤ end → end ≤ length old → take end new ≡ take end old
    → list_any is_feed (take (end - at) (drop at old)) ≡ false → list_any is_feed (take n (drop end new)) ≡ false
    → list_any is_feed (take (end + n - at) (drop at new)) ≡ false
quiet_on at end n old new ordered within same quiet none =
    ap (list_any is_feed) (behind_more at end n old new ordered within same)
    ∙ list_any-append is_feed (take (end - at) (drop at old)) (take n (drop end new))
    ∙ ap (λ b. b || list_any is_feed (take n (drop end new))) quiet ∙ none
