-- What a whole input says, from what the bytes that were read say.
use Rattle.std.proofs.Common.{◌≡◌, ℕ, ◌+◌, ◌<◌, ◌≤◌, List, [], ◌++◌, length, length-append, take, drop, slice_range, ◌∷◌, true, false, ◌||◌, inl, inr, refl, sym, ap, ◌∙◌, subst, append_assoc, arith}
use Rattle.std.proofs.Math.Bool.{or-true}
use Rattle.std.proofs.lemmas.Bool.{cases_lt}
use Rattle.std.proofs.Math.Seq.{take-append_seam, drop-append_seam}
use Rattle.std.proofs.lemmas.List.{take-append-le, drop-append-le, take-append-drop}
use Rattle.std.specs.List.{list_any}
use Rattle.http_wire.specs.Heads.{is_feed}
use Rattle.http_wire.proofs.Windows.{window_more}
use Rattle.httparse.specs.Grammar.{RequestHead, ReadsRequest, HasNoRequest, LineEnd, crlf, lf, print_request, print_end}
use Rattle.http_wire.specs.Heads.{NoSmallHead}
use Rattle.http_wire.specs.declared.limits.TheConstants.{HEAD_LIMIT}

pub some_bytes : (h : RequestHead) → 0 < length (print_request h)
unfolding print_request
some_bytes h = simp length-append (omega arith)

-- where as many bytes as the longest head has are no whole head, none follows
pub none_in_full : (bytes : List ℕ) → HEAD_LIMIT ≤ length bytes → HasNoRequest bytes → NoSmallHead bytes
none_in_full bytes full none more h rest reads small =
    let n = length (print_request h) in
    let front : take n bytes ≡ print_request h =
    sym (take-append-le n bytes more (let short = small.bytes in omega (arith, short))) ∙ ap (take n) reads.1 ∙ take-append_seam (print_request h) rest in
    none h (drop n bytes) (reads.0, sym (take-append-drop n bytes) ∙ ap (λ l. l ++ drop n bytes) front)

-- no head has no bytes
pub none_in_empty : (bytes : List ℕ) → length bytes ≡ 0 → HasNoRequest bytes
none_in_empty bytes empty h rest reads =
    let e : 0 ≡ length (print_request h) + length rest = sym empty ∙ ap length reads.1 ∙ length-append (print_request h) rest in
    let some : 0 < length (print_request h) = some_bytes h in
    omega (arith, e, some)

-- where a head stood there at first, nothing was read
abbrev pub Unread : {S : Type 0} → S → S → List ℕ → List ℕ → Type 0
Unread before now first unused = (h : RequestHead) (rest : List ℕ) → ReadsRequest first h rest → (now ≡ before) × (unused ≡ first)

-- a read was needed, so no head stood there at first
pub none_at_first : {S : Type 0} (before now : S) (first unused : List ℕ) → Unread before now first unused → HasNoRequest unused → HasNoRequest first
none_at_first before now first unused same none h rest reads =
    none h rest (subst (λ l. ReadsRequest l h rest) (sym (same h rest reads).1) reads)

-- the last byte ends a line
EndsInFeed : List ℕ → Type 0
EndsInFeed bytes = (front : List ℕ) × (bytes ≡ front ++ 10 ∷ [])

behind_feed : (front bytes : List ℕ) → EndsInFeed bytes → EndsInFeed (front ++ bytes)
unfolding EndsInFeed
behind_feed front bytes ends = (front ++ ends.0, ap (λ l. front ++ l) ends.1 ∙ sym (append_assoc front ends.0 (10 ∷ [])))

cons_feed : (x : ℕ) (bytes : List ℕ) → EndsInFeed bytes → EndsInFeed (x ∷ bytes)
unfolding EndsInFeed
cons_feed x bytes ends = (x ∷ ends.0, ap (λ l. x ∷ l) ends.1)

end_feed : (end : LineEnd) → EndsInFeed (print_end end)
unfolding EndsInFeed
end_feed crlf = (13 ∷ [], refl)
end_feed lf = ([], refl)

-- a head ends in a line's end
ends_in_feed : (h : RequestHead) → EndsInFeed (print_request h)
unfolding print_request
ends_in_feed h = search (behind_feed, cons_feed, end_feed)

feed_inside : (front rest : List ℕ) → list_any is_feed (front ++ 10 ∷ rest) ≡ true
feed_inside [] rest = refl
feed_inside (x ∷ front) rest = ap (λ b. is_feed x || b) (feed_inside front rest) ∙ or-true (is_feed x)

-- where no head stood, and no line's end came, none stands there
pub none_without_feed : (old new : List ℕ) → HasNoRequest old → list_any is_feed new ≡ false → HasNoRequest (old ++ new)
unfolding EndsInFeed
none_without_feed old new none quiet h rest reads =
    let n = length (print_request h) in
    let ends = ends_in_feed h in
    elim (cases_lt (length old) n) [
      | inr le ↦
          let front : take n old ≡ print_request h =
          sym (take-append-le n old new le) ∙ ap (take n) reads.1 ∙ take-append_seam (print_request h) rest in
          none h (drop n old) (reads.0, sym (take-append-drop n old) ∙ ap (λ l. l ++ drop n old) front)
      | inl lt ↦
          let size : n ≡ length ends.0 + 1 = ap length ends.1 ∙ length-append ends.0 (10 ∷ []) in
          let whole : old ++ new ≡ ends.0 ++ 10 ∷ rest = reads.1 ∙ ap (λ l. l ++ rest) ends.1 ∙ append_assoc ends.0 (10 ∷ []) rest in
          let tail : new ≡ drop (length old) ends.0 ++ 10 ∷ rest =
          sym (drop-append_seam old new) ∙ ap (drop (length old)) whole ∙ drop-append-le (length old) ends.0 (10 ∷ rest) (omega (arith, size, lt)) in
          let both : true ≡ false = sym (feed_inside (drop (length old) ends.0) rest) ∙ sym (ap (list_any is_feed) tail) ∙ quiet in
          cc
    ]

-- the same of a buffer's bytes
pub fault_none : (u n : ℕ) (now front : List ℕ) → HasNoRequest front → take u now ≡ front → list_any is_feed (take n (drop u now)) ≡ false
    → HasNoRequest (slice_range now 0 (u + n))
fault_none u n now front none same quiet = subst HasNoRequest (sym (window_more u n now front same)) (none_without_feed front _ none quiet)
