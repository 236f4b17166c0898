-- The boxes of chunks.
use Rattle.std.proofs.Common.{◌≡◌, ℕ, suc, ◌+◌, ◌*◌, ◌-◌, ◌^◌, ◌/◌, ◌%◌, ◌<◌, ◌↔◌, List, [], ◌∷◌, All, length, refl, ap, subst, ◌∙◌, arith}
use Rattle.std.specs.List.{AllZip}
use Rattle.std.proofs.lemmas.Nat.{mul-le, mod_below, div-add-mod', div-mul-add}
use Rattle.std.proofs.lemmas.List.Elements.{All-head, All-tail}
use Rattle.shapes.specs.RowMajor.{linear_index}
use Rattle.chunk_layout.specs.Chunks.{IsChunkDim, corner, offset_of, quotients, remainders}
use Rattle.hyperslab.specs.Runs.{InBox, inner, offset_from}

inside_chunk : (ns xs : List ℕ) → All IsChunkDim ns → length xs ≡ length ns → InBox xs (corner (quotients xs ns) ns) ns
inside_chunk [] [] h e = tt
inside_chunk [] (x ∷ xs) h e = absurd (omega (arith, e))
inside_chunk (n ∷ ns) [] h e = absurd (omega (arith, e))
inside_chunk (n ∷ ns) (x ∷ xs) h e =
    let less = mod_below x n (All-head IsChunkDim n ns h).0 in
    let whole = div-add-mod' x n in
    (omega (arith, whole), omega (arith, whole, less), inside_chunk ns xs (All-tail IsChunkDim n ns h) (omega (arith, e)))

inner_chunk : (ns xs : List ℕ) → length xs ≡ length ns → inner xs (corner (quotients xs ns) ns) ≡ remainders xs ns
inner_chunk [] [] e = refl
inner_chunk [] (x ∷ xs) e = absurd (omega (arith, e))
inner_chunk (n ∷ ns) [] e = absurd (omega (arith, e))
inner_chunk (n ∷ ns) (x ∷ xs) e =
    let left : x - x / n * n ≡ x % n = omega (arith, div-add-mod' x n) in
    ap (λ m. m ∷ inner xs (corner (quotients xs ns) ns)) left ∙ ap (λ ms. x % n ∷ ms) (inner_chunk ns xs (omega (arith, e)))

chunk_inside : (ns qs xs : List ℕ) → length qs ≡ length ns → InBox xs (corner qs ns) ns → quotients xs ns ≡ qs
chunk_inside [] [] [] e h = refl
chunk_inside [] [] (x ∷ xs) e h = absurd h
chunk_inside [] (q ∷ qs) xs e h = absurd (omega (arith, e))
chunk_inside (n ∷ ns) [] xs e h = absurd (omega (arith, e))
chunk_inside (n ∷ ns) (q ∷ qs) [] e h = absurd h
chunk_inside (n ∷ ns) (q ∷ qs) (x ∷ xs) e h =
    let less : x - q * n < n = omega (arith, h.0, h.1) in
    let split : x ≡ q * n + (x - q * n) = omega (arith, h.0) in
    let here : x / n ≡ q = ap (λ m. m / n) split ∙ div-mul-add q n (x - q * n) less in
    ap (λ m. m ∷ quotients xs ns) here ∙ ap (λ ms. q ∷ ms) (chunk_inside ns qs xs (omega (arith, e)) h.2)

pub box_of_chunk : (ns qs xs : List ℕ) → All IsChunkDim ns → length qs ≡ length ns → length xs ≡ length ns → InBox xs (corner qs ns) ns ↔ (quotients xs ns ≡ qs)
box_of_chunk ns qs xs h e f = (
  chunk_inside ns qs xs e,
  λ same. subst (λ ps. InBox xs (corner ps ns) ns) same (inside_chunk ns xs h f),
)

pub offset_in_chunk : (ns xs : List ℕ) → length xs ≡ length ns → offset_from xs (corner (quotients xs ns) ns) ns ≡ offset_of xs ns
offset_in_chunk ns xs e = ap (λ ms. linear_index ms ns) (inner_chunk ns xs e)

pub length-corner : (ns qs : List ℕ) → length qs ≡ length ns → length (corner qs ns) ≡ length ns
length-corner [] [] e = refl
length-corner [] (q ∷ qs) e = absurd (omega (arith, e))
length-corner (n ∷ ns) [] e = absurd (omega (arith, e))
length-corner (n ∷ ns) (q ∷ qs) e = ap suc (length-corner ns qs (omega (arith, e)))

pub corner_ends : (ns qs : List ℕ) → All IsChunkDim ns → length qs ≡ length ns → All (λ q. q < 2 ^ 32) qs → AllZip (λ o n. o + n < 2 ^ 64) (corner qs ns) ns
corner_ends [] [] h e k = tt
corner_ends [] (q ∷ qs) h e k = absurd (omega (arith, e))
corner_ends (n ∷ ns) [] h e k = absurd (omega (arith, e))
corner_ends (n ∷ ns) (q ∷ qs) h e k =
    let small = (All-head IsChunkDim n ns h).1 in
    let few : q < 2 ^ 32 = All-head (λ p. p < 2 ^ 32) q qs k in
    let most = mul-le q n (2 ^ 32) (2 ^ 31 - 1) (omega (arith, few)) (omega (arith, small)) in
    (omega (arith, most, small), corner_ends ns qs (All-tail IsChunkDim n ns h) (omega (arith, e)) (All-tail (λ p. p < 2 ^ 32) q qs k))
