-- Walks over picked cells: what is done in front of what is left.
use Rattle.std.proofs.Common.{◌≡◌, ℕ, suc, ◌+◌, ◌*◌, ◌<◌, ◌≤◌, cond, List, [], ◌∷◌, ◌++◌, length, take, drop, get_or, bytes_eq, sym, ap, subst, ◌∙◌, inl, inr, arith}
use Rattle.std.specs.List.{AllByRecursion, flat_map}
use Rattle.std.proofs.lemmas.List.{drop_more, drop_all, append_assoc, append-nil, length-append, take_at, drop_at}
use Rattle.hdf_types.specs.Elems.{Elem}
use Rattle.hdf_types.specs.Reading.{size_of}
use Rattle.hdf_types.specs.Types.{IsFormed}
use Rattle.hdf_values.specs.Elements.{IsEncoded}
use Rattle.hdf_values.specs.Nested.{pieces, AreEncoded}
use Rattle.hdf_values.proofs.EncodedLemmas.{length-encoded}
use Rattle.chunk_store.specs.Cells.{put}
use Rattle.chunk_store.proofs.KeyLemmas.{put_cases}
use Rattle.chunk_store.specs.Grids.{written}

pub read_next : (f : List ℕ → List ℕ) (ats : List (List ℕ)) (k : ℕ) (at out whole : List ℕ) → k < length ats → get_or ats k [] ≡ at
    → out ++ flat_map f (drop k ats) ≡ whole → (out ++ f at) ++ flat_map f (drop (k + 1) ats) ≡ whole
read_next f ats k at out whole h here done =
    append_assoc out (f at) (flat_map f (drop (k + 1) ats))
    ∙ ap (λ x. out ++ (f x ++ flat_map f (drop (k + 1) ats))) (sym here)
    ∙ ap (λ l. out ++ flat_map f l) (sym (drop_more ats k [] h)) ∙ done

pub read_end : (f : List ℕ → List ℕ) (ats : List (List ℕ)) (k : ℕ) (out whole : List ℕ) → length ats ≤ k → out ++ flat_map f (drop k ats) ≡ whole → out ≡ whole
read_end f ats k out whole h done = sym (append-nil out) ∙ ap (λ l. out ++ flat_map f l) (sym (drop_all k ats h)) ∙ done

-- ---- writes

-- functions that agree on some cells agree there after the same writes
pub written_on : (P : List ℕ → Type 0) (f g : List ℕ → List ℕ) → ((q : List ℕ) → P q → f q ≡ g q) → (s : ℕ) (ats : List (List ℕ)) (bs q : List ℕ) → P q → written f s ats bs q ≡ written g s ats bs q
written_on P f g h s [] bs q on = h q on
written_on P f g h s (at ∷ ats) bs q on = written_on P (put f at (take s bs)) (put g at (take s bs)) (λ p p_on. ap (cond (bytes_eq at p) (take s bs)) (h p p_on)) s ats (drop s bs) q on

pub written_same : (f g : List ℕ → List ℕ) → ((q : List ℕ) → f q ≡ g q) → (s : ℕ) (ats : List (List ℕ)) (bs q : List ℕ) → written f s ats bs q ≡ written g s ats bs q
written_same f g h s [] bs q = h q
written_same f g h s (at ∷ ats) bs q = written_same (put f at (take s bs)) (put g at (take s bs)) (λ p. ap (cond (bytes_eq at p) (take s bs)) (h p)) s ats (drop s bs) q

pub write_next : (f g : List ℕ → List ℕ) (s : ℕ) (ats : List (List ℕ)) (k : ℕ) (at rest piece more : List ℕ) → k < length ats → get_or ats k [] ≡ at → piece ≡ take s rest → more ≡ drop s rest
    → ((q : List ℕ) → g q ≡ put f at piece q) → (q whole : List ℕ) → written f s (drop k ats) rest q ≡ whole → written g s (drop (k + 1) ats) more q ≡ whole
write_next f g s ats k at rest piece more h here front back each q whole done =
    let later = drop (k + 1) ats in
    written_same g (put f (get_or ats k []) (take s rest)) (λ p. each p ∙ ap (λ x. put f x piece p) (sym here) ∙ ap (λ b. put f (get_or ats k []) b p) front) s later more q
    ∙ ap (λ b. written (put f (get_or ats k []) (take s rest)) s later b q) back
    ∙ ap (λ l. written f s l rest q) (sym (drop_more ats k [] h)) ∙ done

pub write_end : (f : List ℕ → List ℕ) (s : ℕ) (ats : List (List ℕ)) (k : ℕ) (rest q whole : List ℕ) → length ats ≤ k → written f s (drop k ats) rest q ≡ whole → f q ≡ whole
write_end f s ats k rest q whole h done = ap (λ l. written f s l rest q) (sym (drop_all k ats h)) ∙ done

pub whole_next : (s : ℕ) (ats : List (List ℕ)) (k : ℕ) (n : ℕ) → k < length ats → n ≡ length (drop k ats) * s → (s ≤ n) × ((m : ℕ) → m + s ≡ n → m ≡ length (drop (k + 1) ats) * s)
whole_next s ats k n h e =
    let more : n ≡ suc (length (drop (k + 1) ats)) * s = e ∙ ap (λ l. length l * s) (drop_more ats k [] h) in
    (omega (arith, more), λ m d. omega (arith, more, d))

pub sizes_next : (f g : List ℕ → List ℕ) (at piece : List ℕ) (s : ℕ) → ((q : List ℕ) → g q ≡ put f at piece q) → length piece ≡ s → (q : List ℕ) → length (f q) ≡ s → length (g q) ≡ s
sizes_next f g at piece s each size q old = ap length (each q) ∙ elim (put_cases f at piece q) [
  | inl same ↦ ap length same.1 ∙ size
  | inr other ↦ ap length other ∙ old
]

-- what each value of some cells is stays so
pub written_each : (D P : List ℕ → Type 0) (s : ℕ) (ats : List (List ℕ)) (f : List ℕ → List ℕ) (bs : List ℕ) → ((q : List ℕ) → D q → P (f q)) → AllByRecursion P (pieces (length ats) s bs) → (q : List ℕ) → D q → P (written f s ats bs q)
written_each D P s [] f bs h k q on = h q on
written_each D P s (at ∷ ats) f bs h k q on =
    written_each D P s ats (put f at (take s bs)) (drop s bs)
    (λ p p_on. elim (put_cases f at (take s bs) p) [
      | inl same ↦ subst P (sym same.1) k.0
      | inr other ↦ subst P (sym other) (h p p_on)
    ]) k.1 q on

-- ---- what is read

pub read_encoded : (e : Elem) (f : List ℕ → List ℕ) → IsFormed e → ((q : List ℕ) → IsEncoded e (f q)) → (ats : List (List ℕ)) → AreEncoded e (length ats) (flat_map f ats)
read_encoded e f w h [] = record { whole = omega arith; each = tt }
read_encoded e f w h (at ∷ ats) =
    let rest = read_encoded e f w h ats in
    let size = length-encoded e (f at) w (h at) in
    let n = length ats in
    record {
      whole = length-append (f at) (flat_map f ats) ∙ omega (arith, size, rest.whole);
      each = (
        subst (IsEncoded e) (sym (take_at (f at) (flat_map f ats) (size_of e) size)) (h at),
        subst (λ (bs : List ℕ). AllByRecursion (IsEncoded e) (pieces (length ats) (size_of e) bs)) (sym (drop_at (f at) (flat_map f ats) (size_of e) size)) rest.each,
      );
    }
