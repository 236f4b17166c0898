-- The texts of ids.
use Rattle.std.proofs.Common.{◌≡◌, ℕ, ◌+◌, ◌*◌, ◌^◌, ◌%◌, ◌<◌, List, ◌++◌, Equal, refl, sym, ap, ◌∙◌, arith, get_or, lit<, drop}
use Rattle.std.proofs.Math.Nat.{mod-eq_of_lt}
use Rattle.std.specs.Ordering.{nat_cmp, ordering_then}
use Rattle.std.specs.Cmp.Lexicographic.{slice_cmp}
use Rattle.std.specs.Int.{to_be_bytes, w128}
use Rattle.object_ids.proofs.IdBits.{small_bits}
use Rattle.object_ids.specs.IdValues.{Id}
use Rattle.object_ids.specs.IdOrder.{id_order, kind_rank}
use Rattle.object_ids.specs.Ids.{text_of_id, prefix_of, bits_of}
use Rattle.object_ids.specs.declared.ids.Kind.{Kind}
use Rattle.object_ids.specs.declared.ids.Kind.TheVariants.{Group, Dataset, Datatype}
use Rattle.uuid.specs.Text.{hyphenated_text, lower}
use Rattle.object_ids.specs.Ids.{InRange}
use Rattle.object_ids.specs.IdLaws.{TextsInOrder, OneIdEachText}
use Rattle.object_ids.proofs.IdOrders.{both_equal}
use Rattle.object_ids.proofs.NumberOrders.{cmp_same, cmp_parts, cmp_bytes, same_cmp, cmp_at}
use Rattle.std.proofs.lemmas.Cmp.{tied_itself, nat_list_cmp_total}
use Rattle.std.specs.FinMap.{nat_cmp-IsAntisymmetric}
use Rattle.object_ids.proofs.DigitOrders.{cmp_hyphenated}

cmp_prefix : (k : Kind) (xs ys : List ℕ) → slice_cmp nat_cmp (prefix_of k ++ xs) (prefix_of k ++ ys) ≡ slice_cmp nat_cmp xs ys
cmp_prefix Group xs ys = refl
cmp_prefix Dataset xs ys = refl
cmp_prefix Datatype xs ys = refl

-- domain, run and serial as one number
shift : (c r q : ℕ) → nat_cmp (c + r) (c + q) ≡ nat_cmp r q
shift c r q = same_cmp r q (c + r) (c + q) (λ p. omega arith) (λ p. omega arith) (λ p. omega arith)

regroup : (d r s : ℕ) → d * 2 ^ 80 + 8 * 2 ^ 76 + 2 * 2 ^ 62 + r * 2 ^ 40 + s ≡ d * 2 ^ 80 + ((8 * 2 ^ 36 + 2 * 2 ^ 22 + r) * 2 ^ 40 + s)
regroup d r s = omega arith

cmp_numbers : (d r s e q t : ℕ) → r < 2 ^ 22 → s < 2 ^ 40 → q < 2 ^ 22 → t < 2 ^ 40
    → nat_cmp (d * 2 ^ 80 + 8 * 2 ^ 76 + 2 * 2 ^ 62 + r * 2 ^ 40 + s) (e * 2 ^ 80 + 8 * 2 ^ 76 + 2 * 2 ^ 62 + q * 2 ^ 40 + t)
    ≡ ordering_then (nat_cmp d e) (ordering_then (nat_cmp r q) (nat_cmp s t))
cmp_numbers d r s e q t hr hs hq ht =
    cmp_at (d * 2 ^ 80 + 8 * 2 ^ 76 + 2 * 2 ^ 62 + r * 2 ^ 40 + s) (e * 2 ^ 80 + 8 * 2 ^ 76 + 2 * 2 ^ 62 + q * 2 ^ 40 + t)
    (d * 2 ^ 80 + ((8 * 2 ^ 36 + 2 * 2 ^ 22 + r) * 2 ^ 40 + s)) (e * 2 ^ 80 + ((8 * 2 ^ 36 + 2 * 2 ^ 22 + q) * 2 ^ 40 + t)) (regroup d r s) (regroup e q t)
    ∙ cmp_parts (2 ^ 80) d e ((8 * 2 ^ 36 + 2 * 2 ^ 22 + r) * 2 ^ 40 + s) ((8 * 2 ^ 36 + 2 * 2 ^ 22 + q) * 2 ^ 40 + t) (omega arith) (omega arith)
    ∙ ap (ordering_then (nat_cmp d e)) (cmp_parts (2 ^ 40) (8 * 2 ^ 36 + 2 * 2 ^ 22 + r) (8 * 2 ^ 36 + 2 * 2 ^ 22 + q) s t hs ht
    ∙ ap (λ o. ordering_then o (nat_cmp s t)) (shift (8 * 2 ^ 36 + 2 * 2 ^ 22) r q))

cmp_bits : (a b : Id) → InRange a → InRange b → slice_cmp nat_cmp (to_be_bytes w128 (bits_of a)) (to_be_bytes w128 (bits_of b)) ≡ nat_cmp (bits_of a) (bits_of b)
cmp_bits a b ha hb = cmp_bytes 16 (bits_of a) (bits_of b)
    ∙ cmp_at (bits_of a % 256 ^ 16) (bits_of b % 256 ^ 16) (bits_of a) (bits_of b)
    (mod-eq_of_lt (small_bits a.domain a.run a.serial ha.domain ha.run ha.serial)) (mod-eq_of_lt (small_bits b.domain b.run b.serial hb.domain hb.run hb.serial))

cmp_texts : (k : Kind) (a b : Id) → InRange a → InRange b
    → slice_cmp nat_cmp (prefix_of k ++ hyphenated_text lower (to_be_bytes w128 (bits_of a))) (prefix_of k ++ hyphenated_text lower (to_be_bytes w128 (bits_of b)))
    ≡ ordering_then (nat_cmp a.domain b.domain) (ordering_then (nat_cmp a.run b.run) (nat_cmp a.serial b.serial))
cmp_texts k a b ha hb = cmp_prefix k _ _ ∙ cmp_hyphenated (bits_of a) (bits_of b) ∙ cmp_bits a b ha hb
    ∙ cmp_numbers a.domain a.run a.serial b.domain b.run b.serial ha.run ha.serial hb.run hb.serial

pub same_order : TextsInOrder
same_order a b ha hb same =
    ap (λ k. slice_cmp nat_cmp (text_of_id a) (prefix_of k ++ hyphenated_text lower (to_be_bytes w128 (bits_of b)))) (sym same)
    ∙ cmp_texts a.kind a b ha hb
    ∙ ap (λ o. ordering_then o (ordering_then (nat_cmp a.domain b.domain) (ordering_then (nat_cmp a.run b.run) (nat_cmp a.serial b.serial)))) (sym (cmp_same (kind_rank a.kind) (kind_rank b.kind) (ap kind_rank same)))

-- ---- one text, one id

not_same : (m n : ℕ) → m ≡ n → m < n → ⊥
not_same m n e h = omega arith

rank_once : (a b : Kind) (xs ys : List ℕ) → prefix_of a ++ xs ≡ prefix_of b ++ ys → a ≡ b
rank_once Group Group xs ys e = refl
rank_once Group Dataset xs ys e = absurd (not_same 100 103 (sym (ap (λ (l : List ℕ). get_or l 0 0) e)) (lit< tt))
rank_once Group Datatype xs ys e = absurd (not_same 103 116 (ap (λ (l : List ℕ). get_or l 0 0) e) (lit< tt))
rank_once Dataset Group xs ys e = absurd (not_same 100 103 (ap (λ (l : List ℕ). get_or l 0 0) e) (lit< tt))
rank_once Dataset Dataset xs ys e = refl
rank_once Dataset Datatype xs ys e = absurd (not_same 100 116 (ap (λ (l : List ℕ). get_or l 0 0) e) (lit< tt))
rank_once Datatype Group xs ys e = absurd (not_same 103 116 (sym (ap (λ (l : List ℕ). get_or l 0 0) e)) (lit< tt))
rank_once Datatype Dataset xs ys e = absurd (not_same 100 116 (sym (ap (λ (l : List ℕ). get_or l 0 0) e)) (lit< tt))
rank_once Datatype Datatype xs ys e = refl

pub same_id : OneIdEachText
same_id a b ha hb e =
    let kind = rank_once a.kind b.kind _ _ e in
    let order : slice_cmp nat_cmp (text_of_id a) (text_of_id b) ≡ id_order a b = same_order a b ha hb kind in
    let tied : slice_cmp nat_cmp (text_of_id a) (text_of_id b) ≡ Equal = ap (slice_cmp nat_cmp (text_of_id a)) (sym e) ∙ tied_itself nat_list_cmp_total (text_of_id a) in
    let all = both_equal (nat_cmp (kind_rank a.kind) (kind_rank b.kind)) _ (sym order ∙ tied) in
    let d = both_equal (nat_cmp a.domain b.domain) _ all.1 in
    let r = both_equal (nat_cmp a.run b.run) _ d.1 in
    let domain = nat_cmp-IsAntisymmetric a.domain b.domain d.0 in
    let run = nat_cmp-IsAntisymmetric a.run b.run r.0 in
    let serial = nat_cmp-IsAntisymmetric a.serial b.serial r.1 in
    λ i. record { kind = kind i; domain = domain i; run = run i; serial = serial i }

-- what stands behind the prefix of a kind
pub drop-prefix_of : (k : Kind) (rest : List ℕ) → drop 2 (prefix_of k ++ rest) ≡ rest
drop-prefix_of Group rest = refl
drop-prefix_of Dataset rest = refl
drop-prefix_of Datatype rest = refl
