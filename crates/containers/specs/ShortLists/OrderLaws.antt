-- Lists that the order ties are equal, and the first number in which two lists differ decides.
use Rattle.std.proofs.Common.{◌≡◌, ℕ, ◌<◌, Bool, true, false, List, [], ◌∷◌, ◌++◌, length, is_eq, refl, sym, ap, ◌∙◌}
use Rattle.std.specs.Str.{bytes_eq}
use Rattle.std.specs.declared.cmp.Ordering.{Ordering}
use Rattle.std.specs.declared.cmp.Ordering.TheVariants.{Less, Equal, Greater}
use Rattle.std.specs.Ordering.{nat_cmp, ordering_then, eq_by_cmp}
use Rattle.std.specs.Cmp.{IsTotalOrder, nat_cmp_total, tied_itself, Equal-is, then_total, on_total, nat_cmp_is}
use Rattle.std.specs.Cmp.Lexicographic.{slice_cmp, texts_ties, lists_total}
use Rattle.std.proofs.lemmas.Slice.Eq.{bytes_eq-Decides}
use Rattle.std.proofs.lemmas.List.{length-append}
use Rattle.containers.specs.ShortLists.Order.{list_order}

pub cmp_less : (m n : ℕ) → m < n → nat_cmp m n ≡ Less
cmp_less m n h = sym (nat_cmp_is m n Less h)

same : (n : ℕ) → nat_cmp n n ≡ Equal
same n = tied_itself nat_cmp_total n

pub order_total : IsTotalOrder list_order
order_total = then_total (on_total length nat_cmp_total) (lists_total nat_cmp_total)

tied : (r s : Ordering) → ordering_then r s ≡ Equal → s ≡ Equal
tied Less s e = absurd (let h : false ≡ true = ap is_eq e in cc)
tied Equal s e = e
tied Greater s e = absurd (let h : false ≡ true = ap is_eq e in cc)

pub tied_same : (xs ys : List ℕ) → list_order xs ys ≡ Equal → xs ≡ ys
tied_same xs ys e =
    let tail = tied (nat_cmp (length xs) (length ys)) (slice_cmp nat_cmp xs ys) e in
    (bytes_eq-Decides xs ys).0 (texts_ties xs ys ∙ ap is_eq tail)

pub same_tied : (xs ys : List ℕ) → xs ≡ ys → list_order xs ys ≡ Equal
same_tied xs ys e = ap (list_order xs) (sym e) ∙ tied_itself order_total xs

pub by_both : (a b : Bool) → (a ≡ true → b ≡ true) → (b ≡ true → a ≡ true) → a ≡ b
by_both true b h k = sym (h refl)
by_both false true h k = k refl
by_both false false h k = refl

pub equal_where_tied : (xs ys : List ℕ) → bytes_eq xs ys ≡ eq_by_cmp list_order xs ys
equal_where_tied xs ys =
    by_both (bytes_eq xs ys) (eq_by_cmp list_order xs ys) (λ e. ap is_eq (same_tied xs ys ((bytes_eq-Decides xs ys).0 e)))
    (λ e. (bytes_eq-Decides xs ys).1 (tied_same xs ys ((Equal-is (list_order xs ys)).0 e)))

pub shorter_first : (xs ys : List ℕ) → length xs < length ys → list_order xs ys ≡ Less
shorter_first xs ys h = ap (λ r. ordering_then r (slice_cmp nat_cmp xs ys)) (cmp_less (length xs) (length ys) h)

numbers_first : (front xs ys : List ℕ) (m n : ℕ) → m < n → slice_cmp nat_cmp (front ++ m ∷ xs) (front ++ n ∷ ys) ≡ Less
numbers_first [] xs ys m n h = ap (λ r. ordering_then r (slice_cmp nat_cmp xs ys)) (cmp_less m n h)
numbers_first (k ∷ front) xs ys m n h = ap (λ r. ordering_then r (slice_cmp nat_cmp (front ++ m ∷ xs) (front ++ n ∷ ys))) (same k) ∙ numbers_first front xs ys m n h

pub first_decides : (front xs ys : List ℕ) (m n : ℕ) → length xs ≡ length ys → m < n → list_order (front ++ m ∷ xs) (front ++ n ∷ ys) ≡ Less
first_decides front xs ys m n e h =
    let long : length (front ++ m ∷ xs) ≡ length (front ++ n ∷ ys) = rw (length-append front (m ∷ xs), length-append front (n ∷ ys), e) refl in
    ap (λ r. ordering_then r (slice_cmp nat_cmp (front ++ m ∷ xs) (front ++ n ∷ ys))) (ap (nat_cmp (length (front ++ m ∷ xs))) (sym long) ∙ same (length (front ++ m ∷ xs)))
    ∙ numbers_first front xs ys m n h
