-- The last record of a key says what stands there.
use Rattle.std.proofs.Common.{◌≡◌, ◌≢◌, ℕ, Bool, true, false, cond, List, [], ◌∷◌, ◌++◌, is_eq, refl, sym, ◌∙◌, ap}
use Rattle.std.specs.Cmp.{Equal-is}
use Rattle.std.specs.Cmp.Lexicographic.{nat_list_cmp_total}
use Rattle.std.specs.FinMap as map
use Rattle.std.specs.List.{AllByRecursion}
use Rattle.std.proofs.lemmas.Cmp.{tied_itself}
use Rattle.containers.specs.TextMaps.Keyed.{text_order}
use Rattle.containers.proofs.TextMaps.KeyedMaps.{exact_texts}
use Rattle.flush_journal.specs.Records.{Record, Held, put_record, put_all, kept_body}

-- only equal keys tie
pub tied : (q key : List ℕ) → is_eq (text_order q key) ≡ true → q ≡ key
tied q key tie = exact_texts q key ((Equal-is (text_order q key)).0 tie)

-- what a record leaves at a key
put_at : (key body q : List ℕ) (m : Held) → map.get (put_record (key, body) m) q ≡ cond (is_eq (text_order q key)) (kept_body body) (map.get m q)
put_at key [] q m = map.get-remove nat_list_cmp_total m key q
put_at key (b ∷ body) q m = map.get-insert nat_list_cmp_total m key (b ∷ body) q

put_here : (key body : List ℕ) (m : Held) → map.get (put_record (key, body) m) key ≡ kept_body body
put_here key body m = put_at key body key m ∙ ap (λ r. cond (is_eq r) (kept_body body) (map.get m key)) (tied_itself nat_list_cmp_total key)

put_elsewhere : (key body q : List ℕ) (m : Held) → key ≢ q → map.get (put_record (key, body) m) q ≡ map.get m q
put_elsewhere key body q m other = put_at key body q m ∙ apart (is_eq (text_order q key)) refl
  where
    apart : (t : Bool) → is_eq (text_order q key) ≡ t → cond t (kept_body body) (map.get m q) ≡ map.get m q
    apart true tie = absurd (other (sym (tied q key tie)))
    apart false tie = refl

pub put_others : (m : Held) (rs : List Record) (key : List ℕ) → AllByRecursion (λ r. r.0 ≢ key) rs → map.get (put_all rs m) key ≡ map.get m key
put_others m [] key h = refl
put_others m (r ∷ rs) key h = put_others (put_record r m) rs key h.1 ∙ put_elsewhere r.0 r.1 key m h.0

pub put_last : (m : Held) (front back : List Record) (key body : List ℕ) → AllByRecursion (λ r. r.0 ≢ key) back → map.get (put_all (front ++ (key, body) ∷ back) m) key ≡ kept_body body
put_last m [] back key body h = put_others (put_record (key, body) m) back key h ∙ put_here key body m
put_last m (r ∷ front) back key body h = put_last (put_record r m) front back key body h
