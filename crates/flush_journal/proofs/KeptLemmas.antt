-- A map of records whose bodies aren't empty stays one.
use Rattle.std.proofs.Common.{◌≡◌, ℕ, ◌<◌, Bool, true, false, cond, List, length, Some, None, is_eq, Result, Ok, Err, OnOk, OnErr, refl, sym, ◌∙◌, ap, subst}
use Rattle.std.specs.Cmp.Lexicographic.{nat_list_cmp_total}
use Rattle.std.specs.FinMap as map
use Rattle.containers.specs.TextMaps.Keyed.{text_order}
use Rattle.flush_journal.specs.Records.{Record, Held, IsRecord, IsRecordMap}
use Rattle.flush_journal.proofs.PutLemmas.{tied}

pub kept_empty : (m : Held) → m ≡ map.empty → IsRecordMap m
kept_empty m is = λ q b e. absurd (let none : map.get m q ≡ None = ap (λ (n : Held). map.get n q) is ∙ map.get-empty text_order q in cc)

pub kept_removed : (m n : Held) (key : List ℕ) → n ≡ map.remove m key → IsRecordMap m → IsRecordMap n
kept_removed m n key is kept = λ q b e.
    here q b (is_eq (text_order q key)) (sym (ap (λ (l : Held). map.get l q) is ∙ map.get-remove nat_list_cmp_total m key q) ∙ e)
  where
    here : (q b : List ℕ) (t : Bool) → cond t None (map.get m q) ≡ Some b → IsRecord (q, b) × (0 < length b)
    here q b true e = absurd (cc)
    here q b false e = kept q b e

pub kept_put : (m n : Held) (key body : List ℕ) → n ≡ map.insert m key body → IsRecord (key, body) → 0 < length body → IsRecordMap m → IsRecordMap n
kept_put m n key body is sound some kept = λ q b e.
    here q b (is_eq (text_order q key)) refl (sym (ap (λ (l : Held). map.get l q) is ∙ map.get-insert nat_list_cmp_total m key body q) ∙ e)
  where
    here : (q b : List ℕ) (t : Bool) → is_eq (text_order q key) ≡ t → cond t (Some body) (map.get m q) ≡ Some b → IsRecord (q, b) × (0 < length b)
    here q b true tie e =
        let same_key : key ≡ q = sym (tied q key tie) in
        let same_body : body ≡ b = cc in
        subst (λ (r : Record). IsRecord r × (0 < length r.1)) (λ i. (same_key i, same_body i)) (sound, some)
    here q b false tie e = kept q b e

-- also where the body couldn't be put
pub kept_tried : {T E : Type 0} (r : Result T E) (m n : Held) (key body : List ℕ) → OnOk r (n ≡ map.insert m key body) → OnErr r (n ≡ m) → IsRecord (key, body) → 0 < length body → IsRecordMap m → IsRecordMap n
kept_tried (Ok x) m n key body ok err sound some kept = kept_put m n key body ok sound some kept
kept_tried (Err e) m n key body ok err sound some kept = subst IsRecordMap (sym err) kept
