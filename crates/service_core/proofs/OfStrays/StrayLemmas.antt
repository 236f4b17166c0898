-- Records in the order of their keys, of which those so far are no strays.
use Rattle.std.proofs.Common.{◌≡◌, ◌≢◌, inl, inr, ℕ, Bool, true, false, cond, List, [], ◌∷◌, ◌++◌, Some, not, IsTrue, ◌↔◌, refl, sym, ap, subst, ◌∙◌}
use Rattle.std.specs.List.{AllByRecursion}
use Rattle.std.specs.FinMap.{entries, find, get, get-from_entries}
use Rattle.std.specs.Cmp.Lexicographic.{nat_list_cmp_total}
use Rattle.std.specs.Ordering.{eq_by_cmp}
use Rattle.std.proofs.lemmas.Option.{none-some}
use Rattle.containers.specs.TextMaps.Keyed.{text_order}
use Rattle.flush_journal.specs.Records.{Held, Record}
use Rattle.object_records.specs.Keys.Keys.{IsSubject, Subject, key_of}
use Rattle.object_records.specs.Keys.Keys.{the_run, node, object, chunk, next_number}
use Rattle.containers.specs.TextMaps.Fronts.{IsLeast, held_by}
use Rattle.containers.proofs.TextMaps.Fronts.{all_held, held_before, held_here, split_more}
use Rattle.chunk_owner.specs.Installs.Records.{IsOther}
use Rattle.chunk_owner.specs.Owners.Records.{KeepsOthers}
use Rattle.register.specs.Installed.Registers.{is_node_key}
use Rattle.service_core.specs.Strays.Strays.{HasNoStrays, IsNumberKey, IsObjectKey, IsStray, IsStrayKey}
use Rattle.containers.proofs.TextMaps.TextOrders.{same_key}

-- ---- keys

pub stray_is : (key : List ℕ) → is_node_key key ≡ false → (IsNumberKey key → ⊥) → (IsObjectKey key → ⊥) → IsStrayKey key
stray_is key no_node no_number no_object = record { no_node = no_node; no_subject = of } where
  of : (s : Subject) → IsSubject s → key_of s ≢ key
  of the_run is same = no_number (inl same)
  of (node path) is same = let c : true ≡ false = ap is_node_key same ∙ no_node in cc
  of (object id) is same = no_object (inl (id, is, same))
  of (chunk id index) is same = no_object (inr (id, index, is, same))
  of next_number is same = no_number (inr same)

pub stray_no_number : (key : List ℕ) → IsStrayKey key → IsNumberKey key → ⊥
stray_no_number key stray (inl same) = stray.no_subject the_run tt same
stray_no_number key stray (inr same) = stray.no_subject next_number tt same

pub stray_no_object : (key : List ℕ) → IsStrayKey key → IsObjectKey key → ⊥
stray_no_object key stray (inl of) = stray.no_subject (object of.0) of.1 of.2
stray_no_object key stray (inr of) = stray.no_subject (chunk of.0 of.1) of.2 of.3

pub told_none : (key : List ℕ) → (IsStrayKey key → ⊥) → IsTrue false ↔ IsStrayKey key
told_none key none = (λ t. absurd (let e : false ≡ true = t in cc), λ stray. absurd (none stray))

pub told_stray : (key : List ℕ) (b : Bool) → is_node_key key ≡ false → (IsNumberKey key → ⊥) → (IsTrue b ↔ IsObjectKey key) → IsTrue (not b) ↔ IsStrayKey key
told_stray key true no_node no_number of = told_none key (λ stray. stray_no_object key stray (of.0 refl))
told_stray key false no_node no_number of = (λ t. stray_is key no_node no_number (λ o. let e : false ≡ true = of.1 o in absurd (cc)), λ stray. refl)

-- ---- a walk

pub record IsSearched (held : Held) (rest : List Record) : Type 0 where
  pub front : List Record
  pub split : entries held ≡ front ++ rest
  pub none : AllByRecursion (λ e. IsStrayKey e.0 → ⊥) front

all_push : (front : List Record) (e : Record) → AllByRecursion (λ d. IsStrayKey d.0 → ⊥) front → (IsStrayKey e.0 → ⊥) → AllByRecursion (λ d. IsStrayKey d.0 → ⊥) (front ++ e ∷ [])
all_push [] e h r = (r, tt)
all_push (x ∷ xs) e h r = (h.0, all_push xs e h.1 r)

no_stray : (front : List Record) → AllByRecursion (λ d. IsStrayKey d.0 → ⊥) front → (q body : List ℕ) → IsStrayKey q → find text_order q front ≡ Some body → ⊥
no_stray [] h q body s is = none-some body is
no_stray (x ∷ xs) h q body s is = at (eq_by_cmp text_order q x.0) refl is (no_stray xs h.1 q body s) where
  at : (b : Bool) → eq_by_cmp text_order q x.0 ≡ b → cond b (Some x.1) (find text_order q xs) ≡ Some body → (find text_order q xs ≡ Some body → ⊥) → ⊥
  at true t e later = h.0 (subst IsStrayKey (same_key q x.0 t) s)
  at false t e later = later e

none_held : (front : List Record) → AllByRecursion (λ d. IsStrayKey d.0 → ⊥) front → (q body : List ℕ) → IsStrayKey q → get (held_by front) q ≡ Some body → ⊥
none_held front h q body s is = no_stray front h q body s (sym (get-from_entries nat_list_cmp_total front q) ∙ is)

pub searched_begin : (held : Held) (all : List Record) → entries held ≡ all → IsSearched held all
searched_begin held all whole = record { front = []; split = whole; none = tt }

module _ (held : Held) (rest after : List Record) (e : Record) (w : IsSearched held rest) (is : rest ≡ e ∷ after) where
  split : entries held ≡ w.front ++ e ∷ after
  split = w.split ∙ ap (λ xs. w.front ++ xs) is

  pub searched_more : (IsStrayKey e.0 → ⊥) → IsSearched held after
  searched_more no_more = record { front = w.front ++ e ∷ []; split = split_more held w.front after e split; none = all_push w.front e w.none no_more }

  pub searched_stray : IsStrayKey e.0 → IsLeast (IsStray held) e.0
  searched_stray stray = record {
    has = record { stray = stray; body = e.1; here = held_here held w.front after e split };
    least = λ q f low. none_held w.front w.none q f.body f.stray (sym (held_before held w.front after e split q low) ∙ f.here);
  }

pub searched_end : (held : Held) (rest : List Record) → IsSearched held rest → rest ≡ [] → HasNoStrays held
searched_end held rest w none k f =
    none_held w.front w.none k f.body f.stray (ap (λ (m : Held). get m k) (all_held held w.front rest w.split none) ∙ f.here)

-- ---- records of objects and chunks that were taken out

module _ (old new : Held) (keeps : KeepsOthers old new) where
  no_part : (key : List ℕ) → IsStrayKey key → IsOther key
  no_part key stray = (λ id range same. stray.no_subject (object id) range same, λ id index is same. stray.no_subject (chunk id index) is same)

  stray_after : (key : List ℕ) → IsStray old key → IsStray new key
  stray_after key f = record { stray = f.stray; body = f.body; here = keeps key (no_part key f.stray) ∙ f.here }

  -- the strays are those that are left
  pub least_before : (key : List ℕ) → IsLeast (IsStray new) key → IsLeast (IsStray old) key
  least_before key least = record {
    has = record { stray = least.has.stray; body = least.has.body; here = sym (keeps key (no_part key least.has.stray)) ∙ least.has.here };
    least = λ q f. least.least q (stray_after q f);
  }

  pub none_before : HasNoStrays new → HasNoStrays old
  none_before none key f = none key (stray_after key f)
