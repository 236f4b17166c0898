-- Parts of a cut in turn.
use Rattle.std.proofs.Common.{◌≡◌, ◌≢◌, inl, inr, ℕ, List, [], ◌∷◌, ◌++◌, Bool, true, false, refl, sym, ap, subst, ◌∙◌, append_assoc, append-nil}
use Rattle.std.specs.List.{AllByRecursion}
use Rattle.flush_journal.specs.Records.{Record}
use Rattle.flush_journal.specs.Cuts.Cuts.{AddsRecord, AreOnce}
use Rattle.flush_journal.proofs.OfCuts.CutLemmas.{all_append, all_more}
use Rattle.containers.proofs.Passing.{contrary}
use Rattle.domains.specs.Contents.{Contents}
use Rattle.object_records.specs.Keys.Keys.{next_key, run_key}
use Rattle.object_records.specs.Keys.Numbers.{next_bytes, run_bytes}
use Rattle.register.specs.Cutting.{Adds, AddsAllNodes, AddsOne, AreAdded, IsAmong, IsDueOne, IsRightNode, IsRightOne, OfEither, is_of_all, is_of_paths}
use Rattle.register.specs.Kept.{AddsInTurn, IsOfNode, numbers_marked, one_where}
use Rattle.register.specs.Marks.{Marked}

among_front : (key : List ℕ) (xs ys : List Record) → IsAmong key xs → IsAmong key (xs ++ ys)
among_front key [] ys h = absurd h
among_front key (x ∷ xs) ys (inl same) = inl same
among_front key (x ∷ xs) ys (inr later) = inr (among_front key xs ys later)

among_back : (key : List ℕ) (xs ys : List Record) → IsAmong key ys → IsAmong key (xs ++ ys)
among_back key [] ys h = h
among_back key (x ∷ xs) ys h = inr (among_back key xs ys h)

module _ (P Q : Record → Type 0) (K L : List ℕ → Type 0) where
  -- no key is of both
  abbrev pub AreApart : Type 0
  AreApart = (r s : Record) → P r → Q s → r.0 ≢ s.0

  once_append : AreApart → (xs ys : List Record) → AllByRecursion P xs → AllByRecursion Q ys → AreOnce xs → AreOnce ys → AreOnce (xs ++ ys)
  once_append apart [] ys h g x y = y
  once_append apart (r ∷ rs) ys h g x y = (
    all_append (λ s. s.0 ≢ r.0) rs ys x.0 (all_more Q (λ s. s.0 ≢ r.0) ys (λ s q same. apart r s h.0 q (sym same)) g),
    once_append apart rs ys h.1 g x.1 y,
  )

  pub in_turn : AreApart → (whole : Bool) (old mid new : List Record) → Adds P K true old mid → Adds Q L whole mid new → Adds (OfEither P Q) (OfEither K L) whole old new
  in_turn apart whole old mid new a b = (
    a.0 ++ b.0,
    record {
      right = all_append (OfEither P Q) a.0 b.0 (all_more P (OfEither P Q) a.0 (λ r h. inl h) a.1.right) (all_more Q (OfEither P Q) b.0 (λ r h. inr h) b.1.right);
      once = once_append apart a.0 b.0 a.1.right b.1.right a.1.once b.1.once;
      all = λ w key due. found w key due;
    },
    b.2 ∙ ap (λ (rs : List Record). rs ++ b.0) a.2 ∙ append_assoc old a.0 b.0,
  ) where
    found : whole ≡ true → (key : List ℕ) → OfEither K L key → IsAmong key (a.0 ++ b.0)
    found w key (inl due) = among_front key a.0 b.0 (a.1.all refl key due)
    found w key (inr due) = among_back key a.0 b.0 (b.1.all w key due)

  -- the first part alone, and not all of it
  pub first_alone : (old new : List Record) → Adds P K false old new → Adds (OfEither P Q) (OfEither K L) false old new
  first_alone old new a = (
    a.0,
    record {
      right = all_more P (OfEither P Q) a.0 (λ r h. inl h) a.1.right;
      once = a.1.once;
      all = λ w key due. contrary false (IsAmong key a.0) w refl;
    },
    a.2,
  )

-- nothing at all
pub no_more : (Right : Record → Type 0) (Due : List ℕ → Type 0) (old new : List Record) → new ≡ old → Adds Right Due false old new
no_more Right Due old new e = ([], record { right = tt; once = tt; all = λ w key due. contrary false (IsAmong key []) w refl }, e ∙ sym (append-nil old))

-- ---- one record

module _ (due : Bool) (key body : List ℕ) (old new : List Record) where
  pub one_added : due ≡ true → AddsRecord (key, body) old new → AddsOne due key body true old new
  one_added is h = ((key, body) ∷ [], record { right = ((is, refl), tt); once = (tt, tt); all = λ w k d. inl (sym d.1) }, h)

  pub none_due : due ≡ false → new ≡ old → AddsOne due key body true old new
  none_due isnt e = ([], record { right = tt; once = tt; all = λ w k d. contrary due (IsAmong k []) d.0 isnt }, e ∙ sym (append-nil old))

  pub none_added : new ≡ old → AddsOne due key body false old new
  none_added e = ([], record { right = tt; once = tt; all = λ w k d. contrary false (IsAmong k []) w refl }, e ∙ sym (append-nil old))

-- ---- what a call says

pub one_as : {due is : Bool} {key k body b : List ℕ} (whole : Bool) (old new : List Record) → due ≡ is → key ≡ k → body ≡ b → AddsOne due key body whole old new → AddsOne is k b whole old new
one_as whole old new e f g h =
    subst (λ (x : Bool × (List ℕ × List ℕ)). AddsOne x.0 x.1.0 x.1.1 whole old new) (λ i. (e i, (f i, g i))) h

-- ---- in order

-- a whole part of one record has just it, where it is due
one_exactly : (due : Bool) (key body : List ℕ) (added : List Record) → AreAdded (IsRightOne due key body) (IsDueOne due key) true added
    → added ≡ one_where due (key, body)
one_exactly true key body [] a = absurd (a.all refl key (refl, refl))
one_exactly false key body [] a = refl
one_exactly true key body (r ∷ []) a = ap (λ (x : Record). x ∷ []) a.right.0.1
one_exactly false key body (r ∷ []) a = contrary false (r ∷ [] ≡ []) a.right.0.0 refl
one_exactly due key body (r ∷ q ∷ rs) a =
    absurd (a.once.0.0 (ap (λ (x : Record). x.0) (a.right.1.0.1 ∙ sym a.right.0.1)))

module _ (run : ℕ) (c : Contents) (m : Marked) (old mid new : List Record) where
  pub numbers_in_turn : AddsOne m.run run_key (run_bytes run) true old mid → AddsOne m.next next_key (next_bytes c.next) true mid new
      → new ≡ old ++ numbers_marked run c m
  numbers_in_turn a b =
      let one = one_exactly m.run run_key (run_bytes run) a.0 a.1 in
      let two = one_exactly m.next next_key (next_bytes c.next) b.0 b.1 in
      b.2 ∙ ap (λ (rs : List Record). rs ++ b.0) a.2 ∙ append_assoc old a.0 b.0 ∙ (λ i. old ++ (one i ++ two i))

  of_node : (r : Record) → OfEither (IsRightNode c (is_of_all c m)) (IsRightNode c (is_of_paths c m)) r → IsOfNode r
  of_node r (inl h) = (h.0, h.2)
  of_node r (inr h) = (h.0, h.2)

  pub records_in_turn : mid ≡ old ++ numbers_marked run c m → AddsAllNodes c m true mid new → AddsInTurn run c m old new
  records_in_turn first b = record {
    nodes = b.0;
    added = b.2 ∙ ap (λ (rs : List Record). rs ++ b.0) first ∙ append_assoc old (numbers_marked run c m) b.0;
    of_nodes = all_more (OfEither (IsRightNode c (is_of_all c m)) (IsRightNode c (is_of_paths c m))) IsOfNode b.0 of_node b.1.right;
  }
