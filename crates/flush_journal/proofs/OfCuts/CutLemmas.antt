-- Cuts in turn.
use Rattle.std.proofs.Common.{◌≡◌, ◌≢◌, ℕ, List, [], ◌∷◌, ◌++◌, inl, inr, sym, ap, subst, ◌∙◌, append_assoc, append-nil}
use Rattle.std.proofs.lemmas.List.{append_cancel_left}
use Rattle.std.specs.List.{AllByRecursion}
use Rattle.flush_journal.specs.Records.{Record, Held, put_all}
use Rattle.flush_journal.proofs.BlockLemmas.{put_both}
use Rattle.flush_journal.specs.Cuts.Cuts.{AddsRecord, AppendsEach, AppendsOnce, IsWithout, AreOnce, AreApart, IsEither, IsCut}

pub all_append : (P : Record → Type 0) (xs ys : List Record) → AllByRecursion P xs → AllByRecursion P ys → AllByRecursion P (xs ++ ys)
all_append P [] ys h g = g
all_append P (x ∷ xs) ys h g = (h.0, all_append P xs ys h.1 g)

pub all_more : (P Q : Record → Type 0) (xs : List Record) → ((r : Record) → P r → Q r) → AllByRecursion P xs → AllByRecursion Q xs
all_more P Q [] f h = tt
all_more P Q (x ∷ xs) f h = (f x h.0, all_more P Q xs f h.1)

module _ (first second : List ℕ → Type 0) (apart : AreApart first second) where
  pub without_marked : (key : List ℕ) (ys : List Record) → first key → AllByRecursion (λ r. second r.0) ys → IsWithout key ys
  without_marked key ys mine theirs = all_more (λ r. second r.0) (λ r. r.0 ≢ key) ys (λ r marked same. apart key mine (subst second same marked)) theirs

  pub once_append : (xs ys : List Record) → AllByRecursion (λ r. first r.0) xs → AllByRecursion (λ r. second r.0) ys → AreOnce xs → AreOnce ys → AreOnce (xs ++ ys)
  once_append [] ys h g x y = y
  once_append (r ∷ rs) ys h g x y = (all_append (λ s. s.0 ≢ r.0) rs ys x.0 (without_marked r.0 ys h.0 g), once_append rs ys h.1 g x.1 y)

  pub in_turn : (base : Held) (old mid new : List Record) (between later : Held → Type 0) → IsCut first base old mid between → ((held : Held) → between held → IsCut second held mid new later)
      → IsCut (IsEither first second) base old new later
  in_turn base old mid new between later c next = let d = next (put_all c.added base) c.stands in record {
    added = c.added ++ d.added;
    appended = d.appended ∙ ap (λ (rs : List Record). rs ++ d.added) c.appended ∙ append_assoc old c.added d.added;
    changed = all_append (λ r. IsEither first second r.0) c.added d.added (all_more (λ r. first r.0) (λ r. IsEither first second r.0) c.added (λ r m. inl m) c.changed)
        (all_more (λ r. second r.0) (λ r. IsEither first second r.0) d.added (λ r m. inr m) d.changed);
    once = once_append c.added d.added c.changed d.changed c.once d.once;
    stands = subst later (sym (put_both c.added d.added base)) d.stands;
  }

-- ---- records with a property

pub appends_none : (P : Record → Type 0) (rs : List Record) → AppendsEach P rs rs
appends_none P rs = record { added = []; appended = sym (append-nil rs); each = tt }

pub appends_one : (P : Record → Type 0) (r : Record) (old new : List Record) → P r → AddsRecord r old new → AppendsEach P old new
appends_one P r old new h adds = record { added = r ∷ []; appended = adds; each = (h, tt) }

pub appends_all : (P : Record → Type 0) (old new added : List Record) → AllByRecursion P added → new ≡ old ++ added → AppendsEach P old new
appends_all P old new added each appended = record { added = added; appended = appended; each = each }

pub appends_more : (P : Record → Type 0) (old mid new : List Record) → AppendsEach P old mid → AppendsEach P mid new → AppendsEach P old new
appends_more P old mid new a b = record {
  added = a.added ++ b.added;
  appended = b.appended ∙ ap (λ (rs : List Record). rs ++ b.added) a.appended ∙ append_assoc old a.added b.added;
  each = all_append P a.added b.added a.each b.each;
}

pub appends_as : (P Q : Record → Type 0) (old new : List Record) → ((r : Record) → P r → Q r) → AppendsEach P old new → AppendsEach Q old new
appends_as P Q old new f a = record { added = a.added; appended = a.appended; each = all_more P Q a.added f a.each }

-- what a cut adds has no key twice
pub appends_once : (P : Record → Type 0) (marked : List ℕ → Type 0) (base : Held) (old new : List Record) (later : Held → Type 0) → IsCut marked base old new later → AppendsEach P old new → AppendsOnce P old new
appends_once P marked base old new later c a = record {
  added = a.added;
  appended = a.appended;
  each = a.each;
  once = subst AreOnce (append_cancel_left old c.added a.added (sym c.appended ∙ a.appended)) c.once;
}
