-- What a map is once the value that it lent for writing was left.
use Rattle.std.proofs.Common.{◌≡◌, List, ℕ, true, Option, Some, None, MutBor, refl, sym, ap, ◌∙◌, inl, inr, is_some}
use Rattle.std.specs.Option.{ghost_name_of, option_copied_mut}
use Rattle.std.specs.BTreeMap.{BTreeMap, WritesThrough, get_by}
use Rattle.std.specs.FinMap as fin
use Rattle.containers.specs.TextMaps.Keyed.{text_order, keyed}
use Rattle.containers.proofs.TextMaps.KeyedMaps.{order_by, insert-keyed, get-keyed}
use borrow.Follows.Closed.{read_of}

pub lent_if : {D V : Type 0} (r : Option (MutBor V)) (F G : V → D) (v u : D) → (is_some r ≡ true → (w : V) → F w ≡ G w) → v ≡ u
    → read_of (ghost_name_of r) F v ≡ read_of (ghost_name_of r) G u
lent_if None F G v u some none = ap inr none
lent_if (Some x) F G v u some none = λ i. inl (x.ghost_name, λ w. some refl w i)

pub is_some-copied : {V : Type 0} (r : Option (MutBor V)) → is_some (option_copied_mut r) ≡ is_some r
is_some-copied None = refl
is_some-copied (Some x) = refl

module _ {K X : Type 0} (bytes : K → List ℕ) where
  -- the value at some bytes, once w was left there; the map stays where nothing is there
  pub lent-keyed : (m : BTreeMap K X) (old : fin.FinMap text_order X) → fin.from_entries (keyed bytes m.entries) ≡ old → (bs : List ℕ) (r : Option (MutBor X)) (lender : X → BTreeMap K X) (none : BTreeMap K X)
      → option_copied_mut r ≡ get_by (λ k. text_order bs (bytes k)) m
      → ((w : X) → WritesThrough (order_by bytes) (λ k. text_order bs (bytes k)) m w (lender w))
      → none ≡ m
      → (read_of (ghost_name_of r) (λ w. fin.from_entries {R = text_order} (keyed bytes (lender w).entries)) (fin.from_entries (keyed bytes none.entries)) ≡ read_of (ghost_name_of r) (fin.insert old bs) old)
      × (option_copied_mut r ≡ fin.get old bs)
  lent-keyed m old view bs r lender none value holds same = (
    lent_if r _ _ _ _
        (λ there w. insert-keyed bytes m (lender w) bs w ((holds w).3 (ap is_some (sym value) ∙ is_some-copied r ∙ there)) ∙ ap (λ n. fin.insert n bs w) view)
        (ap (λ (n : BTreeMap K X). fin.from_entries {R = text_order} (keyed bytes n.entries)) same ∙ view),
    value ∙ sym (get-keyed bytes m.entries bs) ∙ ap (λ n. fin.get n bs) view,
  )
