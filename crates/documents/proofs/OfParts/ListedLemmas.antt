-- Lists that are read member by member: what is read is what they spell, and the other way.
use Rattle.std.proofs.Common.{◌≡◌, ℕ, ◌+◌, ◌≤◌, List, [], ◌∷◌, false, length, nat_le, Option, Some, None, Result, Ok, Err, refl, sym, ap, subst, ◌∙◌}
use Rattle.std.specs.List.{AllZip}
use Rattle.std.specs.FinMap.{FinMap, empty, insert, contains_key}
use Rattle.std.proofs.lemmas.Bool.{leb-true, le-leb, cond-true}
use Rattle.serde_json.specs.Data.{Data}
use Rattle.json_trees.specs.Faults.{◌>>=◌}
use Rattle.json_trees.specs.Trees.{list_in}
use Rattle.json_trees.proofs.FaultLemmas.{bind_ok, test_ok}
use Rattle.containers.specs.TextMaps.Keyed.{text_order, with_entries}
use Rattle.documents.specs.Parts.Faults.{Fault, fault}
use Rattle.documents.specs.Parts.Items.{each_item, items_at, listed_at}
use Rattle.documents.specs.Parts.Spelled.{AreListedAt, AreListedIn, AreNew}
use Rattle.documents.specs.declared.parts.faults.DocCause.TheVariants.{NotADocument, Limit}
use Rattle.containers.proofs.Plain.{ok_same}

pub not_ok : {A : Type 0} (f : Fault) (x : A) → Err f ≡ Ok x → ⊥
not_ok f x e = cc

pub bind_at : {A B E : Type 0} (r : Result A E) (f : A → Result B E) (x : A) (y : Result B E) → r ≡ Ok x → f x ≡ y → (r >>= f) ≡ y
bind_at r f x y e h = ap (λ q. q >>= f) e ∙ h

items_sound : (most : ℕ) (path : List ℕ) (o : Option (List Data)) (ds : List Data) → items_at most path o ≡ Ok ds → (o ≡ Some ds) × (length ds ≤ most)
items_sound most path None ds e = absurd (not_ok (fault path NotADocument) ds e)
items_sound most path (Some xs) ds e =
    let h = test_ok (nat_le (length xs) most) (Ok xs) (fault path Limit) ds e in
    let same = ok_same xs ds h.1 in
    (ap Some same, subst (λ (x : List Data). length x ≤ most) same (leb-true (length xs) most h.0))

module _ {X : Type 0} (R : Data → List ℕ × X → Type 0) (step : ℕ → FinMap text_order X → Data → Result (FinMap text_order X) Fault) where
  -- a step puts the entry that a tree spells, and its name is new
  abbrev pub IsSoundStep : Type 0
  IsSoundStep = (i : ℕ) (m n : FinMap text_order X) (d : Data) → step i m d ≡ Ok n → (e : List ℕ × X) × R d e × (contains_key m e.0 ≡ false) × (n ≡ insert m e.0 e.1)

  abbrev pub IsCompleteStep : Type 0
  IsCompleteStep = (i : ℕ) (m : FinMap text_order X) (d : Data) (e : List ℕ × X) → R d e → contains_key m e.0 ≡ false → step i m d ≡ Ok (insert m e.0 e.1)

  each_sound : IsSoundStep → (m n : FinMap text_order X) (i : ℕ) (ds : List Data) → each_item step m i ds ≡ Ok n
      → (pairs : List (List ℕ × X)) × AllZip R ds pairs × AreNew m pairs × (n ≡ with_entries m pairs)
  each_sound one m n i [] e = ([], tt, tt, sym (ok_same m n e))
  each_sound one m n i (d ∷ ds) e =
      let a = bind_ok (step i m d) _ n e in
      let l = one i m a.0 d a.1 in
      let rest = each_sound one a.0 n (i + 1) ds a.2 in
      (l.0 ∷ rest.0, (l.1, rest.1), (l.2, subst (λ (q : FinMap text_order X). AreNew q rest.0) l.3 rest.2), rest.3 ∙ ap (λ (q : FinMap text_order X). with_entries q rest.0) l.3)

  each_complete : IsCompleteStep → (m : FinMap text_order X) (i : ℕ) (ds : List Data) (pairs : List (List ℕ × X)) → AllZip R ds pairs → AreNew m pairs → each_item step m i ds ≡ Ok (with_entries m pairs)
  each_complete one m i [] [] h new = refl
  each_complete one m i [] (p ∷ ps) h new = absurd h
  each_complete one m i (d ∷ ds) [] h new = absurd h
  each_complete one m i (d ∷ ds) (p ∷ ps) h new =
      bind_at (step i m d) _ (insert m p.0 p.1) _ (one i m d p h.0 new.0) (each_complete one (insert m p.0 p.1) (i + 1) ds ps h.1 new.1)

  pub listed_sound : IsSoundStep → (most : ℕ) (path : List ℕ) (o : Option Data) (m : FinMap text_order X) → listed_at most path step empty o ≡ Ok m → AreListedAt most R o m
  listed_sound one most path None m e = sym (ok_same empty m e)
  listed_sound one most path (Some d) m e =
      let a = bind_ok (items_at most path (list_in d)) _ m e in
      let l = items_sound most path (list_in d) a.0 a.1 in
      let r = each_sound one empty m 0 a.0 a.2 in
      subst (λ (o : Option (List Data)). AreListedIn most R o m) (sym l.0) (record { few = l.1; pairs = r.0; each = r.1; apart = r.2; all = r.3 })

  in_complete : IsCompleteStep → (most : ℕ) (path : List ℕ) (o : Option (List Data)) (m : FinMap text_order X) → AreListedIn most R o m
      → (items_at most path o >>= λ (ds : List Data). each_item step empty 0 ds) ≡ Ok m
  in_complete one most path None m h = absurd h
  in_complete one most path (Some ds) m h =
      bind_at (items_at most path (Some ds)) _ ds _ (cond-true (nat_le (length ds) most) (Ok ds) (Err (fault path Limit)) (le-leb (length ds) most h.few))
      (each_complete one empty 0 ds h.pairs h.each h.apart ∙ ap Ok (sym h.all))

  pub listed_complete : IsCompleteStep → (most : ℕ) (path : List ℕ) (o : Option Data) (m : FinMap text_order X) → AreListedAt most R o m → listed_at most path step empty o ≡ Ok m
  listed_complete one most path None m h = ap Ok (sym h)
  listed_complete one most path (Some d) m h = in_complete one most path (list_in d) m h
