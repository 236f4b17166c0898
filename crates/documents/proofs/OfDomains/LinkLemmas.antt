-- The links of a group that are shown.
use Rattle.std.proofs.Common.{◌≡◌, ℕ, Bool, true, false, cond, List, [], ◌∷◌, ◌++◌, map, Option, Some, None, option_map, is_some, refl, sym, ap, ◌∙◌, append_assoc}
use Rattle.std.specs.List.{filter}
use Rattle.serde_json.specs.Data.{Data}
use Rattle.groups_links.specs.declared.target.LinkTo.{LinkTo}
use Rattle.documents.specs.Domains.Entries.{is_shown, link_at, shown_links, titled_tree}
use Rattle.documents.specs.declared.domains.home.Home.{Home}
use Rattle.object_acts.specs.Objects.{Objects}

-- one link more
shown_first : (m : Objects) (h : Home) (e : List ℕ × LinkTo) (es : List (List ℕ × LinkTo))
    → shown_links m h (e ∷ es) ≡ shown_links m h (e ∷ []) ++ shown_links m h es
shown_first m h e es = at (is_shown m h e.1) where
  at : (b : Bool) → map titled_tree (cond b (e ∷ filter (λ e. is_shown m h e.1) es) (filter (λ e. is_shown m h e.1) es))
      ≡ map titled_tree (cond b (e ∷ []) []) ++ shown_links m h es
  at true = refl
  at false = refl

-- what is listed so far, and what is left of the links
abbrev pub listed : Objects → Home → List (List ℕ × LinkTo) → List Data → List Data
listed m h es ds = ds ++ shown_links m h es

abbrev pub list_at : Objects → Home → List ℕ → Option LinkTo → List Data → List Data
list_at m h title link ds = ds ++ link_at m h title link

pub list_takes : (m : Objects) (h : Home) (e : List ℕ × LinkTo) (es : List (List ℕ × LinkTo)) (ds : List Data)
    → listed m h (e ∷ es) ds ≡ listed m h es (list_at m h e.0 (Some e.1) ds)
list_takes m h e es ds = ap (λ r. ds ++ r) (shown_first m h e es) ∙ sym (append_assoc ds (shown_links m h (e ∷ [])) (shown_links m h es))

-- ---- an object is looked up

pub found_is : {A B : Type 0} (f : A → B) (o : Option A) (p : Option B) → option_map f o ≡ p → is_some o ≡ is_some p
found_is f None p e = ap is_some e
found_is f (Some x) p e = ap is_some e
