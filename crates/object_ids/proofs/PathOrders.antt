-- Paths in the order of texts.
use Rattle.std.proofs.Common.{◌≡◌, ◌≢◌, ◌⊎◌, inl, inr, ℕ, suc, true, false, List, [], ◌∷◌, drop, get_or, take, Some, Less, nat_cmp, refl, sym, ap, ◌∙◌}
use Rattle.std.specs.Ordering.{ordering_then}
use Rattle.std.proofs.lemmas.Bool.{cases_eq, cond-false, cond-true, eq-eqb, eqb-true, ne_eqb}
use Rattle.std.proofs.Math.Seq.{split_at}
use Rattle.containers.specs.TextMaps.Keyed.{text_order}
use Rattle.containers.proofs.Passing.{contrary}
use Rattle.containers.proofs.TextMaps.TextOrders.{behind_prefix, never_less}
use Rattle.object_ids.specs.Paths.{is_slash, path_of, parent_of, root_path, starts_with_slash}
use Rattle.object_ids.proofs.PathLemmas.{IsLongPath, has_last_slash, is_path-from_path_of, parent_of-at, parent_of-none, path_cases}

-- no path stands before `/`
pub root_first : (path : List ℕ) → path_of path ≡ Some path → text_order path root_path ≡ Less → ⊥
root_first path canonical low = at path (path_cases path (is_path-from_path_of path path canonical)) low where
  after : (rest : List ℕ) → text_order rest [] ≡ Less → ⊥
  after [] e = cc
  after (b ∷ bs) e = cc

  slash : (b : ℕ) (bs : List ℕ) → is_slash b ≡ true → text_order (b ∷ bs) root_path ≡ Less → ⊥
  slash b bs is e = after bs (ap (λ o. ordering_then o (text_order bs [])) (sym (ap (λ x. nat_cmp x 47) (eqb-true b 47 is))) ∙ e)

  long : (path : List ℕ) → starts_with_slash path ≡ true → text_order path root_path ≡ Less → ⊥
  long [] is e = contrary false ⊥ is refl
  long (b ∷ bs) is e = slash b bs is e

  at : (path : List ℕ) → (path ≡ root_path) ⊎ IsLongPath path → text_order path root_path ≡ Less → ⊥
  at path (inl root) e = never_less root_path (ap (λ q. text_order q root_path) (sym root) ∙ e)
  at path (inr l) e = long path l.begins e

-- any other path stands behind it
pub root_before : (path : List ℕ) → path_of path ≡ Some path → path ≢ root_path → text_order root_path path ≡ Less
root_before path canonical other = at path (path_cases path (is_path-from_path_of path path canonical)) other where
  after : (bs : List ℕ) → (47 ∷ bs) ≢ root_path → text_order [] bs ≡ Less
  after [] isnt = absurd (isnt refl)
  after (b ∷ bs) isnt = refl

  long : (path : List ℕ) → starts_with_slash path ≡ true → path ≢ root_path → text_order root_path path ≡ Less
  long [] is isnt = contrary false _ is refl
  long (b ∷ bs) is isnt =
      let same : b ≡ 47 = eqb-true b 47 is in
      ap (λ x. ordering_then (nat_cmp 47 x) (text_order [] bs)) same ∙ after bs (λ e. isnt (ap (λ x. x ∷ bs) same ∙ e))

  at : (path : List ℕ) → (path ≡ root_path) ⊎ IsLongPath path → path ≢ root_path → text_order root_path path ≡ Less
  at path (inl root) isnt = absurd (isnt root)
  at path (inr l) isnt = long path l.begins isnt

-- a path stands behind its parent
pub parent_before : (path : List ℕ) → path_of path ≡ Some path → path ≢ root_path → text_order (parent_of path) path ≡ Less
parent_before path canonical other = elim (has_last_slash path) [
  | inl none ↦ at_root (parent_of-none path none)
  | inr found ↦ elim (cases_eq found.0 0) [
    | inl first ↦ at_root (parent_of-at path found.0 found.1 ∙ cond-true _ _ _ (eq-eqb found.0 0 first))
    | inr later ↦
        let e = parent_of-at path found.0 found.1 ∙ cond-false _ _ _ (ne_eqb found.0 0 later) in
        ap (λ q. text_order q path) e ∙ ap (text_order (take found.0 path)) (split_at path found.0 0 found.1.within) ∙ behind_prefix (take found.0 path) (get_or path found.0 0) (drop (suc found.0) path)
  ]
] where
  at_root : parent_of path ≡ root_path → text_order (parent_of path) path ≡ Less
  at_root e = ap (λ q. text_order q path) e ∙ root_before path canonical other
