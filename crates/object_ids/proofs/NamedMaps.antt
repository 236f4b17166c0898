-- A map of names and their values is the map of the values by the names.
use Rattle.std.proofs.Common.{◌⊎◌, inl, ◌≡◌, ℕ, Bool, true, false, cond, List, map, Option, Some, None, OnOk, OnErr, Result, Ok, Err, sym, ap, subst, ◌∙◌, refl}
use Rattle.std.specs.Cmp.{Equal-is}
use Rattle.std.specs.Cmp.Lexicographic.{nat_list_cmp_total}
use Rattle.std.specs.FinMap.{FinMap, empty, entries, entries_sorted, get, insert, remove, get-empty, get-entries, get-insert, get-remove}
use Rattle.std.specs.Ordering.{eq_by_cmp}
use Rattle.containers.specs.TextMaps.Keyed.{text_order, keyed, with_values}
use Rattle.containers.specs.TextMaps.Nexts.{IsNext, IsStep, IsKeyStep}
use Rattle.containers.proofs.TextMaps.KeyedMaps.{exact_texts}
use Rattle.containers.proofs.TextMaps.ValueMaps.{entries-values, own_keys, map-keyed, next-values, step-values}
use Rattle.object_ids.specs.NamedEntries.{AreNamed, named_entries}
use Rattle.object_ids.specs.declared.name_map.Named.{Named}

abbrev pub value_of : {X : Type 0} → Named X → X
value_of n = n.value

abbrev name_of : {X : Type 0} → Named X → List ℕ
name_of n = n.name

abbrev named_entry : {X : Type 0} → List ℕ × Named X → List ℕ × X
named_entry e = (e.1.name, e.1.value)

-- one loan, and two ways to say what its owner ends as
pub same_lent : {N V D : Type 0} {n : N} {F G : V → D} → ((w : V) → F w ≡ G w) → ◌≡◌ {A = (N × (V → D)) ⊎ D} (inl (n, F)) (inl (n, G))
same_lent {n = n} same = λ i. inl (n, λ w. same w i)

module _ {X : Type 0} where
  none_named : (k : List ℕ) (n : Named X) → get (empty {X = Named X} {R = text_order}) k ≡ Some n → ⊥
  none_named k n e = let both : None ≡ Some n = sym (get-empty text_order k) ∙ e in absurd (cc)

  pub empty_named : (m : FinMap text_order (Named X)) → m ≡ empty → AreNamed m
  empty_named m e = λ k n f. absurd (none_named k n (ap (λ (w : FinMap text_order (Named X)). get w k) (sym e) ∙ f))

  here_named : (b : Bool) (v : Named X) (w : Option (Named X)) (n : Named X) (P : Type 0) → (b ≡ true → v ≡ n → P) → (w ≡ Some n → P) → cond b (Some v) w ≡ Some n → P
  here_named true v w n P here there e = here refl (let same : Some v ≡ Some n = e in cc)
  here_named false v w n P here there e = there e

  pub insert_named : (m : FinMap text_order (Named X)) (k : List ℕ) (v : Named X) → v.name ≡ k → AreNamed m → AreNamed (insert m k v)
  insert_named m k v is held = λ q n f.
      here_named (eq_by_cmp text_order q k) v (get m q) n (n.name ≡ q)
      (λ b e. ap name_of (sym e) ∙ is ∙ sym (exact_texts q k ((Equal-is (text_order q k)).0 b)))
      (held q n)
      (sym (get-insert nat_list_cmp_total m k v q) ∙ f)

  -- a name that was put, or found no memory
  pub put_named : {A E : Type 0} (r : Result A E) (old new : FinMap text_order (Named X)) (k : List ℕ) (v : Named X) → v.name ≡ k → AreNamed old
      → OnOk r (new ≡ insert old k v) → OnErr r (new ≡ old) → AreNamed new
  put_named (Ok a) old new k v is held ok err = subst AreNamed (sym ok) (insert_named old k v is held)
  put_named (Err e) old new k v is held ok err = subst AreNamed (sym err) held

  gone_named : (b : Bool) (w : Option (Named X)) (n : Named X) → cond b None w ≡ Some n → w ≡ Some n
  gone_named true w n e = let both : None ≡ Some n = e in absurd (cc)
  gone_named false w n e = e

  pub remove_named : (m : FinMap text_order (Named X)) (k : List ℕ) → AreNamed m → AreNamed (remove m k)
  remove_named m k held = λ q n f. held q n (gone_named (eq_by_cmp text_order q k) (get m q) n (sym (get-remove nat_list_cmp_total m k q) ∙ f))

  module _ (m : FinMap text_order (Named X)) (now : FinMap text_order X) (view : with_values value_of m ≡ now) (held : AreNamed m) where
    -- the entries, as a tree shows them
    pub entries_named : {K : Type 0} (bytes : K → List ℕ) (es : List (K × Named X)) → entries m ≡ keyed bytes es → entries now ≡ named_entries es
    entries_named bytes es shown =
        ap entries (sym view) ∙ entries-values nat_list_cmp_total value_of m
        ∙ own_keys nat_list_cmp_total name_of value_of (entries m) (entries_sorted m) (λ k n f. held k n (get-entries m k ∙ f))
        ∙ ap (map named_entry) shown ∙ map-keyed bytes named_entry es

    -- the next name
    pub next_named : (after : Option (List ℕ)) (k : List ℕ) (n : Named X) → IsNext m after (Some k) → get m k ≡ Some n → IsStep m after (Some (k, n))
        → IsNext now after (Some n.name) × IsKeyStep now after (Some n.name)
    next_named after k n least found step =
        let both : FinMap text_order X → List ℕ → Type 0 = λ w q. IsNext w after (Some q) × IsKeyStep w after (Some q) in
        subst (λ q. both now q) (sym (held k n found)) (subst (λ w. both w k) view
        (next-values nat_list_cmp_total value_of m after (Some k) least, step-values nat_list_cmp_total value_of m after (Some k) (n, found, step)))

    pub none_next : (after : Option (List ℕ)) → IsNext m after None → IsStep m after None → IsNext now after None × IsKeyStep now after None
    none_next after least step =
        let both : FinMap text_order X → Type 0 = λ w. IsNext w after None × IsKeyStep w after None in
        subst both view (next-values nat_list_cmp_total value_of m after None least, step-values nat_list_cmp_total value_of m after None step)
