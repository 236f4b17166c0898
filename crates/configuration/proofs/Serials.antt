-- The roots of configured domains have the first serials: there are as many as domains.
use Rattle.std.proofs.Common.{◌≡◌, ◌⊎◌, inl, inr, ⊎_elim, ℕ, suc, ◌+◌, ◌<◌, ◌≤◌, Bool, true, false, not, T, cond, List, [], ◌∷◌, length, map, Option, Some, None, Ordering, Less, Equal, Greater, count_by, is_eq, refl, sym, ap, subst, ◌∙◌, arith}
use Rattle.std.specs.Prelude.{filter, Result, Ok, Err, IfOk}
use Rattle.std.specs.Option.{option_map}
use Rattle.std.specs.Ordering.{is_lt, eq_by_cmp, ordering_reverse}
use Rattle.std.specs.Cmp.{Equal-is}
use Rattle.std.specs.Cmp.Lexicographic.{nat_list_cmp_total}
use Rattle.std.specs.FinMap.{entries, entries_sorted, find, get, get-entries, is_sorted}
use Rattle.std.specs.FinMap.Entries.{below_all}
use Rattle.std.proofs.lemmas.Cmp.{tied_itself}
use Rattle.std.proofs.lemmas.List.Sums.{sum_by-cons}
use Rattle.containers.specs.TextMaps.Keyed.{text_order}
use Rattle.containers.proofs.TextMaps.KeyedMaps.{exact_texts}
use Rattle.containers.proofs.TextMaps.Walks.{found_above}
use Rattle.object_ids.specs.IdValues.{Id}
use Rattle.domains.specs.Changes.{domain_count, is_folder_node}
use Rattle.domains.specs.Contents.{Contents}
use Rattle.domains.specs.declared.classes.Node.{Node}
use Rattle.domains.specs.declared.classes.NodeClass.{NodeClass}
use Rattle.domains.specs.declared.classes.NodeClass.TheVariants.{Domain, Folder}
use Rattle.configuration.specs.Catalogues.{catalogue_of}
use Rattle.configuration.specs.ConfiguredNodes.{HasConfigured, HasFirstSerials, Settings, rank_of, ranked_domain}
use Rattle.configuration.proofs.NodeLemmas.{class_configured, configured_told}
use Rattle.containers.proofs.Plain.{halves}

-- ---- ranks

filter_short : {A : Type 0} (p : A → Bool) (xs : List A) → length (filter p xs) ≤ length xs
filter_short p [] = omega arith
filter_short p (x ∷ xs) = go (p x) (filter_short p xs)
  where
    go : (b : Bool) → length (filter p xs) ≤ length xs
        → length (cond b (x ∷ filter p xs) (filter p xs)) ≤ suc (length xs)
    go true le = omega (arith, le)
    go false le = omega (arith, le)

-- how many of some keys stand before a path
abbrev before : {X : Type 0} → List ℕ → List (List ℕ × X) → ℕ
before path es = length (filter (λ other. is_lt (text_order other path)) (map (λ e. e.0) es))

length-keys : {X : Type 0} (es : List (List ℕ × X)) → length (map (λ e. e.0) es) ≡ length es
length-keys [] = refl
length-keys (e ∷ es) = ap suc (length-keys es)

-- a path doesn't stand before itself
rank_below : {X : Type 0} (es : List (List ℕ × X)) (path : List ℕ) (x : X) → find text_order path es ≡ Some x
    → before path es < length es
rank_below [] path x found = let bad : None ≡ Some x = found in cc
rank_below (e ∷ es) path x found = go (eq_by_cmp text_order path e.0) refl (rank_below es path x)
  where
    more : (b : Bool) → before path es < length es
        → length (cond b (e.0 ∷ filter (λ other. is_lt (text_order other path)) (map (λ e. e.0) es)) (filter (λ other. is_lt (text_order other path)) (map (λ e. e.0) es))) < suc (length es)
    more true lt = omega (arith, lt)
    more false lt = omega (arith, lt)

    go : (b : Bool) → eq_by_cmp text_order path e.0 ≡ b → (find text_order path es ≡ Some x → before path es < length es)
        → before path (e ∷ es) < length (e ∷ es)
    go true is later =
        let same : path ≡ e.0 = exact_texts path e.0 ((Equal-is (text_order path e.0)).0 is) in
        let itself : is_lt (text_order e.0 path) ≡ false = ap (λ (p : List ℕ). is_lt (text_order e.0 p)) same ∙ ap is_lt (tied_itself nat_list_cmp_total e.0) in
        let short : before path es ≤ length (map (λ d. d.0) es) = filter_short (λ other. is_lt (text_order other path)) (map (λ d. d.0) es) in
        let skipped : before path (e ∷ es) ≡ before path es =
        ap (λ (b : Bool). length (cond b (e.0 ∷ filter (λ other. is_lt (text_order other path)) (map (λ d. d.0) es)) (filter (λ other. is_lt (text_order other path)) (map (λ d. d.0) es)))) itself in
        omega (arith, short, skipped, length-keys es)
    go false is later = more (is_lt (text_order e.0 path))
        (later (sym (ap (λ (b : Bool). cond b (Some e.1) (find text_order path es)) is) ∙ found))

-- ---- counts

-- each of these paths has a node that is no folder
abbrev AreDomains : {X : Type 0} → List (List ℕ × X) → List (List ℕ × Node) → Type 0
AreDomains {X} es nodes = (path : List ℕ) (x : X) → find text_order path es ≡ Some x
    → (node : Node) × (find text_order path nodes ≡ Some node) × (is_folder_node node ≡ false)

find_first : {X : Type 0} (e : List ℕ × X) (es : List (List ℕ × X)) → find text_order e.0 (e ∷ es) ≡ Some e.1
find_first e es = ap (λ r. cond (is_eq r) (Some e.1) (find text_order e.0 es)) (tied_itself nat_list_cmp_total e.0)

-- a path above the first isn't the first
find_above : {X : Type 0} (f : List ℕ × X) (fs : List (List ℕ × X)) (path : List ℕ) → text_order f.0 path ≡ Less
    → find text_order path (f ∷ fs) ≡ find text_order path fs
find_above f fs path lt =
    ap (λ r. cond (is_eq r) (Some f.1) (find text_order path fs)) (nat_list_cmp_total.antisymm path f.0 ∙ ap ordering_reverse lt)

count_more : (p : List ℕ × Node → Bool) (f : List ℕ × Node) (fs : List (List ℕ × Node)) → count_by p fs ≤ count_by p (f ∷ fs)
count_more p f fs =
    let step : count_by p (f ∷ fs) ≡ cond (p f) 1 0 + count_by p fs = sum_by-cons (λ e. cond (p e) 1 0) f fs in
    omega (arith, step)

abbrev no_folder : List ℕ × Node → Bool
no_folder e = not (is_folder_node e.1)

-- in both lists the paths rise, so there are no fewer such nodes than paths
domains_counted : {X : Type 0} (nodes : List (List ℕ × Node)) (es : List (List ℕ × X)) → T (is_sorted text_order nodes) → T (is_sorted text_order es)
    → AreDomains es nodes → length es ≤ count_by no_folder nodes
domains_counted nodes [] risen rising own = omega arith
domains_counted [] (e ∷ es) risen rising own =
    let got = own e.0 e.1 (find_first e es) in
    let bad : None ≡ Some got.0 = got.1 in
    cc
domains_counted {X} (f ∷ fs) (e ∷ es) risen rising own = go (text_order e.0 f.0) refl (domains_counted fs es) (domains_counted fs (e ∷ es))
  where
    got : (node : Node) × (find text_order e.0 (f ∷ fs) ≡ Some node) × (is_folder_node node ≡ false)
    got = own e.0 e.1 (find_first e es)

    -- a path behind the first node has its node behind it
    behind : (path : List ℕ) (x : X) → text_order f.0 path ≡ Less → find text_order path (e ∷ es) ≡ Some x
        → (node : Node) × (find text_order path fs ≡ Some node) × (is_folder_node node ≡ false)
    behind path x lt found = let is = own path x found in (is.0, sym (find_above f fs path lt) ∙ is.1, is.2)

    go : (r : Ordering) → text_order e.0 f.0 ≡ r
        → (T (is_sorted text_order fs) → T (is_sorted text_order es) → AreDomains es fs → length es ≤ count_by no_folder fs)
        → (T (is_sorted text_order fs) → T (is_sorted text_order (e ∷ es)) → AreDomains (e ∷ es) fs → length (e ∷ es) ≤ count_by no_folder fs)
        → length (e ∷ es) ≤ count_by no_folder (f ∷ fs)
    go Less is later same =
        let found : find text_order e.0 fs ≡ Some got.0 = sym (ap (λ r. cond (is_eq r) (Some f.1) (find text_order e.0 fs)) is) ∙ got.1 in
        let above = found_above nat_list_cmp_total f.0 e.0 fs got.0 (halves _ _ risen).0 found in
        let bad : Greater ≡ Less = sym (nat_list_cmp_total.antisymm f.0 e.0 ∙ ap ordering_reverse is) ∙ above in
        cc
    go Equal is later same =
        let one : Some f.1 ≡ Some got.0 = sym (ap (λ r. cond (is_eq r) (Some f.1) (find text_order e.0 fs)) is) ∙ got.1 in
        let node : f.1 ≡ got.0 = cc in
        let first : not (is_folder_node f.1) ≡ true = ap (λ (n : Node). not (is_folder_node n)) node ∙ ap not got.2 in
        let rest = later (halves _ _ risen).1 (halves _ _ rising).1 (λ path x found.
        let above = found_above nat_list_cmp_total e.0 path es x (halves _ _ rising).0 found in
        behind path x (subst (λ (k : List ℕ). text_order k path ≡ Less) (exact_texts e.0 f.0 is) above) (find_above e es path above ∙ found)) in
        let count : count_by no_folder (f ∷ fs) ≡ 1 + count_by no_folder fs = sum_by-cons (λ d. cond (no_folder d) 1 0) f fs ∙ ap (λ (b : Bool). cond b 1 0 + count_by no_folder fs) first in
        omega (arith, rest, count)
    go Greater is later same =
        let lt : text_order f.0 e.0 ≡ Less = nat_list_cmp_total.antisymm f.0 e.0 ∙ ap ordering_reverse is in
        let rest = same (halves _ _ risen).1 rising (λ path x found. at path x lt found (eq_by_cmp text_order path e.0) refl) in
        omega (arith, rest, count_more no_folder f fs)
      where
        at : (path : List ℕ) (x : X) → text_order f.0 e.0 ≡ Less → find text_order path (e ∷ es) ≡ Some x → (b : Bool) → eq_by_cmp text_order path e.0 ≡ b
            → (node : Node) × (find text_order path fs ≡ Some node) × (is_folder_node node ≡ false)
        at path x lt found true is =
            behind path x (subst (λ (k : List ℕ). text_order f.0 k ≡ Less) (sym (exact_texts path e.0 ((Equal-is (text_order path e.0)).0 is))) lt) found
        at path x lt found false is =
            let later = sym (ap (λ (b : Bool). cond b (Some e.1) (find text_order path es)) is) ∙ found in
            behind path x (nat_list_cmp_total.trans f.0 e.0 path lt (found_above nat_list_cmp_total e.0 path es x (halves _ _ rising).0 later)) found

-- ---- roots

configured_serials : (folders domains : Settings) (c : Contents) → HasConfigured folders domains c → HasFirstSerials c
configured_serials folders domains c h path number root at =
    let class = class_configured folders domains c h path number root at in
    let serial : ◌≡◌ {A = ℕ} (rank_of domains path) root.serial = ap serial_in class.2 in
    let below : rank_of domains path < length (entries domains) = rank_below (entries domains) path class.0 (sym (get-entries domains path) ∙ class.1) in
    let counted : length (entries domains) ≤ domain_count c = domains_counted (entries c.nodes) (entries domains) (entries_sorted c.nodes) (entries_sorted domains)
    (λ q setting found. (
      ranked_domain (rank_of domains q) setting,
      sym (get-entries c.nodes q) ∙ h.domain q setting (get-entries domains q ∙ found),
      refl,
    )) in
    omega (arith, serial, below, counted)
  where
    serial_in : Option NodeClass → ℕ
    serial_in None = 0
    serial_in (Some Folder) = 0
    serial_in (Some (Domain n id)) = id.serial

pub first_serials : {E : Type 0} (folders domains : Settings) (r : Result Contents E)
    → IfOk r (λ c. catalogue_of folders domains ≡ Some c) → IfOk r HasFirstSerials
first_serials folders domains (Ok c) is = configured_serials folders domains c (configured_told folders domains c is).1
first_serials folders domains (Err e) is = tt
