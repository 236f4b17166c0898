-- The roots among some nodes, which are in the order of their paths.
use Rattle.std.proofs.Common.{◌≡◌, ◌∙◌, ◌⊎◌, ℕ, Bool, true, false, T, cond, List, [], ◌∷◌, Option, Some, None, Ordering, Less, Equal, inl, inr}
use Rattle.std.proofs.Common.{refl, sym, ap, is_eq}
use Rattle.std.specs.Cmp.{Equal-is}
use Rattle.std.specs.List.{cons_option}
use Rattle.std.specs.Ordering.{eq_by_cmp}
use Rattle.std.specs.FinMap.{find, is_sorted}
use Rattle.std.specs.FinMap.Entries.{below_all}
use Rattle.std.specs.Cmp.Lexicographic.{nat_list_cmp_total}
use Rattle.std.proofs.lemmas.Cmp.{tied_itself}
use Rattle.containers.specs.TextMaps.Keyed.{keyed, text_order}
use Rattle.containers.proofs.TextMaps.KeyedMaps.{exact_texts}
use Rattle.containers.proofs.TextMaps.Walks.{found_above}
use Rattle.object_ids.specs.IdValues.{Id}
use Rattle.domains.specs.declared.classes.Node.{Node}
use Rattle.service_core.specs.Journals.Groups.{root_in, roots_in}
use Rattle.containers.proofs.Plain.{halves}

-- the order of keys doesn't matter
pub roots-keyed : {K : Type 0} (bytes : K → List ℕ) (nodes : List (K × Node)) → roots_in (keyed bytes nodes) ≡ roots_in nodes
roots-keyed bytes [] = refl
roots-keyed bytes (e ∷ es) = go (root_in e.1.class) (roots-keyed bytes es)
  where
    go : (o : Option Id) → roots_in (keyed bytes es) ≡ roots_in es
        → cons_option o (roots_in (keyed bytes es)) ≡ cons_option o (roots_in es)
    go None later = later
    go (Some id) later = ap (λ (ids : List Id). id ∷ ids) later

abbrev pub Nodes : Type 0
Nodes = List (List ℕ × Node)

-- the id is one of these
abbrev pub IsAmong : Id → List Id → Type 0
IsAmong id [] = ⊥
IsAmong id (own ∷ ids) = (id ≡ own) ⊎ IsAmong id ids

-- a domain of this root is found among some nodes
pub record HasRoot (nodes : Nodes) (id : Id) : Type 0 where
  pub path : List ℕ
  pub node : Node
  pub found : find text_order path nodes ≡ Some node
  pub root : root_in node.class ≡ Some id

pub head_below : (e : List ℕ × Node) (es : Nodes) → T (is_sorted text_order (e ∷ es)) → T (below_all text_order e.0 es)
head_below e es rising = (halves (below_all text_order e.0 es) (is_sorted text_order es) rising).0

pub tail_rises : (e : List ℕ × Node) (es : Nodes) → T (is_sorted text_order (e ∷ es)) → T (is_sorted text_order es)
tail_rises e es rising = (halves (below_all text_order e.0 es) (is_sorted text_order es) rising).1

-- a node that is found later has another path than the first
pub later_path : (e : List ℕ × Node) (es : Nodes) (path : List ℕ) (node : Node) → T (is_sorted text_order (e ∷ es))
    → find text_order path es ≡ Some node → eq_by_cmp text_order path e.0 ≡ false
later_path e es path node rising found = go (eq_by_cmp text_order path e.0) refl
  where
    above : text_order e.0 path ≡ Less
    above = found_above nat_list_cmp_total e.0 path es node (head_below e es rising) found

    go : (b : Bool) → eq_by_cmp text_order path e.0 ≡ b → b ≡ false
    go false is = refl
    go true is =
        let same : path ≡ e.0 = exact_texts path e.0 ((Equal-is (text_order path e.0)).0 is) in
        let bad : Less ≡ Equal = sym above ∙ ap (text_order e.0) same ∙ tied_itself nat_list_cmp_total e.0 in
        cc

-- it is found among all
pub found_later : (e : List ℕ × Node) (es : Nodes) (path : List ℕ) (node : Node) → T (is_sorted text_order (e ∷ es))
    → find text_order path es ≡ Some node → find text_order path (e ∷ es) ≡ Some node
found_later e es path node rising found =
    ap (λ (b : Bool). cond b (Some e.1) (find text_order path es)) (later_path e es path node rising found) ∙ found

-- and so is the first
pub found_first : (e : List ℕ × Node) (es : Nodes) → find text_order e.0 (e ∷ es) ≡ Some e.1
found_first e es = ap (λ (r : Ordering). cond (is_eq r) (Some e.1) (find text_order e.0 es)) (tied_itself nat_list_cmp_total e.0)

-- the root of each domain is among the roots
pub root_among : (nodes : Nodes) (path : List ℕ) (node : Node) (id : Id) → find text_order path nodes ≡ Some node
    → root_in node.class ≡ Some id → IsAmong id (roots_in nodes)
root_among [] path node id found root = let bad : None ≡ Some node = found in cc
root_among (e ∷ es) path node id found root = go (eq_by_cmp text_order path e.0) found (λ h. root_among es path node id h root)
  where
    behind : (o : Option Id) → IsAmong id (roots_in es) → IsAmong id (cons_option o (roots_in es))
    behind None among = among
    behind (Some own) among = inr among

    here : (o : Option Id) → o ≡ Some id → IsAmong id (cons_option o (roots_in es))
    here None is = let bad : None ≡ Some id = is in cc
    here (Some own) is = let same : own ≡ id = cc in inl (sym same)

    go : (b : Bool) → cond b (Some e.1) (find text_order path es) ≡ Some node
        → (find text_order path es ≡ Some node → IsAmong id (roots_in es)) → IsAmong id (roots_in (e ∷ es))
    go true is later = let same : e.1 ≡ node = cc in here (root_in e.1.class) (ap (λ (n : Node). root_in n.class) same ∙ root)
    go false is later = behind (root_in e.1.class) (later is)

-- each of the roots is that of a domain
pub among_root : (nodes : Nodes) (id : Id) → T (is_sorted text_order nodes) → IsAmong id (roots_in nodes) → HasRoot nodes id
among_root [] id rising among = absurd among
among_root (e ∷ es) id rising among = go (root_in e.1.class) refl among (among_root es id (tail_rises e es rising))
  where
    later : HasRoot es id → HasRoot (e ∷ es) id
    later got = record { path = got.path; node = got.node; found = found_later e es got.path got.node rising got.found; root = got.root }

    go : (o : Option Id) → root_in e.1.class ≡ o → IsAmong id (cons_option o (roots_in es))
        → (IsAmong id (roots_in es) → HasRoot es id) → HasRoot (e ∷ es) id
    go None is among rest = later (rest among)
    go (Some own) is (inl same) rest = record { path = e.0; node = e.1; found = found_first e es; root = is ∙ ap (λ (i : Id). Some i) (sym same) }
    go (Some own) is (inr among) rest = later (rest among)
