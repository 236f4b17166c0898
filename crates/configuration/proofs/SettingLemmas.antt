-- Settings, and the maps that hold them.
use Rattle.std.proofs.Common.{is_eq, ◌<◌, ◌≤◌, Ordering, Less, Equal, Greater, String, Global, string_bytes, max, arith, ◌≡◌, ℕ, ◌+◌, Bool, true, false, ◌==◌, cond, List, [], ◌∷◌, length, Option, Some, None, option_map, refl, sym, ap, subst, ◌∙◌}
use Rattle.std.specs.Option.{option_and_then}
use Rattle.std.specs.FinMap.{FinMap, empty, get, insert, len, len-empty, get-insert, same_map}
use Rattle.std.specs.Cmp.Lexicographic.{nat_list_cmp_total}
use Rattle.containers.proofs.TextMaps.KeyedMaps.{exact_texts}
use Rattle.std.specs.BTreeMap.{insert_entry}
use Rattle.std.specs.Map.{remove_entry}
use Rattle.std.specs.Ordering.{match_ordering}
use Rattle.std.specs.String.{string_cmp}
use Rattle.containers.specs.TextMaps.Keyed.{text_order, keyed, map_of}
use Rattle.object_ids.specs.Paths.{path_of, root_path}
use Rattle.domains.specs.Contents.{Contents, only_root, with_node}
use Rattle.domains.specs.declared.classes.Node.{Node}
use Rattle.configuration.proofs.TableLemmas.{len-insert-le}
use Rattle.configuration.specs.Catalogues.{ArePaths, domain_node, domain_nodes, folder_node, folder_nodes, with_nodes}
use Rattle.configuration.specs.Settings.{distinct_settings}
use Rattle.configuration.specs.declared.setting.Setting.{Setting}
use Rattle.containers.specs.Options.{only_if}

-- the walk at its end: the map m was made of all keys, of which there are n
pub settings_end : (o : Option (List (List ℕ × Setting))) (m : FinMap text_order Setting) (n : ℕ) → Some m ≡ option_map map_of o → ((es : List (List ℕ × Setting)) → o ≡ Some es → length es ≡ n)
    → option_and_then distinct_settings o ≡ only_if (len m == n) (Some m)
settings_end None m n e size = let f : Some m ≡ None = e in cc
settings_end (Some es) m n e size =
    let f : Some m ≡ Some (map_of es) = e in
    let same : m ≡ map_of es = cc in
    ap (λ (k : ℕ). only_if (len (map_of es) == k) (Some (map_of es))) (size es refl) ∙ ap (λ (x : FinMap text_order Setting). only_if (len x == n) (Some x)) (sym same)

inserted_paths : (o : Ordering) (k : String Global) (v : Setting) (e : String Global × Setting) (es more : List (String Global × Setting))
    → path_of (string_bytes k) ≡ Some (string_bytes k) → ArePaths (keyed string_bytes (e ∷ es)) → ArePaths (keyed string_bytes more)
    → ArePaths (keyed string_bytes (match_ordering o ((k, v) ∷ e ∷ es) ((e.0, v) ∷ es) (e ∷ more)))
inserted_paths Less k v e es more path h m = (path, h)
inserted_paths Equal k v e es more path h m = (h.0, h.1)
inserted_paths Greater k v e es more path h m = (h.0, m)

-- a path more
pub ArePaths-insert : (k : String Global) (v : Setting) (es : List (String Global × Setting)) → path_of (string_bytes k) ≡ Some (string_bytes k) → ArePaths (keyed string_bytes es)
    → ArePaths (keyed string_bytes (insert_entry string_cmp es k v))
ArePaths-insert k v [] path h = (path, tt)
ArePaths-insert k v (e ∷ es) path h = inserted_paths (string_cmp k e.0) k v e es (insert_entry string_cmp es k v) path h (ArePaths-insert k v es path h.1)

removed_paths : (b : Bool) (e : String Global × Setting) (es more : List (String Global × Setting)) → ArePaths (keyed string_bytes (e ∷ es)) → ArePaths (keyed string_bytes more)
    → ArePaths (keyed string_bytes (cond b es (e ∷ more)))
removed_paths true e es more h m = h.1
removed_paths false e es more h m = (h.0, m)

-- a path less
pub ArePaths-remove : (test : String Global → Bool) (es : List (String Global × Setting)) → ArePaths (keyed string_bytes es) → ArePaths (keyed string_bytes (remove_entry test es))
ArePaths-remove test [] h = h
ArePaths-remove test (e ∷ es) h = removed_paths (test e.0) e es (remove_entry test es) h (ArePaths-remove test es h.1)

-- what one entry more makes of a walk over what is left
pub folders_step : (c d : Contents) (es rest : List (String Global × Setting)) (k : String Global) (setting : Setting) → es ≡ (k, setting) ∷ rest → d ≡ with_node c (string_bytes k) (folder_node setting)
    → with_nodes d (folder_nodes (keyed string_bytes rest)) ≡ with_nodes c (folder_nodes (keyed string_bytes es))
folders_step c d es rest k setting is put =
    ap (λ (x : Contents). with_nodes x (folder_nodes (keyed string_bytes rest))) put
    ∙ sym (ap (λ (l : List (String Global × Setting)). with_nodes c (folder_nodes (keyed string_bytes l))) is)

pub raised-next : (n : ℕ) → max n (n + 1) ≡ n + 1
raised-next n = omega arith

pub domains_step : (c d : Contents) (es rest : List (String Global × Setting)) (k : String Global) (setting : Setting) → es ≡ (k, setting) ∷ rest → d ≡ with_node c (string_bytes k) (domain_node c.next setting)
    → with_nodes d (domain_nodes d.next (keyed string_bytes rest)) ≡ with_nodes c (domain_nodes c.next (keyed string_bytes es))
domains_step c d es rest k setting is put =
    let next : d.next ≡ c.next + 1 = ap (λ (x : Contents). x.next) put ∙ raised-next c.next in
    ap (λ (n : ℕ). with_nodes d (domain_nodes n (keyed string_bytes rest))) next
    ∙ ap (λ (x : Contents). with_nodes x (domain_nodes (c.next + 1) (keyed string_bytes rest))) put
    ∙ sym (ap (λ (l : List (String Global × Setting)). with_nodes c (domain_nodes c.next (keyed string_bytes l))) is)

pub paths_left : (es rest : List (String Global × Setting)) (k : String Global) (setting : Setting) → es ≡ (k, setting) ∷ rest → ArePaths (keyed string_bytes es)
    → (path_of (string_bytes k) ≡ Some (string_bytes k)) × ArePaths (keyed string_bytes rest)
paths_left es rest k setting is h = subst (λ (l : List (String Global × Setting)). ArePaths (keyed string_bytes l)) is h

-- folders change no number
pub next-folders : (c : Contents) (es : List (List ℕ × Setting)) → (with_nodes c (folder_nodes es)).next ≡ c.next
next-folders c [] = refl
next-folders c (e ∷ es) = next-folders (with_node c e.0 (folder_node e.1)) es

-- the later of two values at one key stands
pub insert-insert : {V : Type 0} (m : FinMap text_order V) (k : List ℕ) (v w : V) → insert (insert m k v) k w ≡ insert m k w
insert-insert {V} m k v w = same_map nat_list_cmp_total exact_texts _ _ (λ q.
    get-insert nat_list_cmp_total (insert m k v) k w q
    ∙ ap (cond (is_eq (text_order q k)) (Some w)) (get-insert nat_list_cmp_total m k v q)
    ∙ cond_twice (is_eq (text_order q k)) (get m q)
    ∙ sym (get-insert nat_list_cmp_total m k w q))
  where
    cond_twice : (b : Bool) (o : Option V) → cond b (Some w) (cond b (Some v) o) ≡ cond b (Some w) o
    cond_twice true o = refl
    cond_twice false o = refl

-- a catalogue of one node has room
pub one_node : (node : Node) → len (only_root node).nodes < 65536
one_node node =
    let few : len (insert (empty {X = Node} {R = text_order}) root_path node) ≤ len (empty {X = Node} {R = text_order}) + 1 = len-insert-le (empty {X = Node} {R = text_order}) root_path node in
    omega (arith, len-empty text_order Node)
