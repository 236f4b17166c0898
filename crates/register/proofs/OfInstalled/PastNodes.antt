-- A key that begins behind those of nodes is in front of no node's.
use Rattle.std.proofs.Common.{◌≡◌, ℕ, ◌≤◌, ◌<◌, true, false, List, [], ◌∷◌, ◌++◌, Less, Equal, Greater, arith}
use Rattle.std.specs.Cmp.{ranks}
use Rattle.std.specs.Ordering.{MatchOrdering, nat_cmp, ordering_then}
use Rattle.std.specs.declared.cmp.Ordering.{Ordering}
use Rattle.std.proofs.lemmas.Bool.Decides.{nat_tests}
use Rattle.containers.specs.TextMaps.Keyed.{text_order}
use Rattle.containers.proofs.TextMaps.Fronts.{said_here, split_more}
use Rattle.flush_journal.specs.Records.{Held, Record}
use Rattle.domains.specs.Contents.{Contents}
use Rattle.register.specs.Installed.Registers.{is_node_key}
use Rattle.register.specs.Installed.Walks.{IsNodeWalk, Roots, is_past_nodes}
use Rattle.register.proofs.OfInstalled.NodeKeys.{front_less}
use Rattle.register.proofs.OfInstalled.NodeWalks.{walk_skip}

no_node : (key : List ℕ) → is_past_nodes key ≡ true → is_node_key key ≡ false
no_node [] past = absurd (let e : false ≡ true = past in cc)
no_node (b ∷ bs) past = grind (arith, nat_tests, past)

up : (b c : ℕ) (r o : Ordering) → MatchOrdering r (b < c) (b ≡ c) (c < b) → ordering_then r o ≡ Less → b ≤ c
up b c Less o below e = omega (arith, below)
up b c Equal o same e = omega (arith, same)
up b c Greater o above e = absurd (let no : Greater ≡ Less = e in cc)

later_past : (key other : List ℕ) → text_order key other ≡ Less → is_past_nodes key ≡ true → is_past_nodes other ≡ true
later_past [] other less past = absurd (let e : false ≡ true = past in cc)
later_past (b ∷ bs) [] less past = absurd (let no : Greater ≡ Less = less in cc)
later_past (b ∷ bs) (c ∷ cs) less past =
    let over : b ≤ c = up b c (nat_cmp b c) (text_order bs cs) (ranks b c) less in
    grind (arith, nat_tests, past, over)

-- a walk that comes to such a key is at its end
pub walk_past : (held : Held) (rest : List Record) (e : Record) (c : Contents) (roots : Roots) → IsNodeWalk held (e ∷ rest) c roots → is_past_nodes e.0 ≡ true → IsNodeWalk held [] c roots
walk_past held [] e c roots w past = walk_skip held [] e c roots w (no_node e.0 past)
walk_past held (f ∷ rest) e c roots w past =
    let next = walk_skip held (f ∷ rest) e c roots w (no_node e.0 past) in
    let less : text_order e.0 f.0 ≡ Less =
    front_less held (w.front ++ e ∷ []) rest f (split_more held w.front (f ∷ rest) e w.split) e.0 e.1 (said_here held w.front (f ∷ rest) e w.split) in
    walk_past held rest f c roots next (later_past e.0 f.0 less past)
