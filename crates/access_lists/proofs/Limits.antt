-- What holds of a list after an entry is put.
use Rattle.std.proofs.Common.{◌≡◌, ℕ, ◌+◌, ◌<◌, ◌≤◌, ◌↔◌, Bool, true, false, cond, is_some, length, List, Option, Some, None, IsTrue, refl, sym, ap, subst, arith, lt_of_not-le, true≢false, lit<, lit≤, ◌∙◌}
use Rattle.std.specs.Ordering.{eq_by_cmp}
use Rattle.std.specs.Cmp.Lexicographic.{nat_list_cmp_total}
use Rattle.std.specs.FinMap.{empty, get, get-empty, get-insert, insert, len, len-empty, len-insert}
use Rattle.containers.specs.TextMaps.Keyed.{text_order}
use Rattle.std.proofs.lemmas.Map.Text.{is_eq-slice_cmp}
use Rattle.std.proofs.lemmas.Slice.Eq.{bytes_eq-Decides}
use Rattle.object_ids.specs.Names.{is_name}
use Rattle.access_lists.specs.InForce.{Entries}
use Rattle.access_lists.specs.Lists.{IsList}
use Rattle.access_lists.specs.declared.rights.Rights.{Rights}

one_more : (o : Option Rights) (n : ℕ) → (o ≡ None → n < 1024) → n ≤ 1024 → cond (is_some o) n (n + 1) ≤ 1024
one_more None n room most = omega (arith, room refl)
one_more (Some x) n room most = most

insert-fits : (m : Entries) (name : List ℕ) (rights : Rights) → (get m name ≡ None → len m < 1024) → len m ≤ 1024 → len (insert m name rights) ≤ 1024
insert-fits m name rights room most = subst (λ n. n ≤ 1024) (sym (len-insert nat_list_cmp_total m name rights)) (one_more (get m name) (len m) room most)

-- where the list isn't full for a new name, there is room
pub room_left : (full : Bool) (P : Type 0) (n : ℕ) → (IsTrue full ↔ (P × (1024 ≤ n))) → full ≡ false → P → n < 1024
room_left full P n iff is p = lt_of_not-le (λ le. true≢false (sym (iff.1 (p, le)) ∙ is))

IsNamed : List ℕ → Type 0
IsNamed name = is_name (length name) name ≡ true

-- the entry at a name is the one that was put, or was there
named : (m : Entries) (name : List ℕ) (rights : Rights) → IsNamed name → ((q : List ℕ) (e : Rights) → get m q ≡ Some e → IsNamed q)
    → (q : List ℕ) (e : Rights) → get (insert m name rights) q ≡ Some e → IsNamed q
unfolding IsNamed
named m name rights own all q e there = at (eq_by_cmp text_order q name) refl where
  at : (b : Bool) → eq_by_cmp text_order q name ≡ b → is_name (length q) q ≡ true
  at true same = subst (λ (t : List ℕ). is_name (length t) t ≡ true) (sym ((bytes_eq-Decides q name).0 (sym (is_eq-slice_cmp q name) ∙ same))) own
  at false far = all q e (sym (get-insert nat_list_cmp_total m name rights q ∙ ap (λ b. cond b (Some rights) (get m q)) far) ∙ there)

pub put_valid : (m : Entries) (name : List ℕ) (rights : Rights) → IsList m → is_name (length name) name ≡ true → (get m name ≡ None → len m < 1024) → IsList (insert m name rights)
unfolding IsNamed
put_valid m name rights valid own room = record { few = insert-fits m name rights room valid.few; names = named m name rights own valid.names }

pub empty_valid : IsList empty
empty_valid = record {
  few = subst (λ n. n ≤ 1024) (sym (len-empty text_order Rights)) (lit≤ tt);
  names = λ name e there. absurd (true≢false (ap is_some (sym there ∙ get-empty text_order name)));
}

pub one_valid : (name : List ℕ) (rights : Rights) → is_name (length name) name ≡ true → IsList (insert empty name rights)
one_valid name rights own = put_valid empty name rights empty_valid own (λ _. subst (λ n. n < 1024) (sym (len-empty text_order Rights)) (lit< tt))
