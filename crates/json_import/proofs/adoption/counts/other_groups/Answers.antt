use Rattle.std.proofs.Common.{◌≡◌, ◌-◌, true, false, cond, sym, ap, ◌∙◌}
use Rattle.std.specs.Cmp.Lexicographic.{nat_list_cmp_total}
use Rattle.std.specs.FinMap.{contains_key, len, len-remove}
use Rattle.json_import.proofs.adoption.counts.other_groups.Goals as goal

pub returns-then-contains_key : goal.returns-then-contains_key
returns-then-contains_key c =
    let l = c.args.loaded.now in
    let there : contains_key l.groups l.root ≡ true = sym (c.contains_key.ensures ∙ ap (contains_key l.groups) c.text.ensures) ∙ c.if-contains_key.true in
    c.saturating_sub.ensures ∙ ap (λ n. n - 1) c.len-groups.ensures
    ∙ sym (len-remove nat_list_cmp_total l.groups l.root ∙ ap (λ b. cond b (len l.groups - 1) (len l.groups)) there)

pub returns-else-contains_key : goal.returns-else-contains_key
returns-else-contains_key c =
    let l = c.args.loaded.now in
    let gone : contains_key l.groups l.root ≡ false = sym (c.contains_key.ensures ∙ ap (contains_key l.groups) c.text.ensures) ∙ c.if-contains_key.false in
    c.len-groups.ensures
    ∙ sym (len-remove nat_list_cmp_total l.groups l.root ∙ ap (λ b. cond b (len l.groups - 1) (len l.groups)) gone)
