-- Member by member.
use Rattle.std.proofs.Common.{◌≡◌, ℕ, List, None, Some, sym, subst, arith}
use Rattle.std.specs.Bool.{MatchBool}
use Rattle.json.specs.Json.{read_key}
use Rattle.json.proofs.Grammar.{read_key-shorter}
use Rattle.json_trees.specs.Begun.{AreMembers}
use Rattle.json_trees.proofs.OfKept.PassLemmas.{a_member, members_passed}
use Rattle.json_trees.proofs.kept.passing.pass_members.Goals as goal

pub members-preserved : goal.members-preserved
members-preserved c =
    let l = c.members in
    let s = c.pass_key.new.reader in
    let named : (key : List ℕ) × (read_key l.reader ≡ Some (Some key, c.pass_key.new.reader)) =
    subst (λ b. MatchBool b ((key : List ℕ) × (read_key l.reader ≡ Some (Some key, c.pass_key.new.reader))) (read_key l.reader ≡ Some (None, c.pass_key.new.reader))) c.if-branch.true c.in_ok-pass_key.ensures in
    record {
      passed = λ rest h.
          let next = a_member l.reader s rest named.0 (l.invariant.passed rest h) named.1 in
          subst (λ ts. AreMembers ts rest) (sym (c.in_ok-pass_value.ensures.passed next.mid next.first)) next.others;
      not_longer = omega (arith, c.in_ok-pass_value.ensures.shorter, read_key-shorter l.reader (Some named.0) s named.1, l.invariant.not_longer);
    }

pub returns-clause-passed : goal.returns-clause-passed
returns-clause-passed c rest h =
    let l = c.members in
    let closed : read_key l.reader ≡ Some (None, c.pass_key.new.reader) =
    subst (λ b. MatchBool b ((key : List ℕ) × (read_key l.reader ≡ Some (Some key, c.pass_key.new.reader))) (read_key l.reader ≡ Some (None, c.pass_key.new.reader))) c.if-branch.false c.in_ok-pass_key.ensures in
    members_passed l.reader rest c.pass_key.new.reader (l.invariant.passed rest h) closed
