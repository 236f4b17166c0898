use Rattle.std.proofs.Common.{◌≡◌, ℕ, ◌+◌, length, vec_len, refl, sym, ap, ◌∙◌, subst, arith}
use Rattle.std.specs.Prelude.{All}
use Rattle.lane_tests.specs.Crowds.{IsGiver, IsMember}
use Rattle.lane_tests.specs.declared.halls.crowds.Member.{Member}
use Rattle.lane_tests.proofs.CallerLists.{all_none, all_push}
use Rattle.lane_tests.proofs.halls.crowds.admit_all.Goals as goal

pub admit-member-requires : goal.admit-member-requires
admit-member-requires c =
    let fewer : vec_len c.scripts.scripts ≡ vec_len c.pop.new.self + 1 = omega (arith, c.in-Some.ensures.cases) in
    record { giver = (vec_len c.pop.new.self, subst (λ (m : ℕ). IsGiver c.args.hall.now m c.scripts.pass) fewer c.scripts.invariant.giver) }

pub scripts-init : goal.scripts-init
scripts-init c =
    let Ours = λ (m : Member). IsMember c.args.hall.now m.pass in
    let room = c.requires.room in record {
      giver = c.requires.giver;
      members = subst (All Ours) (sym room.0) (all_none Ours);
      count = let none = room.0 in omega (arith, c.args.members.now.ok.0, ap length none);
      room = refl;
    }

pub scripts-preserved : goal.scripts-preserved
scripts-preserved c =
    let i = c.scripts.invariant in
    let n = vec_len c.pop.new.self in
    let fewer : vec_len c.scripts.scripts ≡ n + 1 = omega (arith, c.in-Some.ensures.cases) in
    let both = c.admit-member.ensures.giver n (subst (λ (m : ℕ). IsGiver c.args.hall.now m c.scripts.pass) fewer i.giver) in
    let more = c.push_reserved.ensures in
    let Ours = λ (m : Member). IsMember c.args.hall.now m.pass in record {
      giver = both.0;
      members = subst (All Ours) (sym more.items) (all_push Ours c.scripts.members.items c.admit-member.result i.members both.1);
      count = let n = i.count in omega (arith, more.len, fewer, n);
      room = more.capacity ∙ i.room;
    }
