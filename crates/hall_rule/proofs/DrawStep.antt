-- A draw keeps the rule.
use Rattle.std.proofs.Common.{◌≡◌, ℕ, ◌+◌, ◌%◌, ◌^◌, ◌≤◌, List, ◌∷◌, set, get_or, length, cond, true, false, true≢false, refl, sym, ap, ◌∙◌}
use Rattle.std.proofs.Common.{arith}
use mathlib.Core.Option.{some, none, some-ne-none, some-injective}
use mathlib.Core.Option as maybe
use lib.ListN.{get_elem?}
use Rattle.atomic_table.specs.Table.{step, keeps, Allows}
use Rattle.lane_histories.specs.Services.{Service}
use Rattle.hall_rule.specs.declared.queue.Queue.{Queue}
use Rattle.hall_rule.specs.declared.queue.Queue.TheVariants.{OfRegister, OfDesk, OfLane}
use Rattle.hall_rule.specs.declared.view.View.{View}
use Rattle.hall_rule.specs.declared.view.Start.{Start}
use Rattle.hall_rule.specs.Sums.{total}
use Rattle.hall_rule.specs.Queues.{same_queue}
use Rattle.hall_rule.specs.Seen.{len_of, SeenLists}
use Rattle.hall_rule.specs.Machines.{Machines}
use Rattle.hall_rule.specs.Claims.{claim, numbers, holds}
use Rattle.hall_rule.specs.Standing.{HallSlot}
use Rattle.hall_rule.specs.Rule.{next_of, alive, AreAtHome, IsViewOf, FollowsRule, HallView, HallHand}
use Rattle.hall_rule.specs.Steps.{HasDrawn}
use Rattle.hall_rule.proofs.WordSteps.{words_register_draw, words_desk_draw}
use Rattle.hall_rule.proofs.ClaimSteps.{claimed_set, claims_draw}
use Rattle.hall_rule.proofs.FitLemmas.{names_stay, few_claims, views_set}

next_register : (service : Service) {N : Type 0} (d k : ℕ) (h : SeenLists service N) (q : Queue)
    → next_of service (d + 1) k h q ≡ next_of service d k h q + cond (same_queue OfRegister q) 1 0
next_register service d k h OfRegister = refl
next_register service d k h OfDesk = omega arith
next_register service d k h (OfLane l) = omega arith

next_desk : (service : Service) {N : Type 0} (d k : ℕ) (h : SeenLists service N) (q : Queue)
    → next_of service d (k + 1) h q ≡ next_of service d k h q + cond (same_queue OfDesk q) 1 0
next_desk service d k h OfRegister = omega arith
next_desk service d k h OfDesk = refl
next_desk service d k h (OfLane l) = omega arith

alive_one : {Q V T R N X : Type 0} (v : View Q V T R N X) → v.live ≡ true → alive v ≡ 1
alive_one v live = ap (λ b. cond {A = ℕ} b 1 0) live

module _ {service : Service} {M N P E : Type 0} (m : Machines service M N P E) (start : Start M N E) where
  -- a new number of the register or the desk changes nothing else
  drawn_view : (q : Queue) (n : ℕ) (h : SeenLists service N) (v : HallView service M N E) → v.live ≡ true
      → numbers OfRegister (claim q n false) + total (numbers OfRegister) v.claims ≤ 1
      → numbers OfDesk (claim q n false) + total (numbers OfDesk) v.claims ≤ 1 → IsViewOf m start h v
      → IsViewOf m start h (record v { claims = claim q n false ∷ v.claims })
  drawn_view q n h v live register desk f = let one = alive_one v live in record {
    start_is = f.start_is;
    begins = f.begins;
    legal = f.legal;
    owns = f.owns;
    guest_begins = f.guest_begins;
    guest_owns = f.guest_owns;
    guest_names = f.guest_names;
    unused = f.unused;
    current = λ q' held. f.current q' (omega arith);
    uncut = λ held. f.uncut (omega arith);
    one_register = omega arith;
    one_desk = omega arith;
    one_turn = let turn = f.one_turn in omega arith;
    idle = λ dead. absurd (true≢false (sym live ∙ dead));
  }

module _ {service : Service} {M N P E : Type 0} (m : Machines service M N P E) (passes : ℕ) (start : Start M N E) where
  -- homes stay where no turn is taken or passed
  pub homes_stay : (h : SeenLists service N) (views : List (HallView service M N E)) (homes : List (maybe.Option (HallSlot service M N P)))
      (id : ℕ) (v w : HallView service M N E) → get_elem? views id ≡ some v
      → ((q : Queue) → total (holds q) w.claims ≡ total (holds q) v.claims) → AreAtHome m start h views homes
      → AreAtHome m start h (set views id w) homes
  homes_stay h views homes id v w at same ok = record {
    count = ok.count;
    home = λ q is unheld. ok.home q is (let e = claimed_set (holds q) views id v w at in let f = same q in omega arith);
  }

  pub draws_register : (slots id : ℕ) (me : HallHand service M N P E) → me.0.live ≡ true → total (numbers OfRegister) me.0.claims ≡ 0
      → Allows (FollowsRule m passes start) slots id me 0 (λ n. (n + 1) % 2 ^ 64) (HasDrawn OfRegister (step slots 0 1 0 none) me)
  draws_register slots id me live empty s r deep at views_are =
      let n : ℕ = get_or s.words 0 0 in
      let first : n ≡ r.register_next = r.words_show.register_next_is in
      let few = few_claims OfRegister passes s.views r.names_once (λ i v there. (r.views_are i v there).one_register) in
      let most = r.names_once.few in
      let short = r.lists_are.short OfRegister in
      let all = r.claims_once.register_drawn in
      let w : HallView service M N E = record me.0 { claims = claim OfRegister n false ∷ me.0.claims } in
      let f = r.views_are id me.0 at in (
        w,
        keeps,
        tt,
        record {
          history = r.history;
          register_next = r.register_next + 1;
          desk_next = r.desk_next;
          words_show = words_register_draw (length start.owners) r.register_next r.desk_next r.history s.words r.words_show (omega arith);
          claims_once = claims_draw (next_of service r.register_next r.desk_next r.history)
              (next_of service (r.register_next + 1) r.desk_next r.history) (len_of r.history) s.views id me.0 w OfRegister at
              (ap (λ k. claim OfRegister k false ∷ me.0.claims) first) (next_register service r.register_next r.desk_next r.history)
              r.claims_once;
          names_once = names_stay passes s.views id me.0 w at refl r.names_once;
          lists_are = r.lists_are;
          homes_are = homes_stay r.history s.views s.homes id me.0 w at (λ q. omega arith) r.homes_are;
          views_are = views_set (IsViewOf m start r.history) s.views id w (λ j u other there. r.views_are j u there)
              (drawn_view m start OfRegister n r.history me.0 live (omega arith)
              (let one = f.one_desk in let a = alive_one me.0 live in omega arith) f);
        },
        (refl, refl),
      )

  pub draws_desk : (slots id : ℕ) (me : HallHand service M N P E) → me.0.live ≡ true → total (numbers OfDesk) me.0.claims ≡ 0
      → Allows (FollowsRule m passes start) slots id me 1 (λ n. (n + 1) % 2 ^ 64) (HasDrawn OfDesk (step slots 1 1 0 none) me)
  draws_desk slots id me live empty s r deep at views_are =
      let n : ℕ = get_or s.words 1 0 in
      let first : n ≡ r.desk_next = r.words_show.desk_next_is in
      let few = few_claims OfDesk passes s.views r.names_once (λ i v there. (r.views_are i v there).one_desk) in
      let most = r.names_once.few in
      let short = r.lists_are.short OfDesk in
      let all = r.claims_once.desk_drawn in
      let w : HallView service M N E = record me.0 { claims = claim OfDesk n false ∷ me.0.claims } in
      let f = r.views_are id me.0 at in (
        w,
        keeps,
        tt,
        record {
          history = r.history;
          register_next = r.register_next;
          desk_next = r.desk_next + 1;
          words_show = words_desk_draw (length start.owners) r.register_next r.desk_next r.history s.words r.words_show (omega arith);
          claims_once = claims_draw (next_of service r.register_next r.desk_next r.history)
              (next_of service r.register_next (r.desk_next + 1) r.history) (len_of r.history) s.views id me.0 w OfDesk at
              (ap (λ k. claim OfDesk k false ∷ me.0.claims) first) (next_desk service r.register_next r.desk_next r.history) r.claims_once;
          names_once = names_stay passes s.views id me.0 w at refl r.names_once;
          lists_are = r.lists_are;
          homes_are = homes_stay r.history s.views s.homes id me.0 w at (λ q. omega arith) r.homes_are;
          views_are = views_set (IsViewOf m start r.history) s.views id w (λ j u other there. r.views_are j u there)
              (drawn_view m start OfDesk n r.history me.0 live (let one = f.one_register in let a = alive_one me.0 live in omega arith)
              (omega arith) f);
        },
        (refl, refl),
      )
