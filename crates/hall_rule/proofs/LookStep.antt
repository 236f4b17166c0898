-- A look keeps the rule, and takes the turn where it shows the number in hand.
use Rattle.std.proofs.Common.{◌≡◌, ⊎_elim, ℕ, ◌+◌, ◌<◌, ◌≤◌, List, ◌∷◌, set, get_or, length, length-set, cond, Bool, true, false, refl}
use Rattle.std.proofs.Common.{sym, ap, ◌∙◌, subst, arith}
use mathlib.Core.Option.{some, none, some-ne-none, some-injective}
use mathlib.Core.Option as maybe
use mathlib.Core.Logic.{dite}
use native.Mathlib.Decide.{ℕ_discrete, dec_le}
use lib.ListN.{get_elem?}
use Rattle.atomic_table.specs.Table.{step, Act, keeps, takes, stepped, Valid, carried_after, Allows}
use Rattle.atomic_table.proofs.Lists.{set_else}
use Rattle.lane_histories.specs.Services.{Service}
use Rattle.hall_rule.specs.declared.queue.Queue.{Queue}
use Rattle.hall_rule.specs.declared.queue.Queue.TheVariants.{OfRegister, OfDesk}
use Rattle.hall_rule.specs.declared.queue.Claim.{Claim}
use Rattle.hall_rule.specs.declared.view.Start.{Start}
use Rattle.hall_rule.specs.Sums.{total}
use Rattle.hall_rule.specs.Queues.{limit_of, word_of, slot_of, IsQueue, same_queue}
use Rattle.hall_rule.specs.Seen.{len_of, SeenLists}
use Rattle.hall_rule.specs.Machines.{Machines}
use Rattle.hall_rule.specs.Claims.{claim, is_desk, numbers, holds, busy}
use Rattle.hall_rule.specs.Standing.{HallSlot}
use Rattle.hall_rule.specs.Rule.{next_of, AreAtHome, IsViewOf, FollowsRule, HallView, HallState, HallHand, seeing}
use Rattle.hall_rule.specs.Steps.{HasCounted, HasLookedAt, HasLooked, HasLearnt, HasSpared}
use Rattle.hall_rule.proofs.QueueLemmas.{Apart, same_self, same_or_apart}
use Rattle.hall_rule.proofs.SeenLemmas.{own_front, starts_length}
use Rattle.hall_rule.proofs.WordSteps.{same_words}
use Rattle.hall_rule.proofs.ClaimSteps.{claimed_set, claims_stay, turn_free, claims_look}
use Rattle.hall_rule.proofs.FitLemmas.{named_once, names_stay, views_set, same_views, view_seeing, grown}

module _ {service : Service} {M N P E : Type 0} (m : Machines service M N P E) (passes : ℕ) (start : Start M N E) where
  -- a load that changes no view keeps the rule
  pub stays : (s : HallState service M N P E) (i id : ℕ) (v : HallView service M N E) → FollowsRule m passes start s
      → get_elem? s.views id ≡ some v → FollowsRule m passes start
      (record { words = set s.words i (get_or s.words i 0); homes = s.homes; views = set s.views id v })
  stays s i id v r at = subst (λ (x : List ℕ × List (HallView service M N E)). FollowsRule m passes start
      (record { words = x.0; homes = s.homes; views = x.1 })) (λ k. (sym (same_words s.words i) k, sym (same_views s.views id v at) k)) r

  -- the slot is out, and no other turn is taken
  homes_taken : (h : SeenLists service N) (views : List (HallView service M N E)) (homes : List (maybe.Option (HallSlot service M N P)))
      (id : ℕ) (v w : HallView service M N E) (q : Queue) (n : ℕ) (others : List Claim)
      → get_elem? views id ≡ some v → v.claims ≡ claim q n false ∷ others → w.claims ≡ claim q n true ∷ others
      → AreAtHome m start h views homes → AreAtHome m start h (set views id w) (set homes (slot_of q) none)
  homes_taken h views homes id v w q n others at mine new ok = record {
    count = length-set homes (slot_of q) none ∙ ok.count;
    home = λ q' is unheld.
        let e = claimed_set (holds q') views id v w at in
        let f : total (holds q') v.claims ≡ 0 + total (holds q') others = ap (total (holds q')) mine in
        let g : total (holds q') w.claims ≡ cond (same_queue q q') 1 0 + total (holds q') others = ap (total (holds q')) new in
        ⊎_elim
        (λ (same : q ≡ q'). let z : cond {A = ℕ} (same_queue q q') 1 0
        ≡ 1 = ap (λ (b : Bool). cond {A = ℕ} b 1 0) (ap (same_queue q) (sym same) ∙ same_self q) in absurd (omega arith))
        (λ (apart : Apart q q').
        let z : cond {A = ℕ} (same_queue q q') 1 0 ≡ 0 = ap (λ (b : Bool). cond {A = ℕ} b 1 0) apart.differ in
        let old = ok.home q' is (omega arith) in (old.0, set_else homes (slot_of q) (slot_of q') none apart.slots ∙ old.1, old.2))
        (same_or_apart q q');
  }

  pub looks : (slots id : ℕ) (me : HallHand service M N P E) (q : Queue) (n : ℕ) (others : List Claim) → me.0.live ≡ true
      → IsQueue (length start.owners) q → me.0.claims ≡ claim q n false ∷ others → cond (is_desk q) 0 1 + total busy others ≤ 1
      → Allows (FollowsRule m passes start) slots id me (word_of q) (λ n. n) (HasLooked m (step slots (word_of q) 0 0 none) me)
  looks slots id me q n others live is mine room s r deep at views_are =
      dite (ℕ_discrete (get_or s.words (word_of q) 0) n)
      (λ mine_now. dite (dec_le (limit_of q) n)
      (λ late. (
        me.0,
        keeps,
        tt,
        stays s (word_of q) id me.0 r at,
        subst (λ cs. HasLookedAt m cs me (get_or s.words (word_of q) 0) me)
            (sym mine) ((λ e lt. absurd (omega arith)), λ _. refl),
      ))
      (λ early. takes_turn mine_now (omega arith)))
      (λ other. (
        me.0,
        keeps,
        tt,
        stays s (word_of q) id me.0 r at,
        subst (λ cs. HasLookedAt m cs me (get_or s.words (word_of q) 0) me)
            (sym mine) ((λ e lt. absurd (other e)), λ _. refl),
      ))
    where
      takes_turn : get_or s.words (word_of q) 0 ≡ n → n < limit_of q → (w : HallView service M N E) × (a : Act (HallSlot service M N P))
          × Valid s.homes me.1 a × FollowsRule m passes start (stepped s (word_of q) (get_or s.words (word_of q) 0) id me.1 w a)
          × HasLooked m (step slots (word_of q) 0 0 none) me (get_or s.words (word_of q) 0) (w, carried_after me.1 a)
      takes_turn mine_now early =
          let h : SeenLists service N = r.history in
          let here : n ≡ len_of h q = sym mine_now ∙ r.words_show.shows q is in
          let free = turn_free (next_of service r.register_next r.desk_next h) (len_of h) s.views id me.0 q n others at mine here
          r.claims_once in
          let home = r.homes_are.home q is free in
          let claims : List Claim = claim q n true ∷ others in
          let w : HallView service M N E = seeing me.0 claims h in
          let f = r.views_are id me.0 at in
          let register : total (numbers OfRegister) me.0.claims ≡ total (numbers OfRegister) claims =
          ap (total (numbers OfRegister)) mine in
          let desk : total (numbers OfDesk) me.0.claims ≡ total (numbers OfDesk) claims = ap (total (numbers OfDesk)) mine in (
            w,
            takes (slot_of q) home.0,
            home.1,
            subst (λ (ws : List ℕ). FollowsRule m passes start
                (record { words = ws; homes = set s.homes (slot_of q) none; views = set s.views id w }))
                (sym (same_words s.words (word_of q)))
                record {
                  history = h;
                  register_next = r.register_next;
                  desk_next = r.desk_next;
                  words_show = r.words_show;
                  claims_once = claims_look (next_of service r.register_next r.desk_next h) (len_of h) s.views id me.0 w q n others at mine
                      refl here early r.claims_once;
                  names_once = names_stay passes s.views id me.0 w at refl r.names_once;
                  lists_are = r.lists_are;
                  homes_are = homes_taken h s.views s.homes id me.0 w q n others at mine refl r.homes_are;
                  views_are = views_set (IsViewOf m start h) s.views id w (λ j u other there. r.views_are j u there)
                      (view_seeing m start h h me.0 claims live f r.lists_are.legal f.unused
                      (let a = f.one_register in omega arith) (let a = f.one_desk in omega arith) room);
                },
            subst (λ cs. HasLookedAt m cs me (get_or s.words (word_of q) 0) (w, (slot_of q, home.0) ∷ me.1)) (sym mine) (
              (λ e lt. (
                start,
                record {
                  slot = home.0;
                  seen = h;
                  is = refl;
                  grown = grown m start h me.0 live r.lists_are.legal f;
                  stands = home.2;
                  shown = here;
                  early = early;
                  sized = r.lists_are.count;
                  kept =
                      λ q' held. f.current q' (let e : total (holds q') me.0.claims
                      ≡ 0 + total (holds q') others = ap (total (holds q')) mine in omega arith);
                  uncut = λ held. f.uncut (let e : total (holds OfDesk) me.0.claims
                      ≡ 0 + total (holds OfDesk) others = ap (total (holds OfDesk)) mine in omega arith);
                },
              )),
              (λ otherwise. absurd (otherwise (mine_now, early))),
            ),
          )

  -- a look with nothing in hand
  pub counts : (slots id : ℕ) (me : HallHand service M N P E) → me.0.live ≡ true
      → Allows (FollowsRule m passes start) slots id me 2 (λ n. n) (HasCounted (step slots 2 0 0 none) me)
  counts slots id me live s r deep at views_are =
      let begun = starts_length r.history.register me.0.seen.register ((r.views_are id me.0 at).begins live).register in
      let shown = r.words_show.shows OfRegister tt in
      (me.0, keeps, tt, stays s 2 id me.0 r at, (refl, omega arith))

  -- a load before a split: what the rule says of spare numbers holds of what was seen
  pub spares : (slots id : ℕ) (me : HallHand service M N P E) → me.0.live ≡ true
      → Allows (FollowsRule m passes start) slots id me 0 (λ n. n) (HasSpared (step slots 0 0 0 none) me)
  spares slots id me live s r deep at views_are =
      let f = r.views_are id me.0 at in
      let begun = (f.begins live).register in (
        me.0,
        keeps,
        tt,
        stays s 0 id me.0 r at,
        (refl, λ x spare. own_front x r.history.register me.0.seen.register begun (f.unused x live spare)),
      )

  -- the load after a join tells what the hall's lists are, and what the guest had seen of them
  pub learns : (slots id : ℕ) (me : HallHand service M N P E) → me.0.live ≡ true
      → Allows (FollowsRule m passes start) slots id me 0 (λ n. n) (HasLearnt m (step slots 0 0 0 none) me)
  learns slots id me live s r deep at views_are =
      let h : SeenLists service N = r.history in
      let f = r.views_are id me.0 at in
      let w : HallView service M N E = seeing me.0 me.0.claims h in (
        w,
        keeps,
        tt,
        subst (λ (ws : List ℕ). FollowsRule m passes start (record { words = ws; homes = s.homes; views = set s.views id w }))
            (sym (same_words s.words 0))
            record {
              history = h;
              register_next = r.register_next;
              desk_next = r.desk_next;
              words_show = r.words_show;
              claims_once = claims_stay (next_of service r.register_next r.desk_next h) (len_of h) s.views id me.0 w at refl r.claims_once;
              names_once = names_stay passes s.views id me.0 w at refl r.names_once;
              lists_are = r.lists_are;
              homes_are = record {
                count = r.homes_are.count;
                home = λ q is unheld. r.homes_are.home q is (let e = claimed_set (holds q) s.views id me.0 w at in omega arith);
              };
              views_are = views_set (IsViewOf m start h) s.views id w (λ j u other there. r.views_are j u there)
                  (view_seeing m start h h me.0 me.0.claims live f r.lists_are.legal f.unused f.one_register f.one_desk f.one_turn);
            },
        (h, start, refl, grown m start h me.0 live r.lists_are.legal f, λ x. named_once passes s.views id me.0 x at r.names_once),
      )
