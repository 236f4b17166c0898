-- A pass is cut in two, a note is made, two passes are joined; the first and the last state.
use Rattle.std.proofs.Common.{◌≡◌, ◌≢◌, ◌⊎◌, inl, inr, ⊎_elim, ℕ, zero, suc, ◌+◌, ◌-◌, ◌^◌, ◌<◌, ◌≤◌, List, [], ◌∷◌, ◌++◌, map, set, get_or}
use Rattle.std.proofs.Common.{length, length-append, cond, Bool, true, false, true≢false, Some, refl, sym, ap, ◌∙◌, subst, arith}
use mathlib.Core.Option.{some, none, some-ne-none, some-injective}
use mathlib.Core.Option as maybe
use mathlib.Core.Logic.{dite}
use native.Mathlib.Decide.{ℕ_discrete, dec_le}
use lib.ListN.{get_elem?}
use Rattle.atomic_table.specs.Table.{step, Splits, Joins, opening}
use Rattle.atomic_table.proofs.Lists.{at_snoc, set_else}
use Rattle.lane_histories.specs.Services.{Service}
use Rattle.lane_histories.specs.Histories.{IsIn, entries, issued, own, tickets}
use Rattle.lane_histories.specs.declared.items.Entry.{Entry}
use Rattle.lane_histories.specs.declared.items.LaneItem.{LaneItem}
use Rattle.lane_histories.specs.declared.items.RegisterItem.TheVariants.{Entered}
use Rattle.hall_rule.specs.declared.queue.Queue.{Queue}
use Rattle.hall_rule.specs.declared.queue.Queue.TheVariants.{OfRegister, OfDesk, OfLane}
use Rattle.hall_rule.specs.declared.view.Lists.{Lists}
use Rattle.hall_rule.specs.declared.view.View.{View}
use Rattle.hall_rule.specs.declared.view.Start.{Start}
use Rattle.hall_rule.specs.Sums.{total, times, once_below, upward}
use Rattle.hall_rule.specs.Queues.{word_of, slot_of, IsQueue}
use Rattle.hall_rule.specs.Seen.{nothing, lane_of, len_of, SeenLists}
use Rattle.hall_rule.specs.Machines.{Machines, world_of}
use Rattle.hall_rule.specs.Claims.{holds, holds_at, waits}
use Rattle.hall_rule.specs.declared.queue.Claim.{Claim}
use Rattle.hall_rule.specs.Standing.{HallSlot, StandsFor}
use Rattle.hall_rule.specs.Rule.{next_of, names, alive, claimed, AreAtHome, IsViewOf, FollowsRule, HallView, HallState, HallHand}
use Rattle.hall_rule.specs.Rule.{first_view, spent_view, head_or_zero, tail_of, left_by_split, given_by_split, note_of, merged}
use Rattle.hall_rule.specs.Rule.{seeing}
use Rattle.hall_rule.specs.Steps.{HasGrown, HasLearnt}
use Rattle.hall_rule.specs.Joins.{HasJoined}
use Rattle.hall_rule.proofs.Sums.{total_set, total_push, total_only, total_two, total_zero, times_append, times_upward, length_upward, once_no}
use Rattle.hall_rule.proofs.Sums.{once_same, once_yes}
use Rattle.hall_rule.proofs.SeenLemmas.{lane_nothing, length_replicate, begins_refl, entries_same, own_front, own_here, starts_whole}
use Rattle.hall_rule.proofs.ClaimSteps.{claims_stay, claims_new_view, claims_same}
use Rattle.hall_rule.proofs.LegalLemmas.{legal_nothing, seconds_nothing}
use Rattle.hall_rule.proofs.FitLemmas.{alive_named, names_stay, views_set, grown}
use Rattle.hall_rule.proofs.DrawStep.{homes_stay}

either_named : (a b : ℕ) → 0 < a + b → (0 < a) ⊎ (0 < b)
either_named zero b h = inr (omega arith)
either_named (suc a) b h = inl (omega arith)

module _ {Q V T R N X : Type 0} where
  shared_times : (v : View Q V T R N X) (y : ℕ) (ys : List ℕ) (x : ℕ) → v.live ≡ true → v.spare ≡ y ∷ ys
      → times x (names v) ≡ times x (names (left_by_split v)) + times x (names (given_by_split v))
  shared_times v y ys x live spare =
      subst (λ (z : Bool × List ℕ). times x (cond z.0 (v.number ∷ (z.1 ++ v.joined)) [])
      ≡ times x (cond z.0 (v.number ∷ (tail_of z.1 ++ v.joined)) []) + times x (head_or_zero z.1 ∷ []))
      (λ i. (sym live i, sym spare i)) (omega arith)

  shared_length : (v : View Q V T R N X) (y : ℕ) (ys : List ℕ) → v.live ≡ true → v.spare ≡ y ∷ ys
      → length (names v) ≡ length (names (left_by_split v)) + length (names (given_by_split v))
  shared_length v y ys live spare =
      subst (λ (z : Bool × List ℕ). length (cond z.0 (v.number ∷ (z.1 ++ v.joined)) [])
      ≡ length (cond z.0 (v.number ∷ (tail_of z.1 ++ v.joined)) []) + length (head_or_zero z.1 ∷ []))
      (λ i. (sym live i, sym spare i)) (omega arith)

  kept_spare : (v : View Q V T R N X) (y : ℕ) (ys : List ℕ) (x : ℕ) → v.spare ≡ y ∷ ys → times x (tail_of v.spare) ≤ times x v.spare
  kept_spare v y ys x spare = subst (λ z. times x (tail_of z) ≤ times x z) (sym spare) (omega arith)

  pub merged_times : (v w : View Q V T R N X) (x : ℕ) → v.live ≡ true → w.live ≡ true
      → times x (names (merged v w)) ≡ times x (names v) + times x (names w)
  merged_times v w x a b =
      let p = times_append x (v.spare ++ w.spare) ((v.joined ++ w.number ∷ []) ++ w.joined) in
      let q = times_append x v.spare w.spare in
      let r = times_append x (v.joined ++ w.number ∷ []) w.joined in
      let s = times_append x v.joined (w.number ∷ []) in
      let t = times_append x v.spare v.joined in
      let u = times_append x w.spare w.joined in
      subst (λ (z : Bool × Bool). times x (cond z.0 (v.number ∷ ((v.spare ++ w.spare) ++ ((v.joined ++ w.number ∷ []) ++ w.joined))) [])
      ≡ times x (cond z.0 (v.number ∷ (v.spare ++ v.joined)) []) + times x (cond z.1 (w.number ∷ (w.spare ++ w.joined)) []))
      (λ i. (sym a i, sym b i)) (omega arith)

  merged_length : (v w : View Q V T R N X) → v.live ≡ true → w.live ≡ true → length (names (merged v w)) ≡ length (names v) + length (names w)
  merged_length v w a b =
      let p = length-append (v.spare ++ w.spare) ((v.joined ++ w.number ∷ []) ++ w.joined) in
      let q = length-append v.spare w.spare in
      let r = length-append (v.joined ++ w.number ∷ []) w.joined in
      let s = length-append v.joined (w.number ∷ []) in
      let t = length-append v.spare v.joined in
      let u = length-append w.spare w.joined in
      subst (λ (z : Bool × Bool). length (cond z.0 (v.number ∷ ((v.spare ++ w.spare) ++ ((v.joined ++ w.number ∷ []) ++ w.joined))) [])
      ≡ length (cond z.0 (v.number ∷ (v.spare ++ v.joined)) []) + length (cond z.1 (w.number ∷ (w.spare ++ w.joined)) []))
      (λ i. (sym a i, sym b i)) (omega arith)

  no_guests : (v : View Q V T R N X) (x : ℕ) → v.guests ≡ [] → 0 < times x v.guests → ⊥
  no_guests v x empty some_guest = let z : times x v.guests ≡ 0 = ap (times x) empty in omega arith

module _ {service : Service} {M N P E : Type 0} (m : Machines service M N P E) (passes : ℕ) (start : Start M N E) where
  -- a new view with nothing in hand takes no turn
  homes_new_view : (h : SeenLists service N) (views : List (HallView service M N E)) (homes : List (maybe.Option (HallSlot service M N P)))
      (w : HallView service M N E) → w.claims ≡ [] → AreAtHome m start h views homes → AreAtHome m start h (views ++ w ∷ []) homes
  homes_new_view h views homes w empty ok = record {
    count = ok.count;
    home = λ q is unheld. ok.home q is (let e = total_push (λ (u : HallView service M N E). total (holds q) u.claims) views w in
        let s : total (holds q) w.claims ≡ 0 = ap (total (holds q)) empty in omega arith);
  }

  pub splits : (id : ℕ) (v : HallView service M N E) (y : ℕ) (ys : List ℕ) → v.live ≡ true → v.guests ≡ [] → v.spare ≡ y ∷ ys
      → Splits (λ (s : HallState service M N P E). FollowsRule m passes start s) id v (left_by_split v) (given_by_split v)
  splits id v y ys live empty spare s r at =
      let l : HallView service M N E = left_by_split v in
      let w : HallView service M N E = given_by_split v in
      let vs : List (HallView service M N E) = set s.views id l in
      let f = r.views_are id v at in
      let mine : (x : ℕ) → 0 < times x (names v) → own x r.history.register ≡ own x v.seen.register =
      λ x named. ⊎_elim (λ guest. absurd (no_guests v x empty guest)) (λ same. same) (f.owns x named) in record {
        history = r.history;
        register_next = r.register_next;
        desk_next = r.desk_next;
        words_show = r.words_show;
        claims_once = claims_new_view (next_of service r.register_next r.desk_next r.history) (len_of r.history) vs w refl
            (claims_stay (next_of service r.register_next r.desk_next r.history) (len_of r.history) s.views id v l at refl r.claims_once);
        names_once = record {
          few = r.names_once.few;
          named = λ x. let e = total_set (λ (u : HallView service M N E). times x (names u)) s.views id v l at in
              let g = total_push (λ (u : HallView service M N E). times x (names u)) vs w in let c = shared_times v y ys x live spare in
              let d = r.names_once.named x in omega arith;
          all_names = let e = total_set (λ (u : HallView service M N E). length (names u)) s.views id v l at in
              let g = total_push (λ (u : HallView service M N E). length (names u)) vs w in let c = shared_length v y ys live spare in
              let d = r.names_once.all_names in omega arith;
        };
        lists_are = r.lists_are;
        homes_are = homes_new_view r.history vs s.homes w refl
            (homes_stay m passes start r.history s.views s.homes id v l at (λ q. refl) r.homes_are);
        views_are = λ j u there. ⊎_elim
            (λ there'. views_set (IsViewOf m start r.history) s.views id l (λ i z other at'. r.views_are i z at')
            record {
              start_is = f.start_is;
              begins = f.begins;
              legal = f.legal;
              owns = λ x named. inr (mine x (let c = shared_times v y ys x live spare in omega arith));
              guest_begins = f.guest_begins;
              guest_owns = f.guest_owns;
              guest_names = λ x. let z : times x v.guests ≡ 0 = ap (times x) empty in omega arith;
              unused = λ x lives used. f.unused x lives (let c = kept_spare v y ys x spare in omega arith);
              current = f.current;
              uncut = f.uncut;
              one_register = f.one_register;
              one_desk = f.one_desk;
              one_turn = f.one_turn;
              idle = f.idle;
            } j u there')
            (λ (e : w ≡ u). subst (IsViewOf m start r.history) e record {
              start_is = λ _. f.start_is live;
              begins = λ _. f.begins live;
              legal = λ _. f.legal live;
              owns = λ x named. inr (mine x (let c = shared_times v y ys x live spare in omega arith));
              guest_begins = λ _. f.begins live;
              guest_owns = λ x guest. let z : 0 < 0 = guest in absurd (omega arith);
              guest_names = λ x. omega arith;
              unused = λ x _ used. let z : 0 < 0 = used in absurd (omega arith);
              current = λ q held. let z : 0 < 0 = held in absurd (omega arith);
              uncut = λ held. let z : 0 < 0 = held in absurd (omega arith);
              one_register = omega arith;
              one_desk = omega arith;
              one_turn = omega arith;
              idle = λ _. refl;
            })
            (at_snoc vs w u j there);
      }

  -- a view that no pass has, for the note
  pub notes : (id : ℕ) (v : HallView service M N E)
      → Splits (λ (s : HallState service M N P E). FollowsRule m passes start s) id v v (note_of v)
  notes id v s r at =
      let w : HallView service M N E = note_of v in
      let vs : List (HallView service M N E) = set s.views id v in record {
        history = r.history;
        register_next = r.register_next;
        desk_next = r.desk_next;
        words_show = r.words_show;
        claims_once = claims_new_view (next_of service r.register_next r.desk_next r.history) (len_of r.history) vs w refl
            (claims_stay (next_of service r.register_next r.desk_next r.history) (len_of r.history) s.views id v v at refl r.claims_once);
        names_once = let ok = names_stay passes s.views id v v at refl r.names_once in record {
          few = ok.few;
          named = λ x. let g = total_push (λ (u : HallView service M N E). times x (names u)) vs w in let d = ok.named x in omega arith;
          all_names = let g = total_push (λ (u : HallView service M N E). length (names u)) vs w in let d = ok.all_names in omega arith;
        };
        lists_are = r.lists_are;
        homes_are = homes_new_view r.history vs s.homes w refl
            (homes_stay m passes start r.history s.views s.homes id v v at (λ q. refl) r.homes_are);
        views_are = λ j u there. ⊎_elim
            (λ there'. views_set (IsViewOf m start r.history) s.views id v (λ i z other at'. r.views_are i z at') (r.views_are id v at) j u
            there')
            (λ (e : w ≡ u). subst (IsViewOf m start r.history) e record {
              start_is = λ l. absurd (true≢false (sym l));
              begins = λ l. absurd (true≢false (sym l));
              legal = λ l. absurd (true≢false (sym l));
              owns = λ x named. let z : 0 < 0 = named in absurd (omega arith);
              guest_begins = λ l. absurd (true≢false (sym l));
              guest_owns = λ x guest. let z : 0 < 0 = guest in absurd (omega arith);
              guest_names = λ x. omega arith;
              unused = λ x l _. absurd (true≢false (sym l));
              current = λ q held. let z : 0 < 0 = held in absurd (omega arith);
              uncut = λ held. let z : 0 < 0 = held in absurd (omega arith);
              one_register = omega arith;
              one_desk = omega arith;
              one_turn = omega arith;
              idle = λ _. refl;
            })
            (at_snoc vs w u j there);
      }

  pub joins : (id : ℕ) (v : HallView service M N E) (other : ℕ) (w : HallView service M N E) → v.live ≡ true → w.live ≡ true → w.claims ≡ []
      → v.guests ≡ [] → w.guests ≡ [] → Joins (λ (s : HallState service M N P E). FollowsRule m passes start s) id v other w (merged v w)
      spent_view
  joins id v other w live lives bare empty empties s r at apart there =
      let b : HallView service M N E = merged v w in
      let vs : List (HallView service M N E) = set s.views id b in
      let there' : get_elem? s.views other ≡ some w = sym (set_else s.views id other b apart) ∙ there in
      let f = r.views_are id v at in
      let g = r.views_are other w there' in record {
        history = r.history;
        register_next = r.register_next;
        desk_next = r.desk_next;
        words_show = r.words_show;
        claims_once = claims_stay (next_of service r.register_next r.desk_next r.history) (len_of r.history) vs other w spent_view there
            (sym bare) (claims_stay (next_of service r.register_next r.desk_next r.history) (len_of r.history) s.views id v b at refl
            r.claims_once);
        names_once = record {
          few = r.names_once.few;
          named = λ x. let e = total_set (λ (u : HallView service M N E). times x (names u)) s.views id v b at in
              let k = total_set (λ (u : HallView service M N E). times x (names u)) vs other w spent_view there in
              let c = merged_times v w x live lives in let d = r.names_once.named x in omega arith;
          all_names = let e = total_set (λ (u : HallView service M N E). length (names u)) s.views id v b at in
              let k = total_set (λ (u : HallView service M N E). length (names u)) vs other w spent_view there in
              let c = merged_length v w live lives in let d = r.names_once.all_names in omega arith;
        };
        lists_are = r.lists_are;
        homes_are = homes_stay m passes start r.history vs s.homes other w spent_view there (λ q. sym (ap (total (holds q)) bare))
            (homes_stay m passes start r.history s.views s.homes id v b at (λ q. refl) r.homes_are);
        views_are = views_set (IsViewOf m start r.history) vs other spent_view
            (λ j u apart_j. views_set (IsViewOf m start r.history) s.views id b (λ i z _. r.views_are i z)
            record {
              start_is = f.start_is;
              begins = f.begins;
              legal = f.legal;
              owns = λ x named. ⊎_elim
                  (λ mine. ⊎_elim (λ guest. absurd (no_guests v x empty guest)) (λ same. inr same) (f.owns x mine))
                  (λ theirs. inl theirs)
                  (either_named (times x (names v)) (times x (names w)) (let c = merged_times v w x live lives in omega arith));
              guest_begins = λ _. g.begins lives;
              guest_owns = λ x theirs. ⊎_elim (λ guest. absurd (no_guests w x empties guest)) (λ same. same) (g.owns x theirs);
              guest_names = λ x. let c = merged_times v w x live lives in omega arith;
              unused = λ x _ used. ⊎_elim (λ n. f.unused x live n) (λ n. g.unused x lives n)
                  (either_named (times x v.spare) (times x w.spare) (let c = times_append x v.spare w.spare in omega arith));
              current = f.current;
              uncut = f.uncut;
              one_register = f.one_register;
              one_desk = f.one_desk;
              one_turn = f.one_turn;
              idle = f.idle;
            } j u)
            record {
              start_is = λ l. absurd (true≢false (sym l));
              begins = λ l. absurd (true≢false (sym l));
              legal = λ l. absurd (true≢false (sym l));
              owns = λ x named. let z : 0 < 0 = named in absurd (omega arith);
              guest_begins = λ l. absurd (true≢false (sym l));
              guest_owns = λ x guest. let z : 0 < 0 = guest in absurd (omega arith);
              guest_names = λ x. omega arith;
              unused = λ x l _. absurd (true≢false (sym l));
              current = λ q held. let z : 0 < 0 = held in absurd (omega arith);
              uncut = λ held. let z : 0 < 0 = held in absurd (omega arith);
              one_register = omega arith;
              one_desk = omega arith;
              one_turn = omega arith;
              idle = λ _. refl;
            };
      }

len_nothing : (Q V T R : Type 0) {N : Type 0} (owners : List N) (q : Queue)
    → (let h : Lists Q V T R N = nothing owners in len_of h q ≡ 0)
len_nothing Q V T R owners OfRegister = refl
len_nothing Q V T R owners OfDesk = refl
len_nothing Q V T R owners (OfLane l) = ap length (lane_nothing {E = LaneItem T R} (length owners) l)

next_nothing : (service : Service) {N : Type 0} (owners : List N) (q : Queue)
    → (let h : SeenLists service N = nothing owners in next_of service 0 0 h q ≡ 0)
next_nothing service owners OfRegister = refl
next_nothing service owners OfDesk = refl
next_nothing service owners (OfLane l) = refl

at_home : {X : Type 0} (xs : List X) (i : ℕ) (x : X) → get_elem? xs i ≡ some x → get_elem? (map some xs) i ≡ some (some x)
at_home [] i x e = absurd (some-ne-none x (sym e))
at_home (y ∷ xs) zero x e = ap (λ z. some (some z)) (some-injective y x e)
at_home (y ∷ xs) (suc i) x e = at_home xs i x e

length_tickets : {T R : Type 0} (items : List (LaneItem T R)) → length (tickets items) ≡ length items
length_tickets [] = refl
length_tickets (i ∷ items) = ap suc (length_tickets items)

length_homes : {X : Type 0} (xs : List X) → length (map (λ x. let o : maybe.Option X = some x in o) xs) ≡ length xs
length_homes [] = refl
length_homes (x ∷ xs) = ap suc (length_homes xs)

module _ {service : Service} {M N P E : Type 0} (m : Machines service M N P E) (passes : ℕ) (start : Start M N E) where
  -- a hall in which nothing was done
  pub opens : (words : List ℕ) (slots : List (HallSlot service M N P)) → 1 ≤ passes → passes < 2 ^ 32
      → length words ≡ length start.owners + 4 → ((i : ℕ) → get_or words i 0 ≡ 0) → length slots ≡ length start.owners + 2
      → ((q : Queue) → IsQueue (length start.owners) q → (s : HallSlot service M N P) × (get_elem? slots (slot_of q) ≡ some s)
      × StandsFor m q s start (nothing start.owners))
      → FollowsRule m passes start (opening words slots (first_view passes start.owners start))
  opens words slots some_pass few count zeros slot_count stands =
      let owners : List N = start.owners in
      let h : SeenLists service N = nothing owners in
      let first : HallView service M N E = first_view passes owners start in record {
        history = h;
        register_next = 0;
        desk_next = 0;
        words_show = record {
          count = count;
          register_next_is = zeros 0;
          desk_next_is = zeros 1;
          shows = λ q is. zeros (word_of q)
              ∙ sym (len_nothing service.Asked service.Verdict service.Task service.Reply owners q);
        };
        claims_once = claims_same (λ _. 0) (next_of service 0 0 h) (λ _. 0) (len_of h) (first ∷ []) (next_nothing service owners)
            (len_nothing service.Asked service.Verdict service.Task service.Reply owners) record {
              once = λ q k. omega arith;
              turns = λ q. refl;
              early = λ q k held. let z : 0 < 0 = held in absurd (omega arith);
              register_drawn = refl;
              desk_drawn = refl;
            };
        names_once = record {
          few = few;
          named = λ x. let a = times_append x (upward 1 (passes - 1)) [] in let b = times_upward x 1 (passes - 1) in
              let c = times_upward x 0 1 in
              let d : once_below x (1 + (passes - 1)) ≡ once_below x passes =
              ap (once_below x) (let z : 1 + (passes - 1) ≡ passes = omega arith in z) in
              let e = once_no x 0 (omega arith) in
              let f : once_below x (0 + 1) ≡ once_below x 1 = ap (once_below x) (let z : 0 + 1 ≡ 1 = omega arith in z) in omega arith;
          all_names = let a = length-append (upward 1 (passes - 1)) [] in let b = length_upward 1 (passes - 1) in omega arith;
        };
        lists_are = record {
          count = length_replicate (length owners) [];
          was_count = refl;
          legal = legal_nothing service (world_of m start) owners;
          seconds = seconds_nothing service (world_of m start) owners;
          short = λ q. let z = len_nothing service.Asked service.Verdict service.Task service.Reply owners q in omega arith;
          strangers = λ x _. refl;
        };
        homes_are = record {
          count = length_homes slots ∙ slot_count;
          home = λ q is _. let s = stands q is in (s.0, at_home slots (slot_of q) s.0 s.1, s.2);
        };
        views_are = only (IsViewOf m start h) first record {
          start_is = λ _. refl;
          begins = λ _. begins_refl h;
          legal = λ _. legal_nothing service (world_of m start) owners;
          owns = λ x _. inr refl;
          guest_begins = λ _. begins_refl h;
          guest_owns = λ x guest. let z : 0 < 0 = guest in absurd (omega arith);
          guest_names = λ x. omega arith;
          unused = λ x _ _. refl;
          current = λ q held. let z : 0 < 0 = held in absurd (omega arith);
          uncut = λ held. let z : 0 < 0 = held in absurd (omega arith);
          one_register = omega arith;
          one_desk = omega arith;
          one_turn = omega arith;
          idle = λ _. refl;
        };
      }
    where
      only : (F : HallView service M N E → Type 0) (v : HallView service M N E) → F v → (j : ℕ) (u : HallView service M N E)
          → get_elem? (v ∷ []) j ≡ some u → F u
      only F v h zero u e = subst F (some-injective v u e) h
      only F v h (suc j) u e = absurd (some-ne-none u (sym e))

  -- ---- where a pass has every name

  module _ (s : HallState service M N P E) (r : FollowsRule m passes start s) (id : ℕ) (v : HallView service M N E)
      (at : get_elem? s.views id ≡ some v) (whole : length (names v) ≡ passes) where
    abbrev h : SeenLists service N
    h = r.history

    -- the others are spent
    others_spent : (j : ℕ) (u : HallView service M N E) → j ≢ id → get_elem? s.views j ≡ some u → u.live ≡ false
    others_spent j u other there =
        go u.live refl (let a = total_two (λ (z : HallView service M N E). length (names z)) s.views j id u v other there at in
        let b = r.names_once.all_names in let c = alive_named u in omega arith)
      where
        go : (b : Bool) → u.live ≡ b → alive u ≡ 0 → u.live ≡ false
        go true is dead = let z : alive u ≡ 1 = ap (λ t. cond {A = ℕ} t 1 0) is in absurd (omega arith)
        go false is dead = is

    -- each number is one of its names
    all_named : (x : ℕ) → x < passes → 0 < times x (names v)
    all_named x below =
        let only = total_only (λ (z : HallView service M N E). times x (names z)) s.views id v at
        (λ j u other there. ap (λ (b : Bool). times x (cond b (u.number ∷ (u.spare ++ u.joined)) [])) (others_spent j u other there)) in
        let once = r.names_once.named x in
        let one = once_yes x passes below in omega arith

    named_by : (e : Entry service.Asked service.Verdict) → IsIn h.register (Entered e) → 0 < times e.by (names v)
    named_by e here = dite (dec_le passes e.by)
        (λ above. absurd (own_here h.register e here (r.lists_are.strangers e.by above)))
        (λ below. all_named e.by (omega arith))

    -- no entry is there that it hasn't seen
    same_own : v.live ≡ true → v.guests ≡ [] → (x : ℕ) → own x h.register ≡ own x v.seen.register
    same_own live alone x =
        let f = r.views_are id v at in dite (dec_le passes x)
        (λ above. let unknown = r.lists_are.strangers x above in
        unknown ∙ sym (own_front x h.register v.seen.register (f.begins live).register unknown))
        (λ below. ⊎_elim (λ guest. absurd (no_guests v x alone guest)) (λ same. same) (f.owns x (all_named x (omega arith))))

    -- nothing is in hand
    nobody_claims : v.claims ≡ [] → (f : Claim → ℕ) → claimed f s.views ≡ 0
    nobody_claims bare f = total_zero (λ (u : HallView service M N E). total f u.claims) s.views
        (λ j u there. dite (ℕ_discrete j id)
        (λ same. ap (total f) (ap (λ (z : HallView service M N E). z.claims)
        (some-injective u v (sym there ∙ ap (get_elem? s.views) same ∙ at)) ∙ bare))
        (λ other. ap (total f) ((r.views_are j u there).idle (others_spent j u other there))))

    -- so each ticket was passed
    passed_all : v.claims ≡ [] → (l : ℕ) → tickets (lane_of h.lanes l) ≡ issued service l h.register
    passed_all bare l =
        let same : length (lane_of h.lanes l) ≡ length (issued service l h.register) = once_same _ _ (λ n.
        let a = nobody_claims bare (waits (OfLane l) n) in let b = nobody_claims bare (holds_at (OfLane l) n) in
        let c = r.claims_once.once (OfLane l) n in
        let d : once_below n (length (lane_of h.lanes l)) ≡ once_below n (length (issued service l h.register)) = omega arith in d) in
        let many = length_tickets (lane_of h.lanes l) in
        sym (starts_whole (issued service l h.register) (tickets (lane_of h.lanes l)) (r.lists_are.legal.in_order l) (omega arith))

    -- each machine is at home, and stands for its list of one history, which goes on from what the pass has seen
    pub closes : v.live ≡ true → v.claims ≡ [] → v.guests ≡ []
        → (g : SeenLists service N) × HasGrown m start v g
        × (entries g.register ≡ entries v.seen.register)
        × ((e : Entry service.Asked service.Verdict) → IsIn g.register (Entered e) → 0 < times e.by (names v))
        × ((x : ℕ) → length (names v) ≤ x → own x g.register ≡ [])
        × ((l : ℕ) → tickets (lane_of g.lanes l) ≡ issued service l g.register)
        × ((q : Queue) → IsQueue (length start.owners) q → (sl : HallSlot service M N P)
        × (get_elem? s.homes (slot_of q) ≡ some (some sl)) × StandsFor m q sl start g)
    closes live bare alone = (
      h,
      grown m start h v live r.lists_are.legal (r.views_are id v at),
      entries_same h.register v.seen.register ((r.views_are id v at).begins live).register (same_own live alone),
      named_by,
      λ x above. r.lists_are.strangers x (subst (λ n. n ≤ x) whole above),
      passed_all bare,
      λ q is. r.homes_are.home q is (nobody_claims bare (holds q)),
    )

module _ {service : Service} {M N P E : Type 0} (m : Machines service M N P E) (start : Start M N E) where
  -- the load after a join tells what the two had seen
  pub joined_as : (v w : HallView service M N E) (k : ℕ) (me me' : HallHand service M N P E) → v.live ≡ true → w.live ≡ true
      → v.start ≡ Some start → me.0 ≡ merged v w → HasLearnt m (step k k k k none) me k me' → HasJoined m start v w me'.0 × (me'.1 ≡ me.1)
  joined_as v w k me me' live lives begun is told =
      let starts : Some told.1 ≡ Some start = sym told.3.start_is ∙ ap (λ (x : HallView service M N E). x.start) is ∙ begun in
      let same : told.1 ≡ start = cc in
      let g = subst (λ (x : Start M N E × HallView service M N E). HasGrown m x.0 x.1 told.0) (λ i. (same i, is i)) told.3 in
      let apart : (x : ℕ) → times x (names (merged v w)) ≤ 1 =
      λ x. subst (λ (z : HallView service M N E). times x (names z) ≤ 1) is (told.4 x) in
      let now : me'.0 ≡ seeing (merged v w) v.claims told.0 =
      ap (λ (x : HallHand service M N P E). x.0) told.2 ∙ (λ i. seeing (is i) (is i).claims told.0) in (
        record {
          seen = told.0;
          is = now;
          mine_begin = g.begins;
          theirs_begin = g.guest_begins;
          mine_same = λ x named.
              let both = merged_times v w x live lives in
              ⊎_elim (λ (guest : 0 < times x (names w)). let most = apart x in absurd (omega arith)) (λ e. e) (g.owns x (omega arith));
          theirs_same = g.guest_owns;
          legal = g.legal;
          both_names = λ x. ap (λ (z : HallView service M N E). times x (names z)) now ∙ merged_times v w x live lives;
          as_many = ap (λ (z : HallView service M N E). length (names z)) now ∙ merged_length v w live lives;
        },
        ap (λ (x : HallHand service M N P E). x.1) told.2,
      )
