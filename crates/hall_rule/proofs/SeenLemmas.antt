-- How the lists grow, the entries of one pass, and what an item adds.
use Rattle.std.proofs.Common.{◌≡◌, ◌≢◌, ℕ, zero, suc, ◌+◌, ◌<◌, ◌≤◌, List, [], ◌∷◌, ◌++◌, replicate, set, length, length-set, length-append}
use Rattle.std.proofs.Common.{get_or-set_same, get_or-set_other, cond, Bool, true, false, eqb, refl, sym, ap, ◌∙◌, subst, arith}
use Rattle.std.proofs.Common.{append_assoc, eq-eqb, inl, inr, ⊎_elim}
use mathlib.Core.Option.{some, some-ne-none, some-injective}
use mathlib.Core.Logic.{dite}
use native.Mathlib.Decide.{ℕ_discrete}
use lib.ListN.{get_elem?}
use Rattle.atomic_table.proofs.Lists.{at_longer, set_else}
use Rattle.lane_histories.proofs.Lists.{all_both, in_front, nothing_more, starts_itself}
use Rattle.lane_histories.specs.Histories.{IsIn, StartsWith, Ticket, entries, own, ticket_of, tickets}
use Rattle.lane_histories.specs.declared.items.Entry.{Entry}
use Rattle.lane_histories.specs.declared.items.RegisterItem.{RegisterItem}
use Rattle.lane_histories.specs.declared.items.LaneItem.{LaneItem}
use Rattle.lane_histories.specs.declared.items.LaneItem.TheVariants.{Passed, WasCut}
use Rattle.lane_histories.specs.declared.items.RegisterItem.TheVariants.{Entered, DrawnCut, RegisterCut}
use Rattle.hall_rule.specs.declared.queue.Queue.{Queue}
use Rattle.hall_rule.specs.declared.queue.Queue.TheVariants.{OfRegister, OfDesk, OfLane}
use Rattle.hall_rule.specs.declared.view.Lists.{Lists}
use Rattle.hall_rule.specs.Queues.{IsQueue}
use Rattle.hall_rule.specs.Seen.{GrowsBy, IsNoRegisterCut, IsNoLaneCut, GrowsFrom, GrowsUncut, cut_with, nothing, len_of, SameList, lane_of, Item}
use Rattle.hall_rule.specs.Seen.{at_register, at_desk, at_lane, queue_of, is_cut, pushed}
use Rattle.hall_rule.proofs.QueueLemmas.{Apart}

module _ {E : Type 0} where
  pub starts_front : (a b : List E) → StartsWith (a ++ b) a
  starts_front a b = (b, refl)

  pub starts_same : (a b : List E) → a ≡ b → StartsWith a b
  starts_same a b e = subst (StartsWith a) e (starts_itself a)

  pub starts_trans : (a b c : List E) → StartsWith a b → StartsWith b c → StartsWith a c
  starts_trans a b c x y = (y.0 ++ x.0, x.1 ∙ ap (λ l. l ++ x.0) y.1 ∙ append_assoc c y.0 x.0)

  pub starts_at : (a b : List E) (i : ℕ) (x : E) → StartsWith a b → get_elem? b i ≡ some x → get_elem? a i ≡ some x
  starts_at a b i x s at = ap (λ l. get_elem? l i) s.1 ∙ at_longer b s.0 i x at

  pub starts_length : (a b : List E) → StartsWith a b → length b ≤ length a
  starts_length a b s = let e = ap length s.1 ∙ length-append b s.0 in omega arith

  -- a list begins with one item more of what it has there
  pub starts_next : (whole begun : List E) (x : E) → StartsWith whole begun → get_elem? whole (length begun) ≡ some x
      → StartsWith whole (begun ++ x ∷ [])
  starts_next whole begun x s at = go s.0 s.1
    where
      there : (l m : List E) → get_elem? (l ++ m) (length l) ≡ get_elem? m 0
      there [] m = refl
      there (y ∷ l) m = there l m

      go : (more : List E) → whole ≡ begun ++ more → StartsWith whole (begun ++ x ∷ [])
      go [] e = absurd (some-ne-none x (sym at ∙ ap (λ l. get_elem? l (length begun)) e ∙ there begun []))
      go (y ∷ more) e =
          let same : y ≡ x = some-injective y x (sym (there begun (y ∷ more)) ∙ sym (ap (λ l. get_elem? l (length begun)) e) ∙ at) in
          (more, e ∙ ap (λ z. begun ++ z ∷ more) same ∙ sym (append_assoc begun (x ∷ []) more))

  pub empty_of_length : (l : List E) → length l ≡ 0 → l ≡ []
  empty_of_length [] e = refl
  empty_of_length (x ∷ l) e = absurd (omega arith)

  pub front_empty : (a b : List E) → a ++ b ≡ [] → a ≡ []
  front_empty [] b e = refl
  front_empty (x ∷ a) b e = let none = ap length e in absurd (omega arith)

  -- a list that is no longer than its beginning is its beginning
  pub starts_whole : (a b : List E) → StartsWith a b → length a ≡ length b → a ≡ b
  starts_whole a b s same =
      let sum = ap length s.1 ∙ length-append b s.0 in
      s.1 ∙ ap (λ l. b ++ l) (empty_of_length s.0 (omega arith)) ∙ nothing_more b

  pub lane_set_same : (lanes : List (List E)) (lane : ℕ) (l : List E) → lane < length lanes → lane_of (set lanes lane l) lane ≡ l
  lane_set_same lanes lane l lt = get_or-set_same lanes lane l [] lt

  pub lane_set_other : (lanes : List (List E)) (lane other : ℕ) (l : List E) → other ≢ lane
      → lane_of (set lanes lane l) other ≡ lane_of lanes other
  lane_set_other lanes lane other l ne = get_or-set_other lanes lane other l [] ne

  pub lane_nothing : (n lane : ℕ) → lane_of (replicate n []) lane ≡ (let none : List E = [] in none)
  lane_nothing zero lane = refl
  lane_nothing (suc n) zero = refl
  lane_nothing (suc n) (suc lane) = lane_nothing n lane

  pub length_replicate : (n : ℕ) (x : E) → length (replicate n x) ≡ n
  length_replicate zero x = refl
  length_replicate (suc n) x = ap suc (length_replicate n x)

module _ {X : Type 0} (P : X → Type 0) where
  pub grows_all : (xs : List X) → GrowsBy P xs xs
  grows_all xs = ([], sym (nothing_more xs), tt)

  pub grows_one : (xs : List X) (x : X) → P x → GrowsBy P (xs ++ x ∷ []) xs
  grows_one xs x p = (x ∷ [], refl, (p, tt))

  pub grows_trans : (a b c : List X) → GrowsBy P a b → GrowsBy P b c → GrowsBy P a c
  grows_trans a b c x y = (y.0 ++ x.0, x.1 ∙ ap (λ l. l ++ x.0) y.1 ∙ append_assoc c y.0 x.0, all_both P y.0 x.0 y.2 x.2)

  pub grows_same : (a b : List X) → a ≡ b → GrowsBy P a b
  grows_same a b e = subst (GrowsBy P a) e (grows_all a)

module _ {Q V : Type 0} where
  pub own_append : (by : ℕ) (xs ys : List (RegisterItem Q V)) → own by (xs ++ ys) ≡ own by xs ++ own by ys
  own_append by [] ys = refl
  own_append by (Entered e ∷ xs) ys = go (own_append by xs ys) (eqb e.by by)
    where
      go : own by (xs ++ ys) ≡ own by xs ++ own by ys → (b : Bool)
          → cond b (e ∷ own by (xs ++ ys)) (own by (xs ++ ys)) ≡ cond b (e ∷ own by xs) (own by xs) ++ own by ys
      go more true = ap (λ l. e ∷ l) more
      go more false = more
  own_append by (DrawnCut number at ∷ xs) ys = own_append by xs ys
  own_append by (RegisterCut at found ∷ xs) ys = own_append by xs ys

  pub own_push_none : (by : ℕ) (xs : List (RegisterItem Q V)) (e : RegisterItem Q V) → own by (e ∷ []) ≡ []
      → own by (xs ++ e ∷ []) ≡ own by xs
  own_push_none by xs e no_own = own_append by xs (e ∷ []) ∙ ap (λ l. own by xs ++ l) no_own ∙ nothing_more (own by xs)

  -- where a list has no entry of a pass, no beginning of it has one
  pub own_front : (by : ℕ) (xs front : List (RegisterItem Q V)) → StartsWith xs front → own by xs ≡ [] → own by front ≡ []
  own_front by xs front starts no_own =
      front_empty (own by front) (own by starts.0) (sym (own_append by front starts.0) ∙ sym (ap (own by) starts.1) ∙ no_own)

  entries_append : (xs ys : List (RegisterItem Q V)) → entries (xs ++ ys) ≡ entries xs ++ entries ys
  entries_append [] ys = refl
  entries_append (Entered e ∷ xs) ys = ap (λ l. e ∷ l) (entries_append xs ys)
  entries_append (DrawnCut number at ∷ xs) ys = entries_append xs ys
  entries_append (RegisterCut at found ∷ xs) ys = entries_append xs ys

  own_entry : (e : Entry Q V) (xs : List (RegisterItem Q V)) → own e.by (Entered e ∷ xs) ≡ e ∷ own e.by xs
  own_entry e xs = ap (λ (b : Bool). cond b (e ∷ own e.by xs) (own e.by xs)) (eq-eqb e.by e.by refl)

  no_entries : (xs : List (RegisterItem Q V)) → ((by : ℕ) → own by xs ≡ []) → entries xs ≡ []
  no_entries [] no_own = refl
  no_entries (Entered e ∷ xs) no_own = let some = ap length (sym (own_entry e xs) ∙ no_own e.by) in absurd (omega arith)
  no_entries (DrawnCut number at ∷ xs) no_own = no_entries xs no_own
  no_entries (RegisterCut at found ∷ xs) no_own = no_entries xs no_own

  -- a list that has no more entries of any pass than its beginning has no more entries
  pub entries_same : (xs front : List (RegisterItem Q V)) → StartsWith xs front → ((by : ℕ) → own by xs ≡ own by front)
      → entries xs ≡ entries front
  entries_same xs front starts same =
      let more = starts.0 in
      let none : (by : ℕ) → own by more ≡ [] = λ by.
      let sum = ap length (sym (own_append by front more) ∙ sym (ap (own by) starts.1) ∙ same by) in
      let both = length-append (own by front) (own by more) in
      empty_of_length (own by more) (omega arith) in
      ap entries starts.1 ∙ entries_append front more ∙ ap (λ l. entries front ++ l) (no_entries more none) ∙ nothing_more (entries front)

  -- an entry of the list is one of its pass
  pub own_here : (xs : List (RegisterItem Q V)) (e : Entry Q V) → IsIn xs (Entered e) → own e.by xs ≡ [] → ⊥
  own_here [] e here no_own = here
  own_here (Entered x ∷ xs) e here no_own = ⊎_elim
      (λ (same : Entered x ≡ Entered e). let is : x ≡ e = cc in
      let some = ap length (sym (own_entry e xs) ∙ ap (λ (z : Entry Q V). own e.by (Entered z ∷ xs)) (sym is) ∙ no_own) in omega arith)
      (λ later. own_here xs e later (rest_none (eqb x.by e.by) no_own))
      here
    where
      rest_none : (b : Bool) → cond b (x ∷ own e.by xs) (own e.by xs) ≡ [] → own e.by xs ≡ []
      rest_none true none = let some = ap length none in absurd (omega arith)
      rest_none false none = none
  own_here (DrawnCut number at ∷ xs) e here no_own = ⊎_elim (λ (same : DrawnCut number at ≡ Entered e). cc) (λ later. own_here xs e later no_own) here
  own_here (RegisterCut at found ∷ xs) e here no_own = ⊎_elim (λ (same : RegisterCut at found ≡ Entered e). cc) (λ later. own_here xs e later no_own) here

-- ---- tickets that were passed

-- there is one at most
pub one_ticket : {T : Type 0} (here : Bool) (t u : Ticket T) → IsIn {X = Ticket T} (cond here (t ∷ []) []) u → (here ≡ true) × (t ≡ u)
one_ticket true t u is = ⊎_elim (λ same. (refl, same)) (λ never. absurd never) is
one_ticket false t u is = absurd is

module _ {T R : Type 0} where
  pub ticket_in : (items : List (LaneItem T R)) (i : LaneItem T R) → IsIn items i → IsIn (tickets items) (ticket_of i)
  ticket_in [] i here = here
  ticket_in (x ∷ items) i here = ⊎_elim
      (λ same. inl (ap (λ (z : LaneItem T R). ticket_of z) same))
      (λ later. inr (ticket_in items i later))
      here

  tickets_append : (xs ys : List (LaneItem T R)) → tickets (xs ++ ys) ≡ tickets xs ++ tickets ys
  tickets_append [] ys = refl
  tickets_append (x ∷ xs) ys = ap (λ l. ticket_of x ∷ l) (tickets_append xs ys)

  -- they stay so
  pub tickets_longer : (xs front : List (LaneItem T R)) (t : Ticket T) → StartsWith xs front → IsIn (tickets front) t → IsIn (tickets xs) t
  tickets_longer xs front t starts here = subst (λ (ts : List (Ticket T)). IsIn ts t)
      (sym (ap (λ (l : List (LaneItem T R)). tickets l) starts.1 ∙ tickets_append front starts.0)) (in_front (tickets front) (tickets starts.0) t here)

-- ---- the owners as they were at the last cuts

module _ {N : Type 0} where
  set_same : (was were : List N) (lane : ℕ) (owner : N) → get_elem? was lane ≡ get_elem? were lane
      → get_elem? (set was lane owner) lane ≡ get_elem? (set were lane owner) lane
  set_same [] [] lane owner same = refl
  set_same [] (y ∷ were) zero owner same = absurd (some-ne-none y (sym same))
  set_same [] (y ∷ were) (suc lane) owner same = set_same [] were lane owner same
  set_same (x ∷ was) [] zero owner same = absurd (some-ne-none x same)
  set_same (x ∷ was) [] (suc lane) owner same = set_same was [] lane owner same
  set_same (x ∷ was) (y ∷ were) zero owner same = refl
  set_same (x ∷ was) (y ∷ were) (suc lane) owner same = set_same was were lane owner same

  pub there_below : (was : List N) (lane : ℕ) (x : N) → get_elem? was lane ≡ some x → lane < length was
  there_below [] lane x at = absurd (some-ne-none x (sym at))
  there_below (y ∷ was) zero x at = omega arith
  there_below (y ∷ was) (suc lane) x at = let more = there_below was lane x at in omega arith

module _ {T R N : Type 0} where
  -- no other lane's
  cut_other : (was : List N) (lane other : ℕ) (i : LaneItem T R) (owner : N) → other ≢ lane
      → get_elem? (cut_with was lane i owner) other ≡ get_elem? was other
  cut_other was lane other (Passed place part task y) owner ne = refl
  cut_other was lane other (WasCut number at true) owner ne = set_else was lane other owner ne
  cut_other was lane other (WasCut number at false) owner ne = refl

  cut_length : (was : List N) (lane : ℕ) (i : LaneItem T R) (owner : N) → length (cut_with was lane i owner) ≡ length was
  cut_length was lane (Passed place part task y) owner = refl
  cut_length was lane (WasCut number at true) owner = length-set was lane owner
  cut_length was lane (WasCut number at false) owner = refl

  cut_none : (was : List N) (lane : ℕ) (i : LaneItem T R) (owner : N) → IsNoLaneCut i → cut_with was lane i owner ≡ was
  cut_none was lane (Passed place part task y) owner none = refl
  cut_none was lane (WasCut number at found) owner none = absurd (cc)

  -- a lane's is after a cut what it is after the same cut elsewhere
  cut_same : (was were : List N) (lane : ℕ) (i : LaneItem T R) (owner : N) → get_elem? was lane ≡ get_elem? were lane
      → get_elem? (cut_with was lane i owner) lane ≡ get_elem? (cut_with were lane i owner) lane
  cut_same was were lane (Passed place part task y) owner same = same
  cut_same was were lane (WasCut number at true) owner same = set_same was were lane owner same
  cut_same was were lane (WasCut number at false) owner same = same

module _ {Q V T R N : Type 0} where
  pub begins_refl : (h : Lists Q V T R N) → GrowsFrom h h
  begins_refl h = record {
    sized = refl;
    register = starts_itself h.register;
    lanes = λ lane. starts_itself (lane_of h.lanes lane);
    keepings = starts_itself h.keepings;
  }

  pub begins_trans : (a b c : Lists Q V T R N) → GrowsFrom a b → GrowsFrom b c → GrowsFrom a c
  begins_trans a b c x y = record {
    sized = x.sized ∙ y.sized;
    register = starts_trans a.register b.register c.register x.register y.register;
    lanes = λ lane. starts_trans (lane_of a.lanes lane) (lane_of b.lanes lane) (lane_of c.lanes lane) (x.lanes lane) (y.lanes lane);
    keepings = starts_trans a.keepings b.keepings c.keepings x.keepings y.keepings;
  }

  pub begins_nothing : (h : Lists Q V T R N) (owners : List N) → length h.lanes ≡ length owners → GrowsFrom h (nothing owners)
  begins_nothing h owners sized = record {
    sized = sized ∙ sym (length_replicate (length owners) []);
    register = (h.register, refl);
    lanes = λ lane. subst (StartsWith (lane_of h.lanes lane)) (sym (lane_nothing (length owners) lane)) (lane_of h.lanes lane, refl);
    keepings = (h.keepings, refl);
  }

  pub begins_pushed : (h : Lists Q V T R N) (item : Item Q V T R N) → IsQueue (length h.lanes) (queue_of item) → GrowsFrom (pushed h item) h
  begins_pushed h (at_register e) is = record {
    sized = refl;
    register = starts_front h.register (e ∷ []);
    lanes = λ lane. starts_itself
        (lane_of h.lanes lane);
    keepings = starts_itself h.keepings;
  }
  begins_pushed h (at_desk k) is = record {
    sized = refl;
    register = starts_itself h.register;
    lanes = λ lane. starts_itself
        (lane_of h.lanes lane);
    keepings = starts_front h.keepings (k ∷ []);
  }
  begins_pushed h (at_lane lane i owner) is = record {
    sized = length-set h.lanes lane (lane_of h.lanes lane ++ i ∷ []);
    register = starts_itself h.register;
    lanes = λ other. dite (ℕ_discrete other lane)
        (λ e. subst (λ (x : ℕ). StartsWith (lane_of (set h.lanes lane (lane_of h.lanes lane ++ i ∷ [])) x) (lane_of h.lanes x)) (sym e)
        (subst (λ l. StartsWith l (lane_of h.lanes lane)) (sym (lane_set_same h.lanes lane (lane_of h.lanes lane ++ i ∷ []) is))
        (starts_front (lane_of h.lanes lane) (i ∷ []))))
        (λ ne. starts_same _ _ (lane_set_other h.lanes lane other (lane_of h.lanes lane ++ i ∷ []) ne));
    keepings = starts_itself h.keepings;
  }

  -- the other lists stay
  pub pushed_other : (h : Lists Q V T R N) (item : Item Q V T R N) (q : Queue) → Apart (queue_of item) q → SameList q h (pushed h item)
  pushed_other h (at_register e) OfRegister apart = absurd (apart.words refl)
  pushed_other h (at_register e) OfDesk apart = refl
  pushed_other h (at_register e) (OfLane l) apart = (refl, refl)
  pushed_other h (at_desk k) OfRegister apart = refl
  pushed_other h (at_desk k) OfDesk apart = absurd (apart.words refl)
  pushed_other h (at_desk k) (OfLane l) apart = (refl, refl)
  pushed_other h (at_lane lane i owner) OfRegister apart = refl
  pushed_other h (at_lane lane i owner) OfDesk apart = refl
  pushed_other h (at_lane lane i owner) (OfLane l) apart =
      let ne : l ≢ lane = λ e. apart.words (ap (λ x. x + 4) e) in
      (sym (lane_set_other h.lanes lane l (lane_of h.lanes lane ++ i ∷ []) ne), sym (cut_other h.was lane l i owner ne))

  -- as many owners
  pub was_pushed : (h : Lists Q V T R N) (item : Item Q V T R N) → length (pushed h item).was ≡ length h.was
  was_pushed h (at_register e) = refl
  was_pushed h (at_desk k) = refl
  was_pushed h (at_lane lane i owner) = cut_length h.was lane i owner

  pub len_pushed : (h : Lists Q V T R N) (item : Item Q V T R N) → IsQueue (length h.lanes) (queue_of item)
      → len_of (pushed h item) (queue_of item) ≡ len_of h (queue_of item) + 1
  len_pushed h (at_register e) is = length-append h.register (e ∷ [])
  len_pushed h (at_desk k) is = length-append h.keepings (k ∷ [])
  len_pushed h (at_lane lane i owner) is = ap length (lane_set_same h.lanes lane (lane_of h.lanes lane ++ i ∷ []) is)
      ∙ length-append (lane_of h.lanes lane) (i ∷ [])

  pub same_len : (q : Queue) (a b : Lists Q V T R N) → SameList q a b → len_of a q ≡ len_of b q
  same_len OfRegister a b e = ap length e
  same_len OfDesk a b e = ap length e
  same_len (OfLane l) a b e = ap length e.0

  pub same_list_sym : (q : Queue) (a b : Lists Q V T R N) → SameList q a b → SameList q b a
  same_list_sym OfRegister a b e = sym e
  same_list_sym OfDesk a b e = sym e
  same_list_sym (OfLane l) a b e = (sym e.0, sym e.1)

  pub same_list_trans : (q : Queue) (a b c : Lists Q V T R N) → SameList q a b → SameList q b c → SameList q a c
  same_list_trans OfRegister a b c d e = d ∙ e
  same_list_trans OfDesk a b c d e = d ∙ e
  same_list_trans (OfLane l) a b c d e = (d.0 ∙ e.0, d.1 ∙ e.1)

  pub same_list_refl : (q : Queue) (a : Lists Q V T R N) → SameList q a a
  same_list_refl OfRegister a = refl
  same_list_refl OfDesk a = refl
  same_list_refl (OfLane l) a = (refl, refl)

  -- one item more on the same list is the same list
  pub same_pushed : (s h : Lists Q V T R N) (item : Item Q V T R N) → length h.lanes ≡ length s.lanes → IsQueue (length h.lanes) (queue_of item)
      → SameList (queue_of item) s h → SameList (queue_of item) (pushed s item) (pushed h item)
  same_pushed s h (at_register e) sized is same = ap (λ l. l ++ e ∷ []) same
  same_pushed s h (at_desk k) sized is same = ap (λ l. l ++ k ∷ []) same
  same_pushed s h (at_lane lane i owner) sized is same = (
    lane_set_same s.lanes lane (lane_of s.lanes lane ++ i ∷ []) (omega arith) ∙ ap (λ l. l ++ i ∷ []) same.0
        ∙ sym (lane_set_same h.lanes lane (lane_of h.lanes lane ++ i ∷ []) is),
    cut_same s.was h.was lane i owner same.1,
  )

  -- what the pass had seen and the item begin what the hall has after the item
  pub begins_pushed_both : (h s : Lists Q V T R N) (item : Item Q V T R N) → IsQueue (length h.lanes) (queue_of item) → GrowsFrom h s
      → SameList (queue_of item) s h → GrowsFrom (pushed h item) (pushed s item)
  begins_pushed_both h s (at_register e) is b same =
      record { sized = b.sized; register = starts_same _ _ (ap (λ l. l ++ e ∷ []) (sym same)); lanes = b.lanes; keepings = b.keepings }
  begins_pushed_both h s (at_desk k) is b same = record {
    sized = b.sized;
    register = b.register;
    lanes = b.lanes;
    keepings = starts_same _
        _ (ap (λ l. l ++ k ∷ []) (sym same));
  }
  begins_pushed_both h s (at_lane lane i owner) is b same =
      let new : List (LaneItem T R) = lane_of h.lanes lane ++ i ∷ [] in
      let seen : List (LaneItem T R) = lane_of s.lanes lane ++ i ∷ [] in
      let sized = b.sized in record {
        sized = length-set h.lanes lane new ∙ b.sized ∙ sym (length-set s.lanes lane seen);
        register = b.register;
        lanes = λ other. dite (ℕ_discrete other lane)
            (λ e. subst (λ (x : ℕ). StartsWith (lane_of (set h.lanes lane new) x) (lane_of (set s.lanes lane seen) x)) (sym e)
            (starts_same _ _ (sym (same_pushed s h (at_lane lane i owner) b.sized is same).0)))
            (λ ne. subst (λ (x : List (LaneItem T R) × List (LaneItem T R)). StartsWith x.0 x.1)
            (λ k. (sym (lane_set_other h.lanes lane other new ne) k, sym (lane_set_other s.lanes lane other seen ne) k))
            (b.lanes other));
        keepings = b.keepings;
      }

  -- ---- lists that go on without a cut

  pub goes_refl : (h : Lists Q V T R N) → GrowsUncut h h
  goes_refl h = record {
    longer = begins_refl h;
    register = grows_all IsNoRegisterCut h.register;
    lanes = λ lane. grows_all IsNoLaneCut (lane_of h.lanes lane);
    was = refl;
  }

  pub goes_trans : (a b c : Lists Q V T R N) → GrowsUncut a b → GrowsUncut b c → GrowsUncut a c
  goes_trans a b c x y = record {
    longer = begins_trans a b c x.longer y.longer;
    register = grows_trans IsNoRegisterCut a.register b.register c.register x.register y.register;
    lanes = λ lane. grows_trans IsNoLaneCut (lane_of a.lanes lane) (lane_of b.lanes lane) (lane_of c.lanes lane) (x.lanes lane)
        (y.lanes lane);
    was = x.was ∙ y.was;
  }

  pub goes_pushed : (h : Lists Q V T R N) (item : Item Q V T R N) → IsQueue (length h.lanes) (queue_of item) → is_cut item ≡ false
      → GrowsUncut (pushed h item) h
  goes_pushed h (at_register e) is uncut = record {
    longer = begins_pushed h (at_register e) is;
    register = grows_one IsNoRegisterCut h.register e uncut;
    lanes = λ lane. grows_all IsNoLaneCut (lane_of h.lanes lane);
    was = refl;
  }
  goes_pushed h (at_desk k) is uncut = record {
    longer = begins_pushed h (at_desk k) is;
    register = grows_all IsNoRegisterCut h.register;
    lanes = λ lane. grows_all IsNoLaneCut (lane_of h.lanes lane);
    was = refl;
  }
  goes_pushed h (at_lane lane i owner) is uncut = record {
    longer = begins_pushed h (at_lane lane i owner) is;
    register = grows_all IsNoRegisterCut h.register;
    lanes = λ other. dite (ℕ_discrete other lane)
        (λ e. subst (λ (x : ℕ). GrowsBy IsNoLaneCut (lane_of (set h.lanes lane (lane_of h.lanes lane ++ i ∷ [])) x) (lane_of h.lanes x))
        (sym e)
        (subst (λ l. GrowsBy IsNoLaneCut l (lane_of h.lanes lane)) (sym (lane_set_same h.lanes lane (lane_of h.lanes lane ++ i ∷ []) is))
        (grows_one IsNoLaneCut (lane_of h.lanes lane) i uncut)))
        (λ ne. grows_same IsNoLaneCut _ _ (lane_set_other h.lanes lane other (lane_of h.lanes lane ++ i ∷ []) ne));
    was = cut_none h.was lane i owner uncut;
  }

  -- the same item joins both
  pub goes_pushed_both : (h s : Lists Q V T R N) (item : Item Q V T R N) → IsQueue (length h.lanes) (queue_of item) → GrowsUncut h s
      → SameList (queue_of item) s h → GrowsUncut (pushed h item) (pushed s item)
  goes_pushed_both h s (at_register e) is g same = record {
    longer = begins_pushed_both h s (at_register e) is g.longer same;
    register = grows_same IsNoRegisterCut _ _ (ap (λ l. l ++ e ∷ []) (sym same));
    lanes = g.lanes;
    was = g.was;
  }
  goes_pushed_both h s (at_desk k) is g same = record {
    longer = begins_pushed_both h s (at_desk k) is g.longer same;
    register = g.register;
    lanes = g.lanes;
    was = g.was;
  }
  goes_pushed_both h s (at_lane lane i owner) is g same =
      let new : List (LaneItem T R) = lane_of h.lanes lane ++ i ∷ [] in
      let seen : List (LaneItem T R) = lane_of s.lanes lane ++ i ∷ [] in record {
        longer = begins_pushed_both h s (at_lane lane i owner) is g.longer same;
        register = g.register;
        lanes = λ other. dite (ℕ_discrete other lane)
            (λ e. subst (λ (x : ℕ). GrowsBy IsNoLaneCut (lane_of (set h.lanes lane new) x) (lane_of (set s.lanes lane seen) x)) (sym e)
            (grows_same IsNoLaneCut _ _ (sym (same_pushed s h (at_lane lane i owner) g.longer.sized is same).0)))
            (λ ne. subst (λ (x : List (LaneItem T R) × List (LaneItem T R)). GrowsBy IsNoLaneCut x.0 x.1)
            (λ k. (sym (lane_set_other h.lanes lane other new ne) k, sym (lane_set_other s.lanes lane other seen ne) k))
            (g.lanes other));
        was = ap (λ was. cut_with was lane i owner) g.was;
      }
