-- The entries of a pass, and of those that were joined to it, lie below its front.
use Rattle.std.proofs.Common.{◌≡◌, inl, inr, ⊎_elim, ℕ, suc, ◌+◌, ◌<◌, ◌≤◌, Bool, true, false, cond, List, [], ◌∷◌, ◌++◌, filter, length, max}
use Rattle.std.proofs.Common.{eqb, eq-eqb, refl, sym, ap, ◌∙◌, subst, arith}
use mathlib.Core.Logic.{dite}
use native.Mathlib.Decide.{ℕ_discrete, dec_le}
use Rattle.access_lists.specs.declared.people.Caller.{Caller}
use Rattle.object_ops.specs.declared.ops.Request.{Request}
use Rattle.register.specs.declared.verdicts.Verdict.{Verdict}
use Rattle.service_core.specs.declared.answers.Answer.{Answer}
use Rattle.service_core.specs.Worlds.{State}
use Rattle.lane_histories.specs.Histories.{IsIn, RegisterList, entries, own, places}
use Rattle.lane_histories.specs.Legal.{IsLegalRegister}
use Rattle.lane_histories.specs.Services.{Service}
use Rattle.lane_histories.specs.declared.items.Entry.{Entry}
use Rattle.lane_histories.specs.declared.items.RegisterItem.{RegisterItem}
use Rattle.lane_histories.specs.declared.items.RegisterItem.TheVariants.{Entered, DrawnCut, RegisterCut}
use Rattle.hall_rule.specs.Joins.{HasJoined}
use Rattle.hall_rule.specs.Rule.{AreUnused, given_by_split, head_or_zero, left_by_split, names, tail_of}
use Rattle.hall_rule.specs.Seen.{GrowsFrom}
use Rattle.hall_rule.specs.Sums.{times}
use Rattle.hall_rule.specs.WholeTurns.{entry_behind}
use Rattle.service_histories.specs.ArrayServices.{Asked, array_service}
use Rattle.hall.specs.Answers.{ArrayStart, ArrayView, HasAnswered, asked_by}
use Rattle.hall.specs.ArrayMachines.{lanes_in, machines}
use Rattle.hall.specs.Passes.{HasEnded, TookIn}

in_push : {X : Type 0} (xs : List X) (y x : X) (A : Type 0) → (IsIn xs x → A) → (y ≡ x → A) → IsIn (xs ++ y ∷ []) x → A
in_push [] y x A old new here = ⊎_elim new (λ never. absurd never) here
in_push (z ∷ xs) y x A old new here = ⊎_elim (λ same. old (inl same)) (in_push xs y x A (λ later. old (inr later)) new) here

either_of : (a b : ℕ) (A : Type 0) → (0 < a → A) → (0 < b → A) → 0 < a + b → A
either_of a b A left right some = dite (dec_le 1 a) (λ one. left (omega arith)) (λ no_one. right (omega arith))

-- ---- entries

in_entries : {Q V : Type 0} (items : List (RegisterItem Q V)) (e : Entry Q V) → IsIn items (Entered e) → IsIn (entries items) e
in_entries [] e here = here
in_entries (Entered x ∷ items) e here = ⊎_elim
    (λ (same : Entered x ≡ Entered e). let is : x ≡ e = cc in inl is)
    (λ later. inr (in_entries items e later))
    here
in_entries (DrawnCut number at ∷ items) e here = ⊎_elim (λ (same : DrawnCut number at ≡ Entered e). absurd (cc)) (in_entries items e) here
in_entries (RegisterCut at found ∷ items) e here = ⊎_elim (λ (same : RegisterCut at found ≡ Entered e). absurd (cc)) (in_entries items e) here

past_one : {X : Type 0} (b : Bool) (x : X) (ys : List X) (e : X) → IsIn ys e → IsIn (cond b (x ∷ ys) ys) e
past_one true x ys e later = inr later
past_one false x ys e later = later

here_one : {X : Type 0} (b : Bool) (x : X) (ys : List X) (e : X) → b ≡ true → x ≡ e → IsIn (cond b (x ∷ ys) ys) e
here_one b x ys e is same = subst (λ (t : Bool). IsIn (cond t (x ∷ ys) ys) e) (sym is) (inl same)

-- an entry is one of its own number
in_own : {Q V : Type 0} (es : List (Entry Q V)) (e : Entry Q V) → IsIn es e → IsIn (filter (λ x. eqb x.by e.by) es) e
in_own [] e here = here
in_own {Q} {V} (x ∷ es) e here = ⊎_elim
    (λ (same : x ≡ e). here_one (eqb x.by e.by) x (filter (λ y. eqb y.by e.by) es) e (eq-eqb x.by e.by (ap (λ (z : Entry Q V). z.by) same)) same)
    (λ later. past_one (eqb x.by e.by) x (filter (λ y. eqb y.by e.by) es) e (in_own es e later))
    here

count_entries : {Q V : Type 0} (items : List (RegisterItem Q V)) → places items ≡ length (entries items)
count_entries [] = refl
count_entries (Entered e ∷ items) = ap suc (count_entries items)
count_entries (DrawnCut number at ∷ items) = count_entries items
count_entries (RegisterCut at found ∷ items) = count_entries items

-- the last entry of a list has the last place
last_entry : (s : Service) (d : s.Register) (p n : ℕ) (items : RegisterList s) → IsLegalRegister s d p n items → 0 < places items
    → (e : Entry s.Asked s.Verdict) × IsIn items (Entered e) × (suc e.place ≡ p + places items)
last_entry s d p n [] legal some = absurd (omega arith)
last_entry s d p n (Entered e ∷ items) legal some = dite (dec_le 1 (places items))
    (λ more.
    let later = last_entry s (s.decided d e.asked e.verdict) (suc p) n items legal.1 (omega arith) in
    let at = later.2 in (later.0, inr later.1, omega arith))
    (λ no_more. let at = legal.0.0 in (e, inl refl, omega arith))
last_entry s d p n (DrawnCut number at ∷ items) legal some =
    let later = last_entry s (s.drawn d) p (suc n) items legal.1 some in (later.0, inr later.1, later.2)
last_entry s d p n (RegisterCut at found ∷ items) legal some =
    let later = last_entry s (s.recorded found d) p n items legal.1 some in (later.0, inr later.1, later.2)

-- ---- what lies below

abbrev pub AreBelow : {D : Type 0} → ℕ → ArrayView D → Type 0
AreBelow front v = (x : ℕ) (e : Entry Asked Verdict) → 0 < times x (names v) → IsIn (own x v.seen.register) e → e.place < front

module _ {D : Type 0} where
  pub begun_below : (front : ℕ) (v : ArrayView D) → v.seen.register ≡ [] → AreBelow front v
  begun_below front v empty = λ x e named here. absurd (subst (λ (items : List (RegisterItem Asked Verdict)). IsIn (own x items) e) empty here)

  -- ---- a split

  split_named : (v : ArrayView D) (y : ℕ) (ys : List ℕ) (x : ℕ) → v.live ≡ true → v.spare ≡ y ∷ ys
      → times x (names v) ≡ times x (names (left_by_split v)) + times x (names (given_by_split v))
  split_named v y ys x live spare =
      subst (λ (z : Bool × List ℕ). times x (cond z.0 (v.number ∷ (z.1 ++ v.joined)) [])
      ≡ times x (cond z.0 (v.number ∷ (tail_of z.1 ++ v.joined)) []) + times x (head_or_zero z.1 ∷ []))
      (λ i. (sym live i, sym spare i)) (omega arith)

  pub left_below : (front : ℕ) (v w : ArrayView D) (y : ℕ) (ys : List ℕ) → v.live ≡ true → v.spare ≡ y ∷ ys → w ≡ left_by_split v
      → AreBelow front v → AreBelow front w
  left_below front v w y ys live spare is below = subst (AreBelow front) (sym is)
      (λ x e named here. below x e (let both = split_named v y ys x live spare in omega arith) here)

  pub given_below : (front : ℕ) (v w : ArrayView D) (y : ℕ) (ys : List ℕ) → v.live ≡ true → v.spare ≡ y ∷ ys → w ≡ given_by_split v
      → AreBelow front v → AreBelow front w
  given_below front v w y ys live spare is below = subst (AreBelow front) (sym is)
      (λ x e named here. below x e (let both = split_named v y ys x live spare in omega arith) here)

  -- the number that was given has no entry
  pub given_unused : (v w : ArrayView D) (y : ℕ) (ys : List ℕ) → v.spare ≡ y ∷ ys → w ≡ given_by_split v → AreUnused v
      → own w.number w.seen.register ≡ []
  given_unused v w y ys spare is unused =
      let once : times y (y ∷ ys) ≡ 1 + times y ys = ap (λ (b : Bool). cond b 1 0 + times y ys) (eq-eqb y y refl) in
      let some : 0 < times y v.spare = subst (λ (ns : List ℕ). 0 < times y ns) (sym spare) (omega arith) in
      subst (λ (z : ArrayView D). own z.number z.seen.register ≡ []) (sym is)
      (ap (λ (ns : List ℕ). own (head_or_zero ns) v.seen.register) spare ∙ unused y some)

  -- ---- a join

  module _ {start : ArrayStart D} {v w u : ArrayView D} (j : HasJoined (machines (lanes_in start)) start v w u) where
    now : (x : ℕ) → own x u.seen.register ≡ own x j.seen.register
    now x = ap (λ (z : ArrayView D). own x z.seen.register) j.is

    pub took_mine : TookIn u v
    took_mine = record {
      longer = subst (λ h. GrowsFrom h v.seen) (sym (ap (λ (z : ArrayView D). z.seen) j.is)) j.mine_begin;
      has_names = λ x named. let both = j.both_names x in omega arith;
      no_more = λ x named. now x ∙ j.mine_same x named;
    }

    pub took_theirs : TookIn u w
    took_theirs = record {
      longer = subst (λ h. GrowsFrom h w.seen) (sym (ap (λ (z : ArrayView D). z.seen) j.is)) j.theirs_begin;
      has_names = λ x named. let both = j.both_names x in omega arith;
      no_more = λ x named. now x ∙ j.theirs_same x named;
    }

    pub joined_below : (a b : ℕ) → AreBelow a v → AreBelow b w → AreBelow (max a b) u
    joined_below a b mine theirs = λ x e named here.
        either_of (times x (names v)) (times x (names w)) (e.place < max a b)
        (λ is_mine. let less = mine x e is_mine (subst (λ (es : List (Entry Asked Verdict)). IsIn es e) (now x ∙ j.mine_same x is_mine) here) in
        omega arith)
        (λ is_theirs.
        let less = theirs x e is_theirs (subst (λ (es : List (Entry Asked Verdict)). IsIn es e) (now x ∙ j.theirs_same x is_theirs) here) in
        omega arith)
        (let both = j.both_names x in omega arith)

  -- ---- an ask

  pub asked_below : (start : ArrayStart D) (front : ℕ) (caller : Caller) (request : Request) (answer : Answer) (v w : ArrayView D)
      → HasAnswered start caller request answer v w → front ≤ answer.place → AreBelow front v → AreBelow (answer.place + 1) w
  asked_below start front caller request answer v w h above below = λ x e named here.
      let a = h.asked in
      let new : Entry Asked Verdict = entry_behind a.before.register v.number (asked_by caller request) h.decided_as in
      let mine : 0 < times x (names v) = subst (λ (ns : List ℕ). 0 < times x ns) (ap (λ (z : ArrayView D). names z) a.is) named in
      let seen : own x w.seen.register ≡ own x a.seen.register = ap (λ (z : ArrayView D). own x z.seen.register) a.is in
      dite (ℕ_discrete v.number x)
      (λ own_number.
      let grew : own x a.seen.register ≡ own x v.seen.register ++ new ∷ [] =
      subst (λ (n : ℕ). own n a.seen.register ≡ own n v.seen.register ++ new ∷ []) own_number a.own_grew in
      in_push (own x v.seen.register) new e (e.place < answer.place + 1)
      (λ old. let less = below x e mine old in omega arith)
      (λ (last : new ≡ e).
      let there : answer.place ≡ e.place = a.place_is ∙ ap (λ (z : Entry Asked Verdict). z.place) last in omega arith)
      (subst (λ (es : List (Entry Asked Verdict)). IsIn es e) (seen ∙ grew) here))
      (λ other.
      let less = below x e mine (subst (λ (es : List (Entry Asked Verdict)). IsIn es e) (seen ∙ a.own_others x other mine) here) in
      omega arith)

  -- ---- the end

  pub front_is_last : (start : ArrayStart D) (front : ℕ) (v : ArrayView D) (s : State) → HasEnded start v s → front ≤ places v.seen.register
      → AreBelow front v → front ≡ places v.seen.register
  front_is_last start front v s h most below = dite (dec_le (places v.seen.register) front)
      (λ enough. omega arith)
      (λ fewer.
      let same : places h.seen.register ≡ places v.seen.register =
      count_entries h.seen.register ∙ ap length h.all_seen ∙ sym (count_entries v.seen.register) in
      let last = last_entry (array_service (lanes_in start)) _ 0 0 h.seen.register h.grown.legal.register (omega arith) in
      let there = last.2 in
      let here = in_own (entries v.seen.register) last.0
      (subst (λ (es : List (Entry Asked Verdict)). IsIn es last.0) h.all_seen (in_entries h.seen.register last.0 last.1)) in
      let less = below last.0.by last.0 (h.named last.0 last.1) here in
      absurd (omega arith))
