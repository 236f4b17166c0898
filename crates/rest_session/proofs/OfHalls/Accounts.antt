-- What a pass was told, as its lists grow.
use Rattle.std.proofs.Common.{◌≡◌, ℕ, List, [], ◌∷◌, ◌++◌, map, false, true, Option, Some, None, refl, sym, ap, ◌∙◌}
use Rattle.std.specs.Prelude.{IsSome, option_map}
use Rattle.std.proofs.lemmas.List.{map-append}
use Rattle.access_lists.specs.declared.people.Caller.{Caller}
use Rattle.object_ops.specs.declared.ops.Request.{Request}
use Rattle.register.specs.declared.verdicts.Verdict.{Verdict}
use Rattle.service_core.specs.declared.answers.Answer.{Answer}
use Rattle.lane_histories.specs.Histories.{own}
use Rattle.lane_histories.specs.Laws.{RepliesStay}
use Rattle.lane_histories.specs.Legal.{IsPrefix}
use Rattle.lane_histories.specs.Replies.{reply}
use Rattle.lane_histories.specs.declared.items.Entry.{Entry}
use Rattle.hall_rule.specs.Seen.{GrowsFrom, history_of}
use Rattle.hall_rule.specs.WholeTurns.{entry_behind}
use Rattle.service_histories.specs.ArrayServices.{Asked, array_service}
use Rattle.service_histories.specs.PlainSteps.{answer_of}
use Rattle.hall.specs.Answers.{ArrayStart, ArrayView, HasAnswered, asked_by}
use Rattle.hall.specs.ArrayMachines.{lanes_in}
use Rattle.rest_session.specs.Halls.Accounts.{AllAnswered, Lists, Told, told_by, told_of}

-- what is known stays known
known_same : {X Y : Type 0} (f : X → Y) (old new : Option X) → ((x : X) → old ≡ Some x → new ≡ Some x) → IsSome (option_map f old)
    → option_map f new ≡ option_map f old
known_same f None new stays known = absurd (let no : false ≡ true = known in cc)
known_same f (Some x) new stays known = ap (option_map f) (stays x refl)

pub answered_more : (xs ys : List Told) → AllAnswered xs → AllAnswered ys → AllAnswered (xs ++ ys)
answered_more [] ys a b = b
answered_more (x ∷ xs) ys a b = (a.0, answered_more xs ys a.1 b)

pub prefix_of : (n : ℕ) (h g : Lists) → GrowsFrom h g → IsPrefix (history_of (array_service n) g) (history_of (array_service n) h)
prefix_of n h g grows = record { register = grows.register; lane = grows.lanes; keepings = grows.keepings }

module _ (n : ℕ) (stay : RepliesStay (array_service n)) (h g : Lists) (grows : GrowsFrom h g) where
  told_same : (es : List (Entry Asked Verdict)) → AllAnswered (map (told_of n g) es) → map (told_of n h) es ≡ map (told_of n g) es
  told_same [] all = refl
  told_same (e ∷ es) all =
      let here = known_same answer_of (reply (array_service n) (history_of (array_service n) g) e.place) (reply (array_service n) (history_of (array_service n) h) e.place)
      (λ what is. stay (history_of (array_service n) g) (history_of (array_service n) h) e.place what (prefix_of n h g grows) is) all.0 in
      let more = told_same es all.1 in
      (λ i. (e, here i) ∷ more i)

  -- where a pass has no more entries, it was told the same
  pub told_still : (by : ℕ) → own by h.register ≡ own by g.register → AllAnswered (told_by n by g) → told_by n by h ≡ told_by n by g
  told_still by same all = ap (map (told_of n h)) same ∙ told_same (own by g.register) all

  pub told_grows : (by : ℕ) (es : List (Entry Asked Verdict)) → own by h.register ≡ own by g.register ++ es → AllAnswered (told_by n by g)
      → told_by n by h ≡ told_by n by g ++ map (told_of n h) es
  told_grows by es more all =
      ap (map (told_of n h)) more ∙ map-append (told_of n h) (own by g.register) es
      ∙ ap (λ l. l ++ map (told_of n h) es) (told_same (own by g.register) all)

module _ {K : Type 0} (start : ArrayStart K) (v w : ArrayView K) (caller : Caller) (request : Request) (answer : Answer) where
  -- the entry of an `ask`
  abbrev pub entry_of : HasAnswered start caller request answer v w → Entry Asked Verdict
  entry_of a = entry_behind a.asked.before.register v.number (asked_by caller request) a.decided_as

  -- it is told one entry more
  pub told_asked : RepliesStay (array_service (lanes_in start)) → AllAnswered (told_by (lanes_in start) v.number v.seen)
      → (a : HasAnswered start caller request answer v w)
      → told_by (lanes_in start) w.number w.seen ≡ told_by (lanes_in start) v.number v.seen ++ (entry_of a, Some answer.what) ∷ []
  told_asked stay all a =
      let n = lanes_in start in
      let q = a.asked in
      let last : told_of n q.seen (entry_of a) ≡ (entry_of a, Some answer.what) =
      ap (λ o. (entry_of a, o)) (ap (λ p. option_map answer_of (reply (array_service n) (history_of (array_service n) q.seen) p)) (sym q.place_is)
      ∙ ap (option_map answer_of) q.replied ∙ ap Some (sym a.told)) in
      ap (λ u. told_by n u.number u.seen) q.is
      ∙ told_grows n stay q.seen v.seen q.longer v.number (entry_of a ∷ []) q.own_grew all
      ∙ ap (λ t. told_by n v.number v.seen ++ t ∷ []) last
