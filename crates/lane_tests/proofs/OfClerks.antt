-- What workers keep of their passes while they work.
use Rattle.std.proofs.Common.{◌≡◌, ◌≤◌, ℕ, Bool, false, List, [], ◌∷◌, ◌++◌, length, cond, map, Option, vec_capacity, ap, sym, ◌∙◌, subst}
use Rattle.std.specs.Prelude.{All}
use Rattle.atomic_table.specs.Seated.{TableId}
use Rattle.hall.specs.Answers.{ArrayStart}
use Rattle.hall.specs.Passes.{who}
use Rattle.hall.specs.declared.desk.AtDesk.{Ghosts}
use Rattle.hall.specs.declared.hall.Hall.{Hall}
use Rattle.rest_session.specs.Halls.Accounts.{IsReady}
use Rattle.rest_session.specs.declared.halls.workers.Worker.{Worker}
use Rattle.lane_tests.specs.Crowds.{IsMember}
use Rattle.lane_tests.proofs.CallerLists.{all_both, all_front, all_images, all_last, all_map, all_on, all_two_alone}

module _ {D K F G : Type 0} {g : Ghosts D K} (h : Hall D K) (ws now : List (Worker D F G K g)) where
  members_still : map (λ w. who w.pass) now ≡ map (λ w. who w.pass) ws → All (λ w. IsReady h w.pass) now → All (λ w. IsMember h w.pass) ws → All (λ w. IsMember h w.pass) now
  members_still same ready members =
      let named = λ (w : Worker D F G K g). who w.pass in
      let Alone = λ (t : TableId × Bool × ℕ × List ℕ × List ℕ × Option (ArrayStart K)). length (cond t.1 (t.2 ∷ (t.3 ++ t.4)) []) ≡ 1 in
      let before = all_images Alone named ws (all_on (λ (w : Worker D F G K g). IsMember h w.pass) (λ (w : Worker D F G K g). Alone (named w)) ws (λ w m. m.alone) members) in
      let after = all_map Alone named now (subst (All Alone) (sym same) before) in
      all_both (λ (w : Worker D F G K g). IsReady h w.pass) (λ (w : Worker D F G K g). Alone (named w)) (λ (w : Worker D F G K g). IsMember h w.pass) now
      (λ w r a. record { of_this_hall = r.of_this_hall; alone = a }) ready after

module _ {D K F G : Type 0} {g : Ghosts D K} (h : Hall D K) where
  -- of the workers that are written back
  pub members_written : (ws lent now written : List (Worker D F G K g)) → lent ≡ ws → written ≡ now → map (λ w. who w.pass) now ≡ map (λ w. who w.pass) lent
      → All (λ w. IsReady h w.pass) now → All (λ w. IsMember h w.pass) ws → All (λ w. IsMember h w.pass) written
  members_written ws lent now written lent_is written_is same ready members =
      subst (All (λ (w : Worker D F G K g). IsMember h w.pass)) (sym written_is)
      (members_still h ws now (same ∙ ap (map (λ (w : Worker D F G K g). who w.pass)) lent_is) ready members)

  -- of two, and no others
  pub both_members : (ws : List (Worker D F G K g)) (a b : Worker D F G K g) → ws ≡ ([] ++ a ∷ []) ++ b ∷ [] → IsMember h a.pass → IsMember h b.pass → All (λ w. IsMember h w.pass) ws
  both_members ws a b is = all_two_alone (λ (w : Worker D F G K g). IsMember h w.pass) ws a b is

  pub both_ready : (ws : List (Worker D F G K g)) (a b : Worker D F G K g) → ws ≡ ([] ++ a ∷ []) ++ b ∷ [] → IsReady h a.pass → IsReady h b.pass → All (λ w. IsReady h w.pass) ws
  both_ready ws a b is = all_two_alone (λ (w : Worker D F G K g). IsReady h w.pass) ws a b is

  -- the last, and those before it
  pub last_member : (ws front : List (Worker D F G K g)) (w : Worker D F G K g) → ws ≡ front ++ w ∷ [] → All (λ w. IsMember h w.pass) ws → IsMember h w.pass
  last_member ws front w is all =
      let Ours = λ (w : Worker D F G K g). IsMember h w.pass in
      all_last Ours front w (subst (All Ours) is all)

  pub front_members : (ws front : List (Worker D F G K g)) (w : Worker D F G K g) → ws ≡ front ++ w ∷ [] → All (λ w. IsMember h w.pass) ws → All (λ w. IsMember h w.pass) front
  front_members ws front w is all =
      let Ours = λ (w : Worker D F G K g). IsMember h w.pass in
      all_front Ours front (w ∷ []) (subst (All Ours) is all)

-- that have served no link yet
pub both_new : {D K F G : Type 0} {g : Ghosts D K} (ws : List (Worker D F G K g)) (a b : Worker D F G K g) → ws ≡ ([] ++ a ∷ []) ++ b ∷ []
    → (a.ends.items ≡ []) × (1 ≤ vec_capacity a.ends) × (a.door_failed ≡ false) → (b.ends.items ≡ []) × (1 ≤ vec_capacity b.ends) × (b.door_failed ≡ false)
    → All (λ w. (w.ends.items ≡ []) × (1 ≤ vec_capacity w.ends) × (w.door_failed ≡ false)) ws
both_new {D} {K} {F} {G} {g} ws a b is = all_two_alone (λ (w : Worker D F G K g). (w.ends.items ≡ []) × (1 ≤ vec_capacity w.ends) × (w.door_failed ≡ false)) ws a b is
