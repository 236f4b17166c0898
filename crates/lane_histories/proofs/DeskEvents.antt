-- The journal's appends and settles keep all sound.
use Rattle.std.proofs.Common.{◌≡◌, ℕ, Bool, true, false, [], ◌∷◌, ◌++◌, Option, Some, None, refl, sym, subst, arith}
use Rattle.lane_histories.specs.Services.{Service, World}
use Rattle.lane_histories.specs.Histories.{History, Reach, Keeping}
use Rattle.lane_histories.specs.Legal.{with_keeping}
use Rattle.lane_histories.specs.JournalContents.{JournalContents}
use Rattle.lane_histories.specs.KeptContents.{IsAsFar, IsKeptBatch}
use Rattle.lane_histories.specs.Desks.{Desk, appended, IsKeptDesk}
use Rattle.lane_histories.specs.Core.{Appends, Core, Settles, history, with_desk}
use Rattle.lane_histories.proofs.Lists.{all_both, all_weaker}
use Rattle.lane_histories.proofs.Pushes.{keeping_pushed, keepings_longer}
use Rattle.lane_histories.proofs.Sound.{IsSound, desk_longer}
use Rattle.lane_histories.proofs.Batches.{built_batch, farther_than_cuts}

module _ (s : Service) (j : JournalContents s) (start : World s) where
  -- ---- a batch that is held, or pending

  farther : (a b c : Reach) → IsAsFar b c → IsAsFar a b → IsAsFar a c
  farther a b c more far = let x = more.c in let y = far.c in let z = more.p in let w = far.p in record { c = omega arith; p = omega arith }

  pub batch_on_desk : (h : History s) (desk : Desk s j) (ok : Bool) (batch : j.Content × Reach) → IsKeptDesk s j start h desk
      → IsKeptBatch s j start h desk.own batch.0 batch.1 → IsKeptDesk s j start h (appended ok batch desk)
  batch_on_desk h desk true batch d b = record { keepings = all_weaker _ _ h.keepings (λ k. farther k.own desk.own batch.1 b.far) d.keepings; held = b.tells; cuts = b.cuts; pending = λ x reach is. absurd (never x reach is) }
    where
      never : (x : j.Content) (reach : Reach) → ◌≡◌ {A = Option (j.Content × Reach)} None (Some (x, reach)) → ⊥
      never x reach e = cc
  batch_on_desk h desk false batch d b = record {
    keepings = d.keepings;
    held = d.held;
    cuts = d.cuts;
    pending = λ x reach is. let same = the_batch x reach is in subst (λ (y : j.Content × Reach). IsKeptBatch s j start h desk.own y.0 y.1) same b;
  }
    where
      the_batch : (x : j.Content) (reach : Reach) → ◌≡◌ {A = Option (j.Content × Reach)} (Some batch) (Some (x, reach)) → batch ≡ (x, reach)
      the_batch x reach e = cc

  -- ---- the events

  module _ (core : Core s j) (sound : IsSound s j start core) where
    same_built : (ok : Bool) (batch : j.Content × Reach) → (appended ok batch core.desk).built ≡ core.desk.built
    same_built true batch = refl
    same_built false batch = refl

    desk_sound : (desk : Desk s j) (keeping : Keeping) → desk.built ≡ core.desk.built → IsAsFar keeping.own desk.own
        → IsKeptDesk s j start (history core) desk
        → IsSound s j start (record core { desk = desk; keepings = core.keepings ++ keeping ∷ [] })
    desk_sound desk keeping same far backed =
        let h = history core in
        let legal = keeping_pushed s start h sound.legal keeping in
        record {
          legal = legal;
          seconds = sound.seconds;
          register = sound.register;
          objects = sound.objects;
          backing = record { lanes = λ l. rw same (sound.backing.lanes l); register = λ q is. rw same (sound.backing.register q is) };
          desk = desk_longer s j start h (with_keeping h keeping) legal (keepings_longer s start h sound.legal keeping) desk (all_both _ core.keepings (keeping ∷ []) backed.keepings (far, tt)) backed;
        }

    with_desk_sound : (ok : Bool) (batch : j.Content × Reach) (before after moment end owed : ℕ)
        → IsKeptBatch s j start (history core) core.desk.own batch.0 batch.1
        → IsSound s j start (with_desk core ok batch before after moment end owed)
    with_desk_sound ok batch before after moment end owed b = desk_sound (appended ok batch core.desk) _ (same_built ok batch) (record { c = omega arith; p = omega arith }) (batch_on_desk (history core) core.desk ok batch sound.desk b)

    pub append_sound : (ok : Bool) (before after moment : ℕ) (new : Core s j) → Appends ok before after moment core new
        → IsSound s j start new
    append_sound ok before after moment new a =
        let h = history core in
        let far = farther_than_cuts s j start h sound.legal core.desk.built core.torn sound.backing a.reach a.cut.cut a.register a.whole core.desk.own sound.desk.cuts a.cut.last in
        let batch = built_batch s j start h sound.legal core.desk.built core.torn sound.backing a.reach a.cut.cut a.register a.whole core.desk.own far in
        subst (IsSound s j start) (sym a.new_is) (with_desk_sound ok (core.desk.built, a.reach) before after moment a.end a.owed batch)

    pub settle_sound : (ok : Bool) (before after moment : ℕ) (new : Core s j) → Settles ok before after moment core new
        → IsSound s j start new
    settle_sound ok before after moment new a =
        subst (IsSound s j start) (sym a.new_is) (with_desk_sound ok a.batch before after moment a.end a.owed (sound.desk.pending a.batch.0 a.batch.1 a.pending))
