-- What is true of a core after any events.
--     BuiltLane      what was cut tells the lane as it was at the last cut that found memory
--     Backing        so of all lanes; and, where the register was cut last, of the catalogue
--     IsSound        all of it
use Rattle.std.proofs.Common.{◌≡◌, ◌⊎◌, inl, inr, ⊎_elim, ℕ, ◌≤◌, ◌<◌, Bool, true, false, [], ◌∷◌, ◌++◌, length, length-append, take, Some, None, refl, sym, ◌∙◌, subst, arith}
use Rattle.std.specs.List.{AllByRecursion}
use Rattle.lane_histories.specs.Services.{Service, World}
use Rattle.lane_histories.specs.Histories.{DrawnCut, LaneItem, WasCut, Reach, History, IsIn, register_after, register_at, objects_after, RegisterList, LaneList}
use Rattle.lane_histories.specs.Legal.{IsPrefix, IsLegal, SecondsFollow}
use Rattle.lane_histories.specs.Kept.{IsBelow}
use Rattle.lane_histories.specs.Cuts.{IsWholeCut, last_cut, IsOfCuts}
use Rattle.lane_histories.specs.JournalContents.{JournalContents, KeepsLane}
use Rattle.lane_histories.specs.KeptContents.{IsAsFar, TellsKept, IsKeptBatch}
use Rattle.lane_histories.specs.Desks.{Desk, IsImage, IsKeptImage, IsKeptDesk}
use Rattle.lane_histories.specs.Core.{Core, history}
use Rattle.lane_histories.proofs.Lists.{in_front, in_last, in_longer, take_front}
use Rattle.lane_histories.proofs.Growth.{stays_kept}

module _ (s : Service) (j : JournalContents s) (start : World s) where
  pub record BuiltLane (list : RegisterList s) (built : j.Content) (l : ℕ) (items : LaneList s) (torn : Bool) : Type 0 where
    pub k : ℕ
    pub few : k ≤ length items
    pub told : l < s.lanes → torn ≡ false → j.TellsLane built l (objects_after s (start.objects l) (take k items))
    -- the cuts that found memory are among these items, and the last of these items is one of them
    pub cuts : (number c : ℕ) → IsIn items (WasCut number c true) → IsIn (take k items) (WasCut number c true)
    pub below : (k ≡ 0) ⊎ ((number : ℕ) × (c : ℕ) × IsIn list (DrawnCut number c) × AllByRecursion (IsBelow c) (take k items))

  pub record Backing (h : History s) (built : j.Content) (torn : ℕ → Bool) : Type 0 where
    pub lanes : (l : ℕ) → BuiltLane h.register built l (h.lane l) (torn l)
    pub register : (q : ℕ) → last_cut None h.register ≡ Some q
        → j.TellsCatalogue built (s.catalogue (register_at s q start.register h.register))

  pub record IsSound (core : Core s j) : Type 0 where
    pub legal : IsLegal s start (history core)
    pub seconds : SecondsFollow s core.items
    pub register : core.register ≡ register_after s start.register core.list
    pub objects : (l : ℕ) → core.objects l ≡ objects_after s (start.objects l) (core.items l)
    pub backing : Backing (history core) core.desk.built core.torn
    pub desk : IsKeptDesk s j start (history core) core.desk

  -- ---- as the history grows

  module _ (h g : History s) (legal : IsLegal s start g) (prefix : IsPrefix h g) where
    kept_longer : (x : j.Content) (reach : Reach) → TellsKept s j start h x reach → TellsKept s j start g x reach
    kept_longer x reach b = record { world = b.world; told = b.told; kept = stays_kept s start h g b.world reach b.kept legal prefix }

    whole_longer : (number c : ℕ) → IsWholeCut s h number c → IsWholeCut s g number c
    whole_longer number c whole = record {
      drawn = in_longer _ _ _ prefix.register whole.drawn;
      everywhere = λ l below. in_longer _ _ _ (prefix.lane l) (whole.everywhere l below);
    }

    pub cuts_longer : (reach : Reach) → IsOfCuts s h reach → IsOfCuts s g reach
    cuts_longer reach cuts = record {
      c = ⊎_elim (λ none. inl none) (λ whole. inr (whole.0, whole_longer whole.0 reach.c whole.1)) cuts.c;
      p = ⊎_elim (λ none. inl none) (λ here. inr (in_longer _ _ _ prefix.register here)) cuts.p;
    }

    batch_longer : (own : Reach) (x : j.Content) (reach : Reach) → IsKeptBatch s j start h own x reach → IsKeptBatch s j start g own x reach
    batch_longer own x reach b = record { tells = kept_longer x reach b.tells; cuts = cuts_longer reach b.cuts; far = b.far }

    pub desk_longer : (desk : Desk s j) → AllByRecursion (λ k. IsAsFar k.own desk.own) g.keepings → IsKeptDesk s j start h desk
        → IsKeptDesk s j start g desk
    desk_longer desk keepings b = record {
      keepings = keepings;
      held = kept_longer desk.held desk.own b.held;
      cuts = cuts_longer desk.own b.cuts;
      pending = λ x reach is. batch_longer desk.own x reach (b.pending x reach is);
    }

  -- the same desk, but for what is built
  pub desk_rebuilt : (h : History s) (desk : Desk s j) (built : j.Content) → IsKeptDesk s j start h desk
      → IsKeptDesk s j start h (record desk { built = built })
  desk_rebuilt h desk built b = record { keepings = b.keepings; held = b.held; cuts = b.cuts; pending = b.pending }

  -- the register's list is longer, and the lane is told as before
  pub lane_rebuilt : (list more : RegisterList s) (old new : j.Content) (l : ℕ) (items : LaneList s) (torn : Bool)
      → KeepsLane j l old new → BuiltLane list old l items torn → BuiltLane (list ++ more) new l items torn
  lane_rebuilt list more old new l items torn keeps b = record {
    k = b.k;
    few = b.few;
    told = λ below whole. keeps _ (b.told below whole);
    cuts = b.cuts;
    below = ⊎_elim (λ none. inl none) (λ cut. inr (cut.0, cut.1, in_front list more _ cut.2, cut.3)) b.below;
  }

  -- the lane's list has an item more, which is no cut that found memory
  pub lane_still_built : (list : RegisterList s) (old new : j.Content) (l : ℕ) (items : LaneList s) (item : LaneItem s.Task s.Reply) (was torn : Bool) → ((number c : ℕ) → item ≡ WasCut number c true → ⊥)
      → (torn ≡ false → was ≡ false) → (torn ≡ false → KeepsLane j l old new) → BuiltLane list old l items was
      → BuiltLane list new l (items ++ item ∷ []) torn
  lane_still_built list old new l items item was torn no_cut whole keeps b =
      let front : take b.k (items ++ item ∷ []) ≡ take b.k items = take_front b.k items (item ∷ []) b.few in
      let few = b.few in
      let more = length-append items (item ∷ []) in
      record {
        k = b.k;
        few = omega arith;
        told = λ below is. rw front (keeps is _ (b.told below (whole is)));
        cuts = λ number c here. rw front (⊎_elim (λ old. b.cuts number c old) (λ new. absurd (no_cut number c new)) (in_last items item _ here));
        below = rw front b.below;
      }

  -- ---- images

  pub images_kept : (core : Core s j) → IsSound core → (x : j.Content) → IsImage x core.desk → IsKeptImage start (history core) core.desk x
  images_kept core sound x image = ⊎_elim
      (λ (held : x ≡ core.desk.held).
      let b = sound.desk.held in
      record {
        reach = core.desk.own;
        tells = subst (λ (y : j.Content). TellsKept s j start (history core) y core.desk.own) (sym held) b;
        far = record { c = omega arith; p = omega arith };
        farther = λ none. refl;
      })
      (λ pending.
      let b = sound.desk.pending x pending.0 pending.1 in
      record {
        reach = pending.0;
        tells = b.tells;
        far = b.far;
        farther = λ none. absurd (never (x, pending.0) (sym none ∙ pending.1));
      })
      image
    where
      never : (batch : j.Content × Reach) → None ≡ Some batch → ⊥
      never batch e = cc
