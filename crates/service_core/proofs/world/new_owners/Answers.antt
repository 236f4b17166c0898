use Rattle.std.proofs.Common.{◌≡◌, ◌∷◌, ◌+◌, [], ℕ, List, length, length-append, arith, sym, subst, ap, ◌∙◌}
use Rattle.chunk_owner.specs.Lanes.{Lane}
use Rattle.chunk_owner.specs.Owners.Joined.{AreLanes, IsLane, whole}
use Rattle.std.specs.FinMap.{empty}
use Rattle.chunk_owner.specs.Owners.Records.{AreUndropped, LanesSay}
use Rattle.chunk_owner.proofs.OfOwners.SaidLemmas.{nothing_said_more}
use Rattle.chunk_owner.proofs.OfOwners.UndroppedLemmas.{undropped_push}
use Rattle.chunk_owner.proofs.OfOwners.WholeLemmas.{lanes_push, new_lane, whole_push}
use Rattle.service_core.proofs.world.new_owners.Goals as goal

pub loop-lane-preserved : goal.loop-lane-preserved
loop-lane-preserved c =
    let i = c.loop-lane.invariant in
    let ls = c.loop-lane.owners.items in
    let put = c.in_ok-push.ensures.items in
    let e : c.loop-lane.lane ≡ 0 + length ls = omega (arith, i.0) in
    let new = new_lane c.args.lanes c.loop-lane.lane c.new.result c.new.ensures in (
      ap length put ∙ length-append ls (c.new.result ∷ []) ∙ ap (λ n. n + 1) i.0,
      subst (λ (xs : List Lane). AreLanes c.args.lanes 0 xs) (sym put) (lanes_push c.args.lanes 0 ls c.new.result i.1 (subst (λ (j : ℕ). IsLane c.args.lanes j c.new.result) e new)),
      ap whole put ∙ whole_push ls c.new.result (ap (λ l. l.objects) c.new.ensures) i.2,
      subst (λ (xs : List Lane). LanesSay xs empty) (sym put) (nothing_said_more ls c.new.result i.3 (ap (λ l. l.slots) c.new.ensures)),
      subst (λ (xs : List Lane). AreUndropped xs) (sym put) (undropped_push ls c.new.result i.4 (ap (λ l. l.slots) c.new.ensures)),
    )
