-- What records say of lanes, where one lane changes.
use Rattle.std.proofs.Common.{◌≡◌, ℕ, zero, suc, Bool, true, false, cond, List, [], ◌∷◌, ◌++◌, Option, None, get_or, refl, sym, ap, subst, ◌∙◌}
use Rattle.std.specs.Prelude.{slice_set}
use Rattle.std.specs.FinMap.{empty, get, get-empty}
use Rattle.std.specs.Option.{option_map_or}
use Rattle.containers.specs.TextMaps.Keyed.{text_order}
use Rattle.object_ids.specs.IdOrder.{id_order}
use Rattle.object_ids.specs.Ids.{lane_of}
use Rattle.object_records.specs.Keys.Keys.{chunk_key, object_key}
use Rattle.chunk_owner.specs.declared.slots.slot.Slot.{Slot}
use Rattle.chunk_owner.specs.Slots.Slots.{Says, Slots, StillSays, is_index}
use Rattle.chunk_owner.specs.Lanes.{IsSameLane, Lane}
use Rattle.chunk_owner.specs.Owners.Records.{LaneSays, LanesSay, LanesStillSay}

pub said_set : (l new : Lane) → IsSameLane l new → StillSays l.slots new.slots → (i : ℕ) (ls : List Lane) → get_or ls i l ≡ l → LanesStillSay ls (slice_set ls i new)
said_set l new same still i [] is held said = said
said_set l new same still zero (x ∷ ls) is held said =
    (λ id range at. still id held (subst (LaneSays held) is said.0 id range (ap (λ j. lane_of j id) (sym same.lanes) ∙ at ∙ same.lane)), said.1)
said_set l new same still (suc i) (x ∷ ls) is held said = (said.0, said_set l new same still i ls is held said.1)

pub said_on : (a b c : List Lane) → LanesStillSay a b → LanesStillSay b c → LanesStillSay a c
said_on a b c first later held said = later held (first held said)

pub said_still : (a b : List Lane) → b ≡ a → LanesStillSay a b
said_still a b same held said = subst (λ (ls : List Lane). LanesSay ls held) (sym same) said

-- ---- nothing is held

no_chunk : (b : Bool) (o : Option (List ℕ)) → o ≡ None → cond b (option_map_or (λ body. body) o []) [] ≡ []
no_chunk true o none = ap (λ (w : Option (List ℕ)). option_map_or (λ body. body) w []) none
no_chunk false o none = refl

nothing_held : (key : List ℕ) → get (empty {X = List ℕ} {R = text_order}) key ≡ None
nothing_held key = get-empty text_order key

-- where nothing is held, that tells a lane without objects
nothing_said : (l : Lane) → l.slots ≡ empty → LaneSays empty l
nothing_said l none id range at =
    subst (λ (o : Option Slot). Says o id empty) (sym (ap (λ (m : Slots). get m id) none ∙ get-empty id_order id))
    (nothing_held (object_key id), λ dataset i. no_chunk (is_index i) (get (empty {X = List ℕ} {R = text_order}) (chunk_key id i)) (nothing_held (chunk_key id i)))

pub nothing_said_more : (ls : List Lane) (l : Lane) → LanesSay ls empty → l.slots ≡ empty → LanesSay (ls ++ l ∷ []) empty
nothing_said_more [] l said none = (nothing_said l none, tt)
nothing_said_more (x ∷ ls) l said none = (said.0, nothing_said_more ls l said.1 none)
