-- What is held of a world of which all was kept says what is left of it.
use Rattle.std.proofs.Common.{◌≡◌, ℕ, zero, suc, ◌+◌, List, [], ◌∷◌, length, Some, refl, sym, subst, ◌∙◌, arith}
use Rattle.std.specs.Prelude.{slice_get}
use Rattle.flush_journal.specs.Records.{Held}
use Rattle.chunk_owner.specs.Lanes.{Lane}
use Rattle.chunk_owner.specs.Owners.Records.{LaneSays, LanesSay}
use Rattle.register.specs.Decided.{RegisterState}
use Rattle.register.specs.Kept.{RegisterSays, all_kept}
use Rattle.service_histories.specs.ArrayServices.{kept_part}
use Rattle.service_histories.specs.Closings.{LeftWorldsAreSaid}
use Rattle.service_histories.specs.Cuttings.{IsOwnerSince}
use Rattle.service_histories.specs.JournalParts.{kept_register}

-- where nothing of a register is marked, what says it says all that a journal keeps of it
part_said : (d : RegisterState) (held : Held) → d ≡ all_kept d → RegisterSays d held → RegisterSays (kept_register (kept_part d)) held
part_said d held kept said =
    let told : RegisterSays (all_kept d) held = subst (λ (e : RegisterState). RegisterSays e held) kept said in
    record { run = told.run; next = told.next; nodes = told.nodes }

module _ (lanes : ℕ) (held : Held) where
  owner_said : (l : ℕ) (was now : Lane) → IsOwnerSince lanes l was now → LaneSays held was → LaneSays held now
  owner_said l was now is said = (is.since held (record {
    lane_is = sym is.same.lane ∙ is.lane_is;
    lanes_are = sym is.same.lanes ∙ is.lanes_are;
    says = said;
  })).says

  owners_said : (k : ℕ) (first last : List Lane) → length last ≡ length first
      → ((l : ℕ) (was now : Lane) → slice_get first l ≡ Some was → slice_get last l ≡ Some now → IsOwnerSince lanes (k + l) was now)
      → LanesSay first held → LanesSay last held
  owners_said k first [] count since said = tt
  owners_said k [] (now ∷ last) count since said = absurd (omega arith)
  owners_said k (was ∷ first) (now ∷ last) count since said = (
    owner_said (k + 0) was now (since 0 was now refl refl) said.0,
    owners_said (suc k) first last (omega arith)
        (λ l a b at here. subst (λ (j : ℕ). IsOwnerSince lanes j a b) (let e : k + suc l ≡ suc k + l = omega arith in e) (since (suc l) a b at here)) said.1,
  )

pub left_worlds_are_said : (lanes : ℕ) → LeftWorldsAreSaid lanes
left_worlds_are_said lanes first last kept since held said = record {
  register = since.register held (part_said first.register held kept.register said.register);
  lanes = owners_said lanes held 0 first.lanes last.lanes since.count
      (λ l was now at here. subst (λ (j : ℕ). IsOwnerSince lanes j was now) (let e : l ≡ 0 + l = omega arith in e) (since.owners l was now at here)) said.lanes;
  strays = said.strays;
}
