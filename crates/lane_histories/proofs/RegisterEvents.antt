-- The register's turns keep all sound.
use Rattle.std.proofs.Common.{◌≡◌, ⊎_elim, ℕ, ◌≤◌, true, false, [], ◌∷◌, ◌++◌, Some, None, refl, ap, sym, ◌∙◌, subst, arith}
use Rattle.lane_histories.specs.Services.{Service, World}
use Rattle.lane_histories.specs.Histories.{RegisterItem, DrawnCut, RegisterCut, places, drawn, register_step, register_at}
use Rattle.lane_histories.specs.Legal.{IsLegalRegisterItem}
use Rattle.lane_histories.specs.Cuts.{cut_step, last_cut}
use Rattle.lane_histories.specs.JournalContents.{JournalContents, CutsCatalogue, KeepsLane, TearsCatalogue}
use Rattle.lane_histories.specs.Core.{Core, entry, history, with_built, with_item}
use Rattle.lane_histories.proofs.Growth.{at_longer}
use Rattle.lane_histories.proofs.RegisterLists.{at_end, register_after_push, last_cut_push, last_is_in, register_at_most}
use Rattle.lane_histories.proofs.Pushes.{register_longer, register_pushed}
use Rattle.lane_histories.proofs.Sound.{IsSound, desk_longer, desk_rebuilt, lane_rebuilt}

module _ (s : Service) (j : JournalContents s) (start : World s) (core : Core s j) (sound : IsSound s j start core) where
  item_sound : (i : RegisterItem s.Asked s.Verdict) → IsLegalRegisterItem s core.register (places core.list) (drawn core.list) i
      → (built : j.Content) → ((l : ℕ) → KeepsLane j l core.desk.built built)
      → ((q : ℕ) → cut_step (last_cut None core.list) i ≡ Some q → j.TellsCatalogue built (s.catalogue (register_at s q start.register (core.list ++ i ∷ []))))
      → IsSound s j start (with_built (with_item core i (register_step s core.register i)) built)
  item_sound i may built keeps register =
      let legal = register_pushed s start (history core) sound.legal i (subst (λ (d : s.Register). IsLegalRegisterItem s d (places core.list) (drawn core.list) i) sound.register may) in
      let after = with_item core i (register_step s core.register i) in
      record {
        legal = legal;
        seconds = sound.seconds;
        register = ap (λ (d : s.Register). register_step s d i) sound.register ∙ sym (register_after_push s start.register core.list i);
        objects = sound.objects;
        backing = record {
          lanes = λ l. lane_rebuilt s j start core.list (i ∷ []) core.desk.built built l (core.items l) (core.torn l) (keeps l) (sound.backing.lanes l);
          register = λ q is. register q (sym (last_cut_push s None core.list i) ∙ is);
        };
        desk = desk_rebuilt s j start (history after) core.desk built (desk_longer s j start (history core) (history after) legal (register_longer s start (history core) sound.legal i) core.desk sound.desk.keepings sound.desk);
      }

  never : (q : ℕ) → None ≡ Some q → ⊥
  never q e = cc

  last_at_most : (q : ℕ) → last_cut None core.list ≡ Some q → q ≤ places core.list
  last_at_most q is = ⊎_elim (λ none. absurd (never q none)) (λ here. register_at_most s start.register q true core.list sound.legal.register here) (last_is_in s None q core.list is)

  pub asks_sound : (by : ℕ) (asked : s.Asked) (verdict : s.Verdict) → s.MayAnswer core.register asked verdict
      → IsSound s j start (with_item core (entry core by asked verdict) (s.decided core.register asked verdict))
  asks_sound by asked verdict may =
      let i = entry core by asked verdict in
      item_sound i (refl, may) core.desk.built (λ l o told. told)
      (λ q is. subst (j.TellsCatalogue core.desk.built) (sym (at_longer s q start.register core.list (i ∷ []) (last_at_most q is))) (sound.backing.register q is))

  pub draws_sound : IsSound s j start (with_item core (DrawnCut (drawn core.list) (places core.list)) (s.drawn core.register))
  draws_sound = item_sound (DrawnCut (drawn core.list) (places core.list)) (refl, refl) core.desk.built (λ l o told. told) (λ q is. absurd (never q is))

  pub register_sound : (built : j.Content) → CutsCatalogue j (s.catalogue core.register) core.desk.built built
      → IsSound s j start (with_built (with_item core (RegisterCut (places core.list) true) (s.recorded true core.register)) built)
  register_sound built cuts =
      let i : RegisterItem s.Asked s.Verdict = RegisterCut (places core.list) true in
      item_sound i refl built cuts.lanes
      (λ (q : ℕ) (is : Some (places core.list) ≡ Some q).
      let same : places core.list ≡ q = cc in
      let there : s.catalogue core.register ≡ s.catalogue (register_at s q start.register (core.list ++ i ∷ [])) =
      ap s.catalogue (sound.register ∙ sym (at_end s start.register core.list)) ∙ sym (at_longer s (places core.list) start.register core.list (i ∷ []) (omega arith))
      ∙ ap (λ (n : ℕ). s.catalogue (register_at s n start.register (core.list ++ i ∷ []))) same in
      subst (j.TellsCatalogue built) there cuts.own)

  pub register_short_sound : (built : j.Content) → TearsCatalogue j core.desk.built built
      → IsSound s j start (with_built (with_item core (RegisterCut (places core.list) false) (s.recorded false core.register)) built)
  register_short_sound built tears = item_sound (RegisterCut (places core.list) false) refl built tears (λ q is. absurd (never q is))
