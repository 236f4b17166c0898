use Rattle.std.proofs.Common.{ℕ, [], refl, sym}
use Rattle.lane_histories.specs.Services.{World}
use Rattle.lane_histories.specs.Histories.{History, drawn, places}
use Rattle.lane_histories.specs.declared.items.RegisterItem.{RegisterItem}
use Rattle.lane_histories.specs.declared.items.RegisterItem.TheVariants.{DrawnCut, RegisterCut}
use Rattle.lane_histories.specs.declared.items.LaneItem.{LaneItem}
use Rattle.lane_histories.specs.declared.items.LaneItem.TheVariants.{WasCut}
use Rattle.lane_histories.specs.Cuts.{GoesOn}
use Rattle.lane_histories.specs.Legal.{IsLegal, SecondsFollow, with_lane_item, with_register_item}
use Rattle.lane_histories.proofs.Lists.{nothing_more}
use Rattle.lane_histories.proofs.Pushes.{lane_pushed, register_pushed}
use Rattle.journal_desk.specs.Cuts.{Adds}
use Rattle.journal_desk.specs.KeptServices.{KeptService}
use Rattle.journal_desk.specs.Laws.{CutCanCome}
use Rattle.journal_desk.proofs.laws.cuts_can_come.Goals as goal

module _ (k : KeptService) (start : World k.service) (h : History k.service) (was : ℕ → k.marking.Marked) (legal : IsLegal k.service start h)
    (seconds : SecondsFollow k.service h.lane) where
  nobody : GoesOn h h
  nobody = record {
    longer = record {
      register = ([], sym (nothing_more h.register));
      lane = λ l. ([], sym (nothing_more (h.lane l)));
      keepings = ([], sym (nothing_more h.keepings));
    };
    entries = tt;
    turns = λ l. tt;
  }

  adds : (add : History k.service → History k.service) → IsLegal k.service start (add h) → Adds k.service start h (add h) add
  adds add after = record { mid = h; others = nobody; keepings = refl; before = legal; after = after; added = refl }

  can_come : CutCanCome k start h was
  unfolding adds
  can_come = record {
    draws =
        let i : RegisterItem k.service.Asked k.service.Verdict = DrawnCut (drawn h.register) (places h.register) in (
          with_register_item h i,
          record {
            step = adds (λ m. with_register_item m i) (register_pushed k.service start h legal i (refl, refl));
            number_is = refl;
            c_is = refl;
          },
        );
    takes = λ l number c found later old new next cut.
        let i : LaneItem k.service.Task k.service.Reply = WasCut number c found in
        (with_lane_item h l i, record { step = adds (λ m. with_lane_item m l i) (lane_pushed k.service start h legal l i next seconds tt tt); cut = cut });
    registers = λ found old new cut.
        let i : RegisterItem k.service.Asked k.service.Verdict = RegisterCut (places h.register) found in
        (with_register_item h i, record { step = adds (λ m. with_register_item m i) (register_pushed k.service start h legal i refl); p_is = refl; cut = cut });
  }

pub returns : goal.returns
returns g c lanes start h was legal seconds = can_come (g.N.Note.kept lanes) start h was legal seconds
