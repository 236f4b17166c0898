-- What a lane knows of what a journal holds, from cut to cut.
use Rattle.std.proofs.Common.{subst}
use Rattle.lane_histories.specs.Services.{Service}
use Rattle.lane_histories.specs.JournalContents.{JournalContents}
use Rattle.lane_histories.specs.Since.{CutsTell, LanesAreSinceThemselves, Marking, TurnsStaySince}

module _ {s : Service} {j : JournalContents s} (m : Marking s j) where
  pub since_themselves : LanesAreSinceThemselves m
  since_themselves l marked x says = says

  pub turns_stay_since : TurnsStaySince m
  turns_stay_since l last old new since marks x says = marks x (since x says)

  pub cuts_tell : CutsTell m
  cuts_tell all l last old new before after since said cut =
      let says = cut.says (since before said) in
      record {
        told = subst (j.TellsLane after l) cut.objects (all after l new cut.still says);
        says = says;
        since = since_themselves l new;
      }
