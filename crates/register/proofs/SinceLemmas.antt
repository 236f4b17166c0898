-- What is held of a register since its last cut.
use Rattle.std.proofs.Common.{◌≡◌, ℕ, Bool, false, ◌&&◌, ◌||◌, List, Option, Some, None, is_some, refl, sym, ap, subst, ◌∙◌}
use Rattle.std.specs.Prelude.{option_and_then}
use Rattle.std.specs.FinMap.{contains_key, get, get-empty}
use Rattle.containers.specs.TextMaps.Keyed.{text_order}
use Rattle.flush_journal.specs.Records.{Held}
use Rattle.domains.specs.Contents.{Contents}
use Rattle.domains.specs.declared.classes.Node.{Node}
use Rattle.domains.specs.Records.Nodes.{node_of_body}
use Rattle.object_records.specs.Keys.Keys.{next_key, node_key, run_key}
use Rattle.register.specs.Decided.{IsRegister, RegisterState}
use Rattle.register.specs.Installed.Registers.{DescribesRegister, IsNodeRecord}
use Rattle.register.specs.Kept.{IsHeldNode, RegisterSays, all_kept, is_marked}
use Rattle.register.specs.Laws.{CatalogueStays, ChangesStaySince, CutsTellRegister, DrawsTickets, KeptRegistersSay, OthersKeepRegister, ToldIsDescribed}
use Rattle.register.specs.Since.{StillSays, TellsRegister, of_next, of_node, of_run}
use Rattle.register.proofs.Describing.{described}
use Rattle.register.proofs.Leaving.{drawn_issues, length-all_counted}
use Rattle.register.proofs.Saying.{as_counted}

-- ---- cuts

pub drawn_says : (d : RegisterState) (issued : List ℕ) → StillSays d (record d { issued = issued })
drawn_says d issued = as_counted d d.serial d.places issued

pub draws : (d : RegisterState) → DrawsTickets d
draws d = record { issues = drawn_issues d.issued; lanes = length-all_counted d.issued; says = drawn_says d _ }

pub stays : (d : RegisterState) → CatalogueStays d
stays d = record { drawn = refl; cut = refl }

-- ---- what is said where nothing is marked

said_told : (d : RegisterState) (held : Held) → RegisterSays (all_kept d) held → TellsRegister held d.run d.catalogue
said_told d held says = record { kept = says.run refl; next = says.next refl; nodes = λ path. says.nodes path (unmarked path) } where
  unmarked : (path : List ℕ) → is_marked (all_kept d) path ≡ false
  unmarked path = ap (λ (o : Option Bool). is_some o || (false && contains_key d.catalogue.nodes path)) (get-empty text_order path)

told_said : (d : RegisterState) (held : Held) → TellsRegister held d.run d.catalogue → RegisterSays (all_kept d) held
told_said d held tells = record { run = λ _. tells.kept; next = λ _. tells.next; nodes = λ path _. tells.nodes path }

pub kept_say : KeptRegistersSay
kept_say d held = (said_told d held, told_said d held)

-- ---- since the last cut

pub stay_since : ChangesStaySince
stay_since last old new since says held tells = says held (since held tells)

pub cuts_tell : CutsTellRegister
cuts_tell last d before after since tells cut = (said_told d after (cut (since before tells)), told_said d)

-- ---- other records

same_node : (o : Option Node) (body other : Option (List ℕ)) → other ≡ body → IsHeldNode o body → IsHeldNode o other
same_node o body other e h = subst (IsHeldNode o) (sym e) h

pub others_keep : OthersKeepRegister
others_keep old new same run c tells = record {
  kept = same run_key (of_run refl) ∙ tells.kept;
  next = same next_key (of_next refl) ∙ tells.next;
  nodes = λ path. same_node (get c.nodes path) _ _ (same (node_key path) (of_node path refl)) (tells.nodes path);
}

-- ---- what is told describes

held_so : (held : Held) (run : ℕ) (c : Contents) → DescribesRegister held run c → (path : List ℕ) (body : Option (List ℕ)) → get held (node_key path) ≡ body
    → IsHeldNode (option_and_then node_of_body body) body
held_so held run c h path None e = refl
held_so held run c h path (Some body) e =
    let is : IsNodeRecord held path body = h.rules path body e in
    subst (λ (o : Option Node). IsHeldNode o (Some body)) (sym is.reads) is.reads

described_told : (held : Held) (run : ℕ) (c : Contents) → DescribesRegister held run c → TellsRegister held run c
described_told held run c h = record {
  kept = h.kept.here;
  next = h.next.here;
  nodes = λ path. subst (λ (o : Option Node). IsHeldNode o (get held (node_key path))) (sym (h.nodes path)) (held_so held run c h path (get held (node_key path)) refl);
}

pub told_described : ToldIsDescribed
told_described d held valid catalogue texts =
    (λ tells. described (all_kept d) held refl (kept_register d valid) catalogue texts (told_said d held tells), described_told held d.run d.catalogue)
  where
    kept_register : (d : RegisterState) → IsRegister d → IsRegister (all_kept d)
    kept_register d h = record { run = h.run; serial = h.serial; some_lane = h.some_lane; few_lanes = h.few_lanes; roots = h.roots }
