-- A command that finds what it needs ends as it should, or for want of memory.
use Rattle.std.proofs.Common.{◌≡◌, ◌⊎◌, inl, inr, ℕ, ◌≤◌, ◌++◌, ◌∙◌, List, [], ◌∷◌, length, Option, Some, None, refl, sym, ap, subst, append-nil, length-append, arith}
use Rattle.edge_traits.specs.declared.disk.Disk.{Ghosts}
use Rattle.command_words.specs.Commands.{Command, export, import, init, sample, serve, session, verify}
use Rattle.documents.specs.Reader.Loads.{LoadsText}
use Rattle.documents.specs.Reader.Texts.{most_bytes}
use Rattle.json_import.specs.Kept.Documents.{IsRefused}
use Rattle.service_core.specs.Journals.Opening.{IsOf}
use Rattle.service_core.specs.Journals.Begun.{IsRecovered}
use Rattle.rest_session.specs.Links.Links.{IsUncut}
use Rattle.rest_session.specs.declared.links.end.LinkEnd.{LinkEnd}
use Rattle.rest_session.specs.Sessions.{IsServed as SessionStep}
use Rattle.hsds_cli.specs.declared.closed.Closed.{Closed}
use Rattle.hsds_cli.specs.Doors.{Doors}
use Rattle.hsds_cli.specs.declared.status.Status.{Status}
use Rattle.hsds_cli.specs.declared.status.Status.TheVariants.{Done, Words, Configuration, ReadFault, WriteFault, DiskFault, NotAJournal, Refused, JournalExists, DoorFault, InputCut, UsedUp, Budget, NoMemory}
use Rattle.service_core.specs.Steps.{World}
use Rattle.edge_traits.specs.SourceTexts.Texts.{IsLongText, IsWholeText}
use Rattle.hsds_cli.specs.Closings.{UsesUpBudget, of_link}
use Rattle.hsds_cli.specs.Completeness.{HasAdoptable, IsConfigured, IsUndisturbed, IsWholeInput}
use Rattle.hsds_cli.specs.Exports.{IsExported}
use Rattle.hsds_cli.specs.Imports.{IsImported}
use Rattle.hsds_cli.specs.Makings.{IsInit}
use Rattle.hsds_cli.specs.Openings.{IsSession, IsVerified, Serves}
use Rattle.hsds_cli.specs.Runs.{IsCommanded}
use Rattle.hsds_cli.specs.Sampled.{IsSampled}
use Rattle.hsds_cli.specs.Serves.{Desks, IsServedBy, reports_status}
use Rattle.hsds_cli.specs.Sides.{Sides, SpellsNone, configured}
use Rattle.hsds_cli.specs.Status.{number_of}
use Rattle.hsds_cli.proofs.EndLemmas.{full, full_doors, reports_full, status_budget, status_cut, uncut_over}

abbrev pub IsEnd : Status → Type 0
IsEnd status = (status ≡ Done) ⊎ (status ≡ NoMemory)

pub ends : (status : Status) → IsEnd status → (number_of status ≡ 0) ⊎ (number_of status ≡ 13)
ends status (inl is) = inl (ap number_of is)
ends status (inr is) = inr (ap number_of is)

-- a text that spells a configuration spells some
spelled : (text : Option (List ℕ)) → IsConfigured text → SpellsNone text → ⊥
spelled text is none = by text is.told none where
  by : (text : Option (List ℕ)) → text ≡ Some is.bytes → SpellsNone text → ⊥
  by None told none = let no : None ≡ Some is.bytes = told in cc
  by (Some x) told none =
      let same : x ≡ is.bytes = cc in
      let no : None ≡ Some is.config = sym none ∙ ap configured same ∙ is.spelled in cc

-- a text that was read is the one that is told, and no longer than it may be
whole_is : (left after : Option (List ℕ)) (bytes text : List ℕ) → left ≡ Some text → IsWholeText most_bytes left after bytes → bytes ≡ text
whole_is None after bytes text told whole = let wrong : None ≡ Some text = told in cc
whole_is (Some x) None bytes text told whole = absurd whole.taken
whole_is (Some x) (Some y) bytes text told whole =
    let same : x ≡ text = cc in
    sym (append-nil bytes) ∙ ap (λ (l : List ℕ). bytes ++ l) (sym whole.end) ∙ sym whole.taken ∙ same

not_long : (left after : Option (List ℕ)) (text : List ℕ) → left ≡ Some text → length text ≤ most_bytes → IsLongText most_bytes left after → ⊥
not_long None after text told short long = let wrong : None ≡ Some text = told in cc
not_long (Some x) None text told short long = absurd long.1
not_long (Some x) (Some y) text told short (front, taken, past) =
    let same : x ≡ text = cc in
    omega (arith, short, past, ap length (sym same ∙ taken), length-append front y)

-- a document that may be adopted isn't refused
accepted : (file path : List ℕ) (left after : Option (List ℕ)) (w : World) → HasAdoptable file path left → IsOf file (λ c. IsRecovered c.held w) → IsRefused left after w path → ⊥
accepted file path left after w has kept (inl (inl long)) = not_long left after has.text has.told has.loads.short long
accepted file path left after w has kept (inl (inr (bytes, whole, none))) =
    none has.document (subst (λ (l : List ℕ). LoadsText l has.document) (sym (whole_is left after bytes has.text has.told whole)) has.loads)
accepted file path left after w has kept (inr (l, cause, document, is)) =
    let loads : LoadsText has.text l = subst (λ (t : List ℕ). LoadsText t l) (whole_is left after document.text has.text has.told document.whole) document.loads in
    let wrong : None ≡ Some cause = sym (has.free w kept l loads) ∙ is in
    cc

module _ {F L D : Type 0} (met : Ghosts D) (desks : Desks met) (honest : met.honest) (sides : Sides) (doors : Doors F L) (before after : D) (closed : Option Closed) where
  -- a link that was served over whole messages wasn't cut
  whole_link : (status : Status) (s : Serves met sides before after closed status) → IsWholeInput sides.left_before → IsUncut s.link_closed.end
  whole_link status s whole =
      uncut_over SessionStep s.first s.served.final sides.left_before sides.left_after s.served.taken s.served.sent s.link_closed.end whole s.served.consumed s.served.transcript

  -- a session tells of a budget only where its link used it up
  session_budget : Serves met sides before after closed Budget → UsesUpBudget closed
  session_budget s = (of_link s.link_closed, s.is_closed, (0, s.link_closed.end ∷ [], refl, 0, ap (λ (e : LinkEnd). Some e) (status_budget s.link_closed.end s.last s.ended)))

  of_init : (lanes : ℕ) (config journal : List ℕ) (status : Status) → IsInit met lanes sides before after status → IsUndisturbed met desks (init config journal lanes) sides doors before after closed → IsEnd status
  of_init lanes config journal Done h u = inl refl
  of_init lanes config journal NoMemory h u = inr refl
  of_init lanes config journal Configuration h u = absurd (spelled sides.text u.finds.0 h.0)
  of_init lanes config journal ReadFault h u = absurd (u.calm.config h.0)
  of_init lanes config journal WriteFault h u = absurd (u.calm.out h.0)
  of_init lanes config journal DiskFault h u = absurd (u.calm.disk h.0)
  of_init lanes config journal JournalExists h u = absurd (u.finds.1 (h.0 honest))
  of_init lanes config journal UsedUp h u = absurd (u.room h)
  of_init lanes config journal Words h u = absurd h
  of_init lanes config journal NotAJournal h u = absurd h
  of_init lanes config journal Refused h u = absurd h
  of_init lanes config journal DoorFault h u = absurd h
  of_init lanes config journal InputCut h u = absurd h
  of_init lanes config journal Budget h u = absurd h

  of_verify : (journal : List ℕ) (status : Status) → IsVerified met sides before after status → IsUndisturbed met desks (verify journal) sides doors before after closed → IsEnd status
  of_verify journal Done h u = inl refl
  of_verify journal NoMemory h u = inr refl
  of_verify journal WriteFault h u = absurd (u.calm.out h.0)
  of_verify journal DiskFault h u = absurd (u.calm.disk h.0)
  of_verify journal NotAJournal h u = absurd (u.finds.world (h.0 honest))
  of_verify journal UsedUp h u = absurd (u.finds.run (h.0 honest))
  of_verify journal Words h u = absurd h
  of_verify journal Configuration h u = absurd h
  of_verify journal ReadFault h u = absurd h
  of_verify journal Refused h u = absurd h
  of_verify journal JournalExists h u = absurd h
  of_verify journal DoorFault h u = absurd h
  of_verify journal InputCut h u = absurd h
  of_verify journal Budget h u = absurd h

  of_export : (path journal : List ℕ) (status : Status) → IsExported met path sides before after status → IsUndisturbed met desks (export path journal) sides doors before after closed → IsEnd status
  of_export path journal Done h u = inl refl
  of_export path journal NoMemory h u = inr refl
  of_export path journal WriteFault h u = absurd (u.calm.out h.0)
  of_export path journal DiskFault h u = absurd (u.calm.disk h.0)
  of_export path journal NotAJournal h u = absurd (u.finds.0.world (h.0 honest))
  of_export path journal UsedUp h u = absurd (u.finds.0.run (h.0 honest))
  of_export path journal Refused h u = absurd (u.finds.1 h.world (h.recovered honest) h.withheld)
  of_export path journal Words h u = absurd h
  of_export path journal Configuration h u = absurd h
  of_export path journal ReadFault h u = absurd h
  of_export path journal JournalExists h u = absurd h
  of_export path journal DoorFault h u = absurd h
  of_export path journal InputCut h u = absurd h
  of_export path journal Budget h u = absurd h

  of_import : (path journal owner : List ℕ) (status : Status) → IsImported met path owner sides before after status → IsUndisturbed met desks (import path journal owner) sides doors before after closed → IsEnd status
  of_import path journal owner Done h u = inl refl
  of_import path journal owner NoMemory h u = inr refl
  of_import path journal owner ReadFault h u = absurd (u.calm.input h.0)
  of_import path journal owner WriteFault h u = absurd (u.calm.out h.0)
  of_import path journal owner DiskFault h u = absurd (u.calm.disk h.0)
  of_import path journal owner NotAJournal h u = absurd (u.finds.0.world (h.0 honest))
  of_import path journal owner Refused h u = absurd (accepted (met.reads before) path sides.left_before sides.left_after h.0.first u.finds.1 (h.0.alone.recovered honest) h.1)
  of_import path journal owner UsedUp (inl (none, same)) u = absurd (u.finds.0.run (none honest))
  of_import path journal owner UsedUp (inr stopped) u = absurd (u.room stopped)
  of_import path journal owner Words h u = absurd h
  of_import path journal owner Configuration h u = absurd h
  of_import path journal owner JournalExists h u = absurd h
  of_import path journal owner DoorFault h u = absurd h
  of_import path journal owner InputCut h u = absurd h
  of_import path journal owner Budget h u = absurd h

  of_sample : (n : ℕ) (status : Status) → IsSampled n sides status → IsUndisturbed met desks (sample n) sides doors before after closed → IsEnd status
  of_sample n Done h u = inl refl
  of_sample n NoMemory h u = inr refl
  of_sample n WriteFault h u = absurd (u.calm.out h.0.3)
  of_sample n Words h u = absurd h.0
  of_sample n Configuration h u = absurd h.0
  of_sample n ReadFault h u = absurd h.0
  of_sample n DiskFault h u = absurd h.0
  of_sample n NotAJournal h u = absurd h.0
  of_sample n Refused h u = absurd h.0
  of_sample n JournalExists h u = absurd h.0
  of_sample n DoorFault h u = absurd h.0
  of_sample n InputCut h u = absurd h.0
  of_sample n UsedUp h u = absurd h.0
  of_sample n Budget h u = absurd h.0

  of_session : (config journal : List ℕ) (status : Status) → IsSession met sides before after closed status → IsUndisturbed met desks (session config journal) sides doors before after closed → IsEnd status
  of_session config journal Done h u = inl refl
  of_session config journal NoMemory h u = inr refl
  of_session config journal Configuration h u = absurd (spelled sides.text u.finds.0 h.0)
  of_session config journal ReadFault h u = absurd (elim h [ inl x ↦ u.calm.config x.0 | inr x ↦ u.calm.input x.0 ])
  of_session config journal WriteFault h u = absurd (u.calm.out h.0)
  of_session config journal DiskFault h u = absurd (u.calm.disk h.0)
  of_session config journal NotAJournal h u = absurd (u.finds.1.world (h.2 honest))
  of_session config journal InputCut h u = absurd (status_cut h.link_closed.end h.last (whole_link InputCut h u.finds.2) h.ended)
  of_session config journal Budget h u = absurd (u.no_budget (session_budget h))
  of_session config journal UsedUp (inl (some, unserved, inl (none, same))) u = absurd (u.finds.1.run (none honest))
  of_session config journal UsedUp (inl (some, unserved, inr unbegun)) u = absurd (u.room (inl unbegun))
  of_session config journal UsedUp (inr s) u = let f = full s.link_closed.end s.last s.ended in absurd (u.room (inr (s, f.0, f.1, f.2, f.3)))
  of_session config journal Words h u = absurd h
  of_session config journal Refused h u = absurd h
  of_session config journal JournalExists h u = absurd h
  of_session config journal DoorFault h u = absurd h

  of_serve : (config journal listen : List ℕ) (workers links : ℕ) (status : Status) → IsServedBy met desks links sides doors before after closed status
      → IsUndisturbed met desks (serve config journal listen workers links) sides doors before after closed → IsEnd status
  of_serve config journal listen workers links Done h u = inl refl
  of_serve config journal listen workers links NoMemory h u = inr refl
  of_serve config journal listen workers links Configuration h u = absurd (spelled sides.text u.finds.0 h.0)
  of_serve config journal listen workers links ReadFault h u = absurd (u.calm.config h.0)
  of_serve config journal listen workers links DiskFault h u = absurd (u.calm.disk h.0)
  of_serve config journal listen workers links NotAJournal h u = absurd (u.finds.1.world (h.2 honest))
  of_serve config journal listen workers links DoorFault h u = absurd (u.no_door_fault h.1)
  of_serve config journal listen workers links Budget h u = absurd (u.no_budget h.2)
  of_serve config journal listen workers links UsedUp (inl (some, unasked, inl (none, same))) u = absurd (u.finds.1.run (none honest))
  of_serve config journal listen workers links UsedUp (inl (some, unasked, inr unbegun)) u = absurd (u.room (inl unbegun))
  of_serve config journal listen workers links UsedUp (inr s) u =
      let f = full_doors (reports_status s.left.reports.items) s.last (reports_full s.left.reports.items) s.ended in
      absurd (u.room (inr (s, f.0, f.1, f.2, f.3)))
  of_serve config journal listen workers links Words h u = absurd h
  of_serve config journal listen workers links WriteFault h u = absurd h
  of_serve config journal listen workers links Refused h u = absurd h
  of_serve config journal listen workers links JournalExists h u = absurd h
  of_serve config journal listen workers links InputCut h u = absurd h

  pub complete : (command : Command) (status : Status) → IsCommanded met desks (Some command) sides doors before after closed status → IsUndisturbed met desks command sides doors before after closed → IsEnd status
  complete (init config journal lanes) status h u = of_init lanes config journal status h.0 u
  complete (session config journal) status h u = of_session config journal status h u
  complete (serve config journal listen workers links) status h u = of_serve config journal listen workers links status h.1 u
  complete (export path journal) status h u = of_export path journal status h.0.0 u
  complete (import path journal owner) status h u = of_import path journal owner status h.0 u
  complete (sample n) status h u = of_sample n status h.0.0 u
  complete (verify journal) status h u = of_verify journal status h.0.0 u
