-- Why no run is begun, and why no document is adopted.
use Rattle.std.proofs.Common.{◌≡◌, inl, inr, ℕ, ◌≤◌, List, Option, Result, Ok, Err, IfErr, refl, sym, ap₂, subst}
use Rattle.std.specs.Prelude.{IsErrAnd}
use Rattle.documents.specs.declared.parts.faults.DocFault.{DocFault}
use Rattle.documents.specs.declared.parts.faults.DocFault.TheVariants as doc
use Rattle.json_import.specs.Adoption.Faults.{IsBlamed, adopt_fault}
use Rattle.json_import.specs.declared.adoption.counts.Counts.{Counts}
use Rattle.json_import.specs.declared.adoption.faults.AdoptFault.{AdoptFault}
use Rattle.json_import.specs.declared.adoption.faults.AdoptFault.TheVariants as adopt
use Rattle.edge_traits.specs.Causes.{Rose}
use Rattle.edge_traits.specs.declared.disk.Disk.{Ghosts}
use Rattle.flush_journal.specs.Standing.{disk_of}
use Rattle.flush_journal.specs.declared.journal.Journal.{Journal}
use Rattle.documents.specs.Reader.Loads.{LoadsText}
use Rattle.documents.specs.Reader.Texts.{most_bytes}
use Rattle.documents.specs.declared.reader.loaded.Loaded.{Loaded}
use Rattle.service_core.specs.Journals.Begun.{IsOfDisk, IsUnstarted}
use Rattle.service_core.specs.Steps.{World}
use Rattle.service_core.specs.Worlds.{State, seen}
use Rattle.service_core.specs.declared.journals.beginning.BeginFault.{BeginFault}
use Rattle.service_core.specs.declared.journals.beginning.BeginFault.TheVariants as begin
use Rattle.edge_traits.specs.SourceTexts.Texts.{IsLongText, IsTaken, IsWholeText}
use Rattle.edge_traits.specs.declared.source_texts.reading.TextFault.{TextFault}
use Rattle.edge_traits.specs.declared.source_texts.reading.TextFault.TheVariants as text
use Rattle.json_import.specs.Kept.Documents.{IsDocument}
use Rattle.json_import.specs.Kept.Imports.{CameTo, HasCauseOf, IsImportDiskFault}
use Rattle.json_import.specs.Kept.Parts.{CameToFrom, IsUnadopted, IsUnloaded, of_adoption, of_begin, of_document, of_text, outcome_of}
use Rattle.json_import.specs.declared.kept.reading.Unadopted.{Unadopted}
use Rattle.json_import.specs.declared.kept.reading.Unadopted.TheVariants as unadopted

-- ---- an import of which no run was begun

pub not_started : {D : Type 0} (met : Ghosts D) (before after : D) (path owner : List ℕ) (left : Option (List ℕ)) (why : BeginFault) → IsUnstarted met before after why
    → CameTo met before after path owner left left (of_begin why)
not_started met before after path owner left (begin.Unopened refusal) h = (h, refl)
not_started met before after path owner left (begin.Unbegun refusal) h = (h, refl)

pub cause_unstarted : (faults : ℕ) (why : BeginFault) → HasCauseOf faults faults (of_begin why)
cause_unstarted faults (begin.Unopened refusal) = refl
cause_unstarted faults (begin.Unbegun refusal) = refl

pub fault_unstarted : (why : BeginFault) → IsImportDiskFault (of_begin why) → IsOfDisk why
fault_unstarted (begin.Unopened refusal) h = h
fault_unstarted (begin.Unbegun refusal) h = h

-- ---- a document that is not adopted

-- two worlds that are one in both parts
pub same_world : (v w : World) → v.register ≡ w.register → v.objects ≡ w.objects → v ≡ w
same_world v w register objects = ap₂ (λ d o. record v { register = d; objects = o }) register objects

-- an error that `?` hands on
pub handed : {A E : Type 0} (r : Result A E) (e : E) (P : E → Type 0) → IsErrAnd r (λ x. x ≡ e) → P e → IfErr r P
handed (Ok x) e P h told = absurd h
handed (Err x) e P h told = subst P (sym h) told

module _ (lb la : Option (List ℕ)) (before now : ℕ) where
  -- the source was not read to its end
  pub not_read : (e : TextFault) → (e ≡ text.TooLong → IsLongText most_bytes lb la) → (e ≡ text.ReadFault → Rose before now) → IsUnloaded lb la before now (of_text e)
  not_read text.TooLong long rose = inl (long refl)
  not_read text.ReadFault long rose = rose refl
  not_read text.NoMemory long rose = tt

  -- its text is no document
  pub not_loaded : (bytes : List ℕ) (e : DocFault) → IsWholeText most_bytes lb la bytes → ((l : Loaded) → LoadsText bytes l → e ≡ doc.NoMemory) → IsUnloaded lb la before now (of_document e)
  not_loaded bytes doc.NoMemory whole only = tt
  not_loaded bytes (doc.Refused path cause) whole only = inr (bytes, whole, λ l loads. let wrong : doc.Refused path cause ≡ doc.NoMemory = only l loads in cc)

  module _ (w : World) (path : List ℕ) where
    -- no document was read
    pub still_refused : (e : Unadopted) → IsUnloaded lb la before now e → IsUnadopted lb la before now w path e
    still_refused unadopted.Unread h = h
    still_refused unadopted.Refused h = inl h
    still_refused unadopted.NoMemory h = tt

    -- it can't be adopted
    pub not_adopted : (l : Loaded) (e : AdoptFault) → IsDocument lb la l → IsBlamed {A = Counts} (Err e) (adopt_fault w.register path l) → IsUnadopted lb la before now w path (of_adoption e)
    not_adopted l adopt.NoFolder d blamed = inr (l, adopt.NoFolder, d, blamed)
    not_adopted l adopt.Taken d blamed = inr (l, adopt.Taken, d, blamed)
    not_adopted l (adopt.Limit what) d blamed = inr (l, adopt.Limit what, d, blamed)
    not_adopted l adopt.NoMemory d blamed = tt

-- ---- what then comes of an import

module _ {D : Type 0} {met : Ghosts D} (j : Journal D met) (s : State) (after : D) (path owner : List ℕ) (lb la : Option (List ℕ)) (before now : ℕ) where
  pub from_refusal : (e : Unadopted) → IsUnadopted lb la before now (seen s) path e → IsTaken lb la → after ≡ disk_of j → CameToFrom j s after path owner lb la (outcome_of e)
  from_refusal unadopted.Unread h taken same = (same, taken)
  from_refusal unadopted.Refused h taken same = (same, h)
  from_refusal unadopted.NoMemory h taken same = (same, taken)

pub cause_of_refusal : (lb la : Option (List ℕ)) (before now : ℕ) (w : World) (path : List ℕ) (e : Unadopted) → IsUnadopted lb la before now w path e → before ≤ now → HasCauseOf before now (outcome_of e)
cause_of_refusal lb la before now w path unadopted.Unread h later = h
cause_of_refusal lb la before now w path unadopted.Refused h later = later
cause_of_refusal lb la before now w path unadopted.NoMemory h later = later

pub no_disk_fault : (e : Unadopted) → IsImportDiskFault (outcome_of e) → ⊥
no_disk_fault unadopted.Unread h = h
no_disk_fault unadopted.Refused h = h
no_disk_fault unadopted.NoMemory h = h
