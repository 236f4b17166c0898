-- The document that a source has, and the world with it.
--     IsNoDocument left_before left_after      the text is too long, or is no document
--     IsAccepted .. w path l      it is a document that may be adopted at the path of a world
--     IsRefused .. w path      it is none
--     adopted w path owner l      the world with the document as a new domain
use Rattle.std.specs.Prelude.{◌≡◌, ◌⊎◌, ℕ, List, Option, Some, None}
use Rattle.json_import.specs.Adoption.Adopted.{objects_adopted, register_adopted}
use Rattle.json_import.specs.Adoption.Faults.{adopt_fault}
use Rattle.json_import.specs.declared.adoption.faults.AdoptFault.{AdoptFault}
use Rattle.documents.specs.Reader.Loads.{LoadsText}
use Rattle.documents.specs.Reader.Texts.{most_bytes}
use Rattle.documents.specs.declared.reader.loaded.Loaded.{Loaded}
use Rattle.service_core.specs.Steps.{World}
use Rattle.edge_traits.specs.SourceTexts.Texts.{IsLongText, IsWholeText}

-- it has more bytes than a document may have, or its text holds no document
abbrev pub IsNoDocument : Option (List ℕ) → Option (List ℕ) → Type 0
IsNoDocument left_before left_after =
    IsLongText most_bytes left_before left_after
    ⊎ ((text : List ℕ) × IsWholeText most_bytes left_before left_after text × ((l : Loaded) → LoadsText text l → ⊥))

-- its whole text holds this document
pub record IsDocument (left_before left_after : Option (List ℕ)) (l : Loaded) : Type 0 where
  pub text : List ℕ
  pub whole : IsWholeText most_bytes left_before left_after text
  pub loads : LoadsText text l

-- nothing speaks against the document as a new domain at the path
pub record IsAccepted (left_before left_after : Option (List ℕ)) (w : World) (path : List ℕ) (l : Loaded) : Type 0 where
  pub document : IsDocument left_before left_after l
  pub free : adopt_fault w.register path l ≡ None

abbrev pub IsRefused : Option (List ℕ) → Option (List ℕ) → World → List ℕ → Type 0
IsRefused left_before left_after w path =
    IsNoDocument left_before left_after
    ⊎ ((l : Loaded) × (why : AdoptFault) × IsDocument left_before left_after l × (adopt_fault w.register path l ≡ Some why))

abbrev pub adopted : World → List ℕ → List ℕ → Loaded → World
adopted w path owner l = record { register = register_adopted w.register path owner l; objects = objects_adopted w.register l w.objects }
