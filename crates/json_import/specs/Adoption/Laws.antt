-- What an export printed is loaded as what the domain held, and exported again as the same under fresh ids.
use Rattle.std.specs.Prelude.{◌≡◌, ℕ, ◌^◌, ◌≤◌, List, [], ◌∷◌, ◌++◌, length, Some}
use Rattle.serde_json.specs.Data.{Data}
use Rattle.serde_json.specs.Written.{compact_text}
use Rattle.flush_journal.specs.Records.{Held}
use Rattle.register.specs.Decided.{RegisterState}
use Rattle.service_core.specs.Records.{DescribesWorld}
use Rattle.service_core.specs.Steps.{World}
use Rattle.service_core.specs.Described.Told.{AreWhole}
use Rattle.documents.specs.Domains.Printed.{ReadsAs}
use Rattle.documents.specs.declared.domains.home.Home.{Home}
use Rattle.json_export.specs.Documents.{doc, home_at}
use Rattle.documents.specs.Reader.Loads.{Loads, LoadsText}
use Rattle.documents.specs.declared.reader.loaded.Loaded.{Loaded}
use Rattle.json_import.specs.RoundTrips.Loaded.{AreSound, loaded_from}
use Rattle.json_import.specs.RoundTrips.Renamed.{renamed}
use Rattle.json_import.specs.Adoption.Adopted.{IsReadBack, root_at}

-- in a world that records describe, the domain at a path is sound
abbrev pub DomainsAreSound : Type 0
DomainsAreSound = (held : Held) (run : ℕ) (w : World) (path : List ℕ) (h : Home)
    → DescribesWorld held run w → AreWhole w.objects → home_at w path ≡ Some h → AreSound w.objects h

-- so a text that is read as its document is loaded as what it holds, where it isn't too long
abbrev pub ExportsAreLoaded : Type 0
ExportsAreLoaded = (held : Held) (run : ℕ) (w : World) (path : List ℕ) (h : Home) (tree : Data) (text : List ℕ)
    → DescribesWorld held run w → AreWhole w.objects → home_at w path ≡ Some h
    → doc w path ≡ Some tree → ReadsAs text tree → length text ≤ 2 ^ 27 → LoadsText text (loaded_from w.objects h)

-- and so it is with a line feed behind it
abbrev pub LinesAreLoaded : Type 0
LinesAreLoaded = (held : Held) (run : ℕ) (w : World) (path : List ℕ) (h : Home) (tree : Data) (text : List ℕ)
    → DescribesWorld held run w → AreWhole w.objects → home_at w path ≡ Some h
    → doc w path ≡ Some tree → ReadsAs text tree → length (text ++ 10 ∷ []) ≤ 2 ^ 27
    → LoadsText (text ++ 10 ∷ []) (loaded_from w.objects h)

-- so what was exported, adopted from that line and exported again is loaded as what the first domain held, under the fresh ids
abbrev pub ExportsComeBack : Type 0
ExportsComeBack = (held : Held) (run : ℕ) (w : World) (path : List ℕ) (h : Home) (tree : Data)
    → DescribesWorld held run w → AreWhole w.objects → home_at w path ≡ Some h
    → doc w path ≡ Some tree → ReadsAs (compact_text tree) tree → length (compact_text tree ++ 10 ∷ []) ≤ 2 ^ 27
    → (l : Loaded) (d : RegisterState) (v : World) (other : List ℕ) → LoadsText (compact_text tree ++ 10 ∷ []) l → IsReadBack d l v other
    → (l ≡ loaded_from w.objects h)
    × ((printed : Data) × (doc v other ≡ Some printed) × Loads printed (renamed (loaded_from w.objects h) (root_at d)))
