-- What the steps of a reading answer.
use Rattle.std.proofs.Common.{◌≡◌, ℕ, List, Option, Some, None, Result, Ok, Err, ap, sym}
use Rattle.chunk_layout.specs.Asked.{IsAnswer}
use Rattle.chunk_layout.specs.declared.Layout.{Layout}
use Rattle.chunk_layout.specs.declared.LayoutFault.{LayoutFault}
use Rattle.chunk_layout.proofs.DefaultChunks.HalvingLemmas.{default_only}
use Rattle.object_ops.specs.Creation.Creations.{chunk_or}

-- an answer to what is asked for is the chunk of the definition
pub chunk_answered : (size : ℕ) (dims : List ℕ) (asked : Result (Option (List ℕ)) LayoutFault) (layout : Layout) → IsAnswer dims size asked (Ok layout) → chunk_or size dims asked ≡ Ok layout.chunk
chunk_answered size dims (Err fault) layout h = cc
chunk_answered size dims (Ok None) layout h = ap Ok (default_only size dims layout.chunk h)
chunk_answered size dims (Ok (Some chunk)) layout h = let same : layout ≡ record { chunk = chunk } = cc in ap (λ (l : Layout). Ok l.chunk) (sym same)
