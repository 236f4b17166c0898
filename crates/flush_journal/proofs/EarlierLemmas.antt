-- The bytes of a journal before its end.
use Rattle.std.proofs.Common.{◌≡◌, ℕ, List, [], ◌∷◌, ◌++◌, length, take, Ok, refl, sym, ◌∙◌, ap, arith, append_assoc, length-append}
use Rattle.std.proofs.lemmas.List.{take_at}
use Rattle.flush_journal.specs.Records.{Record}
use Rattle.flush_journal.specs.Files.{Content, content}
use Rattle.flush_journal.specs.Blocks.{header_bytes, payload_bytes, blocks, IsJournal}
use Rattle.flush_journal.specs.Standing.{with_batch}
use Rattle.flush_journal.proofs.BlockLemmas.{length-blocks}
use Rattle.flush_journal.proofs.EncodingLemmas.{Bytes}
use Rattle.flush_journal.proofs.HeaderLemmas.{length-header}
use Rattle.flush_journal.proofs.LayoutLemmas.{journal_of}

-- what stands before the end of a journal with this content
abbrev pub front_bytes : Content → List ℕ
front_bytes c = header_bytes c.lanes ++ blocks c.written

blocks_both : (xs ys : List (List Record)) → blocks (xs ++ ys) ≡ blocks xs ++ blocks ys
blocks_both [] ys = refl
blocks_both (x ∷ xs) ys = ap (λ (l : List ℕ). 1 ∷ (payload_bytes x ++ l)) (blocks_both xs ys) ∙ ap (λ (l : List ℕ). 1 ∷ l) (sym (append_assoc (payload_bytes x) (blocks xs) (blocks ys)))

front_length : (bytes : List ℕ) (c : Content) → IsJournal bytes c → length (front_bytes c) ≡ c.end
front_length bytes c j =
    ap (λ (bs : List (List Record)). length (header_bytes c.lanes ++ blocks bs)) j.written
    ∙ omega (arith, length-append (header_bytes c.lanes) (blocks j.batches), length-header c.lanes j.few_lanes, length-blocks j.batches, j.end)

pub front_stands : (bytes : List ℕ) (c : Content) → Bytes bytes → content bytes ≡ Ok c → take c.end bytes ≡ front_bytes c
front_stands bytes c h is =
    let j = journal_of bytes c h is in
    ap (take c.end) (j.whole ∙ ap (λ (bs : List (List Record)). header_bytes c.lanes ++ blocks bs ++ j.marker ∷ j.rest) (sym j.written))
    ∙ take_at (front_bytes c) (j.marker ∷ j.rest) c.end (front_length bytes c j)

pub front_stays : (before after : List ℕ) (c : Content) (rs : List Record) → Bytes before → Bytes after → content before ≡ Ok c → content after ≡ Ok (with_batch c rs) → take c.end after ≡ front_bytes c
front_stays before after c [] old new was is = front_stands after c new is
front_stays before after c (r ∷ rs) old new was is =
    let j = journal_of after (with_batch c (r ∷ rs)) new is in
    let more = blocks ((r ∷ rs) ∷ []) in
    let rest = j.marker ∷ j.rest in
    ap (take c.end) (
    j.whole ∙ ap (λ (bs : List (List Record)). header_bytes c.lanes ++ blocks bs ++ rest) (sym j.written)
    ∙ ap (λ (l : List ℕ). header_bytes c.lanes ++ l ++ rest) (blocks_both c.written ((r ∷ rs) ∷ []))
    ∙ ap (λ (l : List ℕ). l ++ rest) (sym (append_assoc (header_bytes c.lanes) (blocks c.written) more))
    ∙ append_assoc (front_bytes c) more rest
    )
    ∙ take_at (front_bytes c) (more ++ rest) c.end (front_length before c (journal_of before c old was))
