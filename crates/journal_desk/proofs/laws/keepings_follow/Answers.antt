use Rattle.std.proofs.Common.{◌≡◌, inl, inr, ⊎_elim, ℕ, Ok, Err, ap, sym, ◌∙◌}
use Rattle.edge_traits.specs.declared.disk.Disk.{Ghosts}
use Rattle.lane_histories.specs.declared.items.Keeping.{Keeping}
use Rattle.lane_histories.specs.declared.items.Answer.{Answer}
use Rattle.lane_histories.specs.declared.items.Answer.TheVariants.{Kept, Refused}
use Rattle.lane_histories.proofs.Lists.{in_last}
use Rattle.journal_desk.specs.Keepings.{keeping_of, lists}
use Rattle.journal_desk.specs.Laws.{KeepingsFollow}
use Rattle.journal_desk.specs.Notes.{NoteOf, at_lanes}
use Rattle.journal_desk.proofs.laws.keepings_follow.Goals as goal

refused_not_kept : ◌≡◌ {A = Answer} Refused Kept → ⊥
refused_not_kept e = cc

follows : {D N : Type 0} (met : Ghosts D) (notes : NoteOf N) → KeepingsFollow met notes
follows {D} met notes old new (Ok c) all i here is = ⊎_elim
    (λ before. inl before)
    (λ (same : keeping_of met old new (Ok c) ≡ i).
    inr (ap (λ (x : Keeping). x.own) (sym same), ap (λ (x : Keeping). x.moment) (sym same) ∙ ap (λ (d : D). met.moment d) (sym all.at)))
    (in_last (lists met notes new).keepings (keeping_of met old new (Ok c)) i here)
follows met notes old new (Err why) all i here is = ⊎_elim
    (λ before. inl before)
    (λ (same : keeping_of met {T = ℕ} old new (Err why) ≡ i). absurd (refused_not_kept (ap (λ (x : Keeping). x.answer) same ∙ is)))
    (in_last (lists met notes new).keepings (keeping_of met {T = ℕ} old new (Err why)) i here)

pub returns : goal.returns
returns g c lanes = follows g.D.Disk (at_lanes g.N.Note lanes)
