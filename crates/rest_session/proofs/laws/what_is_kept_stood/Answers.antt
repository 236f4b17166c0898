use Rattle.rest_session.proofs.KeptWorlds.{never_less, same_disk, what_is_left, what_stood, whole_stretch}
use Rattle.rest_session.proofs.laws.what_is_kept_stood.Goals as goal

pub returns-clause-disk : goal.returns-clause-disk
returns-clause-disk g c = λ s t taken sent left end transcript. same_disk s t taken sent left end transcript

pub returns-clause-stood : goal.returns-clause-stood
returns-clause-stood g c = λ s t taken sent left end transcript honest b k.
    what_stood {D = g.row.D.Denot} {met = g.D.Disk} honest c.places_in_order.ensures.next g.met.D.Disk.only_now (λ j building u ws. c.images_are_kept.ensures j building u ws)
    s t taken sent left end transcript b k

pub returns-clause-stretch : goal.returns-clause-stretch
returns-clause-stretch g c = λ s t taken sent left end transcript. whole_stretch s t taken sent left end transcript

pub returns-clause-crash : goal.returns-clause-crash
returns-clause-crash g c = λ s t u v taken sent is honest b k.
    what_is_left {D = g.row.D.Denot} {met = g.D.Disk} honest c.places_in_order.ensures.next g.met.D.Disk.only_now (λ j building u ws. c.images_are_kept.ensures j building u ws) s t taken sent u v is b k

pub returns-clause-onward : goal.returns-clause-onward
returns-clause-onward g c = λ s t u v taken sent is k. never_less c.places_in_order.ensures.next s t taken sent u v is k
