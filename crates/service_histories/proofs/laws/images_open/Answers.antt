use Rattle.service_histories.proofs.ImageLemmas.{images_open}
use Rattle.service_histories.proofs.laws.images_open.Goals as goal

pub returns : goal.returns
returns c = λ lanes.
    let keeps = c.events_keep.ensures in
    images_open lanes (keeps.legal lanes) (keeps.images lanes) (c.worlds_are_told.ensures.described lanes) c.described_worlds_stand.ensures
