-- `prepare_and_decide`: what is prepared of the policy is ready for deciding.
use Rattle.labelling.proofs.Posing.{counted, ready}
use Rattle.measure.proofs.deciding.prepare_and_decide.Goals as goal

pub prepare_for_many-ready-requires : goal.prepare_for_many-ready-requires
prepare_for_many-ready-requires c = let (d, l) = c.requires in counted l

pub decide_again-requires : goal.decide_again-requires
decide_again-requires c =
    let (d, l) = c.requires in (d, ready l c.prepare_for_many-ready.ensures)
