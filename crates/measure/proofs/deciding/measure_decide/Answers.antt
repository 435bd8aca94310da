-- `measure_decide`: the policy that the text is decided under is loaded.
use Rattle.load.proofs.Accepted.{loaded_policy}
use Rattle.measure.proofs.deciding.measure_decide.Goals as goal

pub prepare_and_decide-requires : goal.prepare_and_decide-requires
prepare_and_decide-requires c =
    let (d, l, is, good) = loaded_policy _ c.load.result c.load.ensures _ c.in-Ok.is in (d, record { policy = is; good = good })
