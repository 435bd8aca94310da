-- `measure_label`: the policy that the query is read under is loaded.
use Rattle.load.proofs.Accepted.{loaded_policy}
use Rattle.measure.proofs.labels.measure_label.Goals as goal

pub read_and_label-requires : goal.read_and_label-requires
read_and_label-requires c =
    let (d, l, is, good) = loaded_policy _ c.load.result c.load.ensures _ c.in-Ok.is in (d, record { policy = is; good = good })
