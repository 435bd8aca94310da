-- `prepare_for_many`: the free columns are found in what is prepared.
use Rattle.covering.proofs.Prepared.{prepared_free}
use Rattle.covering.proofs.preparing.prepare_for_many.Goals as goal

pub returns : goal.returns
returns c = prepared_free c.prepare-ready.ensures c.find_free.ensures
