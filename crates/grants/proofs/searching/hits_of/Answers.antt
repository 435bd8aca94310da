use Rattle.grants.proofs.Gathering.{hits_more, hits_all}
use Rattle.grants.proofs.searching.hits_of.Goals as goal

pub loop-v-preserved : goal.loop-v-preserved
loop-v-preserved c = hits_more c.loop-v-test.true c.holding.ensures c.loop-v.invariant

pub returns : goal.returns
returns c = hits_all c.loop-v-test.false c.loop-v.invariant
