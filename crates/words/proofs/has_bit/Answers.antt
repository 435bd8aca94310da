-- `has_bit`: the lowest bit of the word shifted by `k` is bit `k`.
use Rattle.words.proofs.Tests.{and_one}
use Rattle.words.proofs.has_bit.Goals as goal

pub returns : goal.returns
returns c = and_one c.args.m c.args.k
