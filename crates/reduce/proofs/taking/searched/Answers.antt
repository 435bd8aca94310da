-- `searched`: what the candidates, the lines left by folding and the table say of the query, one after the other.
use Rattle.reduce.proofs.Passes.{lines_below}
use Rattle.reduce.proofs.taking.searched.Goals as goal

pub pair_words-table-requires : goal.pair_words-table-requires
pair_words-table-requires c =
    (c.requires.1, c.requires.2, lines_below c.fold-rows.ensures.upper_bound c.requires.0)

pub returns : goal.returns
returns c = λ Q g goings.
    let m = c.candidates-c.ensures Q _ g goings in
    c.taken.ensures Q g.count (c.pair_words-table.ensures.pairs_tabled Q _ g m) (c.fold-rows.ensures.folds Q g m)
