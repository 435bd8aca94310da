-- `step`: a names line opens the next block, and any other line is entered in this one.
use mathlib.Core.Path.{sym, ◌∙◌}
use Rattle.load.proofs.Blocks.{block_of, policy_of, goes_on, line_entered}
use Rattle.load.proofs.step.Goals as goal

pub returns-then-is_next : goal.returns-then-is_next
returns-then-is_next c = λ b started d e.
    goes_on b started d _ e c.args.line.now
    (sym (c.is_next.ensures b (block_of b started d _ e)) ∙ c.if-is_next.true) _ (c.next_block.ensures b (block_of b started d _ e))

pub returns : goal.returns
returns c = λ b started d e.
    line_entered b started d _ e c.args.line.now
    (sym (c.is_next.ensures b (block_of b started d _ e)) ∙ c.if-is_next.false)
    c.enter_line-e.result (c.enter_line-e.ensures b (block_of b started d _ e) d (policy_of b started d _ e))
