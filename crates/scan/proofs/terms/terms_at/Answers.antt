use native.Mathlib.Omega.{arith}
use Rattle.model.specs.Value.{pad, unused_term, terms_value}
use Rattle.scan.proofs.TermBytes.{terms_none, terms_one_more, term_small}
use Rattle.scan.proofs.terms.terms_at.Goals as goal

pub loop-c-init : goal.loop-c-init
unfolding terms_value pad unused_term
loop-c-init c = terms_none _ c.requires.0.within

-- ---- the next term

pub with_mark-shown-requires : goal.with_mark-shown-requires
with_mark-shown-requires c = term_small c.in_ok-t.ensures 2 (omega arith)

pub with_mark-hidden-requires : goal.with_mark-hidden-requires
with_mark-hidden-requires c = term_small c.in_ok-t.ensures 3 (omega arith)

pub loop-c-preserved : goal.loop-c-preserved
loop-c-preserved c =
    terms_one_more _ _ c.loop-c.invariant c.in_ok-t.ensures (omega (arith, c.requires)) c.with_mark-shown.ensures
    c.with_mark-hidden.ensures
