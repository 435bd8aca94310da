-- The loop's invariant: as many terms as were counted stand behind the start, and are held.
use Rattle.scan.proofs.TermBytes.{TermsTo}
use Rattle.scan.proofs.terms.terms_at.Given as goal

abbrev pub invariant-loop-c : goal.invariant-loop-c
invariant-loop-c l =
    TermsTo l.text l.start l.c (record { end = l.at; terms = l.terms; shown = l.shown; hidden = l.hidden })
