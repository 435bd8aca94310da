-- `ask`: what is made of the policy is ready for labelling.
use Rattle.labelling.proofs.Posing.{counted, ready}
use Rattle.labelling.proofs.ask.Goals as goal

pub prepare-ready-requires : goal.prepare-ready-requires
prepare-ready-requires c = let (d, l) = c.requires in counted l

pub label_text-requires : goal.label_text-requires
label_text-requires c = let (d, l) = c.requires in (d, ready l c.prepare-ready.ensures)

pub returns : goal.returns
returns c = λ d l. c.label_text.ensures d (ready l c.prepare-ready.ensures)
