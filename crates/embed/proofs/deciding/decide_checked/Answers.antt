-- `decide_checked`: 8 where no text loads to the value, else what `decide_text` gives.
use mathlib.Core.Path.{refl}
use Rattle.words.proofs.Answers.{passes, fails}
use Rattle.labelling.proofs.Posing.{counted, ready}
use Rattle.sessions.specs.Reply.{said}
use Rattle.sessions.specs.Deciding.{turned_back}
use Rattle.labelling.proofs.Loaded.{loaded_to}
use mathlib.Core.Path.{ap}
use mathlib.Core.Bool.{not}
use Rattle.embed.proofs.deciding.decide_checked.Goals as goal

pub returns-then-not-valid : goal.returns-then-not-valid
unfolding said turned_back
returns-then-not-valid c = record {
  unloaded = λ n. record { reply = refl; session = refl };
  loaded = λ l. absurd (fails c.valid.ensures (ap not c.if-not-valid.true) l);
}

pub prepare-ready-requires : goal.prepare-ready-requires
prepare-ready-requires c = counted (loaded_to (passes c.valid.ensures (ap not c.if-not-valid.false)))

pub decide_text-requires : goal.decide_text-requires
decide_text-requires c =
    let l = passes c.valid.ensures (ap not c.if-not-valid.false) in
    (l.declared, ready (loaded_to l) c.prepare-ready.ensures)

pub returns : goal.returns
returns c =
    record {
      unloaded = λ n. absurd (n (passes c.valid.ensures (ap not c.if-not-valid.false)));
      loaded = λ l. c.decide_text.ensures l.declared (ready (loaded_to l) c.prepare-ready.ensures);
    }
