-- `put_text`: without room nothing is written; else the part from the place on comes back with the text at its front.
use native.Mathlib.Omega.{arith}
use Rattle.import.proofs.Placed.{none_said, written_said, no_room, text_placed}
use Rattle.import.proofs.importing.put_text.Goals as goal

pub returns-then-out-place : goal.returns-then-out-place
returns-then-out-place c =
    let a = c.args in
    record {
      text_given = no_room a.text.now a.place a.out.now (omega (arith, c.if-out-place.true));
      result_in_bounds = none_said 10 0;
    }

pub returns-then-out-place-2 : goal.returns-then-out-place-2
returns-then-out-place-2 c =
    let a = c.args in
    record {
      text_given = no_room a.text.now a.place a.out.now (omega (arith, c.if-out-place.false, c.if-out-place-2.true));
      result_in_bounds = none_said 10 0;
    }

pub returns : goal.returns
returns c =
    let a = c.args in
    record {
      text_given = text_placed a.text.now a.place a.out.now (omega (arith, c.if-out-place.false, c.if-out-place-2.false))
          c.put_bytes.ensures;
      result_in_bounds = written_said (omega (arith, c.if-out-place.false, c.if-out-place-2.false));
    }
