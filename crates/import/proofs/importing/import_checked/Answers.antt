-- `import_checked`: 7 for its length, what turns the rule back, or its text.
use Rattle.import.proofs.Placed.{none_said}
use Rattle.import.proofs.Replies.{too_long, turned_back, text_given}
use Rattle.import.proofs.importing.import_checked.Goals as goal

pub returns-then-rule-gt-MOST_BYTES : goal.returns-then-rule-gt-MOST_BYTES
returns-then-rule-gt-MOST_BYTES c =
    let a = c.args in
    record {
      rule_given = too_long a.tables a.rule.now a.place a.out.now c.if-rule-gt-MOST_BYTES.true;
      result_in_bounds = none_said 7 0;
    }

pub returns-in-Err : goal.returns-in-Err
returns-in-Err c =
    let a = c.args in
    record {
      rule_given =
          turned_back a.tables a.rule.now a.place a.out.now c.if-rule-gt-MOST_BYTES.false _ c.translate.ensures.translates
          c.in-Err.back.number c.in-Err.is;
      result_in_bounds = none_said c.in-Err.back.number 1;
    }

pub returns : goal.returns
returns c =
    let a = c.args in
    record {
      rule_given =
          text_given a.tables a.rule.now a.place a.out.now c.if-rule-gt-MOST_BYTES.false _ c.translate.ensures.translates c.in-Ok.bytes c.in-Ok.is _ _
          c.put_text.ensures.text_given;
      result_in_bounds = c.put_text.ensures.result_in_bounds;
    }
