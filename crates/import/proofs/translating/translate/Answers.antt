-- `translate`: the text without its end, parted at the first bracket that closes.
use mathlib.Core.Path.{refl}
use Prim.Native.Nat.{◌<◌}
use native.Mathlib.Omega.{arith}
use lib.ListN.{length, length-take, length-drop}
use Rattle.text.specs.Names.{bytes}
use Rattle.text.proofs.Parts.{first_length, first_inside}
use Rattle.rules.specs.Text.{closing}
use Rattle.import.proofs.Ends.{other_end, one_piece, two_pieces}
use Rattle.import.proofs.translating.translate.Goals as goal
use Rattle.import.proofs.translating.translate.Goals.{Else-h-whole}

pub returns-in_default : goal.returns-in_default
unfolding bytes
returns-in_default c =
    record {
      translates = λ w t n. rw (other_end c.args.rule.now c.in_default.ensures.cases) refl;
      out_len = (c.requires.1, tt);
    }

pub returns-then-h-whole : goal.returns-then-h-whole
unfolding bytes
returns-then-h-whole c =
    let e = c.in-Some.ensures.cases in
    record {
      translates = λ w t n. rw (one_piece c.args.rule.now e.0 e.1 c.first-h.ensures c.if-h-whole.true) refl;
      out_len = (c.requires.1, tt);
    }

-- the bracket stands before the end
inside : (c : Else-h-whole) → c.first-h.result < length c.in-Some.whole.now
inside c = first_inside closing _ _ c.first-h.ensures c.if-h-whole.false

pub slice_bounds-translate_parts-end : goal.slice_bounds-translate_parts-end
slice_bounds-translate_parts-end c = first_length closing _ _ c.first-h.ensures

pub overflow_add-h : goal.overflow_add-h
overflow_add-h c =
    omega (arith, inside (goal.at.overflow_add-h c).Else-h-whole, c.in-Some.ensures.cases.2, c.requires.0)

pub slice_bounds-translate_parts-count : goal.slice_bounds-translate_parts-count
slice_bounds-translate_parts-count c = omega (arith, inside (goal.at.slice_bounds-translate_parts-count c).Else-h-whole)

pub slice_bounds-translate_parts-start : goal.slice_bounds-translate_parts-start
slice_bounds-translate_parts-start c = omega (arith, inside (goal.at.slice_bounds-translate_parts-start c).Else-h-whole)

pub translate_parts-requires : goal.translate_parts-requires
translate_parts-requires c =
    (simp (length-take, length-drop) (omega (arith, c.in-Some.ensures.cases.2, c.requires.0)), c.requires.1)

pub returns : goal.returns
unfolding bytes
returns c =
    let e = c.in-Some.ensures.cases in
    record {
      translates = λ w t n.
          rw (two_pieces c.args.rule.now e.0 e.1 c.first-h.ensures c.if-h-whole.false) (c.translate_parts.ensures.parts_translated w t n);
      out_len = c.translate_parts.ensures.out_len;
    }
