-- The labels of a query, as the definition gives them, mean rewriting, and are those of every reduced form, in ascending order.
use mathlib.Core.List.Permᴰ
use mathlib.Core.List.{map}
use Prim.Native.Nat.{◌^◌, ◌<◌}
use native.Mathlib.Omega.{arith}
use Rattle.words.specs.Bits.{half_bits}
use Rattle.theory.specs.Query.{Line, Query, NoClash, Fits}
use Rattle.theory.specs.Archive.{AllFit}
use Rattle.theory.specs.Executable.Reduce.{reduce}
use Rattle.theory.specs.Executable.Show.{show}
use Rattle.theory.specs.Executable.Label.{label, labels}
use Rattle.theory.proofs.Lists.{pointwise_of}
use Rattle.theory.proofs.Executable.Show.{show_is_shown, shown_fits}
use Rattle.theory.proofs.Fixed.{labels_of_any_form}
use Rattle.theory.proofs.Reduce.{reduced_answers, reduced_reduced, reduced_fits}
use Rattle.theory.proofs.Label.{label_says_rewriting}
use Rattle.theory.proofs.Executable.Reduce.{reduce_reduces}
use Rattle.theory.proofs.Executable.Label.{label_table, label_below}
use Rattle.word_list.specs.Order.{ascending}
use Rattle.word_list.proofs.Sorted.{ascending_permutes, ascending_ascends}
use Rattle.policy_text.specs.Declared.{Declared}
use Rattle.policy_text.specs.WellFormed.{WellFormed}
use Rattle.desk.specs.Rewriting.{LabelOf, LabelsOfForm, LabelsOf}

module _ (d : Declared) (good : WellFormed d) where
  label_of : (A : Line) → Fits d.widths A → LabelOf d A (label d.views A)
  label_of A f =
      let small : A.table < 2 ^ half_bits = omega (arith, f.last, good.tables.few) in
      record {
        table = label_table d.views A small;
        views = label_says_rewriting d.widths d.views A f small;
        no_other = label_below d.views A small;
      }

  -- the labels of a query that fits, its shared variables shown
  pub labels_of_form : (R : Query) → AllFit d.widths R → LabelsOfForm d R (map (label d.views) (show R))
  unfolding show
  labels_of_form R fits = record {
    shown = show R;
    shows = show_is_shown R;
    each = pointwise_of (label d.views) (show R) (λ A m. label_of A (shown_fits (show_is_shown R) fits A m));
  }

  pub labels_rewrite : (Q : Query) → NoClash Q → AllFit d.widths Q → LabelsOf d Q (ascending (labels d.views Q))
  labels_rewrite Q clear fits =
      let ws = labels d.views Q in
      record {
        form = reduce Q;
        reduces = reduce_reduces Q;
        any_form = λ R r. (
          map (label d.views) (show R),
          labels_of_form R (reduced_fits r fits),
          Permᴰ.trans (ascending_permutes ws) (labels_of_any_form d.views clear r),
        );
        ascends = ascending_ascends ws;
        answers = λ R r. reduced_answers r;
        none_goes = λ R r. reduced_reduced r;
      }
