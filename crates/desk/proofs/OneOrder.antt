-- The order of labels is no choice.
use mathlib.Core.Path.{◌≡◌, sym, ap, ◌∙◌, subst}
use mathlib.Core.List.{List, map}
use Prim.Native.Nat.{ℕ, ◌+◌, ◌-◌, ◌<◌}
use native.Mathlib.Decide.{dec_lt}
use native.Mathlib.Omega.{arith}
use lib.ListN.{length}
use Rattle.words.specs.Bits.{bit, half_bits}
use Rattle.words.proofs.Bits.{bit_mod, same_bits}
use Rattle.theory.specs.Query.{Line, Query, NoClash, Pointwise}
use Rattle.theory.specs.Reduce.{ReducesTo}
use Rattle.theory.specs.Executable.Show.{show}
use Rattle.theory.specs.Executable.Label.{label, labels}
use Rattle.theory.proofs.Lists.{pointwise_once}
use Rattle.theory.proofs.Executable.Show.{shown_is_show}
use Rattle.theory.proofs.Reduce.{reduced_fits}
use Rattle.theory.proofs.Fixed.{labels_of_any_form}
use Rattle.theory.proofs.Equivalent.{labels_by_answers}
use Rattle.query_text.proofs.Accepted.{accepted_well_read}
use Rattle.policy_text.specs.Declared.{Declared}
use Rattle.word_list.specs.Order.{ascending}
use Rattle.word_list.proofs.Sorted.{ascending_same, ascending_only}
use Rattle.labelling.proofs.Loaded.{loaded_to}
use Rattle.label_lists.specs.Listing.{Listed, listed, Lists}
use Rattle.label_lists.proofs.Listed.{labels_listed}
use Rattle.desk.specs.Rewriting.{LabelOf, LabelsOfForm, LabelsOf}
use Rattle.desk.specs.OneOrder.{InOneOrder}
use Rattle.desk.proofs.Rewriting.{labels_of_form}
use Rattle.desk.proofs.Unique.{said_listing_apart}

-- ---- what is said of labels leaves one list

module _ (d : Declared) where
  label_bits : {A : Line} {w u : ℕ} → LabelOf d A w → LabelOf d A u → (k : ℕ) → (bit w k ≡ 1) → (bit u k ≡ 1)
  label_bits {A} {w} {u} a b k e = go (dec_lt k half_bits)
    where
      go : Dec (k < half_bits) → bit u k ≡ 1
      go (yes h) =
          sym (bit_mod u half_bits k h) ∙ ap (λ (x : ℕ). bit x k) (b.table ∙ sym a.table) ∙ bit_mod w half_bits k h ∙ e
      go (no h) =
          let at : 31 + (k - 31) ≡ k = omega arith in
          let n = k - 31 in
          ap (bit u) (sym at) ∙ (b.views n (omega arith)).1 ((a.views n (omega arith)).0 (ap (bit w) at ∙ e))

  label_once : (A : Line) (w u : ℕ) → LabelOf d A w → LabelOf d A u → w ≡ u
  label_once A w u a b =
      same_bits (half_bits + length d.views) w u a.no_other b.no_other (λ k. (label_bits a b k, label_bits b a k))

  form_once : (R : Query) {ws us : List ℕ} → LabelsOfForm d R ws → LabelsOfForm d R us → ws ≡ us
  form_once R {us = us} x y =
      pointwise_once label_once x.each
      (subst (λ (S : Query). Pointwise (LabelOf d) S us) (shown_is_show R y.shows ∙ sym (shown_is_show R x.shows)) y.each)

  one_list : (Q : Query) (ws us : List ℕ) → LabelsOf d Q ws → LabelsOf d Q us → ws ≡ us
  one_list Q ws us x y =
      let (ls, lined, p) = x.any_form x.form x.reduces in
      let (ks, other, q) = y.any_form x.form x.reduces in
      ascending_only x.ascends p ∙ ap ascending (form_once x.form lined other) ∙ sym (ascending_only y.ascends q)

-- ---- every reduced form gives it

pub labels_in_one_order : (vs : List Line) {Q R : Query} → NoClash Q → ReducesTo Q R
    → ascending (labels vs Q) ≡ ascending (map (label vs) (show R))
labels_in_one_order vs clear r = ascending_same (labels_of_any_form vs clear r)

pub in_one_order : InOneOrder
in_one_order = record {
  one_list = one_list;
  any_form = λ p l text before r after g Q e R red lined form.
      let d = l.declared in
      let w = accepted_well_read d.widths text Q e in
      let own = labels_of_form d (loaded_to l).good R (reduced_fits red w.fits) in
      subst (λ (ws : List ℕ). Lists r after (listed before ws))
      (labels_in_one_order d.views w.clear red ∙ ap ascending (form_once d R own form)) (labels_listed l g Q e);
  same_answers = λ p l text other before P Q e f same r t after then x y.
      let d = l.declared in
      let w = accepted_well_read d.widths text P e in
      let u = accepted_well_read d.widths other Q f in
      let list = ap (listed before)
      (ascending_same (labels_by_answers d.widths d.views P Q w.fits u.fits w.clear u.clear same)) in
      let one = labels_listed l x P e in
      let two = labels_listed l y Q f in (
        said_listing_apart r t (one.reply ∙ ap (λ (o : Listed). o.says) list ∙ sym two.reply),
        one.buffer ∙ ap (λ (o : Listed). o.holds) list ∙ sym two.buffer,
      );
}
