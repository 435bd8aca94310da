-- Explaining says settled exactly where the partition determines the query.
use mathlib.Core.Path.{◌≡◌, refl, sym, ap, ◌∙◌}
use mathlib.Core.Bool.{Bool, true, false, cond, false≢true}
use mathlib.Core.List.{List, []}
use Prim.Native.Nat.{ℕ, ◌-◌}
use native.Mathlib.Omega.{arith}
use lib.ListN.{length, get_or}
use Rattle.theory.specs.Query.{Query}
use Rattle.theory.specs.Executable.Label.{labels}
use Rattle.theory.proofs.Lists.{below_place, there}
use Rattle.words.proofs.Answers.{true_holds, holds_true, either}
use Rattle.model.specs.Limits.{up_to}
use Rattle.model.proofs.Limits.{up_to_iff}
use Rattle.query_text.specs.Text.{read, accepted}
use Rattle.query_text.proofs.Accepted.{accepted_well_read}
use Rattle.policy_text.specs.Declared.{Declared}
use Rattle.policy_text.specs.Policy.{views_word}
use Rattle.labelling.specs.Settled.{settled}
use Rattle.labelling.proofs.Partitions.{settled_iff_partition}
use Rattle.labelling.proofs.Loaded.{loaded_to}
use Rattle.explain.specs.Explanation.{explained}
use Rattle.label_lists.specs.Buffer.{too_short}
use Rattle.explanations.specs.Explaining.{SaidExplaining, said_explaining, not_explained, explained_by, explain_reading, explain_under, Explained}
use Rattle.desk.specs.Outcomes.{SettledExactly}

module _ (d : Declared) (n : ℕ) (text before : List ℕ) (Q : Query) (reads : read d.widths text ≡ accepted Q) where
  abbrev is_settled : Bool
  is_settled = settled (views_word (get_or d.partitions (n - 1) [])) (labels d.views Q)

  -- where an explanation is given the partition is one of the policy's, and the reply says whether it settles the query
  abbrev Tells : Explained → Type 0
  Tells o = o.says.given ≡ true → (up_to (length d.partitions) n ≡ true) × (o.says.settles ≡ is_settled)

  under_tells : Tells (explain_under d n text before)
  unfolding explain_under explain_reading explained_by not_explained
  under_tells = rw reads (go (up_to (length d.partitions) n) refl)
    where
      go : (b : Bool) → up_to (length d.partitions) n ≡ b
          → Tells (cond b (explain_reading d n before (accepted Q)) (not_explained before 4 0))
      go true e =
          either Tells (too_short before (explained (views_word (get_or d.partitions (n - 1) [])) (labels d.views Q)))
          (λ g. absurd (false≢true g)) (λ g. (e, refl))
      go false e = λ g. absurd (false≢true g)

pub settled_exactly : SettledExactly
settled_exactly p l n text before r after x given Q reads =
    let d = l.declared in
    let w = accepted_well_read d.widths text Q reads in
    let k = x.loaded l in
    let (there?, says) = under_tells d n text before Q reads (sym (ap (λ (s : SaidExplaining). s.given) k.reply) ∙ given) in
    let u = (up_to_iff (length d.partitions) n).0 (true_holds there?) in
    let (vs, at) = below_place d.partitions (n - 1) (omega (arith, u.0, u.1)) in
    let s = settled_iff_partition d (loaded_to l).good (n - 1) vs at Q w.clear w.fits in
    let same : (said_explaining r).settles ≡ settled (views_word vs) (labels d.views Q) =
    ap (λ (t : SaidExplaining). t.settles) k.reply
    ∙ says
    ∙ ap (λ (l : List ℕ). settled (views_word l) (labels d.views Q)) (there d.partitions (n - 1) [] at) in
    (λ e. s.0 (true_holds (sym same ∙ e)), λ h. same ∙ sym (holds_true _ (s.1 h)))
