-- What a query text gives under a loadable policy, by the reply.
use mathlib.Core.Path.{◌≡◌, ap}
use mathlib.Core.List.{List}
use Prim.Native.Nat.{ℕ, ◌/◌, ◌^◌, ◌≤◌, ◌<◌}
use native.Mathlib.Nat.{lt_of_lt_of_le}
use native.Mathlib.Omega.{arith}
use lib.Pow.{pow_mono}
use Rattle.words.specs.Bits.{half_bits}
use Rattle.theory.specs.Query.{Query, ◌∈◌}
use Rattle.theory.specs.Archive.{AllFit}
use Rattle.theory.specs.Executable.Label.{labels}
use Rattle.model.specs.Limits.{most_lines}
use Rattle.std.specs.Prelude.{Result, Ok, Err}
use Rattle.model.specs.declared.Refusal.{Refusal}
use Rattle.model.specs.declared.Policy.{Policy}
use Rattle.query_text.specs.Text.{refused, accepted, read}
use Rattle.query_text.proofs.Accepted.{accepted_well_read}
use Rattle.policy_text.specs.Declared.{Declared}
use Rattle.policy_text.specs.WellFormed.{WellFormed}
use Rattle.validity.specs.Loadable.{Loadable}
use Rattle.labelling.specs.Posed.{labels_value}
use Rattle.word_list.specs.Value.{words_value}
use Rattle.labelling.specs.Settled.{settling}
use Rattle.labelling.specs.Text.{LoadedTo, asked_value}
use Rattle.word_list.specs.declared.Words.{Words}
use Rattle.labelling.specs.declared.Labels.{Labels}
use Rattle.labelling.proofs.Partitions.{label_views}
use Rattle.labelling.proofs.Posing.{few_labels}
use Rattle.labelling.proofs.Readings.{asked_accepted, asked_refused}
use Rattle.labelling.proofs.Loaded.{loaded_to}
use Rattle.label_lists.specs.HoldsLabels.{HoldsLabels}

-- ---- how many labels there are, and how large

pub labels_held : {l : Words} {ws : List ℕ} → HoldsLabels l ws → l.count ≤ most_lines
unfolding words_value
labels_held h = omega (arith, ap (λ (x : Words). x.count) h.is, h.few)

-- the views of a label, of which a policy has at most 32
labels_narrow : (d : Declared) → WellFormed d → (Q : Query) → AllFit d.widths Q → (w : ℕ) → w ∈ labels d.views Q
    → w / 2 ^ half_bits < 2 ^ half_bits
labels_narrow d good Q fits w m = lt_of_lt_of_le (label_views d good Q fits w m) (pow_mono good.views.few)

-- ---- how the text ended

-- the text is a query, these are its labels, and these partitions settle it
pub record Labelled (d : Declared) (text : List ℕ) (given : Labels) : Type 0 where
  pub query : Query
  pub reads : read d.widths text ≡ accepted query
  pub held : HoldsLabels given.words (labels d.views query)
  pub settles : given.settling ≡ settling d query

-- what labelling the text gives for each loading of the policy
module _ {p : Policy} (text : List ℕ) (v : Result Labels Refusal)
    (asked : (d : Declared) → LoadedTo p d → v ≡ asked_value d (read d.widths text)) (l : Loadable p) where
  pub text_accepted : (given : Labels) → v ≡ Ok given → Labelled l.declared text given
  unfolding labels_value
  text_accepted given h =
      let d = l.declared in
      let (Q, r, w) = asked_accepted d (read d.widths text) v (asked d (loaded_to l)) given h in
      let q = accepted_well_read d.widths text Q r in
      record {
        query = Q;
        reads = r;
        held =
            record {
              is = ap (λ (x : Labels). x.words) w;
              few = few_labels d.views d.widths text Q r;
              narrow = labels_narrow d (loaded_to l).good Q q.fits;
            };
        settles = ap (λ (x : Labels). x.settling) w;
      }

  pub text_turned : (r : Refusal) → v ≡ Err r → read l.declared.widths text ≡ refused r.number r.line
  text_turned = asked_refused l.declared (read l.declared.widths text) v (asked l.declared (loaded_to l))
