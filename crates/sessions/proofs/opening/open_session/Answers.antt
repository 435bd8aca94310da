-- `open_session`: 8, or the word that has a bit for each partition.
use mathlib.Core.Path.{◌≡◌, refl, ap, ◌∙◌}
use Prim.Native.Nat.{ℕ, ◌-◌, ◌^◌}
use native.Mathlib.Omega.{arith}
use Rattle.words.proofs.Answers.{passes, fails}
use Rattle.std.specs.Prelude.{Ok}
use Rattle.model.specs.declared.Policy.{Policy}
use Rattle.policy_text.specs.Declared.{Declared}
use Rattle.labelling.specs.Text.{LoadedTo}
use Rattle.labelling.proofs.Loaded.{loaded_to, partition_count, few_partitions}
use Rattle.sessions.specs.declared.opening.Session.{Session}
use Rattle.sessions.specs.Opening.{all_open}
use mathlib.Core.Bool.{not}
use Rattle.sessions.proofs.opening.open_session.Goals as goal

-- the session with a bit for each partition
opens_all : {p : Policy} {d : Declared} → LoadedTo p d → {m : ℕ} → m ≡ 2 ^ p.partition_count - 1 → record { mask = m } ≡ all_open d
unfolding all_open
opens_all l e = ap (λ (m : ℕ). record { mask = m }) (e ∙ ap (λ (n : ℕ). 2 ^ n - 1) (partition_count l))

pub returns-then-not-valid : goal.returns-then-not-valid
returns-then-not-valid c = record {
  turned = λ n. refl;
  opened = λ l. absurd (fails c.valid.ensures (ap not c.if-not-valid.true) l);
}

pub low_bits-requires : goal.low_bits-requires
low_bits-requires c = omega (arith, few_partitions (loaded_to (passes c.valid.ensures (ap not c.if-not-valid.false))))

pub returns : goal.returns
returns c =
    let valid = passes c.valid.ensures (ap not c.if-not-valid.false) in
    record {
      turned = λ n. absurd (n valid);
      opened = λ l. ap Ok (opens_all (loaded_to l) c.low_bits.ensures);
    }
