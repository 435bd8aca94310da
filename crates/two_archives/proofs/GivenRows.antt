-- Where `tell_apart` gives rows there is one, and there are no more than 40.
use mathlib.Core.Path.{◌≡◌, ap, subst}
use mathlib.Core.List.{List}
use Prim.Native.Nat.{ℕ, ◌-◌, ◌≤◌}
use native.Mathlib.Decide.{dec_le}
use native.Mathlib.Omega.{arith}
use lib.ListN.{length}
use Rattle.std.specs.Prelude.{Result, Ok}
use Rattle.model.specs.declared.Policy.{Policy}
use Rattle.model.specs.declared.Refusal.{Refusal}
use Rattle.policy_text.specs.Declared.{Declared}
use Rattle.validity.specs.Loadable.{Loadable}
use Rattle.apart.specs.Archives.{Word, says_settled, says_apart, says_refused, SaidTelling, said_telling}
use Rattle.apart.specs.Archives.{Owed, refusal, settlement, archives, owed, Gives, ArchivesGiven}
use Rattle.apart.specs.declared.telling.Telling.{Telling}
use Rattle.apart.specs.declared.telling.Telling.TheVariants.{Apart}

abbrev pub FewRows : ℕ → Type 0
FewRows k = (1 ≤ k) × (k ≤ 40)

-- 1 for a reply that gives rows
gives : SaidTelling → ℕ
gives s = go s.word
  where
    go : Word → ℕ
    go says_settled = 0
    go says_apart = 1
    go says_refused = 0

few_given : (d : Declared) (i k : ℕ) (before after : List ℕ) (o : Owed) → Gives d i (Ok (Apart k)) before after o → FewRows k
unfolding said_telling gives
few_given d i k before after (refusal number line) g = absurd (omega (arith, ap gives g.reply))
few_given d i k before after settlement g = absurd (omega (arith, ap gives g.reply))
few_given d i k before after (archives Q) g =
    let (m, e, told) = g in
    let same = ap (λ (s : SaidTelling). s.count) e in (omega (arith, same, told.many), omega (arith, same, told.few))

module _ {p : Policy} {n : ℕ} {text before after : List ℕ} where
  -- rows are given under a loaded policy alone
  not_more : (k : ℕ) → ArchivesGiven p n text before (Ok (Apart k)) after → (FewRows k → ⊥) → ⊥
  unfolding said_telling gives
  not_more k g none =
      let few : Loadable p → FewRows k
      = λ l. few_given l.declared (n - 1) k before after (owed l.declared n text (length before)) (g.loaded l) in
      omega (arith, ap gives (g.unloaded (λ l. none (few l))).reply)

  pub few_rows : {r : Result Telling Refusal} {k : ℕ} → ArchivesGiven p n text before r after → r ≡ Ok (Apart k) → FewRows k
  few_rows {r} {k} g e = go (dec_le 1 k) (dec_le k 40)
    where
      apart : ArchivesGiven p n text before (Ok (Apart k)) after
      apart = subst (λ (t : Result Telling Refusal). ArchivesGiven p n text before t after) e g

      go : Dec (1 ≤ k) → Dec (k ≤ 40) → FewRows k
      go (yes a) (yes b) = (a, b)
      go (yes a) (no f) = absurd (not_more k apart (λ x. f x.1))
      go (no f) b = absurd (not_more k apart (λ x. f x.0))
