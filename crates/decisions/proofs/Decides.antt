-- The cases of deciding under a loaded policy.
use mathlib.Core.Path.{◌≡◌, ap, ◌∙◌}
use mathlib.Core.Logic.{by_cases}
use mathlib.Core.Bool.{Bool, true, false, ◌||◌}
use mathlib.Core.List.{List}
use Prim.Native.Nat.{ℕ, ◌-◌, ◌^◌}
use native.Mathlib.Decide.{dec_lt}
use native.Mathlib.Omega.{arith}
use borrow.Author.Tests.{lt-ltb, le-ltb, lt-leb, le-leb}
use lib.Bits.{bit_and}
use lib.Dec.{eqb, ltb, leb}
use lib.ListN.{length, get_or}
use lib.Pow.{pow_pos}
use Rattle.theory.specs.Query.{Query}
use Rattle.theory.specs.Executable.Label.{settles}
use Rattle.model.specs.declared.Tables.{Tables}
use Rattle.query_text.specs.Text.{refused, accepted, read}
use Rattle.policy_text.specs.Declared.{Declared}
use Rattle.covering.specs.Prepared.{every_word}
use Rattle.labelling.specs.Posed.{Ready}
use Rattle.labelling.specs.Settled.{granted, settling}
use Rattle.sessions.specs.declared.opening.Session.{Session}
use Rattle.sessions.specs.Deciding.{unfit, still_open, turned_back, answered, decide_query, decide_under}
use Rattle.decisions.proofs.Masks.{passing_and}

-- a word past all n lowest bits
past : (n m : ℕ) → ltb (2 ^ n - 1) m ≡ leb (2 ^ n) m
past n m =
    by_cases (dec_lt (2 ^ n - 1) m) (λ l. rw (lt-ltb (2 ^ n - 1) m l, le-leb (2 ^ n) m (omega (arith, l, pow_pos n))))
    (λ l. rw (le-ltb (2 ^ n - 1) m (omega arith), lt-leb (2 ^ n) m (omega (arith, l, pow_pos n))))

-- what is prepared of a policy: 9
module _ {d : Declared} {tables : Tables} {r : List ℕ} (ready : Ready d tables r) {every : ℕ} (is : every ≡ get_or r every_word 0) where
  pub unfit_is : (s : Session) {b : Bool} → b ≡ (eqb s.mask 0 || ltb every s.mask) → b ≡ unfit d s
  unfolding unfit
  unfit_is s e =
      e ∙ ap (λ (m : ℕ). eqb s.mask 0 || ltb m s.mask) (is ∙ ready.every)
      ∙ ap (λ (b : Bool). eqb s.mask 0 || b) (past (length d.partitions) s.mask)

pub left_open : (d : Declared) (Q : Query) (mask : ℕ) → bit_and mask (settling d Q) ≡ still_open d Q mask
unfolding still_open settling
left_open d Q mask = passing_and (λ vs. settles (granted d.views vs) Q) d.partitions mask

module _ (d : Declared) (s : Session) (text : List ℕ) where
  pub under_unfit : unfit d s ≡ true → decide_under d s text ≡ turned_back s 9 0
  unfolding decide_under
  under_unfit e = rw e

  pub under_refused : (n k : ℕ) → unfit d s ≡ false → read d.widths text ≡ refused n k → decide_under d s text ≡ turned_back s n k
  unfolding decide_under decide_query
  under_refused n k e r = rw (e, r)

  pub under_accepted : (Q : Query) → unfit d s ≡ false → read d.widths text ≡ accepted Q
      → decide_under d s text ≡ answered s (still_open d Q s.mask)
  unfolding decide_under decide_query
  under_accepted Q e r = rw (e, r)
