-- The views of a partition, by their numbers: which of them cover a line.
use mathlib.Core.Path.{◌≡◌, sym, subst, ◌∙◌}
use mathlib.Core.Logic.{◌↔◌}
use mathlib.Core.List.Memᴰ
use mathlib.Core.List.{List}
use mathlib.Core.Option.{some}
use Prim.Native.Nat.{ℕ, ◌+◌, ◌-◌}
use native.Mathlib.Omega.{arith}
use lib.Dec.{T}
use lib.ListN.{get_elem?}
use Rattle.theory.specs.Query.{Line, ◌∈◌}
use Rattle.theory.specs.Cover.{Covers}
use Rattle.theory.specs.Executable.Cover.{covers}
use Rattle.theory.proofs.Lists.{below_place, there}
use Rattle.theory.proofs.Executable.Test.{any_iff}
use Rattle.theory.proofs.Executable.Cover.{covers_iff}
use Rattle.entering.specs.Agree.{line_at}
use Rattle.words.specs.Bits.{bit}
use Rattle.policy_text.specs.Declared.{Declared}
use Rattle.labelling.specs.Settled.{granted, answers, Known}

line_there : (views : List Line) (k : ℕ) {v : Line} → get_elem? views k ≡ some v → line_at views k ≡ v
unfolding line_at
line_there views k e = there views k _ e

-- the view at place k, which has the number k + 1, is one of them and covers the line
pub record AnsweredBy (views : List Line) (ns : List ℕ) (A : Line) : Type 0 where
  pub place : ℕ
  pub view : Line
  pub at : get_elem? views place ≡ some view
  pub listed : place + 1 ∈ ns
  pub covering : Covers view A

module _ (views : List Line) (ns : List ℕ) (A : Line) where
  pub covering_answers : AnsweredBy views ns A → T (answers views A ns)
  unfolding granted
  covering_answers c =
      let k = c.place in
      let back : k + 1 - 1 ≡ k = omega arith in
      let here : line_at views (k + 1 - 1) ≡ c.view = rw back (line_there views k c.at) in
      (any_iff (λ v. covers v A) (granted views ns)).1 (
        line_at views (k + 1 - 1),
        Memᴰ.map (λ n. line_at views (n - 1)) c.listed,
        (covers_iff _ A).1 (subst (λ (u : Line). Covers u A) (sym here) c.covering),
      )

  pub answers_covering : Known views ns → T (answers views A ns) → AnsweredBy views ns A
  unfolding granted
  answers_covering known t =
      let (v, m, c) = (any_iff (λ v. covers v A) (granted views ns)).0 t in
      let (n, i, e) = Memᴰ.of_map (λ n. line_at views (n - 1)) ns m in
      let (from, to) = known n i in
      let (u, at) = below_place views (n - 1) (omega (arith, from, to)) in
      let next : n ≡ n - 1 + 1 = omega (arith, from) in
      let same : v ≡ u = sym e ∙ line_there views (n - 1) at in
      record {
        place = n - 1;
        view = u;
        at = at;
        listed = subst (λ (k : ℕ). k ∈ ns) next i;
        covering = subst (λ (x : Line). Covers x A) same ((covers_iff v A).0 c);
      }

-- bit i of a word says whether partition i, counted from 0, has a view that covers the line
pub record Answering (d : Declared) (A : Line) (w : ℕ) : Type 0 where
  pub bits : (i : ℕ) (ns : List ℕ) → get_elem? d.partitions i ≡ some ns → (bit w i ≡ 1) ↔ T (answers d.views A ns)
