use mathlib.Core.Path.{◌≡◌, sym, ap, ◌∙◌}
use native.Mathlib.Omega.{arith}
use Prim.Native.Nat.{ℕ, ◌+◌, ◌*◌, ◌/◌}
use lib.ListN.{length, drop}
use Rattle.little_endian.proofs.LittleEndian.{WordIff, word_iff}
use Rattle.text.specs.Lines.{same_bytes}
use Rattle.text.proofs.Names.{same_false, same_behind, apart_here}
use Rattle.text.proofs.comparing.same.Goals as goal
use Rattle.text.proofs.comparing.same.Goals.{In-loop-k}

pub returns-then-n-b : goal.returns-then-n-b
returns-then-n-b c = same_false _ _ (λ e. omega (arith, ap length e))

-- the two words that are compared
words_iff : (c : In-loop-k)
    → let s = c.args in WordIff s.a.now s.b.now (c.loop-k.k * 8)
words_iff c =
    let s = c.args in
    word_iff s.a.now s.b.now (λ k. omega (arith, c.type_inv.a k))
    (λ k. omega (arith, c.type_inv.b k)) (c.loop-k.k * 8) (omega arith) (omega arith)

pub returns-then-word_at : goal.returns-then-word_at
returns-then-word_at c =
    apart_here _ _ (c.loop-k.k * 8) 8
    (λ e. c.if-word_at.true (c.word_at.ensures ∙ (words_iff (goal.at.returns-then-word_at c).In-loop-k).1 e ∙ sym c.word_at-in-loop-k.ensures))
    ∙ c.loop-k.invariant

pub loop-k-preserved : goal.loop-k-preserved
loop-k-preserved c =
    let next : (c.loop-k.k + 1) * 8 ≡ c.loop-k.k * 8 + 8 = omega arith in
    rw next
    (same_behind _ _ (c.loop-k.k * 8) 8
    ((words_iff (goal.at.loop-k-preserved c).In-loop-k).0 (sym c.word_at.ensures ∙ c.if-word_at.false ∙ c.word_at-in-loop-k.ensures))
    ∙ c.loop-k.invariant)

pub returns : goal.returns
returns c =
    let a = c.args.a.now in
    let b = c.args.b.now in
    let end : length a / 8 ≡ c.loop-k.k = omega arith in
    c.same_from.ensures ∙ ap (λ (k : ℕ). same_bytes (drop (k * 8) a) (drop (k * 8) b)) end ∙ c.loop-k.invariant
