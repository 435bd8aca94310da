-- A text that is refused at a line is within its limit: a longer one is refused at line 0.
use mathlib.Core.Path.{◌≡◌}
use mathlib.Core.Logic.{inl, inr}
use mathlib.Core.List.{List}
use Prim.Native.Nat.{ℕ, ◌<◌}
use native.Mathlib.Decide.{dec_lt}
use native.Mathlib.Omega.{arith}
use lib.ListN.{length}
use borrow.Author.Tests.{lt-ltb}
use Rattle.policy_text.specs.Text.{load, most_policy_bytes}
use Rattle.policy_text.specs.Text.{refused as refused_policy}
use Rattle.query_text.specs.Text.{read, refused, most_query_bytes}
use Rattle.page.specs.Sizes.{Shown}

pub policy_shown : (text : List ℕ) (n k : ℕ) → load text ≡ refused_policy n k → Shown text k
unfolding load
policy_shown text n k e = go (dec_lt most_policy_bytes (length text))
  where
    go : Dec (most_policy_bytes < length text) → Shown text k
    go (yes h) = let same : refused_policy 7 0 ≡ refused_policy n k = rw (lt-ltb most_policy_bytes (length text) h) at e in inl (cc)
    go (no h) = inr (omega arith)

pub query_shown : (widths text : List ℕ) (n k : ℕ) → read widths text ≡ refused n k → Shown text k
unfolding read
query_shown widths text n k e = go (dec_lt most_query_bytes (length text))
  where
    go : Dec (most_query_bytes < length text) → Shown text k
    go (yes h) = let same : refused 7 0 ≡ refused n k = rw (lt-ltb most_query_bytes (length text) h) at e in inl (cc)
    go (no h) = inr (omega arith)
