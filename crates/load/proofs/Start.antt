-- The length and the first names line of a policy text.
use mathlib.Core.Path.{◌≡◌, refl, ◌∙◌}
use mathlib.Core.Bool.{false}
use mathlib.Core.List.{List}
use Prim.Native.Nat.{ℕ, ◌≤◌, ◌<◌}
use lib.ListN.{length}
use borrow.Author.Tests.{lt-ltb, le-ltb}
use Rattle.text.specs.Lines.{lines}
use Rattle.text.specs.Names.{table_columns}
use Rattle.text.specs.Cursors.{AfterNames}
use Rattle.text.specs.declared.Cursor.{Cursor}
use Rattle.text.proofs.NextLines.{rest_from}
use Rattle.text.proofs.NextLines as T
use Rattle.policy_text.specs.Text.{refused, nothing, tables, load_from, load_lines, load, most_policy_bytes}
use Rattle.load.proofs.Walk.{behind}

module _ (text : List ℕ) where
  pub too_long : most_policy_bytes < length text → refused 7 0 ≡ load text
  unfolding load
  too_long h = rw (lt-ltb most_policy_bytes (length text) h)

  module _ (h : length text ≤ most_policy_bytes) {c : Cursor} (a : AfterNames table_columns text c) where
    short : load_lines (lines text).ended (lines text).rest ≡ load text
    unfolding load
    short = rw (le-ltb most_policy_bytes (length text) h)

    pub misnamed : c.at ≡ 0 → refused 1 1 ≡ load text
    unfolding load_lines
    misnamed z =
        T.misnamed load_lines (load_from tables false nothing) (refused 1 1) table_columns text (λ t. refl) (λ l ls t. refl) a z ∙ short

    pub well_named : (c.at ≡ 0 → ⊥) → behind tables false nothing c.line (rest_from text c.at) ≡ load text
    unfolding load_lines
    well_named f =
        T.named load_lines (load_from tables false nothing) (refused 1 1) table_columns text (λ t. refl) (λ l ls t. refl) a f ∙ short
