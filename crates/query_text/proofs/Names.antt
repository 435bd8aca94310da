-- What the length and the names line say of a whole text.
use mathlib.Core.Path.{◌≡◌, refl, ◌∙◌}
use mathlib.Core.List.{List, []}
use Prim.Native.Nat.{ℕ, ◌≤◌, ◌<◌}
use lib.ListN.{length}
use borrow.Author.Tests.{lt-ltb, le-ltb}
use Rattle.text.specs.Lines.{lines}
use Rattle.text.specs.Names.{table_terms}
use Rattle.text.specs.Cursors.{AfterNames}
use Rattle.text.specs.declared.Cursor.{Cursor}
use Rattle.text.proofs.NextLines.{rest_from}
use Rattle.text.proofs.NextLines as T
use Rattle.query_text.specs.Text.{refused, most_query_bytes, read_from, read_lines, read}
use Rattle.query_text.proofs.Walk.{behind}

module _ (widths text : List ℕ) where
  pub too_long : most_query_bytes < length text → refused 7 0 ≡ read widths text
  unfolding read
  too_long h = rw (lt-ltb most_query_bytes (length text) h)

  module _ (h : length text ≤ most_query_bytes) {c : Cursor} (a : AfterNames table_terms text c) where
    short : read_lines widths (lines text).ended (lines text).rest ≡ read widths text
    unfolding read
    short = rw (le-ltb most_query_bytes (length text) h)

    pub misnamed : c.at ≡ 0 → refused 1 1 ≡ read widths text
    unfolding read_lines
    misnamed z = T.misnamed (read_lines widths) (read_from widths []) (refused 1 1) table_terms text (λ t. refl) (λ l ls t. refl) a z ∙ short

    pub well_named : (c.at ≡ 0 → ⊥) → behind widths [] c.line (rest_from text c.at) ≡ read widths text
    unfolding read_lines
    well_named f = T.named (read_lines widths) (read_from widths []) (refused 1 1) table_terms text (λ t. refl) (λ l ls t. refl) a f ∙ short
