-- What a query that is read in one pass gives to decide.
use mathlib.Core.Path.{sym, ap, ◌∙◌}
use mathlib.Core.List.{List}
use Prim.Native.Nat.{ℕ, ◌+◌}
use native.Mathlib.Omega.{arith}
use lib.ListN.{drop, length-drop}
use lib.Seq.{get_or-drop}
use Rattle.model.specs.Value.{query_value}
use Rattle.model.specs.declared.Query.{Query as QueryValue}
use Rattle.model.specs.declared.Tables.{Tables}
use Rattle.policy_text.specs.Declared.{Declared}
use Rattle.covering.specs.Prepared.{width_words}
use Rattle.labelling.specs.Posed.{Ready, PosedRows}
use Rattle.labelling.proofs.Posing.{posed}
use Rattle.scan.specs.Scanned.{Widths, Scanned}
use Rattle.scan.specs.declared.Piece.{Piece}

module _ {d : Declared} {tables : Tables} {made : List ℕ} (ready : Ready d tables made) where
  -- what is prepared has the columns of the tables
  pub ready_widths : Widths (drop width_words made) d.widths
  ready_widths = record {
    long = rw (length-drop width_words made) (omega (arith, ready.long));
    narrow = ready.good.tables.each;
    width = λ t h. get_or-drop width_words made (1 + t) 0 ∙ ready.width t h;
  }

  -- the query is on the policy's tables
  pub scanned_rows : {input rows : List ℕ} {p : Piece} (s : Scanned d.widths input p rows)
      → PosedRows d s.query p.query.count rows
  unfolding query_value
  scanned_rows {p = p} s =
      let g = posed d _ s.query ready.good s.reads s.value in
      record {
        count = sym (ap (λ (q : QueryValue). q.count) s.value);
        laid = s.laid;
        small = g.small;
        fits = g.fits;
      }
