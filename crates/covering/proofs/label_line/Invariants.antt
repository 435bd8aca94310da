-- `label_line`: the word has the covering views among those taken from the word of the table, and the partitions are those of its views.
use mathlib.Core.Path.{◌≡◌}
use mathlib.Core.List.{List}
use Prim.Native.Nat.{◌-◌, ◌^◌, ◌<◌}
use Rattle.theory.specs.Query.{Line as TheLine}
use Rattle.words.proofs.Marks.{Picked}
use Rattle.words.proofs.Unions.{Union}
use Rattle.model.specs.Limits.{most_views}
use Rattle.covering.specs.Prepared.{table_word, grant_word, table_width}
use Rattle.covering.specs.Labelled.{Labelled}
use Rattle.covering.proofs.Views.{Covering}
use Rattle.covering.proofs.label_line.Given as goal

abbrev pub invariant-loop-left : goal.invariant-loop-left
invariant-loop-left l =
    (l.left < 2 ^ most_views)
    × (l.word < 2 ^ most_views)
    × (l.width ≡ table_width l.ready l.table)
    × (l.every ≡ 2 ^ l.width - 1)
    × Union (grant_word l.ready) l.word l.grants
    × ((vs : List TheLine) (A : TheLine) → Labelled l.ready l.lines l.a vs A → Picked (Covering vs A) (table_word l.ready A.table) l.left l.word)

abbrev pub decreases-loop-left : goal.decreases-loop-left
decreases-loop-left l = l.left
