-- `translate_line`: the text that is written stands in the buffer.
use Rattle.std.proofs.Common.{arith, ap, sym, length, length-take-le, ◌≤◌, ℕ}
use Rattle.std.specs.Prelude.{Result}
use Rattle.model.specs.declared.Refusal.{Refusal}
use Rattle.import.specs.Import.{said_import}
use Rattle.rule_file.proofs.translate_line.Goals as goal
use Rattle.rule_file.proofs.translate_line.Goals.{In-Ok}

-- no more bytes than the buffer has
inside : (c : In-Ok) → c.in-Ok.n ≤ length c.import_checked.new.out
unfolding said_import
inside c =
    let i = c.import_checked in
    omega (arith, i.ensures.result_in_bounds, i.auto.out, ap (λ (r : Result ℕ Refusal). (said_import r).bytes) c.in-Ok.is)

pub slice_bounds-out-end : goal.slice_bounds-out-end
slice_bounds-out-end c = inside c

pub slice_bounds-write_all-end : goal.slice_bounds-write_all-end
slice_bounds-write_all-end c = sym (length-take-le _ _ (inside ((goal.at.slice_bounds-write_all-end c).In-Ok)))
