-- `print_partition`: the rows, at least one and at most 40, are some of the cells.
use Rattle.std.proofs.Common.{arith, length-take}
use Rattle.two_archives.proofs.GivenRows.{FewRows, few_rows}
use Rattle.two_archives.proofs.print_partition.Goals as goal
use Rattle.two_archives.proofs.print_partition.Goals.{In-Ok-Apart}

few : (c : In-Ok-Apart) → FewRows c.in-Ok-Apart.count
few c = few_rows c.tell_apart.ensures (rw c.in-Ok-Apart.field-0-is at c.in-Ok-Apart.is)

pub overflow_mul-end : goal.overflow_mul-end
overflow_mul-end c = omega (arith, few c)

pub slice_bounds-rows-end : goal.slice_bounds-rows-end
slice_bounds-rows-end c = omega (arith, few ((goal.at.slice_bounds-rows-end c).In-Ok-Apart), c.tell_apart.auto.out)

pub slice_bounds-print_apart-end : goal.slice_bounds-print_apart-end
slice_bounds-print_apart-end c =
    simp length-take (omega (arith, few ((goal.at.slice_bounds-print_apart-end c).In-Ok-Apart), c.tell_apart.auto.out))

pub print_apart-requires : goal.print_apart-requires
print_apart-requires c =
    simp length-take (omega (arith, few ((goal.at.print_apart-requires c).In-Ok-Apart), c.tell_apart.auto.out))
