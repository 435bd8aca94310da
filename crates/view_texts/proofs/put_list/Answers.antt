-- `put_list`: what is said, the numbers, the end, and the text of the views.
use Prim.Native.Nat.{◌<◌}
use native.Mathlib.Omega.{arith}
use lib.ListN.{length}
use Rattle.writing.proofs.Wrote.{wrote_byte}
use Rattle.view_texts.proofs.Viewed.{wrote_list}
use borrow.Author.Rules.{rules}
use Rattle.view_texts.proofs.put_list.Goals as goal

pub returns : goal.returns
returns c =
    let room : c.put_numbers-b.result < length c.put_numbers-b.new.out
    = omega (arith, c.put_bytes-a.ensures, c.put_numbers-b.ensures.upper_bound) in
    let end = wrote_byte room c.put_byte-c.ensures in
    record {
      list_put = λ d l. wrote_list _ d.views _ c.put_bytes-a.ensures c.put_numbers-b.ensures.wrote end (c.put_views.ensures.views_put d l);
      upper_bound = (
        omega (arith, c.put_bytes-a.ensures.next, c.put_numbers-b.ensures.upper_bound, c.put_byte-c.ensures.1, c.put_views.ensures.upper_bound, c.requires.0),
        search rules,
      );
    }
