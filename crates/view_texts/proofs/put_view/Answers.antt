-- `put_view`: the spaces, the number and the line.
use mathlib.Core.Path.{◌≡◌}
use Prim.Native.Nat.{◌+◌}
use native.Mathlib.Omega.{arith}
use Rattle.view_texts.proofs.Viewed.{view_put}
use Rattle.view_texts.proofs.put_view.Goals as goal

pub returns : goal.returns
returns c =
    let b : c.put_bytes-a.result ≡ c.args.at + 2 = c.put_bytes-a.ensures.next in (
      view_put _ c.put_bytes-a.ensures c.put_field-b.ensures.0 c.put_line.ensures.0,
      omega (arith, b, c.put_field-b.ensures.1, c.put_line.ensures.1),
    )
