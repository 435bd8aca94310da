-- `put_label`: the words and numbers of the line, one behind the other.
use mathlib.Core.Path.{◌≡◌, sym, ap, ◌∙◌}
use Prim.Native.Nat.{◌+◌, ◌/◌, ◌^◌, ◌≤◌}
use native.Mathlib.Omega.{arith}
use borrow.Author.Rules.{rules}
use lib.ListN.{length, take}
use lib.Seq.{length-take-le}
use Rattle.words.specs.Bits.{half_bits}
use Rattle.text.specs.Names.{bytes}
use Rattle.model.specs.Limits.{most_views}
use Rattle.writing.proofs.Wrote.{wrote_byte}
use Rattle.page.specs.Numbers.{views_of_word}
use Rattle.mode_labels.proofs.LinePieces.{wrote_label}
use Rattle.mode_labels.proofs.put_label.Goals as goal
use Rattle.mode_labels.proofs.put_label.Goals.{After-put_bytes-a, After-put_bytes-c, After-put_bytes-e, After-put_spaced-b, After-put_spaced-d, After-views_of-v}

-- ---- the calls, from the last word back to the views

abbrev said : After-put_bytes-e → After-put_spaced-d
said v = (goal.at.After-put_bytes-e v).After-put_spaced-d

abbrev middle : After-put_spaced-d → After-put_bytes-c
middle t = (goal.at.After-put_spaced-d t).After-put_bytes-c

abbrev worded : After-put_spaced-d → After-put_spaced-b
worded t = (goal.at.After-put_spaced-d t).After-put_spaced-b

abbrev tabled : After-put_spaced-b → After-put_bytes-a
tabled w = (goal.at.After-put_spaced-b w).After-put_bytes-a

abbrev viewed : After-put_bytes-a → After-views_of-v
viewed a = (goal.at.After-put_bytes-a a).After-views_of-v

within : (c : After-views_of-v) → c.views_of-v.result.count ≤ length c.views_of-v.result.numbers
within c =
    let long : length c.views_of-v.result.numbers ≡ most_views = search rules in
    omega (arith, long, c.views_of-v.ensures.few)

listed : (c : After-views_of-v) →
    let v = c.views_of-v.result in length (take v.count v.numbers) ≡ v.count
listed c = length-take-le _ _ (within c)

views_are : (c : After-views_of-v) →
    let v = c.views_of-v.result in
    take v.count v.numbers ≡ views_of_word (c.args.w / 2 ^ half_bits)
views_are c = c.views_of-v.ensures.are ∙ ap views_of_word c.high_half.ensures

-- behind the last word
placed : (c : After-put_bytes-e) →
    let s = (viewed (tabled (worded (said c)))) in
    (c.put_bytes-e.result ≤ s.args.at + 59) × (length c.put_bytes-e.new.out ≡ length s.args.out.now)
placed c =
    let t = said c in
    let w = worded t in
    let a = tabled w in
    let s = (viewed a) in
    let i : a.put_bytes-a.result ≡ s.args.at + 5 = a.put_bytes-a.ensures.next in
    let j : (middle t).put_bytes-c.result ≡ w.put_spaced-b.result + 6 = (middle t).put_bytes-c.ensures.next in
    let k : c.put_bytes-e.result ≡ t.put_spaced-d.result + 6 = c.put_bytes-e.ensures.next in (
      omega (arith, i, j, k, w.put_spaced-b.ensures.1, t.put_spaced-d.ensures.1),
      c.put_bytes-e.ensures.size ∙ t.put_spaced-d.ensures.0.size ∙ (middle t).put_bytes-c.ensures.size
          ∙ w.put_spaced-b.ensures.0.size ∙ a.put_bytes-a.ensures.size,
    )

pub slice_bounds-put_numbers-end : goal.slice_bounds-put_numbers-end
slice_bounds-put_numbers-end c =
    sym (listed (viewed (tabled (worded (said (goal.at.slice_bounds-put_numbers-end c).After-put_bytes-e)))))

pub put_numbers-f-requires : goal.put_numbers-f-requires
put_numbers-f-requires c =
    let g = viewed (tabled (worded (said (goal.at.put_numbers-f-requires c).After-put_bytes-e))) in
    let (near, same) = placed (goal.at.put_numbers-f-requires c).After-put_bytes-e in
    omega (arith, near, same, listed g, g.views_of-v.ensures.few, g.requires)

pub put_byte-requires : goal.put_byte-requires
put_byte-requires c =
    let g = viewed (tabled (worded (said (goal.at.put_byte-requires c).After-put_bytes-e))) in
    let (near, same) = placed (goal.at.put_byte-requires c).After-put_bytes-e in
    omega (
      arith,
      near,
      same,
      listed g,
      g.views_of-v.ensures.few,
      g.requires,
      c.put_numbers-f.ensures.upper_bound,
      c.put_numbers-f.ensures.wrote.size,
    )

pub returns : goal.returns
unfolding bytes
returns c =
    let t = said (goal.at.returns c).After-put_bytes-e in
    let w = worded t in
    let a = tabled w in
    let g = viewed a in
    let (near, same) = placed (goal.at.returns c).After-put_bytes-e in
    let end = wrote_byte (search rules) c.put_byte.ensures in (
      wrote_label _ _ _ t.low_half.ensures (views_are g) a.put_bytes-a.ensures w.put_spaced-b.ensures.0
          (middle t).put_bytes-c.ensures t.put_spaced-d.ensures.0 c.put_bytes-e.ensures c.put_numbers-f.ensures.wrote end,
      omega (arith, near, listed g, g.views_of-v.ensures.few, c.put_numbers-f.ensures.upper_bound, c.put_byte.ensures.1),
    )
