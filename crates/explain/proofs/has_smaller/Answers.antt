-- `has_smaller`: the views of each label are tested.
use Rattle.std.proofs.Common.{rules, tests, ◌/◌, ◌^◌, ap, sym, ◌∙◌, take}
use mathlib.Core.Bool.{not, ◌&&◌}
use mathlib.Core.Path.{refl}
use Rattle.std.proofs.lemmas.Iterator.{YieldsList-from_slice}
use Rattle.std.proofs.lemmas.Iterator.Search.{any_from_yields_List}
use Rattle.words.specs.Bits.{half_bits}
use Rattle.words.specs.Sets.{meet}
use Rattle.theory.specs.Executable.Test.{any}
use Rattle.word_list.proofs.Value.{words_are}
use Rattle.explain.specs.Explanation.{exceeds}
use Rattle.explain.proofs.Gathered.{label_passes}
use Rattle.explain.proofs.Lacking.{passes, any_lacking}
use Rattle.explain.proofs.Search.{any_is}
use Rattle.explain.proofs.has_smaller.Goals as goal

pub returns : goal.returns
returns c = λ ws e.
    let a = c.args in
    let found =
    any_from_yields_List (λ w. not (meet 64 (w / 2 ^ half_bits) a.granted) && exceeds a.v (w / 2 ^ half_bits)) _ _ c.any.result
    c.any.ensures.ran (YieldsList-from_slice (take a.l.count a.l.words) c.iter.ensures.rest) (λ x b q k. search (rules, tests)) in
    let passing = passes a.granted (exceeds a.v) in
    found ∙ any_is _ passing (λ w. sym (label_passes a.granted w (w / 2 ^ half_bits) refl (exceeds a.v))) _
    ∙ ap (any passing) (words_are _ ws e) ∙ sym (any_lacking a.granted (exceeds a.v) ws)
