-- The lines left of a query labelled one by one: the words written, and the partitions that have a view for each line.
use mathlib.Core.Path.{◌≡◌, refl, sym, ap, ◌∙◌}
use mathlib.Core.Bool.{Bool, true, false}
use mathlib.Core.List.{List, [], map, map-map, map-append, append-nil}
use Prim.Native.Nat.{ℕ, ◌+◌, ◌≤◌, ◌<◌}
use native.Mathlib.Omega.{arith}
use lib.Bits.{bit_and}
use lib.ListN.{length, take, get_or, set, length-map, length-append}
use lib.Seq.{take_all}
use Rattle.theory.specs.Query.{Line, Query, over}
use Rattle.theory.specs.Executable.Test.{all}
use Rattle.theory.specs.Executable.Label.{label}
use Rattle.theory.specs.Executable.Show.{show_term, show}
use Rattle.theory.proofs.Executable.Test.{all_map, all_more}
use Rattle.words.specs.Bits.{is_set}
use Rattle.words.specs.TestBits.{test_bits}
use Rattle.words.proofs.TestBits.{tests_all, and_tests}
use Rattle.model.specs.Limits.{most_lines}
use Rattle.model.specs.Value.{pad}
use Rattle.model.specs.declared.Tables.{Tables}
use Rattle.model.proofs.Pad.{pad_more}
use Rattle.policy_text.specs.Declared.{Declared}
use Rattle.covering.specs.Prepared.{every_word}
use Rattle.covering.specs.declared.LineLabel.{LineLabel}
use Rattle.entering.specs.Agree.{line_at}
use Rattle.entering.specs.Left.{pick, lines_at}
use Rattle.entering.proofs.Lines.{left_more}
use Rattle.word_list.specs.Value.{words_value}
use Rattle.labelling.specs.Posed.{Ready, labels_value}
use Rattle.labelling.specs.Settled.{answers, settling_lines}
use Rattle.labelling.proofs.Granted.{Answering}
use Rattle.labelling.specs.declared.Labels.{Labels}

-- the words of the lines R, each shown by f, how many they are, and the partitions that have a view for each of them
pub record Written (d : Declared) (f : Line → Line) (R : Query) (words : List ℕ) (count settling : ℕ) : Type 0 where
  pub are : words ≡ pad most_lines 0 (map (λ A. label d.views (f A)) R)
  pub many : count ≡ length R
  pub settled : settling ≡ test_bits (λ ns. all (λ A. answers d.views (f A) ns) R) d.partitions

pub written_none : {d : Declared} {tables : Tables} {r : List ℕ} (f : Line → Line) (every : ℕ) → Ready d tables r
    → every ≡ get_or r every_word 0
    → Written d f [] (pad most_lines 0 []) 0 every
unfolding all
written_none {d} f every ready e = record {
  are = refl;
  many = refl;
  settled = e ∙ ready.every ∙ sym (tests_all (λ ns. true) d.partitions (λ ns. refl));
}

module _ {d : Declared} {f : Line → Line} (left : ℕ) (Q : Query) (i : ℕ) {words : List ℕ} {count settling : ℕ}
    (w : Written d f (pick (is_set left) (take i Q)) words count settling) (h : i < length Q) where
  -- the line at the place is left
  pub written_more : is_set left i ≡ true → count < most_lines → (l : LineLabel) → l.label ≡ label d.views (f (line_at Q i))
      → Answering d (f (line_at Q i)) l.grants
      → Written d f (pick (is_set left) (take (i + 1) Q)) (set words count l.label) (count + 1) (bit_and settling l.grants)
  written_more e room l is answering =
      let R = pick (is_set left) (take i Q) in
      let A = line_at Q i in
      let labelled : Line → ℕ = λ B. label d.views (f B) in
      let many : count ≡ length (map labelled R) = w.many ∙ sym (length-map R labelled) in
      let before : List ℕ → Bool = λ ns. all (λ B. answers d.views (f B) ns) R in
      let both = and_tests before (answers d.views (f A)) d.partitions l.grants answering.bits in
      rw (left_more left Q i h, e)
      (record {
        are = rw (w.are, many, is, map-append) (pad_more most_lines 0 (map labelled R) (labelled A) (omega arith));
        many = rw (w.many, length-append);
        settled =
            ap (λ (s : ℕ). bit_and s l.grants) w.settled
            ∙ both
            ∙ (λ j. test_bits (λ ns. sym (all_more (λ B. answers d.views (f B) ns) R A) j) d.partitions);
      })

  -- it is not
  pub written_same : is_set left i ≡ false → Written d f (pick (is_set left) (take (i + 1) Q)) words count settling
  written_same e = rw (left_more left Q i h, e, append-nil (pick (is_set left) (take i Q))) w

pub written_all : (d : Declared) (left : ℕ) (Q : Query) (i count settling : ℕ) (words : List ℕ) → length Q ≤ i
    → Written d (over (show_term (lines_at left Q))) (pick (is_set left) (take i Q)) words count settling
    → let R = show (lines_at left Q) in
    ◌≡◌ {A = Labels} (record { words = record { count = count; words = words }; settling = settling })
    (labels_value (map (label d.views) R) (settling_lines d R))
unfolding labels_value words_value show lines_at settling_lines
written_all d left Q i count settling words h w =
    let R = pick (is_set left) Q in
    let f : Line → Line = over (show_term R) in
    let labelled : Line → ℕ = λ A. label d.views (f A) in
    let v : Written d f R words count settling = rw (take_all i Q h) at w in
    let same : map labelled R ≡ map (label d.views) (map f R) = sym (map-map (label d.views) f R) in
    λ k. record {
      words = record {
        count = (v.many ∙ sym (length-map R labelled) ∙ ap length same) k;
        words = (v.are ∙ ap (pad most_lines 0) same) k;
      };
      settling = (v.settled ∙ (λ j. test_bits (λ ns. sym (all_map (λ A. answers d.views A ns) f R) j) d.partitions)) k;
    }
