-- What the loop over the lines keeps: loading the rest of the text, in the block and with what is declared so far, gives what
-- loading all of it gives.
use mathlib.Core.Path.{◌≡◌, refl, sym, ap, ◌∙◌}
use mathlib.Core.Bool.{Bool, true, false, cond, ◌&&◌, true≢false}
use mathlib.Core.Option.{Option, none, some}
use mathlib.Core.Logic.{◌⊎◌, ⊎_elim}
use mathlib.Core.List.{List, [], ◌∷◌}
use Prim.Native.Nat.{ℕ, zero, suc, ◌+◌, ◌≤◌, ◌<◌}
use native.Mathlib.Nat.{suc-ne-zero, not-suc-le-zero}
use native.Mathlib.Numerals.{add-one}
use native.Mathlib.Omega.{arith}
use lib.ListN.{length, drop, length-drop, drop_of_length-le}
use Rattle.text.specs.Lines.{lines, split, before}
use Rattle.text.specs.declared.Cursor.{Cursor}
use Rattle.text.proofs.NextLines.{front, back, of_tail, of_line, LineAt}
use Rattle.model.specs.Fields.{Numbered, table_line, view_line, partition_line}
use Rattle.policy_text.specs.Text.{Block as TheBlock, tables, views, partitions, is_next, next_block}
use Rattle.policy_text.specs.Text.{faulty, entered, unless, entry, enter, table_fault, view_fault, partition_fault}
use Rattle.policy_text.specs.Text.{nothing, refused, accepted, policy_ends, go_on, load_from}
use Rattle.policy_text.specs.Declared.{Declared}
use Rattle.policy_text.specs.Text.{Loading as TheLoading, Entered as TheEntered}
use Rattle.load.specs.Steps.{block_value, progress_value, after_entry, stepped_value, more_tables, more_views, more_partitions}
use Rattle.load.specs.declared.Block.TheVariants.{Tables, Views, Partitions}
use Rattle.load.specs.declared.Progress.{Progress}
use Rattle.load.specs.declared.Stepped.{Stepped}
use Rattle.load.proofs.Blocks.{block_of, started_of}

-- ---- the rest of a text

-- the lines from number k on
abbrev pub behind : TheBlock → Bool → Declared → ℕ → List ℕ → TheLoading
behind b started d k text = load_from b started d k (lines text).ended (lines text).rest

behind_line : (b : TheBlock) (started : Bool) (d : Declared) (k : ℕ) (text : List ℕ) → before 10 text < length text
    → behind b started d k text ≡ load_from b started d k (front text ∷ (lines (back text)).ended) (lines (back text)).rest
behind_line b started d k text h = of_line (load_from b started d k) text h

-- the text stops in a line
behind_tail : (b : TheBlock) (started : Bool) (d : Declared) (k : ℕ) (text : List ℕ) → before 10 text ≡ length text → 0 < length text
    → behind b started d k text ≡ refused 1 k
unfolding load_from policy_ends
behind_tail b started d k [] e h = absurd (not-suc-le-zero h)
behind_tail b started d k (x ∷ text) e h = of_tail (load_from b started d k) (x ∷ text) e

-- ---- one line

-- no line is turned back by 0
abbrev Positive : TheEntered → Type 0
Positive (faulty n) = n ≡ 0 → ⊥
Positive (entered d) = Unit {0}

entry_positive : {X : Type 0} (o : Option (Numbered X)) (f : Numbered X → ℕ) (add : X → Declared) → Positive (entry o f add)
unfolding entry unless
entry_positive none f add = suc-ne-zero 0
entry_positive (some x) f add = by_fault (f x)
  where
    by_fault : (n : ℕ) → Positive (unless n (add x.value))
    by_fault zero = tt
    by_fault (suc n) = suc-ne-zero n

enter_positive : (b : TheBlock) (d : Declared) (l : List ℕ) → Positive (enter b d l)
unfolding enter more_tables more_views more_partitions
enter_positive tables d l = entry_positive (table_line l) (table_fault d) (more_tables d)
enter_positive views d l = entry_positive (view_line l) (view_fault d) (more_views d)
enter_positive partitions d l = entry_positive (partition_line l) (partition_fault d) (more_partitions d)

-- how the text goes on behind a line that is not turned back
pub record Next (b : TheBlock) (started : Bool) (d : Declared) (l : List ℕ) (k : ℕ) (ls : List (List ℕ)) (tail : List ℕ) : Type 0 where
  pub block : TheBlock
  pub begun : Bool
  pub declared : Declared
  pub progress : (stepped_value b started d l).progress ≡ progress_value block begun declared
  pub same : load_from b started d k (l ∷ ls) tail ≡ load_from block begun declared (suc k) ls tail

module _ (b : TheBlock) (started : Bool) (d : Declared) (l : List ℕ) (k : ℕ) (ls : List (List ℕ)) (tail : List ℕ) where
  pub turned_back : ((stepped_value b started d l).fault ≡ 0 → ⊥)
      → load_from b started d k (l ∷ ls) tail ≡ refused (stepped_value b started d l).fault k
  unfolding stepped_value load_from after_entry go_on
  turned_back = by_next (started && is_next b l) (enter b d l)
    where
      by_next : (t : Bool) (x : TheEntered)
          → ((cond t (record { fault = 0; progress = progress_value (next_block b) false d }) (after_entry b d x)).fault ≡ 0 → ⊥)
          → cond t (load_from (next_block b) false d (suc k) ls tail) (go_on x k (λ e. load_from b true e (suc k) ls tail))
          ≡ refused (cond t (record { fault = 0; progress = progress_value (next_block b) false d }) (after_entry b d x)).fault k
      by_next true x h = absurd (h refl)
      by_next false (faulty n) h = refl
      by_next false (entered e) h = absurd (h refl)

  pub goes_on : (stepped_value b started d l).fault ≡ 0 → Next b started d l k ls tail
  unfolding stepped_value load_from after_entry go_on
  goes_on = by_next (started && is_next b l) refl (enter b d l) refl (enter_positive b d l)
    where
      by_next : (t : Bool) → started && is_next b l ≡ t → (x : TheEntered) → enter b d l ≡ x → Positive x
          → (cond t (record { fault = 0; progress = progress_value (next_block b) false d }) (after_entry b d x)).fault ≡ 0
          → Next b started d l k ls tail
      by_next true s x e p h =
          record { block = next_block b; begun = false; declared = d; progress = rw s; same = rw s }
      by_next false s (faulty n) e p h = absurd (p h)
      by_next false s (entered f) e p h =
          record { block = b; begun = true; declared = f; progress = rw (s, e); same = rw (s, e) }

-- ---- the loop

-- line number `line` starts at the place `at`, and the text's first line has the number `start`
pub record Walked (text : List ℕ) (start : ℕ) (g : Progress) (line at : ℕ) : Type 0 where
  pub block : TheBlock
  pub begun : Bool
  pub declared : Declared
  pub held : g ≡ progress_value block begun declared
  pub number : line ≤ at + start
  pub inside : at ≤ length text
  pub ahead : behind block begun declared line (drop at text) ≡ behind tables false nothing start text

pub walked_none : (text : List ℕ) (start : ℕ) (g : Progress) → g ≡ progress_value tables false nothing → Walked text start g start 0
walked_none text start g e =
    record {
      block = tables;
      begun = false;
      declared = nothing;
      held = e;
      number = omega arith;
      inside = omega arith;
      ahead = refl;
    }

module _ {text : List ℕ} {start : ℕ} {g : Progress} {line at : ℕ} (w : Walked text start g line at) where
  -- the text stops in a line
  pub stops : at < length text → before 10 (drop at text) ≡ length (drop at text) → refused 1 line ≡ behind tables false nothing start text
  stops l e =
      sym (behind_tail w.block w.begun w.declared line (drop at text) e (simp length-drop (omega arith))) ∙ w.ahead

  module _ {c : Cursor} (m : LineAt text at c) where
    -- the line that starts here, and the text behind it
    abbrev here : List ℕ
    here = front (drop at text)

    abbrev rest : List ℕ
    rest = back (drop at text)

    from_here : load_from w.block w.begun w.declared line (here ∷ (lines rest).ended) (lines rest).rest
        ≡ behind tables false nothing start text
    from_here = sym (behind_line w.block w.begun w.declared line (drop at text) m.ended) ∙ w.ahead

    module _ (r : Stepped) (value : r ≡ stepped_value w.block w.begun w.declared here) where
      pub turns_back : (r.fault ≡ 0 → ⊥) → refused r.fault line ≡ behind tables false nothing start text
      turns_back n =
          let fault = ap (λ (s : Stepped). s.fault) value in
          ap (λ (m : ℕ). refused m line) fault
          ∙ sym (turned_back w.block w.begun w.declared here line (lines rest).ended (lines rest).rest (λ e. n (fault ∙ e)))
          ∙ from_here

      pub walked_more : {next : ℕ} → next ≡ line + 1 → r.fault ≡ 0 → Walked text start r.progress next (at + c.at)
      walked_more e z =
          let n = goes_on w.block w.begun w.declared here line (lines rest).ended (lines rest).rest
          (sym (ap (λ (s : Stepped). s.fault) value) ∙ z) in
          record {
            block = n.block;
            begun = n.begun;
            declared = n.declared;
            held = ap (λ (s : Stepped). s.progress) value ∙ n.progress;
            number = omega (arith, w.number, e, m.place);
            inside = m.within;
            ahead = rw (e, add-one line, m.behind) (sym n.same ∙ from_here);
          }

  -- the text stops behind its last line
  module _ (l : length text ≤ at) where
    ended : policy_ends w.block w.begun w.declared line [] ≡ behind tables false nothing start text
    unfolding load_from lines split
    ended = ap (behind w.block w.begun w.declared line) (sym (drop_of_length-le text l)) ∙ w.ahead

    pub too_early : (g.block ≡ Tables) ⊎ (g.block ≡ Views) → refused 1 line ≡ behind tables false nothing start text
    unfolding policy_ends
    too_early n = go w.block (block_of w.block w.begun w.declared g w.held) ended
      where
        go : (b : TheBlock) → g.block ≡ block_value b → policy_ends b w.begun w.declared line [] ≡ behind tables false nothing start text
            → refused 1 line ≡ behind tables false nothing start text
        go tables e q = q
        go views e q = q
        go partitions e q =
            ⊎_elim (λ t. let z : Tables ≡ Partitions = sym t ∙ e in absurd (grind arith))
            (λ v. let z : Views ≡ Partitions = sym v ∙ e in absurd (grind arith)) n

    is_begun : w.begun ≡ g.started
    is_begun = sym (started_of w.block w.begun w.declared g w.held)

    pub not_begun : g.started ≡ false → refused 1 line ≡ behind tables false nothing start text
    unfolding policy_ends
    not_begun s = go w.block w.begun (is_begun ∙ s) ended
      where
        go : (b : TheBlock) (t : Bool) → t ≡ false → policy_ends b t w.declared line [] ≡ behind tables false nothing start text
            → refused 1 line ≡ behind tables false nothing start text
        go tables t e q = q
        go views t e q = q
        go partitions true e q = absurd (true≢false e)
        go partitions false e q = q

    pub all_declared : (g.block ≡ Tables → ⊥) → (g.block ≡ Views → ⊥) → g.started ≡ true
        → accepted w.declared ≡ behind tables false nothing start text
    unfolding policy_ends
    all_declared t v s = go w.block w.begun (block_of w.block w.begun w.declared g w.held) (is_begun ∙ s) ended
      where
        go : (b : TheBlock) (y : Bool) → g.block ≡ block_value b → y ≡ true
            → policy_ends b y w.declared line [] ≡ behind tables false nothing start text
            → accepted w.declared ≡ behind tables false nothing start text
        go tables y e f q = absurd (t e)
        go views y e f q = absurd (v e)
        go partitions true e f q = q
        go partitions false e f q = absurd (true≢false (sym f))
