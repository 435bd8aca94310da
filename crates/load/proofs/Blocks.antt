-- A line of a block, and how reading goes on behind it.
use mathlib.Core.Path.{◌≡◌, refl, sym, ap, ◌∙◌}
use mathlib.Core.Bool.{Bool, true, false, ◌&&◌, false≢true}
use mathlib.Core.List.{List}
use Prim.Native.Nat.{ℕ, ◌+◌}
use native.Mathlib.Omega.{arith}
use Rattle.words.proofs.Answers.{both_true}
use Rattle.text.specs.Names.{view_table_terms, partition_views}
use Rattle.text.specs.Lines.{same_bytes}
use Rattle.policy_text.specs.Text.{tables, views, partitions, is_next, next_block, enter, faulty, entered}
use Rattle.policy_text.specs.Declared.{Declared}
use Rattle.policy_text.specs.Text.{Block as TheBlock, Entered as TheEntered}
use Rattle.policy_text.specs.Policy.{policy_value}
use Rattle.load.specs.Steps.{block_value, entered_value, progress_value, after_entry, stepped_value}
use Rattle.model.specs.declared.Policy.{Policy}
use Rattle.load.specs.declared.Block.{Block}
use Rattle.load.specs.declared.Block.TheVariants.{Tables, Views, Partitions}
use Rattle.load.specs.declared.Progress.{Progress}
use Rattle.load.specs.declared.Stepped.{Stepped}
use Rattle.load.specs.declared.enter.Entered.{Entered}

-- ---- a block, by its value

pub is_tables : (b : TheBlock) → Tables ≡ block_value b → b ≡ tables
is_tables tables e = refl
is_tables views e = absurd (grind arith)
is_tables partitions e = absurd (grind arith)

pub is_views : (b : TheBlock) → Views ≡ block_value b → b ≡ views
is_views tables e = absurd (grind arith)
is_views views e = refl
is_views partitions e = absurd (grind arith)

pub is_partitions : (b : TheBlock) → Partitions ≡ block_value b → b ≡ partitions
is_partitions tables e = absurd (grind arith)
is_partitions views e = absurd (grind arith)
is_partitions partitions e = refl

-- ---- what a line of a block declares

module _ (d : Declared) (l : List ℕ) (b : TheBlock) where
  -- a line that is turned back leaves the policy, and one that is taken gives the next
  pub entered_back : (n : ℕ) (p : Policy) → p ≡ policy_value d → enter b d l ≡ faulty n
      → ◌≡◌ {A = Entered} (record { fault = n; policy = p }) (entered_value d (enter b d l))
  unfolding entered_value
  entered_back n p e f = (λ i. record { fault = n; policy = e i }) ∙ rw f

  pub entered_more : (r : Policy) (f : Declared) → r ≡ policy_value f → enter b d l ≡ entered f
      → ◌≡◌ {A = Entered} (record { fault = 0; policy = r }) (entered_value d (enter b d l))
  unfolding entered_value
  entered_more r f e g = (λ i. record { fault = 0; policy = e i }) ∙ rw g

-- ---- a step

module _ (b : TheBlock) (started : Bool) (d : Declared) (g : Progress) (value : g ≡ progress_value b started d) where
  pub block_of : g.block ≡ block_value b
  unfolding progress_value
  block_of = ap (λ (p : Progress). p.block) value

  pub policy_of : g.policy ≡ policy_value d
  unfolding progress_value
  policy_of = ap (λ (p : Progress). p.policy) value

  pub started_of : g.started ≡ started
  unfolding progress_value
  started_of = ap (λ (p : Progress). p.started) value

  -- the names line of the next block
  pub goes_on : (l : List ℕ) → g.started && is_next b l ≡ true → (next : Block) → next ≡ block_value (next_block b)
      → ◌≡◌ {A = Stepped} (record { fault = 0; progress = record { block = next; started = false; policy = g.policy } })
      (stepped_value b started d l)
  unfolding stepped_value progress_value
  goes_on l e next n =
      (λ i. record { fault = 0; progress = record { block = n i; started = false; policy = policy_of i } })
      ∙ rw (sym (ap (λ (s : Bool). s && is_next b l) started_of) ∙ e)

  -- a line of values
  pub line_entered : (l : List ℕ) → g.started && is_next b l ≡ false → (r : Entered) → r ≡ entered_value d (enter b d l)
      → ◌≡◌ {A = Stepped} (record { fault = r.fault; progress = record { block = g.block; started = true; policy = r.policy } })
      (stepped_value b started d l)
  unfolding stepped_value entered_value after_entry progress_value
  line_entered l s r e =
      (λ i. record { fault = (e i).fault; progress = record { block = block_of i; started = true; policy = (e i).policy } })
      ∙ by_entry (enter b d l) ∙ rw (sym (ap (λ (t : Bool). t && is_next b l) started_of) ∙ s)
    where
      by_entry : (t : TheEntered)
          → let e = entered_value d t in
          ◌≡◌ {A = Stepped} (record { fault = e.fault; progress = record { block = block_value b; started = true; policy = e.policy } })
          (after_entry b d t)
      by_entry (faulty n) = refl
      by_entry (entered f) = refl
