-- What a text loads to is well formed, and the text is that printed: an invariant of the walk over the lines.
use mathlib.Core.Path.{◌≡◌, refl, sym, ap, ap₂, ◌∙◌, subst}
use mathlib.Core.Bool.{Bool, true, false, cond, ◌&&◌}
use mathlib.Core.List.{List, [], ◌∷◌, ◌++◌, append-nil, append_assoc}
use Prim.Native.Nat.{ℕ, suc, ◌≤◌}
use native.Mathlib.Omega.{arith}
use lib.Dec.{T, ltb}
use lib.ListN.{length, length-append}
use Rattle.theory.specs.Query.{Line, ◌∈◌}
use Rattle.theory.proofs.Executable.Test.{and_iff}
use Rattle.text.specs.Lines.{lines, same_bytes}
use Rattle.text.specs.Names.{table_columns, view_table_terms, partition_views}
use Rattle.text.specs.Print.{end_each}
use Rattle.model.specs.Fields.{Numbered, table_line, view_line, partition_line}
use Rattle.model.specs.Limits.{most_tables, most_views, most_partitions}
use Rattle.model.specs.Print.{line_fields, partition_fields}
use Rattle.policy_text.specs.Text.{nothing, refused, accepted, most_policy_bytes, Entered, faulty, entered, Block, tables, views, partitions, enter, is_next, next_block, policy_ends, go_on, load_from, load_lines, load}
use Rattle.policy_text.specs.Declared.{Declared}
use Rattle.policy_text.specs.WellFormed.{OneToMost, GoodWidth, GoodView, GoodPartition, WellFormed}
use Rattle.policy_text.specs.Print.{print_block, print_lines, print}
use Rattle.text.proofs.Each.{each_nil, each_cons, each_append}
use Rattle.text.proofs.Names.{same_bytes_iff}
use Rattle.text.proofs.Joined.{ended_lines}
use Rattle.policy_text.proofs.Faults.{Taken, table_taken, view_taken, partition_taken, entry_only_taken}
use Rattle.policy_text.proofs.Declares.{table_lines, view_lines, so_far, so_far_more}

-- a block's values so far: there is one where the block has started
record SoFar {X : Type 0} (started : Bool) (most : ℕ) (Good : X → Type 0) (l : List X) : Type 0 where
  nonempty : T started → 1 ≤ length l
  few : length l ≤ most
  each : (x : X) → x ∈ l → Good x

module _ {X : Type 0} {most : ℕ} {Good : X → Type 0} where
  at_first : SoFar false most Good []
  at_first = record { nonempty = λ t. absurd t; few = omega arith; each = each_nil Good }

  -- one value more
  more : (started : Bool) (l : List X) (e : Numbered X) → SoFar started most Good l → Taken most Good (length l) e
      → SoFar true most Good (l ++ e.value ∷ [])
  more started l e s t =
      record {
        nonempty = λ h. simp length-append (omega arith);
        few = simp length-append (omega arith);
        each = each_append Good l _ s.each (each_cons Good e.value [] t.good (each_nil Good));
      }

  all_of_it : (started : Bool) (l : List X) → T started → SoFar started most Good l → OneToMost most Good l
  all_of_it started l h s = record { nonempty = s.nonempty h; few = s.few; each = s.each }

-- what is declared in a block that has started or not: the blocks before are complete, those behind it empty
abbrev Reached : Block → Bool → Declared → Type 0
Reached tables started d =
    SoFar started most_tables GoodWidth d.widths × (d.views ≡ []) × (d.partitions ≡ [])
Reached views started d =
    OneToMost most_tables GoodWidth d.widths × SoFar started most_views (GoodView d.widths) d.views
    × (d.partitions ≡ [])
Reached partitions started d =
    OneToMost most_tables GoodWidth d.widths × OneToMost most_views (GoodView d.widths) d.views
    × SoFar started most_partitions (GoodPartition (length d.views)) d.partitions

reached_more : (b : Block) (started : Bool) (d : Declared) (l : List ℕ) (d' : Declared)
    → Reached b started d → enter b d l ≡ entered d' → Reached b true d'
unfolding enter
reached_more tables started d l d' r h =
    let k = entry_only_taken _ _ (table_line l) d' h in
    subst (λ (c : Declared). Reached tables true c) k.3
    (more started d.widths k.0 r.0 ((table_taken d k.0).0 k.2), r.1, r.2)
reached_more views started d l d' r h =
    let k = entry_only_taken _ _ (view_line l) d' h in
    subst (λ (c : Declared). Reached views true c) k.3
    (r.0, more started d.views k.0 r.1 ((view_taken d k.0).0 k.2), r.2)
reached_more partitions started d l d' r h =
    let k = entry_only_taken _ _ (partition_line l) d' h in
    subst (λ (c : Declared). Reached partitions true c) k.3
    (r.0, r.1, more started d.partitions k.0 r.2 ((partition_taken d k.0).0 k.2))

reached_next : (b : Block) (started : Bool) (d : Declared) (l : List ℕ)
    → T (started && is_next b l) → Reached b started d → Reached (next_block b) false d
unfolding is_next next_block
reached_next tables started d l h r =
    (all_of_it started d.widths ((and_iff started _).0 h).0 r.0, rw r.1 at_first, r.2)
reached_next views started d l h r =
    (r.0, all_of_it started d.views ((and_iff started _).0 h).0 r.1, rw r.2 at_first)
reached_next partitions started d l h r = absurd ((and_iff started _).0 h).1

-- the names line of the block behind is the next of the printed lines, as nothing is declared of that block
so_far_next : (b : Block) (started : Bool) (d : Declared) (l : List ℕ) → Reached b started d → T (is_next b l)
    → so_far (next_block b) d ≡ so_far b d ++ l ∷ []
unfolding so_far print_lines print_block is_next next_block
so_far_next tables started d l r h =
    ap (λ (As : List Line). table_lines d ++ view_table_terms ∷ print_block line_fields 1 As) r.1
    ∙ ap (λ (m : List ℕ). table_lines d ++ m ∷ []) (sym ((same_bytes_iff l view_table_terms).0 h))
so_far_next views started d l r h =
    ap (λ (ps : List (List ℕ)). table_lines d ++ (view_lines d ++ partition_views ∷ print_block partition_fields 1 ps)) r.2
    ∙ ap (λ (m : List ℕ). table_lines d ++ (view_lines d ++ m ∷ [])) (sym ((same_bytes_iff l partition_views).0 h))
    ∙ sym (append_assoc (table_lines d) (view_lines d) (l ∷ []))
so_far_next partitions started d l r h = absurd h

refused≢accepted : {n k : ℕ} {d : Declared} → refused n k ≡ accepted d → ⊥
refused≢accepted e = let z : ◌≡◌ {A = ℕ} 0 1 = cc in omega arith

-- a text that is accepted with e, of which ls and the tail are left in a block where d is declared so far
record Told (b : Block) (d : Declared) (ls : List (List ℕ)) (tail : List ℕ) (e : Declared) : Type 0 where
  good : WellFormed e
  ended : tail ≡ []
  printed : so_far b d ++ ls ≡ print_lines e

-- the text stops: only in the last block, once that has started, and only with no tail
ended_told : (b : Block) (started : Bool) (d : Declared) (k : ℕ) (tail : List ℕ) (e : Declared)
    → Reached b started d → policy_ends b started d k tail ≡ accepted e → Told b d [] tail e
unfolding policy_ends so_far
ended_told b started d k (x ∷ tail) e r h = absurd (refused≢accepted h)
ended_told tables started d k [] e r h = absurd (refused≢accepted h)
ended_told views started d k [] e r h = absurd (refused≢accepted h)
ended_told partitions true d k [] e r h =
    let same : d ≡ e = cc in
    subst (Told partitions d [] []) same
    (record {
      good = record { tables = r.0; views = r.1; partitions = all_of_it true d.partitions tt r.2 };
      ended = refl;
      printed = append-nil (print_lines d);
    })
ended_told partitions false d k [] e r h = absurd (refused≢accepted h)

-- a line that is the next of the printed ones
line_told : (b b' : Block) (d d' : Declared) (l : List ℕ) {ls : List (List ℕ)} {tail : List ℕ} {e : Declared}
    → so_far b' d' ≡ so_far b d ++ l ∷ [] → Told b' d' ls tail e → Told b d (l ∷ ls) tail e
line_told b b' d d' l {ls} next t =
    record {
      good = t.good;
      ended = t.ended;
      printed = sym (append_assoc (so_far b d) (l ∷ []) ls) ∙ ap (λ (m : List (List ℕ)). m ++ ls) (sym next) ∙ t.printed;
    }

-- a text whose lines from here on are accepted
abbrev Sound : List (List ℕ) → Type 0
Sound ls =
    (b : Block) (started : Bool) (d : Declared) (k : ℕ) (tail : List ℕ) (e : Declared)
    → Reached b started d → load_from b started d k ls tail ≡ accepted e → Told b d ls tail e

one_line_sound : (l : List ℕ) (ls : List (List ℕ)) → Sound ls → Sound (l ∷ ls)
unfolding load_from go_on
one_line_sound l ls rest b started d k tail e r = go (started && is_next b l) refl (enter b d l) refl
  where
    go : (next : Bool) → started && is_next b l ≡ next → (o : Entered) → enter b d l ≡ o
        → cond next (load_from (next_block b) false d (suc k) ls tail) (go_on o k (λ d'. load_from b true d' (suc k) ls tail))
        ≡ accepted e → Told b d (l ∷ ls) tail e
    go true n o q h =
        let named : T (started && is_next b l) = rw n tt in
        line_told b (next_block b) d d l (so_far_next b started d l r ((and_iff started _).0 named).1)
        (rest (next_block b) false d (suc k) tail e (reached_next b started d l named r) h)
    go false n (faulty m) q h = absurd (refused≢accepted h)
    go false n (entered d') q h =
        line_told b b d d' l (so_far_more b d d' l q) (rest b true d' (suc k) tail e (reached_more b started d l d' r q) h)

sound : (ls : List (List ℕ)) → Sound ls
unfolding load_from
sound [] = ended_told
sound (l ∷ ls) = one_line_sound l ls (sound ls)

lines_sound : (ls : List (List ℕ)) (tail : List ℕ) (e : Declared) → load_lines ls tail ≡ accepted e
    → WellFormed e × (tail ≡ []) × (ls ≡ print_lines e)
unfolding load_lines nothing so_far print_block
lines_sound [] tail e h = absurd (refused≢accepted h)
lines_sound (l ∷ ls) tail e h = go (same_bytes l table_columns) (λ t. t) h
  where
    go : (named : Bool) → (T named → T (same_bytes l table_columns))
        → cond named (load_from tables false nothing 2 ls tail) (refused 1 1) ≡ accepted e
        → WellFormed e × (tail ≡ []) × (l ∷ ls ≡ print_lines e)
    go true n q =
        let t = sound ls tables false nothing 2 tail e (at_first, refl, refl) q in
        let first = (same_bytes_iff l table_columns).0 (n tt) in
        (t.good, t.ended, ap (λ (m : List ℕ). m ∷ ls) first ∙ t.printed)
    go false n q = absurd (refused≢accepted q)

loaded : (text : List ℕ) (d : Declared) → load text ≡ accepted d → WellFormed d × (text ≡ print d)
unfolding load print
loaded text d h = go (ltb most_policy_bytes (length text)) h
  where
    go : (long : Bool) → cond long (refused 7 0) (load_lines (lines text).ended (lines text).rest) ≡ accepted d
        → WellFormed d × (text ≡ print d)
    go true q = absurd (refused≢accepted q)
    go false q =
        let (good, tail, all) = lines_sound (lines text).ended (lines text).rest d q in
        (good, sym (ended_lines text) ∙ ap₂ (λ (ls : List (List ℕ)) (r : List ℕ). end_each ls ++ r) all tail ∙ append-nil (print d))

pub loaded_well_formed : (text : List ℕ) (d : Declared) → load text ≡ accepted d → WellFormed d
loaded_well_formed text d h = (loaded text d h).0

pub loaded_printed : (text : List ℕ) (d : Declared) → load text ≡ accepted d → text ≡ print d
loaded_printed text d h = (loaded text d h).1
