-- The policy value that the code holds stands for what the text declares, for every text that loading accepts.
use mathlib.Core.Path.{◌≡◌, refl, sym, ap, ap₂, ◌∙◌}
use mathlib.Core.List.Memᴰ
use mathlib.Core.List.{List, [], ◌∷◌, map}
use Prim.Native.Nat.{ℕ, ◌+◌, ◌≤◌, ◌<◌}
use native.Mathlib.Nat.{zero-add}
use lib.ListN.{length, take, get_or, length-map}
use Rattle.theory.specs.Query.{◌∈◌}
use Rattle.theory.proofs.Lists.{at_place, below_place, there}
use Rattle.words.specs.TestBits.{up_from}
use Rattle.words.proofs.TestBits.{made_of}
use Rattle.model.specs.Limits.{most_tables, most_views, most_columns}
use Rattle.model.specs.Value.{pad, line_value, unused_line, tables_value}
use Rattle.model.specs.Abstract.{as_line}
use Rattle.model.proofs.Pad.{pad_take}
use Rattle.model.proofs.Values.{few_terms, as_line_lem}
use Rattle.model.proofs.Limits.{up_to_iff}
use Rattle.policy_text.specs.Text.{load, accepted}
use Rattle.policy_text.specs.Declared.{Declared}
use Rattle.policy_text.specs.WellFormed.{WellFormed}
use Rattle.policy_text.specs.Policy.{policy_value, grants_of}
use Rattle.policy_text.specs.Abstract.{views_in, granted_at, declared_by}
use Rattle.policy_text.proofs.Loaded.{loaded_well_formed}
use Rattle.policy_text.proofs.Grants.{partition_back}

-- a map undone on every element
map_back : {X Y : Type 0} (f : X → Y) (g : Y → X) (l : List X) → ((x : X) → x ∈ l → g (f x) ≡ x) → map g (map f l) ≡ l
map_back f g [] h = refl
map_back f g (x ∷ l) h =
    ap₂ ◌∷◌ (h x (Memᴰ.head refl)) (map_back f g l (λ y i. h y (Memᴰ.tail i)))

-- the entries before the count of a list that is made of another and padded
entries_back : {X Y : Type 0} (n : ℕ) (none : Y) (f : X → Y) (g : Y → X) (l : List X) → ((x : X) → x ∈ l → g (f x) ≡ x)
    → map g (take (length l) (pad n none (map f l))) ≡ l
entries_back n none f g l h =
    ap (map g) (ap (λ (k : ℕ). take k (pad n none (map f l))) (sym (length-map l f)) ∙ pad_take n none (map f l)) ∙ map_back f g l h

pub stands_for : (d : Declared) → WellFormed d → declared_by (policy_value d) ≡ d
unfolding declared_by policy_value tables_value
stands_for d w =
    let widths = pad_take most_tables 0 d.widths in
    let views = entries_back most_views unused_line line_value as_line d.views
    (λ A i. as_line_lem A (few_terms d.widths narrow A (w.views.each A i).fits)) in
    let grants = map (grants_of d.partitions) (up_from 1 most_views) in
    let partitions = made_of (λ k. views_in most_views (granted_at grants k)) [] 0 d.partitions back in
    λ i. record { widths = widths i; views = views i; partitions = sym partitions i }
  where
    back : (k : ℕ) → k < length d.partitions
        → get_or d.partitions k [] ≡ views_in most_views (granted_at (map (grants_of d.partitions) (up_from 1 most_views)) (0 + k))
    back k h =
        let (vs, at) = below_place d.partitions k h in
        let good = w.partitions.each vs (at_place d.partitions k at) in
        rw zero-add (there d.partitions k [] at ∙ sym (partition_back d.partitions k (length d.views) vs at good))

    narrow : (n : ℕ) → n ∈ d.widths → n ≤ most_columns
    narrow n i = ((up_to_iff most_columns n).0 (w.tables.each n i)).1

pub load_stands_for : (text : List ℕ) (d : Declared) → load text ≡ accepted d → declared_by (policy_value d) ≡ d
load_stands_for text d e = stands_for d (loaded_well_formed text d e)
