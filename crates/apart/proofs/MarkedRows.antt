-- The marked rows of a row, view by view: what one view adds, and those of all views of a partition.
use mathlib.Core.Path.{◌≡◌, sym, ap, subst, ◌∙◌}
use mathlib.Core.Logic.{inl, inr, ⊎_elim}
use mathlib.Core.List.Memᴰ
use mathlib.Core.List.{List, [], ◌∷◌, ◌++◌, append-nil}
use mathlib.Core.Option.{some, some-injective}
use Prim.Native.Nat.{ℕ, ◌+◌, ◌-◌, ◌≤◌}
use native.Mathlib.Omega.{arith}
use lib.ListN.{length, get_elem?, length-map, length-append}
use Rattle.theory.specs.Query.{Line, ◌∈◌}
use Rattle.theory.specs.Archive.{Row, value, row}
use Rattle.theory.specs.Apart.{NoRepeats, none_repeats, one_more}
use Rattle.theory.proofs.Lists.{append_no_repeats}
use Rattle.theory.proofs.Match.{Matches}
use Rattle.theory.proofs.Determine.Block.{mark_by}
use Rattle.theory.proofs.Determine.Marked.{Marked}
use Rattle.words.specs.Sets.{Least, LeastDropped}
use Rattle.covering.specs.Views.{OfTable}
use Rattle.labelling.specs.Settled.{granted, Known}
use Rattle.labelling.proofs.Partitions.{granted_iff}
use Rattle.reduce.proofs.Looked.{Looked, looked_none, looked_more, looked_all}
use Rattle.apart.specs.Buffer.{Holds}
use Rattle.apart.specs.Marking.{Adds, MarkedBehind}

-- ---- what one view adds

-- an element that is new, behind a list without repeats
pub append_one_no_repeats : {X : Type 0} (l : List X) (x : X) → NoRepeats l → (x ∈ l → ⊥) → NoRepeats (l ++ x ∷ [])
append_one_no_repeats l x r new =
    append_no_repeats l (x ∷ []) r (one_more (λ m. Memᴰ.not-nil m) none_repeats)
    (λ y a b. new (Memᴰ.cast (sym (Memᴰ.eq_of_singleton b)) a))

module _ {base : ℕ} {v : Line} {odd : Row} where
  -- nothing, where its marked row stands already, and where it does not match
  pub adds_none : (extra : List Row) → ((s h : ℕ → ℕ) → row s h v ≡ odd → row s (mark_by base v) v ∈ extra) → Adds base v odd extra extra
  adds_none extra each = record { kept = λ x m. m; each = each; only = λ x m. inl m; once = λ r. r }

  -- its marked row, which is the same for every valuation that turns the view into the odd row
  pub adds_one : (extra : List Row) (k : Matches v odd) (x : Row) → x ≡ row k.s (mark_by base v) v
      → ((s h : ℕ → ℕ) → row s h v ≡ odd → row s (mark_by base v) v ≡ x) → (x ∈ extra → ⊥) → Adds base v odd extra (extra ++ x ∷ [])
  adds_one extra k x is same new = record {
    kept = λ y m. Memᴰ.append_left (x ∷ []) m;
    each = λ s h e. Memᴰ.append_right extra (Memᴰ.head (same s h e));
    only = λ y m.
        ⊎_elim (λ a. inl a) (λ b. inr (k.s, k.h, k.same, Memᴰ.eq_of_singleton b ∙ is)) (Memᴰ.append_cases extra m);
    once = λ r. append_one_no_repeats extra x r new;
  }

-- a marked row is as wide as the row
pub marked_width : {mark : Line → ℕ → ℕ} {vs : List Line} {odd x : Row} → Marked mark vs odd x
    → length x.columns ≡ length odd.columns
marked_width {mark} m =
    ap (λ (r : Row). length r.columns) m.same
    ∙ length-map m.v.columns (value m.s (mark m.v))
    ∙ sym (length-map m.v.columns (value m.s m.h))
    ∙ ap (λ (r : Row). length r.columns) m.matched

-- ---- the views of a partition

-- the marked row of the view at place k is there, if the partition grants the view and it matches
abbrev pub Entered : List Line → List ℕ → ℕ → Row → List Row → ℕ → Type 0
Entered views ns base odd extra k =
    (v : Line) → get_elem? views k ≡ some v → k + 1 ∈ ns → (s h : ℕ → ℕ) → row s h v ≡ odd → row s (mark_by base v) v ∈ extra

-- the rows `head`, and behind them the marked rows of the views at the bits of `mask` that are no longer in `left`
pub record MarkedSome (views : List Line) (ns : List ℕ) (base : ℕ) (odd : Row) (start : List ℕ) (head : List Row) (mask left : ℕ)
    (out : List ℕ) (count : ℕ) : Type 0 where
  pub extra : List Row
  pub many : count ≡ length (head ++ extra)
  pub holds : Holds start (head ++ extra) out
  pub once : NoRepeats extra
  pub only : (x : Row) → x ∈ extra → Marked (mark_by base) (granted views ns) odd x
  pub entered : Looked (Entered views ns base odd extra) mask left

module _ {views : List Line} {ns : List ℕ} {base : ℕ} {odd : Row} {start : List ℕ} {head : List Row} {mask : ℕ} where
  pub marked_none : (out : List ℕ) → Holds start head out → MarkedSome views ns base odd start head mask mask out (length head)
  marked_none out h = record {
    extra = [];
    many = ap length (sym (append-nil head));
    holds = subst (λ (l : List Row). Holds start l out) (sym (append-nil head)) h;
    once = none_repeats;
    only = λ x m. absurd (Memᴰ.not-nil m);
    entered = looked_none;
  }

  module _ {left k next : ℕ} {out : List ℕ} {count : ℕ} (m : MarkedSome views ns base odd start head mask left out count)
      (l : Least 64 left k) (d : LeastDropped 64 left next) where
    -- a view that the partition does not grant
    pub marked_same : (k + 1 ∈ ns → ⊥) → MarkedSome views ns base odd start head mask next out count
    marked_same not = record {
      extra = m.extra;
      many = m.many;
      holds = m.holds;
      once = m.once;
      only = m.only;
      entered = looked_more m.entered l d (λ v at listed. absurd (not listed));
    }

    -- one that it grants
    pub marked_more : (v : Line) → get_elem? views k ≡ some v → v ∈ granted views ns → {after : List ℕ} {n : ℕ} (then : List Row)
        → n ≡ length (head ++ then) → Holds start (head ++ then) after → Adds base v odd m.extra then
        → MarkedSome views ns base odd start head mask next after n
    marked_more v at grant then many holds adds = record {
      extra = then;
      many = many;
      holds = holds;
      once = adds.once m.once;
      only = λ x i.
          ⊎_elim (λ a. m.only x a)
          (λ (s, h, matched, same). record { v = v; v_in = grant; s = s; h = h; matched = matched; same = same }) (adds.only x i);
      entered = looked_more kept l d here;
    }
      where
        kept : Looked (Entered views ns base odd then) mask left
        kept = record {
          some = m.entered.some;
          done = λ b e z u there listed s h f. adds.kept _ (m.entered.done b e z u there listed s h f);
        }

        here : Entered views ns base odd then k
        here u there listed s h e =
            let same : u ≡ v = some-injective u v (sym there ∙ at) in
            subst (λ (w : Line). row s (mark_by base w) w ∈ then) (sym same) (adds.each s h (ap (row s h) (sym same) ∙ e))

  -- every view of the odd row's table is looked at, and no other matches
  pub marked_all : {out : List ℕ} {count : ℕ} → Known views ns → OfTable views odd.table mask → count ≤ length head + 32
      → MarkedSome views ns base odd start head mask 0 out count → MarkedBehind base (granted views ns) odd start head out count
  marked_all known of_table few m = record {
    extra = m.extra;
    count = m.many;
    few = omega (arith, few, m.many, length-append head m.extra);
    holds = m.holds;
    once = m.once;
    rows = record { each = each; only = m.only };
  }
    where
      each : (v : Line) (s h : ℕ → ℕ) → v ∈ granted views ns → row s h v ≡ odd → row s (mark_by base v) v ∈ m.extra
      each v s h i e =
          let g = (granted_iff views ns known v).1 i in
          let table = ap (λ (r : Row). r.table) e in
          let next : g.number ≡ g.number - 1 + 1 = omega (arith, g.from_one) in
          looked_all m.entered (g.number - 1) ((of_table (g.number - 1)).1 (v, g.view, table)) v g.view
          (subst (λ (n : ℕ). n ∈ ns) next g.listed) s h e
