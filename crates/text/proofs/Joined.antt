-- Fields joined and lines ended are read back, and what was read is the fields joined and the lines ended again; the bytes of
-- what is written, and how many there are.
use mathlib.Core.Path.{◌≡◌, refl, sym, ap, ap₂, ◌∙◌}
use mathlib.Core.Bool.{Bool, true, false, cond, ◌&&◌}
use mathlib.Core.List.Memᴰ
use mathlib.Core.List.{List, [], ◌∷◌, ◌++◌, append_assoc}
use Prim.Native.Nat.{ℕ, suc, ◌+◌, ◌*◌, ◌≤◌, ◌<◌}
use native.Mathlib.Omega.{arith}
use lib.Dec.{T, leb, ltb, leb→le, ltb→lt, eqb}
use lib.ListN.{length, length-append}
use mir.Facts.{and_yes}
use borrow.Author.Tests.{eqb-true}
use Rattle.text.specs.Lines.{newline, space, Split, push, split, lines, fields}
use Rattle.text.specs.Names.{bytes, table_columns, view_table_terms, partition_views, table_terms}
use Rattle.text.specs.Print.{decimal, joined, end_each}
use Rattle.text.proofs.Each.{Each, each_nil, each_cons, each_append}
use Rattle.text.proofs.Lines.{split_pieces}
use Rattle.text.proofs.PartsJoined.{joined_parts, parts_joined}
use Rattle.text.proofs.Decimals.{decimal_digits}

-- ---- the bytes of what is written

-- a byte of ASCII that is printed and parts no lines
abbrev pub LineByte : ℕ → Type 0
LineByte x = (space ≤ x) × (x < 127)

-- and no fields either
abbrev pub FieldByte : ℕ → Type 0
FieldByte x = (space < x) × (x < 127)

pub decimal_clean : (n : ℕ) → Each FieldByte (decimal n)
decimal_clean n x m = let h = decimal_digits n x m in (omega arith, omega arith)

-- fields of which each is clean
abbrev pub Clean : List (List ℕ) → Type 0
Clean fs = Each (Each FieldByte) fs

pub joined_clean : (fs : List (List ℕ)) → Clean fs → Each LineByte (joined fs)
unfolding joined
joined_clean [] h = each_nil LineByte
joined_clean (f ∷ []) h = λ x m. let k = h f (Memᴰ.head refl) x m in (omega arith, k.1)
joined_clean (f ∷ g ∷ gs) h =
    each_append LineByte f (space ∷ joined (g ∷ gs)) (λ x m. let k = h f (Memᴰ.head refl) x m in (omega arith, k.1))
    (each_cons LineByte space (joined (g ∷ gs)) (omega arith, omega arith) (joined_clean (g ∷ gs) (λ l n. h l (Memᴰ.tail n))))

-- lines of which each is clean are ended as bytes
pub ended_bytes : (ls : List (List ℕ)) → Each (Each LineByte) ls → Each (λ x. x < 256) (end_each ls)
unfolding end_each
ended_bytes [] h = each_nil (λ x. x < 256)
ended_bytes (l ∷ ls) h =
    each_append (λ x. x < 256) l (newline ∷ end_each ls) (λ x m. let k = h l (Memᴰ.head refl) x m in omega arith)
    (each_cons (λ x. x < 256) newline (end_each ls) (omega arith) (ended_bytes ls (λ k m. h k (Memᴰ.tail m))))

-- ---- the names lines

all_printable : List ℕ → Bool
all_printable [] = true
all_printable (b ∷ l) = (leb space b && ltb b 127) && all_printable l

printable : (l : List ℕ) → T (all_printable l) → Each LineByte l
unfolding all_printable
printable [] h = each_nil LineByte
printable (b ∷ l) h =
    let k = and_yes (leb space b && ltb b 127) (all_printable l) h in
    let j = and_yes (leb space b) (ltb b 127) k.0 in
    each_cons LineByte b l (leb→le space b j.0, ltb→lt b 127 j.1) (printable l k.1)

pub table_columns_clean : Each LineByte table_columns
unfolding all_printable table_columns bytes
table_columns_clean = printable table_columns tt

pub view_table_terms_clean : Each LineByte view_table_terms
unfolding all_printable view_table_terms bytes
view_table_terms_clean = printable view_table_terms tt

pub partition_views_clean : Each LineByte partition_views
unfolding all_printable partition_views bytes
partition_views_clean = printable partition_views tt

pub table_terms_clean : Each LineByte table_terms
unfolding all_printable table_terms bytes
table_terms_clean = printable table_terms tt

-- ---- what is written is read back

pub fields_joined : (f : List ℕ) (fs : List (List ℕ)) → Clean (f ∷ fs) → fields (joined (f ∷ fs)) ≡ f ∷ fs
unfolding fields joined
fields_joined f fs h = parts_joined space f fs (λ g m x n e. let k = h g m x n in omega arith)

pub lines_ended : (ls : List (List ℕ)) → Each (Each LineByte) ls → lines (end_each ls) ≡ record { ended = ls; rest = [] }
unfolding lines end_each split
lines_ended [] h = refl
lines_ended (l ∷ ls) h =
    rw (
      split_pieces newline l (end_each ls) (λ x m e. let k = h l (Memᴰ.head refl) x m in omega arith),
      lines_ended ls (λ k m. h k (Memᴰ.tail m)),
    )

-- ---- what is read was written so

pub joined_fields : (l : List ℕ) → joined (fields l) ≡ l
unfolding fields joined
joined_fields l = joined_parts space l

-- a text is its lines, each ended, and the tail behind them
abbrev together : Split → List ℕ
together s = end_each s.ended ++ s.rest

pub ended_lines : (text : List ℕ) → end_each (lines text).ended ++ (lines text).rest ≡ text
unfolding lines split end_each push
ended_lines [] = refl
ended_lines (b ∷ text) = go (eqb b newline) refl (ended_lines text)
  where
    front : (e : List (List ℕ)) (r : List ℕ) → together (push b (record { ended = e; rest = r })) ≡ b ∷ end_each e ++ r
    front [] r = refl
    front (l ∷ ls) r = refl

    s : Split
    s = split newline text

    go : (t : Bool) → eqb b newline ≡ t → together s ≡ text
        → together (cond t (record { ended = [] ∷ s.ended; rest = s.rest }) (push b s)) ≡ b ∷ text
    go true e rest = ap₂ {C = List ℕ} ◌∷◌ (sym (eqb-true b newline e)) rest
    go false e rest = front s.ended s.rest ∙ ap (λ (m : List ℕ). b ∷ m) rest

-- lines behind lines
pub ended_parts : (a b : List (List ℕ)) → end_each (a ++ b) ≡ end_each a ++ end_each b
unfolding end_each
ended_parts [] b = refl
ended_parts (l ∷ a) b =
    ap (λ (m : List ℕ). l ++ newline ∷ m) (ended_parts a b) ∙ sym (append_assoc l (newline ∷ end_each a) (end_each b))

-- ---- how long it is

-- no longer than m
abbrev pub Within : ℕ → List ℕ → Type 0
Within m l = length l ≤ m

pub length_joined : (m : ℕ) (f : List ℕ) (fs : List (List ℕ)) → Each (Within m) (f ∷ fs) → length (joined (f ∷ fs)) ≤ m + length fs * suc m
unfolding joined
length_joined m f [] h = let k = h f (Memᴰ.head refl) in omega arith
length_joined m f (g ∷ gs) h =
    let k = h f (Memᴰ.head refl) in
    let r = length_joined m g gs (λ e n. h e (Memᴰ.tail n)) in
    simp length-append (omega arith)

pub length_ended : (m : ℕ) (ls : List (List ℕ)) → Each (Within m) ls → length (end_each ls) ≤ length ls * suc m
unfolding end_each
length_ended m [] h = omega arith
length_ended m (l ∷ ls) h =
    let k = h l (Memᴰ.head refl) in
    let r = length_ended m ls (λ e n. h e (Memᴰ.tail n)) in
    simp length-append (omega arith)

pub length_parts : (a b : List (List ℕ)) → length (end_each (a ++ b)) ≡ length (end_each a) + length (end_each b)
length_parts a b = ap length (ended_parts a b) ∙ length-append (end_each a) (end_each b)
