-- Document 01, "Answers" and "Determining".
--
-- Values are natural numbers of any size. An archive is any finite list of rows, used through membership alone: order and
-- repeats play no part, and rows of tables and values that nobody asks for are allowed.
use Rattle.std.specs.Prelude.{List, [], ◌∷◌, ◌↔◌, ℕ}
use Rattle.theory.specs.Query.{Term, constant, shown, hidden, Tuple, over, Line, Query, ◌∈◌, Fits}

abbrev pub Row : Type 0
Row = Tuple ℕ

abbrev pub Archive : Type 0
Archive = List Row

-- "An archive gives each table of the policy a finite set of rows, each with as many whole numbers as the table has columns."
abbrev pub AllFit : {X : Type 0} → List ℕ → List (Tuple X) → Type 0
AllFit {X} widths l = (A : Tuple X) → A ∈ l → Fits widths A

-- "A valuation gives each variable a whole number": s the shown variables, h the hidden ones.
abbrev pub value : (s h : ℕ → ℕ) → Term → ℕ
value s h (constant c) = c
value s h (shown n) = s n
value s h (hidden n) = h n

-- "each line becomes a row of its table"
abbrev pub row : (s h : ℕ → ℕ) → Line → Row
row s h A = over (value s h) A

-- "The answer is the set of shown-variable values over all valuations": s is among the answers of Q on D. (Only what s gives
-- the shown variables of Q plays a part: `answer_at_shown`.)
abbrev pub Answer : Query → Archive → (s : ℕ → ℕ) → Type 0
Answer Q D s = (h : ℕ → ℕ) × ((A : Line) → A ∈ Q → row s h A ∈ D)

-- "the same set of answers"
abbrev pub SameAnswers : Query → Archive → Archive → Type 0
SameAnswers Q D E = (s : ℕ → ℕ) → Answer Q D s ↔ Answer Q E s

-- two queries have the same answers on every archive of the tables
abbrev pub Equivalent : List ℕ → Query → Query → Type 0
Equivalent widths P Q = (D : Archive) → AllFit widths D → (s : ℕ → ℕ) → Answer P D s ↔ Answer Q D s

-- "Two archives agree on a view when its answers on both are the same set."
abbrev pub Agree : Line → Archive → Archive → Type 0
Agree v D E = SameAnswers (v ∷ []) D E

-- "A partition determines a query when any two archives that agree on each of its views give the query … the same set of
-- answers": for any views, told by a property.
abbrev pub DeterminedBy : List ℕ → (Line → Type 0) → Query → Type 0
DeterminedBy widths IsView Q =
    (D E : Archive) → AllFit widths D → AllFit widths E → ((v : Line) → IsView v → Agree v D E) → SameAnswers Q D E

-- the same for a list of views
abbrev pub Determines : List ℕ → List Line → Query → Type 0
Determines widths vs Q = DeterminedBy widths (λ v. v ∈ vs) Q
