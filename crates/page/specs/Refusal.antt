-- A refusal as it is printed: "refusals with the line at fault printed below".
use Rattle.std.specs.Prelude.{List, [], ◌∷◌, ◌++◌, ℕ, zero, suc}
use Rattle.text.specs.Lines.{space, newline, lines}
use Rattle.text.specs.Names.{bytes}
use Rattle.text.specs.Print.{decimal}

-- a line behind two spaces
unfoldable pub indented : List ℕ → List ℕ
indented l = space ∷ space ∷ l ++ newline ∷ []

-- the line of number k, counted from 1, among complete lines and a tail that lacks its end; nothing where there is none
unfoldable pub numbered : ℕ → List (List ℕ) → List ℕ → List ℕ
unfolding indented
numbered zero ls tail = []
numbered (suc k) [] [] = []
numbered (suc zero) [] (b ∷ tail) = indented (b ∷ tail)
numbered (suc (suc k)) [] (b ∷ tail) = []
numbered (suc zero) (l ∷ ls) tail = indented l
numbered (suc (suc k)) (l ∷ ls) tail = numbered (suc k) ls tail

-- the text's line of that number, if there is one
unfoldable pub line_below : List ℕ → ℕ → List ℕ
unfolding numbered lines
line_below text k = numbered k (lines text).ended (lines text).rest

-- what is said, the refusal's number and its line, and that line of the text
unfoldable pub refusal : List ℕ → List ℕ → ℕ → ℕ → List ℕ
unfolding decimal line_below
refusal said text number line = said ++ decimal number ++ space ∷ decimal line ++ newline ∷ line_below text line

-- in every mode, of a policy text that does not load
unfoldable pub policy_refused : List ℕ → ℕ → ℕ → List ℕ
unfolding refusal bytes
policy_refused policy number line = refusal (bytes "policy refused ") policy number line

-- of a query text, and of a partition or a word that is none
unfoldable pub query_refused : List ℕ → ℕ → ℕ → List ℕ
unfolding refusal bytes
query_refused query number line = refusal (bytes "refused ") query number line
