-- The terms of a line from a place of a text on.
use Rattle.std.specs.Prelude.{◌≡◌, List, [], ◌∷◌, ◌++◌, ℕ, T, length, Option, IfSome}
use Rattle.theory.specs.Query.{Term}
use Rattle.theory.specs.Executable.Test.{all}
use Rattle.text.specs.Lines.{space, newline}
use Rattle.model.specs.Limits.{term_within}
use Rattle.model.specs.Parsed.{with_shown, with_hidden, bits_of}
use Rattle.model.specs.Print.{print_term, spaced}
use Rattle.model.specs.Value.{term_value, terms_value}
use Rattle.scan.specs.Places.{Between}
use Rattle.scan.specs.declared.terms.TermEnd.{TermEnd}
use Rattle.scan.specs.declared.terms.Terms.{Terms}

-- a space and a term within its limits
pub record TermThere (text : List ℕ) (at : ℕ) (r : TermEnd) : Type 0 where
  pub is : Term
  pub value : r.term ≡ term_value is
  pub within : T (term_within is)
  pub there : Between text at r.end (space ∷ print_term is)

-- such a term at the place, or none
abbrev pub TermAt : List ℕ → ℕ → Option TermEnd → Type 0
TermAt text at r = IfSome r (λ t. TermThere text at t)

-- these terms are within their limits, and r has them and their variables
pub record HoldsTerms (r : Terms) (ts : List Term) : Type 0 where
  pub within : T (all term_within ts)
  pub held : r.terms ≡ terms_value ts
  pub shown_bits : r.shown ≡ bits_of with_shown 0 ts
  pub hidden_bits : r.hidden ≡ bits_of with_hidden 0 ts

-- so many terms and the end of their line
pub record TermsThere (text : List ℕ) (at width : ℕ) (r : Terms) : Type 0 where
  pub are : List Term
  pub count : length are ≡ width
  pub holds : HoldsTerms r are
  pub there : Between text at r.end (spaced are ++ newline ∷ [])

-- such terms at the place, or none
abbrev pub TermsAt : List ℕ → ℕ → ℕ → Option Terms → Type 0
TermsAt text at width r = IfSome r (λ t. TermsThere text at width t)
