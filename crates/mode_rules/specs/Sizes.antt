-- How long the page of a file of rules is at most.
use Rattle.std.specs.Prelude.{ℕ}

-- the most bytes of the page for each byte of a rule, its line end with it
abbrev pub each_byte : ℕ
each_byte = 32

-- what is asked beyond that, so that each number may be taken to have the most digits
abbrev pub spare : ℕ
spare = 64

-- what is said of a rule that is turned back, each number with the most digits, and what stands around the rule below
abbrev pub most_turned : ℕ
most_turned = 79

-- the room that the page has: 65,536 times `each_byte`, and `spare`
abbrev pub rules_room : ℕ
rules_room = 2097216
