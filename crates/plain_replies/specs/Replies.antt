-- The reply of each operation in numbers: its word's, its count, and a refusal's number and line.
use Rattle.std.specs.Prelude.{ℕ, Result, Ok, Err, Option, Some, None, cond}
use Rattle.model.specs.declared.Refusal.{Refusal}
use Rattle.sessions.specs.declared.replies.Reply.{Reply}
use Rattle.sessions.specs.declared.replies.Reply.TheVariants.{Yes, No, Refused as NotDecided}
use Rattle.explanations.specs.declared.Explaining.{Explaining}
use Rattle.apart.specs.declared.telling.Telling.{Telling}
use Rattle.apart.specs.declared.telling.Telling.TheVariants.{Settled as SettledTelling, Apart}
use Rattle.plain_replies.specs.Words.{Word, word_number, refused, accepted, yes, no, given, settled, unsettled, apart, none, written}
use Rattle.plain_replies.specs.declared.PlainReply.{PlainReply}

-- document 01, "a count in the reply is 0"
abbrev pub refusal : (number line : ℕ) → PlainReply
refusal n k = record { word = word_number refused; count = 0; number = n; line = k }

-- any other word, by its number: it has no refusal's number and no line
abbrev pub worded : (word count : ℕ) → PlainReply
worded w n = record { word = w; count = n; number = 0; line = 0 }

abbrev pub says : Word → ℕ → PlainReply
says w n = worded (word_number w) n

-- of loading and of opening, whose policy and session stand beside the reply
abbrev pub plain_outcome : Result (Unit {0}) Refusal → PlainReply
plain_outcome (Ok u) = says accepted 0
plain_outcome (Err r) = refusal r.number r.line

-- of deciding, with the count of partitions still open
abbrev pub plain_reply : Reply → PlainReply
plain_reply (Yes n) = says yes n
plain_reply (No n) = says no n
plain_reply (NotDecided n k) = refusal n k

-- of giving labels, with the list's length
abbrev pub plain_listing : Result ℕ Refusal → PlainReply
plain_listing (Ok n) = says given n
plain_listing (Err e) = refusal e.number e.line

-- of explaining, with the list's length
abbrev pub plain_explaining : Result Explaining Refusal → PlainReply
plain_explaining (Ok x) = says (cond x.is_settled settled unsettled) x.count
plain_explaining (Err e) = refusal e.number e.line

-- of telling apart, with the number of rows
abbrev pub plain_telling : Result Telling Refusal → PlainReply
plain_telling (Ok SettledTelling) = says settled 0
plain_telling (Ok (Apart n)) = says apart n
plain_telling (Err e) = refusal e.number e.line

-- of the smallest grant, with the list's length
abbrev pub plain_granting : Result (Option ℕ) Refusal → PlainReply
plain_granting (Ok (Some n)) = says given n
plain_granting (Ok None) = says none 0
plain_granting (Err e) = refusal e.number e.line

-- of importing a rule, with the number of bytes written
abbrev pub plain_imported : Result ℕ Refusal → PlainReply
plain_imported (Ok n) = says written n
plain_imported (Err e) = refusal e.number e.line
