-- Document 01, "If the answer is an enum, a definition provides this paper's number and values for each of its cases."
use Rattle.std.specs.Prelude.{ℕ}
use Rattle.sessions.specs.declared.replies.Reply.{Reply}
use Rattle.sessions.specs.declared.replies.Reply.TheVariants.{Yes, No, Refused}

-- "`yes`, `no` or `refused`"
pub data Word : Type 0 where
  yes no refused : Word

-- the word, the count of partitions still open, the refusal's number and its line
pub record Said : Type 0 where
  pub word : Word
  pub count : ℕ
  pub number : ℕ
  pub line : ℕ

-- "On any refusal … a count in the reply is 0."; a yes and a no have number 0 and line 0
unfoldable pub said : Reply → Said
said (Yes n) = record { word = yes; count = n; number = 0; line = 0 }
said (No n) = record { word = no; count = n; number = 0; line = 0 }
said (Refused n k) = record { word = refused; count = 0; number = n; line = k }
