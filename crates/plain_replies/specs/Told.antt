-- Nothing is lost where replies are numbers: replies with the same numbers are the same reply.
use Rattle.std.specs.Prelude.{◌≡◌}
use Rattle.plain_replies.specs.Words.{word_number}
use Rattle.plain_replies.specs.Replies.{plain_outcome, plain_reply, plain_listing, plain_explaining}
use Rattle.plain_replies.specs.Replies.{plain_telling, plain_granting, plain_imported}

-- values that have the same numbers are the same value
abbrev pub ToldBy : {X Y : Type 0} → (X → Y) → Type 0
ToldBy {X} numbers = (a b : X) → numbers a ≡ numbers b → a ≡ b

pub record Told : Type 0 where
  pub words : ToldBy word_number
  pub outcomes : ToldBy plain_outcome
  pub replies : ToldBy plain_reply
  pub listings : ToldBy plain_listing
  pub explanations : ToldBy plain_explaining
  pub tellings : ToldBy plain_telling
  pub grantings : ToldBy plain_granting
  pub imports : ToldBy plain_imported
