-- Nothing is lost where replies are numbers: each is read back from its numbers.
use mathlib.Core.Path.{◌≡◌, refl, sym, ap, ◌∙◌}
use mathlib.Core.Bool.{Bool, true, false, cond}
use mathlib.Core.List.{[], ◌∷◌}
use Prim.Native.Nat.{ℕ}
use lib.Dec.{eqb}
use lib.ListN.{get_or}
use Rattle.std.specs.Prelude.{Result, Ok, Err, Option, Some, None}
use Rattle.model.specs.declared.Refusal.{Refusal}
use Rattle.sessions.specs.declared.replies.Reply.{Reply}
use Rattle.sessions.specs.declared.replies.Reply.TheVariants.{Yes, No, Refused as NotDecided}
use Rattle.explanations.specs.declared.Explaining.{Explaining}
use Rattle.apart.specs.declared.telling.Telling.{Telling}
use Rattle.apart.specs.declared.telling.Telling.TheVariants.{Settled as SettledTelling, Apart}
use Rattle.plain_replies.specs.Words.{Word, word_number, refused, accepted, yes, no, given, settled, unsettled, apart, none, written}
use Rattle.plain_replies.specs.Replies.{says, plain_outcome, plain_reply, plain_listing, plain_explaining}
use Rattle.plain_replies.specs.Replies.{plain_telling, plain_granting, plain_imported}
use Rattle.plain_replies.specs.Told.{ToldBy, Told}
use Rattle.plain_replies.specs.declared.PlainReply.{PlainReply}

-- what is read back is told by its numbers
told_back : {X Y : Type 0} (numbers : X → Y) (back : Y → X) → ((a : X) → back (numbers a) ≡ a) → ToldBy numbers
told_back numbers back same a b e = sym (same a) ∙ ap back e ∙ same b

-- one of two or of three cases, by the number of a word
abbrev either : {X : Type 0} → Word → X → X → PlainReply → X
either w x y r = cond (eqb r.word (word_number w)) x y

-- ---- reading back

abbrev word : ℕ → Word
word n = get_or (refused ∷ accepted ∷ yes ∷ no ∷ given ∷ settled ∷ unsettled ∷ apart ∷ none ∷ written ∷ []) n refused

word_back : (w : Word) → word (word_number w) ≡ w
word_back refused = refl
word_back accepted = refl
word_back yes = refl
word_back no = refl
word_back given = refl
word_back settled = refl
word_back unsettled = refl
word_back apart = refl
word_back none = refl
word_back written = refl

-- a refusal, whatever the reply is of
abbrev refusal : {T : Type 0} → PlainReply → Result T Refusal
refusal r = Err (record { number = r.number; line = r.line })

abbrev outcome : PlainReply → Result (Unit {0}) Refusal
outcome r = either accepted (Ok tt) (refusal r) r

outcome_back : (o : Result (Unit {0}) Refusal) → outcome (plain_outcome o) ≡ o
outcome_back (Ok u) = refl
outcome_back (Err r) = refl

abbrev reply : PlainReply → Reply
reply r = either yes (Yes r.count) (either no (No r.count) (NotDecided r.number r.line) r) r

reply_back : (o : Reply) → reply (plain_reply o) ≡ o
reply_back (Yes n) = refl
reply_back (No n) = refl
reply_back (NotDecided n k) = refl

abbrev listing : PlainReply → Result ℕ Refusal
listing r = either given (Ok r.count) (refusal r) r

listing_back : (o : Result ℕ Refusal) → listing (plain_listing o) ≡ o
listing_back (Ok n) = refl
listing_back (Err e) = refl

-- an explanation, which settles the query or not
abbrev explained : Bool → PlainReply → Result Explaining Refusal
explained b r = Ok (record { is_settled = b; count = r.count })

abbrev explanation : PlainReply → Result Explaining Refusal
explanation r = either settled (explained true r) (either unsettled (explained false r) (refusal r) r) r

explanation_back : (o : Result Explaining Refusal) → explanation (plain_explaining o) ≡ o
explanation_back (Ok x) = go x.is_settled x.count
  where
    go : (b : Bool) (n : ℕ) → explanation (says (cond b settled unsettled) n) ≡ Ok (record { is_settled = b; count = n })
    go true n = refl
    go false n = refl
explanation_back (Err e) = refl

abbrev telling : PlainReply → Result Telling Refusal
telling r = either settled (Ok SettledTelling) (either apart (Ok (Apart r.count)) (refusal r) r) r

telling_back : (o : Result Telling Refusal) → telling (plain_telling o) ≡ o
telling_back (Ok SettledTelling) = refl
telling_back (Ok (Apart n)) = refl
telling_back (Err e) = refl

abbrev granting : PlainReply → Result (Option ℕ) Refusal
granting r = either given (Ok (Some r.count)) (either none (Ok None) (refusal r) r) r

granting_back : (o : Result (Option ℕ) Refusal) → granting (plain_granting o) ≡ o
granting_back (Ok (Some n)) = refl
granting_back (Ok None) = refl
granting_back (Err e) = refl

abbrev imported : PlainReply → Result ℕ Refusal
imported r = either written (Ok r.count) (refusal r) r

imported_back : (o : Result ℕ Refusal) → imported (plain_imported o) ≡ o
imported_back (Ok n) = refl
imported_back (Err e) = refl

-- ---- the statement

pub told : Told
told =
    record {
      words = told_back word_number word word_back;
      outcomes = told_back plain_outcome outcome outcome_back;
      replies = told_back plain_reply reply reply_back;
      listings = told_back plain_listing listing listing_back;
      explanations = told_back plain_explaining explanation explanation_back;
      tellings = told_back plain_telling telling telling_back;
      grantings = told_back plain_granting granting granting_back;
      imports = told_back plain_imported imported imported_back;
    }
