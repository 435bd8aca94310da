-- What is said of a call determines its outcome, the reply, the session and every cell of a lent buffer, whether or not some text
-- loads to the policy value.
use mathlib.Core.Path.{◌≡◌, refl, sym, ap, ◌∙◌}
use mathlib.Core.Bool.{Bool, true, false, cond}
use mathlib.Core.List.{List, [], ◌∷◌, head-eq_of_cons-eq, tail-eq_of_cons-eq, List-discrete}
use Prim.Native.Nat.{ℕ}
use native.Mathlib.Decide.{ℕ_discrete, map_dec}
use native.Mathlib.Omega.{arith}
use Rattle.std.specs.Prelude.{Result, Ok, Err}
use Rattle.model.specs.declared.Policy.{Policy}
use Rattle.model.specs.declared.Refusal.{Refusal}
use Rattle.validity.specs.Loadable.{Loadable}
use Rattle.sessions.specs.declared.opening.Session.{Session}
use Rattle.sessions.specs.declared.replies.Reply.{Reply}
use Rattle.sessions.specs.declared.replies.Reply.TheVariants.{Yes, No, Refused}
use Rattle.sessions.specs.declared.replies.Decision.{Decision}
use Rattle.sessions.specs.Reply.{Word, Said, said}
use Rattle.sessions.specs.Reply.{yes as affirmed, no as denied, refused as turned}
use Rattle.sessions.specs.Opening.{Opened}
use Rattle.sessions.specs.Deciding.{Decided}
use Rattle.label_lists.specs.Listing.{SaidListing, said_listing, LabelsGiven}
use Rattle.explanations.specs.declared.Explaining.{Explaining}
use Rattle.explanations.specs.Explaining.{SaidExplaining, said_explaining, ExplanationGiven}

-- ---- values that a list of numbers tells apart

pub record Code (X : Type 0) : Type 0 where
  pub code : X → List ℕ
  pub apart : (a b : X) → code a ≡ code b → a ≡ b

pub same? : {X : Type 0} → Code X → (a b : X) → Dec (a ≡ b)
same? c a b = map_dec (c.apart a b) (ap c.code) (List-discrete ℕ_discrete (c.code a) (c.code b))

-- what holds where a text loads to the value, and where none does, holds
pub either_way : {L A : Type 0} → Dec A → (L → A) → ((L → ⊥) → A) → A
either_way (yes a) f g = a
either_way (no n) f g = g (λ l. n (f l))

pub both? : {A B : Type 0} → Dec A → Dec B → Dec (A × B)
both? (yes a) (yes b) = yes (a, b)
both? (yes a) (no n) = no (λ x. n x.1)
both? (no n) b = no (λ x. n x.0)

-- a refusal is what its fields hold
pub one_refusal : {c d : Refusal} → c.number ≡ d.number → c.line ≡ d.line → c ≡ d
one_refusal n k i = record { number = n i; line = k i }

-- ---- what a reply says tells it from every other

word_code : Word → ℕ
word_code affirmed = 0
word_code denied = 1
word_code turned = 2

said_code : Said → List ℕ
said_code s = word_code s.word ∷ s.count ∷ s.number ∷ s.line ∷ []

replies : Code Reply
unfolding said said_code word_code
replies = record { code = λ a. said_code (said a); apart = go }
  where
    go : (a b : Reply) → said_code (said a) ≡ said_code (said b) → a ≡ b
    go (Yes n) (Yes m) e = cc
    go (Yes n) (No m) e = absurd (let z : ◌≡◌ {A = ℕ} 0 1 = cc in omega arith)
    go (Yes n) (Refused m k) e = absurd (let z : ◌≡◌ {A = ℕ} 0 2 = cc in omega arith)
    go (No n) (Yes m) e = absurd (let z : ◌≡◌ {A = ℕ} 1 0 = cc in omega arith)
    go (No n) (No m) e = cc
    go (No n) (Refused m k) e = absurd (let z : ◌≡◌ {A = ℕ} 1 2 = cc in omega arith)
    go (Refused n j) (Yes m) e = absurd (let z : ◌≡◌ {A = ℕ} 2 0 = cc in omega arith)
    go (Refused n j) (No m) e = absurd (let z : ◌≡◌ {A = ℕ} 2 1 = cc in omega arith)
    go (Refused n j) (Refused m k) e = cc

listing_code : SaidListing → List ℕ
listing_code s = cond s.given 1 0 ∷ s.count ∷ s.number ∷ s.line ∷ []

listings : Code (Result ℕ Refusal)
unfolding said_listing listing_code
listings = record { code = λ a. listing_code (said_listing a); apart = go }
  where
    go : (a b : Result ℕ Refusal) → listing_code (said_listing a) ≡ listing_code (said_listing b) → a ≡ b
    go (Ok n) (Ok m) e = cc
    go (Ok n) (Err d) e = absurd (let z : ◌≡◌ {A = ℕ} 1 0 = cc in omega arith)
    go (Err d) (Ok n) e = absurd (let z : ◌≡◌ {A = ℕ} 0 1 = cc in omega arith)
    go (Err c) (Err d) e = ap Err (one_refusal (cc) (cc))

explaining_code : SaidExplaining → List ℕ
explaining_code s = cond s.given 1 0 ∷ cond s.settles 1 0 ∷ s.count ∷ s.number ∷ s.line ∷ []

-- an explanation is what its fields hold
one_explanation : {x y : Explaining} → x.is_settled ≡ y.is_settled → x.count ≡ y.count → x ≡ y
one_explanation b n i = record { is_settled = b i; count = n i }

one_bit : (a b : Bool) → cond {A = ℕ} a 1 0 ≡ cond b 1 0 → a ≡ b
one_bit true true e = refl
one_bit true false e = absurd (omega (arith, e))
one_bit false true e = absurd (omega (arith, e))
one_bit false false e = refl

explanations : Code (Result Explaining Refusal)
unfolding said_explaining explaining_code
explanations = record { code = λ a. explaining_code (said_explaining a); apart = go }
  where
    go : (a b : Result Explaining Refusal) → explaining_code (said_explaining a) ≡ explaining_code (said_explaining b) → a ≡ b
    go (Ok x) (Ok y) e = ap Ok (one_explanation (one_bit x.is_settled y.is_settled (cc)) (cc))
    go (Ok x) (Err d) e = absurd (let z : ◌≡◌ {A = ℕ} 1 0 = cc in omega arith)
    go (Err d) (Ok x) e = absurd (let z : ◌≡◌ {A = ℕ} 0 1 = cc in omega arith)
    go (Err c) (Err d) e = ap Err (one_refusal (cc) (cc))

pub said_apart : (a b : Reply) → said a ≡ said b → a ≡ b
unfolding replies said_code
said_apart a b e = replies.apart a b (ap said_code e)

pub said_listing_apart : (a b : Result ℕ Refusal) → said_listing a ≡ said_listing b → a ≡ b
unfolding listings listing_code
said_listing_apart a b e = listings.apart a b (ap listing_code e)

pub said_explaining_apart : (a b : Result Explaining Refusal) → said_explaining a ≡ said_explaining b → a ≡ b
unfolding explanations explaining_code
said_explaining_apart a b e = explanations.apart a b (ap explaining_code e)

-- a session is what its fields hold
sessions : Code Session
sessions = record { code = λ s. s.mask ∷ []; apart = λ a b e. let mask = head-eq_of_cons-eq e in λ i. record { mask = mask i } }

-- an opening is its session, or its refusal
opening_code : Result Session Refusal → List ℕ
opening_code (Ok s) = s.mask ∷ []
opening_code (Err r) = r.number ∷ r.line ∷ []

openings : Code (Result Session Refusal)
unfolding opening_code sessions
openings = record { code = opening_code; apart = go }
  where
    go : (a b : Result Session Refusal) → opening_code a ≡ opening_code b → a ≡ b
    go (Ok s) (Ok t) e = ap Ok (sessions.apart s t e)
    go (Ok s) (Err t) e = absurd (grind arith)
    go (Err r) (Ok t) e = absurd (grind arith)
    go (Err r) (Err t) e =
        let number : r.number ≡ t.number = head-eq_of_cons-eq e in
        let line : r.line ≡ t.line = head-eq_of_cons-eq (tail-eq_of_cons-eq e) in
        ap Err (λ i. record { number = number i; line = line i })

pub same_session? : (s t : Session) → Dec (s ≡ t)
same_session? = same? sessions

-- ---- "the contract determines the reply, the session and each buffer cell, refusals too"

pub opened_unique : (p : Policy) (r t : Result Session Refusal) → Opened p r → Opened p t → r ≡ t
opened_unique p r t x y =
    either_way {L = Loadable p} (same? openings r t) (λ l. x.opened l ∙ sym (y.opened l)) (λ f. x.turned f ∙ sym (y.turned f))

pub decided_unique : (p : Policy) (s : Session) (text : List ℕ) (r t : Decision) → Decided p s text r → Decided p s text t → r ≡ t
decided_unique p s text r t x y =
    let reply : r.reply ≡ t.reply =
    either_way {L = Loadable p} (same? replies r.reply t.reply)
    (λ l. said_apart r.reply t.reply ((x.loaded l).reply ∙ sym (y.loaded l).reply))
    (λ f. said_apart r.reply t.reply ((x.unloaded f).reply ∙ sym (y.unloaded f).reply)) in
    let session : r.session ≡ t.session =
    either_way {L = Loadable p} (same_session? r.session t.session) (λ l. (x.loaded l).session ∙ sym (y.loaded l).session)
    (λ f. (x.unloaded f).session ∙ sym (y.unloaded f).session) in
    λ i. record { reply = reply i; session = session i }

pub labels_unique : (p : Policy) (text before : List ℕ) (r t : Result ℕ Refusal) (after then : List ℕ)
    → LabelsGiven p text before r after → LabelsGiven p text before t then → (r ≡ t) × (after ≡ then)
labels_unique p text before r t after then x y = (
  either_way {L = Loadable p} (same? listings r t) (λ l. said_listing_apart r t ((x.loaded l).reply ∙ sym (y.loaded l).reply))
      (λ f. said_listing_apart r t ((x.unloaded f).reply ∙ sym (y.unloaded f).reply)),
  either_way {L = Loadable p} (List-discrete ℕ_discrete after then) (λ l. (x.loaded l).buffer ∙ sym (y.loaded l).buffer)
      (λ f. (x.unloaded f).buffer ∙ sym (y.unloaded f).buffer),
)

pub explanation_unique : (p : Policy) (n : ℕ) (text before : List ℕ) (r t : Result Explaining Refusal) (after then : List ℕ)
    → ExplanationGiven p n text before r after → ExplanationGiven p n text before t then → (r ≡ t) × (after ≡ then)
explanation_unique p n text before r t after then x y = (
  either_way {L = Loadable p} (same? explanations r t) (λ l. said_explaining_apart r t ((x.loaded l).reply ∙ sym (y.loaded l).reply))
      (λ f. said_explaining_apart r t ((x.unloaded f).reply ∙ sym (y.unloaded f).reply)),
  either_way {L = Loadable p} (List-discrete ℕ_discrete after then) (λ l. (x.loaded l).buffer ∙ sym (y.loaded l).buffer)
      (λ f. (x.unloaded f).buffer ∙ sym (y.unloaded f).buffer),
)
