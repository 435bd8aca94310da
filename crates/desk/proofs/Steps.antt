-- Every call of a fit session is a step, and what the call says is right.
use mathlib.Core.Path.{◌≡◌, refl, sym, ap, subst, ◌∙◌}
use mathlib.Core.List.{List}
use Prim.Native.Nat.{ℕ, ◌<◌}
use native.Mathlib.Decide.{ℕ_discrete}
use native.Mathlib.Omega.{arith}
use borrow.Author.Tests.{eq-eqb, ne_eqb}
use lib.Dec.{eqb}
use Rattle.theory.specs.Query.{Query}
use Rattle.words.proofs.Answers.{either}
use Rattle.words.proofs.Bits.{bit_zero}
use Rattle.query_text.specs.Text.{Reading, refused, accepted, read}
use Rattle.query_text.proofs.Accepted.{refused≢accepted}
use Rattle.policy_text.specs.Declared.{Declared}
use Rattle.policy_text.specs.WellFormed.{WellFormed}
use Rattle.sessions.specs.declared.opening.Session.{Session}
use Rattle.sessions.specs.Reply.{Said, said}
use Rattle.sessions.specs.Reply.{yes as affirmed, no as negated}
use Rattle.sessions.specs.Session.{open_count}
use Rattle.sessions.specs.Deciding.{unfit, still_open, Verdict, turned_back, answered, decide_query, decide_under, Gives}
use Rattle.desk.specs.Calls.{Call, Says, Asks, Answerable}
use Rattle.desk.specs.Demands.{Right}
use Rattle.desk.proofs.Held.{Step, passed, denied, granted, asks_once}
use Rattle.desk.proofs.Held.{Held, held_fit, one_open, all_before, the_last, left_iff, held_step}
use Rattle.desk.proofs.ReplyWords.{no_yes, turned_yes, turned_no}

-- ---- a call is a step

module _ (d : Declared) (s : Session) (c : Call) where
  -- a call that says this and leaves these partitions open
  stepped : {o : Verdict} → Gives c.gave o → (Says c o.says.word → Step d s.mask c o.leaves.mask)
      → Step d s.mask c c.gave.session.mask
  stepped g f =
      subst (Step d s.mask c) (ap (λ (t : Session). t.mask) (sym g.session)) (f (ap (λ (x : Said). x.word) g.reply))

  by_left : (Q : Query) → Asks d c Q → Dec (still_open d Q s.mask ≡ 0) → Gives c.gave (answered s (still_open d Q s.mask))
      → Step d s.mask c c.gave.session.mask
  unfolding answered
  by_left Q a (yes e) g = stepped (rw (eq-eqb (still_open d Q s.mask) 0 e) at g) (denied Q a e)
  by_left Q a (no f) g = stepped (rw (ne_eqb (still_open d Q s.mask) 0 f) at g) (granted Q a (omega arith))

  by_reading : (r : Reading) → read d.widths c.text ≡ r → Gives c.gave (decide_query d s r)
      → Step d s.mask c c.gave.session.mask
  unfolding decide_query turned_back
  by_reading (refused n k) e g = stepped g (passed (λ Q a. refused≢accepted (sym e ∙ a)))
  by_reading (accepted Q) e g = by_left Q e (ℕ_discrete (still_open d Q s.mask) 0) g

  pub steps : {before : List Call} → Held d before s.mask → Gives c.gave (decide_under d s c.text)
      → Step d s.mask c c.gave.session.mask
  unfolding decide_under
  steps h g = by_reading (read d.widths c.text) refl (rw (held_fit d s h) at g)

-- ---- the count in the reply

-- "the count of partitions left open in the session, which the reply to a yes or a no also carries"
abbrev Counted : Said → Session → Type 0
Counted x t = (x.word ≡ affirmed → x.count ≡ open_count t.mask) × (x.word ≡ negated → x.count ≡ open_count t.mask)

abbrev CountedBy : Verdict → Type 0
CountedBy o = Counted o.says o.leaves

turned_counted : (s : Session) (n k : ℕ) → CountedBy (turned_back s n k)
unfolding turned_back
turned_counted s n k = (λ y. absurd (turned_yes refl y), λ w. absurd (turned_no refl w))

query_counted : (d : Declared) (s : Session) (v : Reading) → CountedBy (decide_query d s v)
unfolding decide_query answered
query_counted d s (refused n k) = turned_counted s n k
query_counted d s (accepted Q) =
    either CountedBy (eqb (still_open d Q s.mask) 0) (λ y. refl, λ w. refl) (λ y. refl, λ w. refl)

pub counted : (d : Declared) (s : Session) (c : Call) → Gives c.gave (decide_under d s c.text)
    → Counted (said c.gave.reply) c.gave.session
unfolding decide_under
counted d s c g =
    rw (g.reply, g.session) (either CountedBy (unfit d s) (turned_counted s 9 0) (query_counted d s (read d.widths c.text)))

-- ---- what a step was right to say

module _ (d : Declared) (good : WellFormed d) {before : List Call} (c : Call) {mask : ℕ} (h : Held d before mask) where
  none_answers : (Q : Query) → Asks d c Q → still_open d Q mask ≡ 0 → Answerable d before Q → ⊥
  none_answers Q asks e r =
      omega (arith, rw e at ((left_iff d good h c Q asks r.0).1 (r.1, r.2, r.3)), bit_zero r.0)

  some_answers : (Q : Query) → Asks d c Q → 0 < still_open d Q mask → Says c affirmed → Answerable d before Q
  some_answers Q asks some says =
      let (i, b, e, f) = one_open d (held_step d good h (granted Q asks some says)) in
      (i, b, all_before d before c i f, the_last d before c i f says Q asks)

  pub step_right : {mask' : ℕ} → Step d mask c mask' → Counted (said c.gave.reply) c.gave.session → Right d before c
  step_right (passed none says) k = record {
    yes_count = k.0;
    no_count = k.1;
    no_exactly = (λ n. absurd (turned_no says n), λ r. absurd (none r.0 r.1));
    yes_exactly = (λ y. absurd (turned_yes says y), λ r. absurd (none r.0 r.1));
  }
  step_right (denied Q asks none says) k = record {
    yes_count = k.0;
    no_count = k.1;
    no_exactly = (λ n. (Q, asks, none_answers Q asks none), λ r. says);
    yes_exactly = (
      λ y. absurd (no_yes says y),
      λ r. absurd (none_answers Q asks none (subst (Answerable d before) (asks_once d c r.1 asks) r.2)),
    );
  }
  step_right (granted Q asks some says) k = record {
    yes_count = k.0;
    no_count = k.1;
    no_exactly = (
      λ n. absurd (no_yes n says),
      λ r. absurd (r.2 (subst (Answerable d before) (asks_once d c asks r.1) (some_answers Q asks some says))),
    );
    yes_exactly = (λ y. (Q, asks, some_answers Q asks some says), λ r. says);
  }
