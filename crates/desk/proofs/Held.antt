-- What a call does to the open set: the open partitions are those that determine every query answered yes, and a step keeps that.
use mathlib.Core.Path.{◌≡◌, refl, sym, subst, ◌∙◌}
use mathlib.Core.Logic.{◌↔◌, ⊎_elim}
use mathlib.Core.Bool.{false}
use mathlib.Core.List.Memᴰ
use mathlib.Core.List.{List, [], ◌∷◌, ◌++◌}
use Prim.Native.Nat.{ℕ, ◌^◌, ◌<◌}
use native.Mathlib.Omega.{arith}
use borrow.Author.Tests.{ne_eqb, lt-leb}
use lib.Count.{count_trailing_zeros}
use lib.Dec.{T}
use lib.ListN.{length, get_or}
use lib.Pow.{pow_mono}
use Rattle.theory.specs.Query.{Query, NoClash}
use Rattle.theory.specs.Archive.{AllFit}
use Rattle.theory.specs.Executable.Label.{settles}
use Rattle.theory.proofs.Lists.{below_place, there}
use Rattle.words.specs.Bits.{bit}
use Rattle.words.proofs.ClearBits.{low_bits_set, low_bits_below}
use Rattle.words.proofs.Lowest.{trailing_least}
use Rattle.query_text.specs.Text.{accepted}
use Rattle.query_text.proofs.Accepted.{accepted_well_read}
use Rattle.policy_text.specs.Declared.{Declared, PartitionDetermines}
use Rattle.policy_text.specs.WellFormed.{WellFormed}
use Rattle.labelling.specs.Settled.{granted as views_of}
use Rattle.labelling.proofs.Partitions.{settles_iff_partition}
use Rattle.sessions.specs.declared.opening.Session.{Session}
use Rattle.sessions.specs.Reply.{yes, no, refused}
use Rattle.sessions.specs.Opening.{all_open}
use Rattle.sessions.specs.Deciding.{unfit, still_open}
use Rattle.decisions.proofs.Masks.{passing_iff, passing_below}
use Rattle.desk.specs.Calls.{Call, Says, Asks, DeterminesAll}
use Rattle.desk.proofs.ReplyWords.{no_yes, turned_yes}

-- ---- a step

-- what a call says, and which of the partitions of `mask` it leaves open: all of them where the text is turned back (passed) or no
-- open partition settles the query (denied), else those that do (granted)
pub data Step (d : Declared) (mask : ℕ) (c : Call) : ℕ → Type 0 where
  passed : ((Q : Query) → Asks d c Q → ⊥) → Says c refused → Step d mask c mask
  denied : (Q : Query) → Asks d c Q → still_open d Q mask ≡ 0 → Says c no → Step d mask c mask
  granted : (Q : Query) → Asks d c Q → 0 < still_open d Q mask → Says c yes → Step d mask c (still_open d Q mask)

-- a text asks one query
pub asks_once : (d : Declared) (c : Call) {P Q : Query} → Asks d c P → Asks d c Q → P ≡ Q
asks_once d c {P} {Q} a b = let same : accepted P ≡ accepted Q = sym a ∙ b in cc

module _ (d : Declared) where
  -- ---- which partitions are open

  -- the partitions open, of which there are some, are those that determine every query answered yes so far
  pub record Held (before : List Call) (mask : ℕ) : Type 0 where
    pub some : 0 < mask
    pub below : mask < 2 ^ length d.partitions
    pub each : (i : ℕ) → i < length d.partitions → (bit mask i ≡ 1) ↔ DeterminesAll d before i

  -- 9 is not met
  pub held_fit : {before : List Call} (s : Session) → Held before s.mask → unfit d s ≡ false
  unfolding unfit
  held_fit s h = rw (ne_eqb s.mask 0 (λ e. omega (arith, h.some)), lt-leb _ _ h.below)

  -- an open partition determines every query answered yes
  pub one_open : {before : List Call} {mask : ℕ} → Held before mask
      → (i : ℕ) × (i < length d.partitions) × (bit mask i ≡ 1) × DeterminesAll d before i
  one_open {mask = mask} h =
      let n = length d.partitions in
      let least = trailing_least n mask h.some h.below in
      (count_trailing_zeros n mask, least.below, least.set, (h.each (count_trailing_zeros n mask) least.below).0 least.set)

  -- every partition is open, and none has a query to determine yet
  pub fresh : WellFormed d → Held [] (all_open d).mask
  unfolding all_open
  fresh good =
      let n = length d.partitions in
      record {
        some = omega (arith, pow_mono {i = 1} good.partitions.nonempty);
        below = low_bits_below n n (omega arith);
        each = λ i b. (λ e c m. absurd (Memᴰ.not-nil m), λ f. low_bits_set n i b);
      }

  -- ---- one call more

  -- a partition determines the query of a call that says yes
  abbrev DeterminesYes : Call → ℕ → Type 0
  DeterminesYes c i = Says c yes → (Q : Query) → Asks d c Q → PartitionDetermines d i Q

  module _ (before : List Call) (c : Call) where
    pub all_before : (i : ℕ) → DeterminesAll d (before ++ c ∷ []) i → DeterminesAll d before i
    all_before i f b m = f b (Memᴰ.append_left (c ∷ []) m)

    pub the_last : (i : ℕ) → DeterminesAll d (before ++ c ∷ []) i → DeterminesYes c i
    the_last i f = f c (Memᴰ.append_right before (Memᴰ.head refl))

    one_more : (i : ℕ) → DeterminesAll d before i → DeterminesYes c i → DeterminesAll d (before ++ c ∷ []) i
    one_more i f g x m =
        ⊎_elim (f x) (λ j. subst (λ (z : Call). DeterminesYes z i) (sym (Memᴰ.eq_of_singleton j)) g)
        (Memᴰ.append_cases before m)

    -- a call that does not say yes leaves the queries answered yes as they were
    held_same : {mask : ℕ} → (Says c yes → ⊥) → Held before mask → Held (before ++ c ∷ []) mask
    held_same n h = record {
      some = h.some;
      below = h.below;
      each = λ i l. let k = h.each i l in (λ e. one_more i (k.0 e) (λ y. absurd (n y)), λ f. k.1 (all_before i f));
    }

  -- ---- a well-formed query

  -- a partition settles a query exactly when it determines it
  settles_at : WellFormed d → (i : ℕ) → i < length d.partitions → (Q : Query) → NoClash Q → AllFit d.widths Q
      → T (settles (views_of d.views (get_or d.partitions i [])) Q) ↔ PartitionDetermines d i Q
  settles_at good i l Q clear fits =
      let (vs, at) = below_place d.partitions i l in
      rw (there d.partitions i [] at) (settles_iff_partition d good i vs at Q clear fits)

  module _ (good : WellFormed d) {before : List Call} {mask : ℕ} (h : Held before mask) where
    -- a partition is left open exactly when it determines this query and those before it
    pub left_iff : (c : Call) (Q : Query) → Asks d c Q → (i : ℕ)
        → (bit (still_open d Q mask) i ≡ 1) ↔ ((i < length d.partitions) × DeterminesAll d before i × PartitionDetermines d i Q)
    unfolding still_open
    left_iff c Q asks i =
        let w = accepted_well_read d.widths c.text Q asks in
        let k = passing_iff (λ ps. settles (views_of d.views ps) Q) d.partitions mask i in (
          λ e. let (l, t, b) = k.0 e in (l, (h.each i l).0 b, (settles_at good i l Q w.clear w.fits).0 t),
          λ r. k.1 (r.0, (settles_at good i r.0 Q w.clear w.fits).1 r.2, (h.each i r.0).1 r.1),
        )

    -- the partitions left after a yes are those that determine this query too
    held_yes : (c : Call) (Q : Query) → Asks d c Q → 0 < still_open d Q mask → Says c yes → Held (before ++ c ∷ []) (still_open d Q mask)
    unfolding still_open
    held_yes c Q asks some says = record {
      some = some;
      below = passing_below (λ vs. settles (views_of d.views vs) Q) d.partitions mask;
      each = λ i b. (
        λ e. let (l, f, p) = (left_iff c Q asks i).0 e in
            one_more before c i f (λ y P a. subst (PartitionDetermines d i) (asks_once d c asks a) p),
        λ f. (left_iff c Q asks i).1 (b, all_before before c i f, the_last before c i f says Q asks),
      );
    }

    -- the invariant of demand 3
    pub held_step : {c : Call} {mask' : ℕ} → Step d mask c mask' → Held (before ++ c ∷ []) mask'
    held_step {c} (passed none says) = held_same before c (λ y. turned_yes says y) h
    held_step {c} (denied Q asks none says) = held_same before c (λ y. no_yes says y) h
    held_step {c} (granted Q asks some says) = held_yes c Q asks some says
