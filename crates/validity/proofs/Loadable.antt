-- A policy value is loadable exactly where its parts hold what a text can declare.
use mathlib.Core.Path.{ap}
use mathlib.Core.List.{List, []}
use Prim.Native.Nat.{ℕ}
use native.Mathlib.Omega.{arith}
use Rattle.model.specs.Value.{tables_value}
use Rattle.model.specs.declared.Policy.{Policy}
use Rattle.policy_text.specs.Text.{nothing}
use Rattle.policy_text.specs.Declared.{Declared}
use Rattle.policy_text.specs.WellFormed.{WellFormed}
use Rattle.policy_text.specs.Policy.{policy_value}
use Rattle.policy_text.proofs.Loads.{loadable_iff}
use Rattle.validity.specs.Loadable.{Loadable}
use Rattle.validity.specs.Parts.{TablesOf, ViewsHeld, PartitionsHeld}
use Rattle.validity.proofs.Tables.{tables_checked}

-- what a loadable value holds
pub record Parts (p : Policy) : Type 0 where
  pub widths : List ℕ
  pub tables : TablesOf widths p.tables
  pub views : ViewsHeld widths p.view_count p.views
  pub partitions : PartitionsHeld p.view_count p.partition_count p.grants

module _ (p : Policy) where
  pub loadable_parts : Loadable p → Parts p
  unfolding policy_value
  loadable_parts l =
      let d = l.declared in
      let w = (loadable_iff d).0 (l.text, l.loads) in
      let views = ap (λ (q : Policy). q.view_count) l.value in
      record {
        widths = d.widths;
        tables = record { listed = w.tables; is = ap (λ (q : Policy). q.tables) l.value };
        views =
            record { things = d.views; listed = w.views; count = views; is = ap (λ (q : Policy). q.views) l.value };
        partitions =
            record {
              things = d.partitions;
              listed = rw views w.partitions;
              count = ap (λ (q : Policy). q.partition_count) l.value;
              is = ap (λ (q : Policy). q.grants) l.value;
            };
      }

  pub parts_loadable : Parts p → Loadable p
  unfolding policy_value
  parts_loadable h =
      let d : Declared = record { widths = h.widths; views = h.views.things; partitions = h.partitions.things } in
      let w : WellFormed d =
      record { tables = h.tables.listed; views = h.views.listed; partitions = rw h.views.count at h.partitions.listed }
      in
      let text = (loadable_iff d).1 w in
      record {
        text = text.0;
        declared = d;
        loads = text.1;
        value = λ i.
            record {
              tables = h.tables.is i;
              view_count = h.views.count i;
              views = h.views.is i;
              partition_count = h.partitions.count i;
              grants = h.partitions.is i;
            };
      }

-- the empty policy is one that no loading gives
pub empty_not_loadable : Loadable (policy_value nothing) → ⊥
unfolding policy_value nothing tables_value
empty_not_loadable l =
    let h = loadable_parts (policy_value nothing) l in
    omega (arith, (tables_checked (tables_value []) (h.widths, h.tables)).counted.0)
