-- The customer's demands, proved.
use mathlib.Core.Path.{◌≡◌, refl, sym, ap, subst, ◌∙◌}
use mathlib.Core.List.{[]}
use native.Mathlib.Omega.{arith}
use lib.ListN.{length}
use Rattle.theory.specs.Executable.Label.{labels}
use Rattle.word_list.specs.Order.{ascending}
use Rattle.query_text.proofs.Accepted.{accepted_well_read}
use Rattle.query_text.proofs.Printed.{reads_exactly}
use Rattle.policy_text.specs.Text.{load}
use Rattle.policy_text.proofs.Loaded.{loaded_well_formed}
use Rattle.policy_text.proofs.Loads.{loads_exactly}
use Rattle.validity.specs.Loadable.{Loadable}
use Rattle.labelling.proofs.Loaded.{loaded_to}
use Rattle.sessions.specs.declared.opening.Session.{Session}
use Rattle.sessions.specs.Opening.{all_open}
use Rattle.decisions.proofs.Masks.{open_count_lem}
use Rattle.label_lists.proofs.Listed.{labels_listed}
use Rattle.desk.specs.Demands.{Demand1, Demand2, Demand3}
use Rattle.desk.proofs.Held.{Held, fresh}
use Rattle.std.specs.Prelude.{Ok}
use Rattle.load.proofs.Accepted.{loaded_policy}
use Rattle.desk.proofs.Calls.{chain}
use Rattle.desk.proofs.Unique.{opened_unique, decided_unique, labels_unique, explanation_unique}
use Rattle.desk.proofs.Stays.{yes_or_no, session_stays, labels_buffer_stays, explaining_buffer_stays}
use Rattle.desk.proofs.Numbers.{loading_numbers, opening_numbers, deciding_numbers_lem, labels_numbers_lem, explaining_numbers_lem}
use Rattle.desk.proofs.Rewriting.{labels_rewrite}

pub demand_1 : Demand1
demand_1 = record {
  policies = loads_exactly;
  queries = reads_exactly;
  one_loading = λ text r t x y. x ∙ sym y;
  one_opening = opened_unique;
  one_decision = decided_unique;
  one_listing = labels_unique;
  one_explanation = explanation_unique;
  yes_or_no = yes_or_no;
  loading_numbers = loading_numbers;
  opening_numbers = opening_numbers;
  deciding_numbers_lem = deciding_numbers_lem;
  labels_numbers_lem = labels_numbers_lem;
  explaining_numbers_lem = explaining_numbers_lem;
  session_stays = session_stays;
  labels_buffer_stays = labels_buffer_stays;
  explaining_buffer_stays = explaining_buffer_stays;
}

pub demand_2 : Demand2
demand_2 p l text before r after g Q e =
    let d = l.declared in
    let w = accepted_well_read d.widths text Q e in
    (ascending (labels d.views Q), labels_rewrite d (loaded_to l).good Q w.clear w.fits, labels_listed l g Q e)

pub demand_3 : Demand3
demand_3 text p e start opened cs s calls =
    let (d, loads, value, w) = loaded_policy text (Ok p) e p refl in
    let l : Loadable p = record { text = text; declared = d; loads = loads; value = value } in
    let all : Ok start ≡ Ok (all_open d) = opened.opened l in
    let all_are : start ≡ all_open d = grind arith in
    let (held, right) = chain p l [] (subst (λ (t : Session). Held d [] t.mask) (sym all_are) (fresh d w)) calls in (
      d,
      loads,
      record {
        open_exactly = held.each;
        no_other = held.below;
        left_open = open_count_lem _ (length d.partitions) s.mask (omega (arith, w.partitions.few)) held.below held.each;
        each_call = right;
      },
    )
