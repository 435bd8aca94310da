-- Reading the fields of a partition's line as views.
use mathlib.Core.Path.{◌≡◌, refl, sym, ap, ◌∙◌}
use mathlib.Core.Bool.{Bool, true, false}
use mathlib.Core.List.{List, [], ◌∷◌, ◌++◌}
use mathlib.Core.Option.{some}
use Prim.Native.Nat.{ℕ, ◌≤◌}
use native.Mathlib.Omega.{arith}
use Rattle.std.specs.declared.slice.Split.{Split as Pieces}
use Rattle.theory.specs.Executable.Test.{all}
use Rattle.text.specs.Lines.{space, fields}
use Rattle.text.specs.Numeral.{numeral}
use Rattle.text.specs.Value.{numeral_value}
use Rattle.text.specs.declared.Numeral.{Numeral}
use Rattle.text.specs.declared.Numeral.TheVariants.{Malformed}
use Rattle.text.proofs.Cuts.{Cut}
use Rattle.model.specs.Fields.{every}
use Rattle.model.specs.Limits.{most_views, up_to}
use Rattle.model.specs.Parsed.{up_to_value}
use Rattle.model.proofs.FieldsRead.{FieldsRead, next_none, next_past, next_held, all_read, some_past, none_past}
use Rattle.model.proofs.UpTo.{views_small, malformed_none, number_past, number_within, up_to_most}
use Rattle.policy_lines.specs.Value.{no_views, view_list, view_list_value}
use Rattle.policy_lines.specs.declared.ViewList.{ViewList}

-- the fields before those that are left are numerals: l holds them where none is past its limit
abbrev pub ViewsRead : {F : Type 0} → List ℕ → ViewList → Bool → Pieces ℕ F → Type 0
ViewsRead = FieldsRead numeral (up_to most_views) view_list

-- no field lists no view
pub none_said : view_list [] ≡ view_list_value (every numeral [])
unfolding view_list_value every all
none_said = refl

-- ---- the next field

module _ {F : Type 0} {s f : List ℕ} {l : ViewList} {past : Bool} {it then : Pieces ℕ F} (x : ViewsRead s l past it)
    (here : Cut space it f then) {number : Numeral} (said : number ≡ numeral_value f) where
  pub next_malformed : number ≡ Malformed → no_views false ≡ view_list_value (every numeral (fields s))
  unfolding view_list_value numeral_value
  next_malformed e = rw (next_none numeral (up_to most_views) view_list x here (malformed_none (numeral f) (sym said ∙ e)))

  pub next_outside : {v : ℕ} → (number ≡ Malformed → ⊥) → v ≡ up_to_value number most_views → v ≡ 0 → ViewsRead s l true then
  unfolding numeral_value
  next_outside formed e z =
      let none : up_to_value (numeral_value f) most_views ≡ 0 = ap (λ (m : Numeral). up_to_value m most_views) (sym said) ∙ sym e ∙ z in
      let w = number_past most_views views_small (numeral f) (λ g. formed (said ∙ g)) none in
      next_past numeral (up_to most_views) view_list x here w.0 w.1 w.2

  pub next_within : {v : ℕ} {q : ViewList} → v ≡ up_to_value number most_views → (v ≡ 0 → ⊥)
      → ((vs : List ℕ) → l ≡ view_list vs → q ≡ view_list (vs ++ v ∷ [])) → ViewsRead s q past then
  unfolding numeral_value
  next_within {v} {q} e positive b =
      let up : v ≡ up_to_value (numeral_value f) most_views = e ∙ ap (λ (m : Numeral). up_to_value m most_views) said in
      let w = number_within most_views views_small (numeral f) (λ g. positive (up ∙ g)) in
      next_held numeral (up_to most_views) view_list x here v q (w.1 ∙ ap some (sym (up ∙ w.3))) (ap (up_to most_views) (up ∙ w.3) ∙ w.2) b

pub next_bounds : (number : Numeral) {v : ℕ} → v ≡ up_to_value number most_views → (v ≡ 0 → ⊥) → (1 ≤ v) × (v ≤ most_views)
next_bounds number {v} e positive = (omega arith, rw e (up_to_most number most_views))

-- ---- all fields

module _ {F : Type 0} {s : List ℕ} {l : ViewList} {past : Bool} {it : Pieces ℕ F} (r : ViewsRead s l past it) (end : it.done ≡ true) where
  pub all_outside : past ≡ true → no_views true ≡ view_list_value (every numeral (fields s))
  unfolding view_list_value
  all_outside e = rw (all_read numeral (up_to most_views) view_list r end, some_past numeral (up_to most_views) view_list r e)

  pub all_within : past ≡ false → l ≡ view_list_value (every numeral (fields s))
  unfolding view_list_value
  all_within e = rw (all_read numeral (up_to most_views) view_list r end, none_past numeral (up_to most_views) view_list r e) (r.held e)
