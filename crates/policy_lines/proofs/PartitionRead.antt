-- A partition's line: its first field is its number, and the others are its views.
use mathlib.Core.Path.{◌≡◌, refl, sym, ap, ◌∙◌}
use mathlib.Core.Bool.{Bool, true, false, cond}
use mathlib.Core.List.{List}
use mathlib.Core.Option.{Option, none, some}
use Prim.Native.Nat.{ℕ, ◌+◌}
use lib.ListN.{take}
use Rattle.theory.specs.Executable.Test.{all}
use Rattle.text.specs.Lines.{space, before, parts_from}
use Rattle.text.specs.Numeral.{numeral}
use Rattle.text.specs.Value.{numeral_value}
use Rattle.text.specs.declared.Numeral.{Numeral}
use Rattle.text.specs.declared.Numeral.TheVariants.{Malformed}
use Rattle.model.specs.Fields.{Numbered, every, partition_line}
use Rattle.model.specs.Limits.{most_views, most_partitions, up_to}
use Rattle.model.specs.Parsed.{up_to_value}
use Rattle.model.proofs.UpTo.{partitions_small}
use Rattle.policy_lines.specs.Value.{no_views, view_list, view_list_value, no_partition, partition_value}
use Rattle.policy_lines.specs.declared.ViewList.{ViewList}
use Rattle.policy_lines.proofs.Numbered.{NumberRead, number_read, unnumbered}
use Rattle.policy_lines.proofs.Told.{Told, malformed, past, within, entry_malformed, entry_outside, entry_past, entry_within}

told_listed : (q : Option (List ℕ)) → Told (all (up_to most_views)) q (view_list_value q).ok (view_list_value q).outside
unfolding view_list_value no_views view_list
told_listed none = malformed refl refl
told_listed (some vs) = go (all (up_to most_views) vs) refl
  where
    read : Bool → ViewList
    read t = cond t (view_list vs) (no_views true)

    go : (t : Bool) → all (up_to most_views) vs ≡ t → Told (all (up_to most_views)) (some vs) (read t).ok (read t).outside
    go true e = within vs refl e refl refl
    go false e = past vs refl e refl refl

module _ (s : List ℕ) {n : ℕ} {number : Numeral} (first : n ≡ before space s) (read : number ≡ numeral_value (take n s)) where
  pub partition_read : NumberRead (partition_line s) number (every numeral (parts_from space s (n + 1)))
  unfolding partition_line
  partition_read = number_read (every numeral) s first read refl

  pub partition_unnumbered : number ≡ Malformed → no_partition false ≡ partition_value (partition_line s)
  unfolding partition_value
  partition_unnumbered e = ap partition_value (sym (unnumbered partition_read e))

module _ {l : Option (Numbered (List ℕ))} {number : Numeral} {p : ViewList} {q : Option (List ℕ)}
    (r : NumberRead l number q) (said : p ≡ view_list_value q) where
  told : Told (all (up_to most_views)) q p.ok p.outside
  told = rw said (told_listed q)

  pub partition_malformed : p.ok ≡ false → no_partition false ≡ partition_value l
  unfolding partition_value
  partition_malformed e = ap partition_value (sym (entry_malformed r told most_partitions partitions_small e))

  pub partition_outside : p.ok ≡ true → p.outside ≡ true → (number ≡ Malformed → ⊥) → no_partition true ≡ partition_value l
  unfolding partition_value
  partition_outside ok e f =
      let w = entry_outside r told most_partitions partitions_small ok e f in sym (ap partition_value w.1 ∙ rw w.2)

  pub partition_past : {k : ℕ} → p.ok ≡ true → (number ≡ Malformed → ⊥) → k ≡ up_to_value number most_partitions → k ≡ 0
      → no_partition true ≡ partition_value l
  unfolding partition_value
  partition_past ok f up e =
      let w = entry_past r told most_partitions partitions_small ok f up e in sym (ap partition_value w.1 ∙ rw w.2)

  pub partition_within : {k : ℕ} → p.ok ≡ true → p.outside ≡ false → k ≡ up_to_value number most_partitions → (k ≡ 0 → ⊥)
      → record { ok = true; outside = false; number = k; listed = p } ≡ partition_value l
  unfolding partition_value view_list_value
  partition_within {k} ok e up f =
      let w = entry_within r told most_partitions partitions_small ok e up f in
      let is : p ≡ view_list w.0 = said ∙ ap view_list_value w.1 ∙ rw w.2 in
      sym
      (ap partition_value w.3
      ∙ rw w.4 (ap (λ (v : ViewList). record { ok = true; outside = false; number = k; listed = v }) (sym is)))
