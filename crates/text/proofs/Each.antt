-- What holds of each element of a list, by how the list is made.
use mathlib.Core.Path.{sym, subst}
use mathlib.Core.Logic.{⊎_elim}
use mathlib.Core.List.Memᴰ
use mathlib.Core.List.{List, [], ◌∷◌, ◌++◌, map, Memᴰ}

module _ {X : Type 0} (P : X → Type 0) where
  abbrev pub Each : List X → Type 0
  Each l = (x : X) → Memᴰ x l → P x

  pub each_nil : Each []
  each_nil x m = absurd (Memᴰ.not-nil m)

  pub each_cons : (x : X) (l : List X) → P x → Each l → Each (x ∷ l)
  each_cons x l h hs y m = ⊎_elim (λ e. subst P (sym e) h) (hs y) (Memᴰ.cases_cons m)

  pub each_append : (k l : List X) → Each k → Each l → Each (k ++ l)
  each_append k l h hs y m = ⊎_elim (h y) (hs y) (Memᴰ.append_cases k m)

  -- one more behind them
  pub each_last : (l : List X) (x : X) → Each l → P x → Each (l ++ x ∷ [])
  each_last l x h k = each_append l (x ∷ []) h (each_cons x [] k each_nil)

  pub each_map : {Y : Type 0} (f : Y → X) (l : List Y) → ((y : Y) → Memᴰ y l → P (f y)) → Each (map f l)
  each_map f l h x m = let r = Memᴰ.of_map f l m in subst P r.2 (h r.0 r.1)
