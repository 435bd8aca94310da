-- Facts on lines and rows: changed column by column, and compared column by column, by place or as pairs of a zip.
use mathlib.Core.Path.{◌≡◌, refl, sym, ap, ap₂, ◌∙◌, subst}
use mathlib.Core.Logic.{⊎_elim}
use mathlib.Core.List.Memᴰ
use mathlib.Core.List.{List, [], ◌∷◌, map, map-map, List-discrete, zip, zip_with}
use Prim.Native.Nat.{ℕ, zero, suc, ◌-◌, ◌≤◌, ◌<◌, zero-le, suc-le-suc}
use native.Mathlib.Nat.{not-suc-le-zero, le_of_suc-le-suc, suc_inj, suc-ne-zero}
use native.Mathlib.Decide.{ℕ_discrete}
use lib.ListN.{length, get_or, length-map}
use Rattle.theory.specs.Query.{Tuple, over, ◌∈◌, Fits}

pub tuple_path : {X : Type 0} {A B : Tuple X} → A.table ≡ B.table → A.columns ≡ B.columns → A ≡ B
tuple_path e f = λ i. record { table = e i; columns = f i }

pub tuple_discrete : {X : Type 0} → Discrete X → Discrete (Tuple X)
tuple_discrete dec A B = go (ℕ_discrete A.table B.table) (List-discrete dec A.columns B.columns)
  where
    go : Dec (A.table ≡ B.table) → Dec (A.columns ≡ B.columns) → Dec (A ≡ B)
    go (yes e) (yes f) = yes (tuple_path e f)
    go (yes e) (no n) = no (λ p. n (ap (λ (x : Tuple _). x.columns) p))
    go (no n) d = no (λ p. n (ap (λ (x : Tuple _). x.table) p))

-- ---- lists changed element by element

module _ {X Y : Type 0} where
  pub map_same : (f g : X → Y) (l : List X) → ((x : X) → x ∈ l → f x ≡ g x) → map f l ≡ map g l
  map_same f g [] h = refl
  map_same f g (x ∷ l) h = ap₂ ◌∷◌ (h x (Memᴰ.head refl)) (map_same f g l (λ y m. h y (Memᴰ.tail m)))

  -- the element at a place
  pub get_d_map : (f : X → Y) (l : List X) (p : ℕ) (d : X) (e : Y) → p < length l → get_or (map f l) p e ≡ f (get_or l p d)
  get_d_map f [] p d e h = absurd (not-suc-le-zero h)
  get_d_map f (x ∷ l) zero d e h = refl
  get_d_map f (x ∷ l) (suc p) d e h = get_d_map f l p d e (le_of_suc-le-suc h)

  -- f takes each element to the one at its place
  pub map_places : (f : X → Y) (xs : List X) (ys : List Y) (d : X) (e : Y) → length xs ≡ length ys
      → ((p : ℕ) → p < length xs → f (get_or xs p d) ≡ get_or ys p e) → map f xs ≡ ys
  map_places f [] [] d e l h = refl
  map_places f [] (y ∷ ys) d e l h = absurd (suc-ne-zero (length ys) (sym l))
  map_places f (x ∷ xs) [] d e l h = absurd (suc-ne-zero (length xs) l)
  map_places f (x ∷ xs) (y ∷ ys) d e l h =
      ap₂ ◌∷◌ (h zero (suc-le-suc zero-le)) (map_places f xs ys d e (suc_inj l) (λ p k. h (suc p) (suc-le-suc k)))

  -- ---- zips

  -- the pair at a place
  pub zip_place : (xs : List X) (ys : List Y) (p : ℕ) (d : X) (e : Y) → length xs ≡ length ys → p < length xs
      → ◌∈◌ {X = X × Y} (get_or xs p d, get_or ys p e) (zip xs ys)
  unfolding zip zip_with
  zip_place [] ys p d e l h = absurd (not-suc-le-zero h)
  zip_place (x ∷ xs) [] p d e l h = absurd (suc-ne-zero (length xs) l)
  zip_place (x ∷ xs) (y ∷ ys) zero d e l h = Memᴰ.head refl
  zip_place (x ∷ xs) (y ∷ ys) (suc p) d e l h = Memᴰ.tail (zip_place xs ys p d e (suc_inj l) (le_of_suc-le-suc h))

  -- a pair's place
  pub place_zip : (xs : List X) (ys : List Y) (d : X) (e : Y) (z : X × Y) → z ∈ zip xs ys
      → (p : ℕ) × (p < length xs) × (p < length ys) × (z.0 ≡ get_or xs p d) × (z.1 ≡ get_or ys p e)
  unfolding zip zip_with
  place_zip [] ys d e z m = absurd (Memᴰ.not-nil m)
  place_zip (x ∷ xs) [] d e z m = absurd (Memᴰ.not-nil m)
  place_zip (x ∷ xs) (y ∷ ys) d e z m =
      ⊎_elim (λ q. (zero, suc-le-suc zero-le, suc-le-suc zero-le, ap (λ (w : X × Y). w.0) q, ap (λ (w : X × Y). w.1) q))
      (λ t. let r = place_zip xs ys d e z t in (suc r.0, suc-le-suc r.1, suc-le-suc r.2, r.3, r.4))
      (Memᴰ.cases_cons m)

  -- f takes the first part of each pair to the second
  pub map_zip : (f : X → Y) (xs : List X) (ys : List Y) → length xs ≡ length ys → ((z : X × Y) → z ∈ zip xs ys → f z.0 ≡ z.1)
      → map f xs ≡ ys
  unfolding zip zip_with
  map_zip f [] [] l h = refl
  map_zip f [] (y ∷ ys) l h = absurd (suc-ne-zero (length ys) (sym l))
  map_zip f (x ∷ xs) [] l h = absurd (suc-ne-zero (length xs) l)
  map_zip f (x ∷ xs) (y ∷ ys) l h =
      ap₂ ◌∷◌ (h (x, y) (Memᴰ.head refl)) (map_zip f xs ys (suc_inj l) (λ z m. h z (Memᴰ.tail m)))

  pub zip_map : (f : X → Y) (xs : List X) (z : X × Y) → z ∈ zip xs (map f xs) → f z.0 ≡ z.1
  unfolding zip zip_with
  zip_map f [] z m = absurd (Memᴰ.not-nil m)
  zip_map f (x ∷ xs) z m =
      ⊎_elim (λ q. ap (λ (w : X × Y). f w.0) q ∙ sym (ap (λ (w : X × Y). w.1) q)) (λ t. zip_map f xs z t)
      (Memᴰ.cases_cons m)

-- ---- places and elements

module _ {X : Type 0} where
  pub get_d_mem : (l : List X) (p : ℕ) (d : X) → p < length l → get_or l p d ∈ l
  get_d_mem [] p d h = absurd (not-suc-le-zero h)
  get_d_mem (x ∷ l) zero d h = Memᴰ.head refl
  get_d_mem (x ∷ l) (suc p) d h = Memᴰ.tail (get_d_mem l p d (le_of_suc-le-suc h))

  pub mem_get_d : {x : X} {l : List X} (d : X) → x ∈ l → (p : ℕ) × (p < length l) × (get_or l p d ≡ x)
  mem_get_d d (Memᴰ.head e) = (zero, suc-le-suc zero-le, sym e)
  mem_get_d d (Memᴰ.tail m) = let r = mem_get_d d m in (suc r.0, suc-le-suc r.1, r.2)

-- ---- lines and rows

pub over_over : {X Y Z : Type 0} (g : Y → Z) (f : X → Y) (A : Tuple X) → over g (over f A) ≡ over (λ x. g (f x)) A
over_over g f A = tuple_path refl (map-map g f A.columns)

pub over_same : {X Y : Type 0} (f g : X → Y) (A : Tuple X) → ((x : X) → x ∈ A.columns → f x ≡ g x) → over f A ≡ over g A
over_same f g A h = tuple_path refl (map_same f g A.columns h)

pub map_self : {X : Type 0} (f : X → X) (l : List X) → ((x : X) → x ∈ l → f x ≡ x) → map f l ≡ l
map_self f [] h = refl
map_self f (x ∷ l) h = ap₂ ◌∷◌ (h x (Memᴰ.head refl)) (map_self f l (λ y m. h y (Memᴰ.tail m)))

pub over_self : {X : Type 0} (f : X → X) (A : Tuple X) → ((x : X) → x ∈ A.columns → f x ≡ x) → over f A ≡ A
over_self f A h = tuple_path refl (map_self f A.columns h)

-- what two functions make of a list is the same only where they agree on its elements
pub same_map : {X Y : Type 0} (f g : X → Y) (l : List X) → map f l ≡ map g l → (x : X) → x ∈ l → f x ≡ g x
same_map f g [] e x m = absurd (Memᴰ.not-nil m)
same_map f g (y ∷ l) e x m =
    ⊎_elim (λ q. let z : f y ≡ g y = cc in ap f q ∙ z ∙ sym (ap g q)) (λ t. same_map f g l (cc) x t) (Memᴰ.cases_cons m)

-- ---- fitting goes by table and width

pub fits_like : {X Y : Type 0} {widths : List ℕ} {A : Tuple X} {B : Tuple Y} → A.table ≡ B.table
    → length A.columns ≡ length B.columns → Fits widths A → Fits widths B
fits_like {widths = ws} t w f =
    record {
      first = subst (λ (n : ℕ). 1 ≤ n) t f.first;
      last = subst (λ (n : ℕ). n ≤ length ws) t f.last;
      width = sym w ∙ f.width ∙ ap (λ (n : ℕ). get_or ws (n - 1) 0) t;
    }

pub fits_over : {X Y : Type 0} {widths : List ℕ} (f : X → Y) (A : Tuple X) → Fits widths A → Fits widths (over f A)
fits_over f A k = fits_like refl (sym (length-map A.columns f)) k
