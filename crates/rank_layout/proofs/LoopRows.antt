-- Tables of a list for each loop, one loop after another.
use Rattle.std.proofs.Common.{◌≡◌, ◌<◌, ◌≤◌, ◌+◌, ℕ, List, [], ◌∷◌, ◌++◌, Vec, map, length, get_or, sym, ap, ◌∙◌, subst, ⊎_elim, arith}
use Rattle.std.specs.declared.alloc.Global.{Global}
use Rattle.std.proofs.lemmas.List.{length-map, map_push, get_or_append_left, get_or_push, get_or-map, length_push}
use Rattle.std.proofs.lemmas.Bool.{cases_lt}
use Rattle.rank_layout.specs.Made.{row_of}

module _ {A : Type 0} where
  -- the rows that were there stay, and the next is behind them
  pub row_old : (rows : List (Vec A Global)) (v : Vec A Global) (s : ℕ) → s < length rows → row_of (rows ++ v ∷ []) s ≡ row_of rows s
  unfolding row_of
  row_old rows v s lt =
      ap (λ z. get_or z s []) (map_push (λ (w : Vec A Global). w.items) rows v)
      ∙ get_or_append_left (map (λ (w : Vec A Global). w.items) rows) (v.items ∷ []) [] s (omega (arith, lt, length-map rows (λ (w : Vec A Global). w.items)))

  pub row_new : (rows : List (Vec A Global)) (v : Vec A Global) (s : ℕ) → length rows ≡ s → row_of (rows ++ v ∷ []) s ≡ v.items
  unfolding row_of
  row_new rows v s e =
      ap (λ z. get_or z s []) (map_push (λ (w : Vec A Global). w.items) rows v)
      ∙ get_or_push (map (λ (w : Vec A Global). w.items) rows) v.items [] s (length-map rows (λ (w : Vec A Global). w.items) ∙ e)

  -- a row that is read
  pub row_read : (rows : List (Vec A Global)) (s : ℕ) (v : Vec A Global) → s < length rows → v ≡ get_or rows s v → row_of rows s ≡ v.items
  unfolding row_of
  row_read rows s v lt is = get_or-map (λ (w : Vec A Global). w.items) rows s v [] lt ∙ ap (λ (w : Vec A Global). w.items) (sym is)

  -- the first n rows are as the relation says
  pub record Rows (Is : ℕ → List A → Type 0) (rows : List (Vec A Global)) (n : ℕ) : Type 0 where
    pub count : length rows ≡ n
    pub each : (s : ℕ) → s < n → Is s (row_of rows s)

  module _ (Is : ℕ → List A → Type 0) where
    pub one_row : (rows more : List (Vec A Global)) (n k : ℕ) (v : Vec A Global) → Rows Is rows n → Is n v.items → k ≡ n + 1 → more ≡ rows ++ v ∷ [] → Rows Is more k
    one_row rows more n k v had here next is = record {
      count = ap length is ∙ length_push rows v ∙ (let c = had.count in omega (arith, c, next));
      each = λ s lt. subst (λ z. Is s (row_of z s)) (sym is) (⊎_elim
          (λ (l : s < n). subst (Is s) (sym (row_old rows v s (let c = had.count in omega (arith, c, l)))) (had.each s l))
          (λ (l : n ≤ s).
          let e : n ≡ s = omega (arith, l, lt, next) in
          subst (Is s) (sym (row_new rows v s (had.count ∙ e))) (subst (λ z. Is z v.items) e here))
          (cases_lt s n));
    }
