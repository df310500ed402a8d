-- Lists of lists, read after a write or a push.
use Rattle.std.proofs.Common.{◌≡◌, ◌≢◌, ℕ, ◌<◌, List, [], ◌∷◌, ◌++◌, length, get_or, set, map, Vec, sym, ap, ◌∙◌, arith}
use Rattle.std.specs.declared.alloc.Global.{Global}
use Rattle.std.proofs.lemmas.List.{get_or-map, map-set, get_or-set_same, get_or-set_other, length-map, get_or_append_left, get_or_push, get_or_default, length_push}
use Rattle.lemmas.specs.Below.{row, rows}

pub row_read : (xs : List (Vec ℕ Global)) (i : ℕ) (v : Vec ℕ Global) → i < length xs → v ≡ get_or xs i v → v.items ≡ row xs i
unfolding row
row_read xs i v l r = ap (λ (q : Vec ℕ Global). q.items) r ∙ sym (get_or-map (λ (q : Vec ℕ Global). q.items) xs i v [] l)

pub row_set_same : (xs : List (Vec ℕ Global)) (i : ℕ) (v : Vec ℕ Global) → i < length xs → row (set xs i v) i ≡ v.items
unfolding row
row_set_same xs i v l =
    let h : i < length (map (λ (q : Vec ℕ Global). q.items) xs) = rw (length-map xs (λ (q : Vec ℕ Global). q.items)) l in
    ap (λ z. get_or z i []) (map-set (λ (q : Vec ℕ Global). q.items) xs i v) ∙ get_or-set_same (map (λ (q : Vec ℕ Global). q.items) xs) i v.items [] h

pub row_set_other : (xs : List (Vec ℕ Global)) (i j : ℕ) (v : Vec ℕ Global) → j ≢ i → row (set xs i v) j ≡ row xs j
unfolding row
row_set_other xs i j v n =
    ap (λ z. get_or z j []) (map-set (λ (q : Vec ℕ Global). q.items) xs i v) ∙ get_or-set_other (map (λ (q : Vec ℕ Global). q.items) xs) i j v.items [] n

pub row_push_left : (xs : List (Vec ℕ Global)) (v : Vec ℕ Global) (j : ℕ) → j < length xs → row (xs ++ v ∷ []) j ≡ row xs j
unfolding row
row_push_left xs v j l =
    sym (row_read (xs ++ v ∷ []) j (get_or xs j v) (omega (arith, length_push xs v)) (sym (get_or_append_left xs (v ∷ []) (get_or xs j v) j l ∙ get_or_default xs j (get_or xs j v) v l)))
    ∙ row_read xs j (get_or xs j v) l (get_or_default xs j v (get_or xs j v) l)

pub row_push : (xs : List (Vec ℕ Global)) (v : Vec ℕ Global) (j : ℕ) → length xs ≡ j → row (xs ++ v ∷ []) j ≡ v.items
row_push xs v j e = sym (row_read (xs ++ v ∷ []) j v (omega (arith, length_push xs v)) (sym (get_or_push xs v v j e)))

pub row_at : (xs : List (Vec ℕ Global)) (i : ℕ) (d : Vec ℕ Global) → i < length xs → (get_or xs i d).items ≡ row xs i
unfolding row
row_at xs i d l = sym (get_or-map (λ (q : Vec ℕ Global). q.items) xs i d [] l)

-- the lists of one owner after a write
pub rows_at : (xs : List (Vec (Vec ℕ Global) Global)) (i : ℕ) (d : Vec (Vec ℕ Global) Global) → i < length xs → (get_or xs i d).items ≡ rows xs i
unfolding rows
rows_at xs i d l = sym (get_or-map (λ (q : Vec (Vec ℕ Global) Global). q.items) xs i d [] l)

pub rows_set_same : (xs : List (Vec (Vec ℕ Global) Global)) (i : ℕ) (v : Vec (Vec ℕ Global) Global) → i < length xs → rows (set xs i v) i ≡ v.items
unfolding rows
rows_set_same xs i v l =
    let h : i < length (map (λ (q : Vec (Vec ℕ Global) Global). q.items) xs) = rw (length-map xs (λ (q : Vec (Vec ℕ Global) Global). q.items)) l in
    ap (λ z. get_or z i []) (map-set (λ (q : Vec (Vec ℕ Global) Global). q.items) xs i v) ∙ get_or-set_same (map (λ (q : Vec (Vec ℕ Global) Global). q.items) xs) i v.items [] h

pub rows_set_other : (xs : List (Vec (Vec ℕ Global) Global)) (i j : ℕ) (v : Vec (Vec ℕ Global) Global) → j ≢ i → rows (set xs i v) j ≡ rows xs j
unfolding rows
rows_set_other xs i j v n =
    ap (λ z. get_or z j []) (map-set (λ (q : Vec (Vec ℕ Global) Global). q.items) xs i v) ∙ get_or-set_other (map (λ (q : Vec (Vec ℕ Global) Global). q.items) xs) i j v.items [] n

pub rows_push_left : (xs : List (Vec (Vec ℕ Global) Global)) (v : Vec (Vec ℕ Global) Global) (j : ℕ) → j < length xs → rows (xs ++ v ∷ []) j ≡ rows xs j
rows_push_left xs v j l =
    sym (rows_at (xs ++ v ∷ []) j v (omega (arith, length_push xs v)))
    ∙ (ap (λ (z : Vec (Vec ℕ Global) Global). z.items) (get_or_append_left xs (v ∷ []) v j l) ∙ rows_at xs j v l)

pub rows_push : (xs : List (Vec (Vec ℕ Global) Global)) (v : Vec (Vec ℕ Global) Global) (j : ℕ) → length xs ≡ j → rows (xs ++ v ∷ []) j ≡ v.items
rows_push xs v j e = sym (rows_at (xs ++ v ∷ []) j v (omega (arith, length_push xs v))) ∙ ap (λ (z : Vec (Vec ℕ Global) Global). z.items) (get_or_push xs v v j e)
