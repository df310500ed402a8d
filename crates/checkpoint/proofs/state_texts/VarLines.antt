-- The lines of variables, one variable after another.
use Rattle.std.proofs.Common.{◌≡◌, ℕ, ℤ, suc, ◌+◌, ◌<◌, refl, sym, ap, ap₂, subst, ◌∙◌, arith, List, [], ◌∷◌, ◌++◌, append_assoc, append-nil, length, map, take, drop, get_or, Bool, true, false}
use Rattle.std.specs.Prelude.{if◌then◌else◌}
use Rattle.std.specs.List.{flat_map}
use Rattle.std.proofs.Math.Seq.{drop-cons}
use Rattle.std.proofs.lemmas.List.{map-append, take-append-drop, take_more, length-map}
use Rattle.std.proofs.lemmas.Grind.{flat_map-append}
use Rattle.op_num.specs.CutLines.{Unread}
use Rattle.bound_program.specs.declared.programs.Var.{Var}
use Rattle.bound_program.specs.Values.{BoundValue, VarValue, var_of}
use Rattle.checkpoint.specs.Cut.{starts}
use Rattle.checkpoint.specs.declared.state_texts.refusals.StateRefusal.{StateRefusal}
use Rattle.checkpoint.specs.Reading.{awaited_var, awaited_vars}
use Rattle.checkpoint.specs.Judged.{FitsAmong, RefusesAmong}
use Rattle.checkpoint.proofs.state_texts.Judging.{fits_append, fits_same, refused_first, refused_then, refuses_same}

-- values one after another
abbrev pub flat : List (List ℤ) → List ℤ
flat zs = flat_map (λ z. z) zs

pub flat_push : (zs : List (List ℤ)) (z : List ℤ) → flat (zs ++ z ∷ []) ≡ flat zs ++ z
flat_push zs z = flat_map-append (λ (y : List ℤ). y) zs (z ∷ []) ∙ ap (λ y. flat zs ++ y) (append-nil z)

pub lengths_push : (zs : List (List ℤ)) (z : List ℤ) → map length (zs ++ z ∷ []) ≡ map length zs ++ length z ∷ []
lengths_push zs z = map-append length zs (z ∷ [])

-- ---- the variables of a program

starts_one : (x : VarValue) (xs : List VarValue) (t : Bool) → x.is_const ≡ t → starts (x ∷ xs) ≡ (if t then starts xs else x.start ∷ starts xs)
starts_one x xs t e = ap (λ (b : Bool). if b then starts xs else x.start ∷ starts xs) e

starts_append : (xs ys : List VarValue) → starts (xs ++ ys) ≡ starts xs ++ starts ys
starts_append [] ys = refl
starts_append (x ∷ xs) ys = by (starts_append xs ys) x.is_const
  where
    by : starts (xs ++ ys) ≡ starts xs ++ starts ys → (t : Bool) → (if t then starts (xs ++ ys) else x.start ∷ starts (xs ++ ys)) ≡ (if t then starts xs else x.start ∷ starts xs) ++ starts ys
    by e true = e
    by e false = ap (λ z. x.start ∷ z) e

pub starts_const : (xs : List VarValue) (x : VarValue) → x.is_const ≡ true → starts (xs ++ x ∷ []) ≡ starts xs
starts_const xs x c = starts_append xs (x ∷ []) ∙ (ap (λ z. starts xs ++ z) (starts_one x [] true c) ∙ append-nil (starts xs))

pub starts_push : (xs : List VarValue) (x : VarValue) → x.is_const ≡ false → starts (xs ++ x ∷ []) ≡ starts xs ++ x.start ∷ []
starts_push xs x c = starts_append xs (x ∷ []) ∙ ap (λ z. starts xs ++ z) (starts_one x [] false c)

starts_cut : (xs ys : List VarValue) (x : VarValue) → x.is_const ≡ false → starts (xs ++ x ∷ ys) ≡ starts xs ++ x.start ∷ starts ys
starts_cut xs ys x c = starts_append xs (x ∷ ys) ∙ ap (λ z. starts xs ++ z) (starts_one x ys false c)

-- ---- their lines

vars_append : (n : ℕ) (zs ws : List (List ℤ)) → awaited_vars n (zs ++ ws) ≡ awaited_vars n zs ++ awaited_vars (n + length zs) ws
vars_append n [] ws = let e : n ≡ n + 0 = omega arith in ap (λ m. awaited_vars m ws) e
vars_append n (z ∷ zs) ws =
    let e : suc n + length zs ≡ n + length (z ∷ zs) = omega arith in
    ap (λ l. awaited_var n (length z) ++ l) (vars_append (suc n) zs ws ∙ ap (λ m. awaited_vars (suc n) zs ++ awaited_vars m ws) e)

vars_cut : (zs ws : List (List ℤ)) (z : List ℤ) → awaited_vars 0 (zs ++ z ∷ ws) ≡ (awaited_vars 0 zs ++ awaited_var (length zs) (length z)) ++ awaited_vars (suc (length zs)) ws
vars_cut zs ws z =
    let e : 0 + length zs ≡ length zs = omega arith in
    vars_append 0 zs (z ∷ ws)
    ∙ (ap (λ m. awaited_vars 0 zs ++ (awaited_var m (length z) ++ awaited_vars (suc m) ws)) e
    ∙ sym (append_assoc (awaited_vars 0 zs) (awaited_var (length zs) (length z)) (awaited_vars (suc (length zs)) ws)))

vars_push : (zs : List (List ℤ)) (z : List ℤ) → awaited_vars 0 (zs ++ z ∷ []) ≡ awaited_vars 0 zs ++ awaited_var (length zs) (length z)
vars_push zs z = vars_cut zs [] z ∙ append-nil (awaited_vars 0 zs ++ awaited_var (length zs) (length z))

pub lengths_long : (zs ws : List (List ℤ)) → map length zs ≡ map length ws → length zs ≡ length ws
lengths_long zs ws e = sym (length-map zs length) ∙ (ap length e ∙ length-map ws length)

module _ (b : BoundValue) (k : ℕ) (xs : List VarValue) (x : VarValue) (told : List (List ℤ)) (u v : Unread)
    (shape : map length told ≡ map length (starts xs)) (p : FitsAmong b k (awaited_vars 0 (starts xs)) u v (flat told)) where
  many : length told ≡ length (starts xs)
  many = lengths_long told (starts xs) shape

  -- one more variable
  pub var_taken : (w : Unread) (z : List ℤ) → x.is_const ≡ false → FitsAmong b k (awaited_var (length told) (length x.start)) v w z
      → FitsAmong b k (awaited_vars 0 (starts (xs ++ x ∷ []))) u w (flat (told ++ z ∷ []))
  var_taken w z c q =
      let lines : awaited_vars 0 (starts xs) ++ awaited_var (length told) (length x.start) ≡ awaited_vars 0 (starts (xs ++ x ∷ [])) =
      ap (λ n. awaited_vars 0 (starts xs) ++ awaited_var n (length x.start)) many ∙ sym (ap (awaited_vars 0) (starts_push xs x c) ∙ vars_push (starts xs) x.start) in
      subst (FitsAmong b k (awaited_vars 0 (starts (xs ++ x ∷ []))) u w) (sym (flat_push told z))
      (fits_same b k (awaited_vars 0 (starts xs) ++ awaited_var (length told) (length x.start)) (awaited_vars 0 (starts (xs ++ x ∷ []))) u w (flat told ++ z) lines
      (fits_append b k (awaited_vars 0 (starts xs)) (awaited_var (length told) (length x.start)) u v w (flat told) z p q))

  -- one that is `const`
  pub var_passed : x.is_const ≡ true → FitsAmong b k (awaited_vars 0 (starts (xs ++ x ∷ []))) u v (flat told)
  var_passed c = fits_same b k (awaited_vars 0 (starts xs)) (awaited_vars 0 (starts (xs ++ x ∷ []))) u v (flat told) (ap (awaited_vars 0) (sym (starts_const xs x c))) p

  -- one whose lines are refused
  pub var_refused : (ys : List VarValue) (e : StateRefusal) → x.is_const ≡ false
      → RefusesAmong b k (awaited_var (length told) (length x.start)) v e → RefusesAmong b k (awaited_vars 0 (starts (xs ++ x ∷ ys))) u e
  var_refused ys e c r =
      let front = awaited_vars 0 (starts xs) ++ awaited_var (length told) (length x.start) in
      let behind = awaited_vars (suc (length (starts xs))) (starts ys) in
      let lines : front ++ behind ≡ awaited_vars 0 (starts (xs ++ x ∷ ys)) =
      ap (λ n. (awaited_vars 0 (starts xs) ++ awaited_var n (length x.start)) ++ behind) many ∙ sym (ap (awaited_vars 0) (starts_cut xs ys x c) ∙ vars_cut (starts xs) (starts ys) x.start) in
      refuses_same b k (front ++ behind) (awaited_vars 0 (starts (xs ++ x ∷ ys))) u e lines
      (refused_first b k front behind u e (refused_then b k (awaited_vars 0 (starts xs)) (awaited_var (length told) (length x.start)) u v (flat told) e p r))

-- the shape of one more
pub shape_push : (xs : List VarValue) (x : VarValue) (told : List (List ℤ)) (z : List ℤ) → map length told ≡ map length (starts xs) → x.is_const ≡ false → length z ≡ length x.start
    → map length (told ++ z ∷ []) ≡ map length (starts (xs ++ x ∷ []))
shape_push xs x told z s c e = lengths_push told z ∙ (ap₂ (λ l n. l ++ n ∷ []) s e ∙ sym (ap (map length) (starts_push xs x c) ∙ lengths_push (starts xs) x.start))

-- ---- the variables before one, and behind it

pub vars_next : (vs : List Var) (i : ℕ) (v : Var) → i < length vs → v ≡ get_or vs i v → map var_of (take (i + 1) vs) ≡ map var_of (take i vs) ++ var_of v ∷ []
vars_next vs i v l e = ap (map var_of) (take_more vs i v l ∙ ap (λ y. take i vs ++ y ∷ []) (sym e)) ∙ map-append var_of (take i vs) (v ∷ [])

pub vars_here : (vs : List Var) (i : ℕ) (v : Var) → i < length vs → v ≡ get_or vs i v → map var_of vs ≡ map var_of (take i vs) ++ var_of v ∷ map var_of (drop (suc i) vs)
vars_here vs i v l e =
    ap (map var_of) (sym (take-append-drop i vs) ∙ ap (λ z. take i vs ++ z) (drop-cons vs i v l ∙ ap (λ y. y ∷ drop (suc i) vs) (sym e)))
    ∙ map-append var_of (take i vs) (v ∷ drop (suc i) vs)
