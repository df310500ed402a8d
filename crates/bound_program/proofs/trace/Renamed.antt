-- Names that are numbered anew.
use Rattle.std.proofs.Common.{◌≡◌, ◌∙◌, refl, sym, ap, ◌<◌, ℕ, zero, suc, ℤ, pos, List, [], ◌∷◌, ◌++◌, map, option_map, length, slice_index, slice_index_or, arith, Option, None, Some, Ok, cond}
use Rattle.c_tree.specs.declared.lexer.tokens.Pos.{Pos}
use Rattle.c_tree.specs.declared.declarations.AssignOp.{AssignOp}
use Rattle.std.proofs.lemmas.List.{append_assoc, append-nil, map-append}
use Rattle.kernel_model.specs.View.{RExprTree, Number, Scalar, Constant, Arg, Local, Const, Unary, Binary, Choice, Paren, Extremum, Absolute}
use Rattle.kernel_model.specs.Numbers.{truth, is_zero, apply, apply_unary, is_settled, extremum, magnitude, not}
use Rattle.kernel_model.specs.Meaning.{and_then}
use Rattle.bound_program.specs.HostExpr.{value, closed, element_value}
use Rattle.bound_program.specs.Values.{ActValue, Clear, Assign, Line, Print, Exit, closed_act}
use Rattle.bound_program.specs.Naming.{name, renamed, renamed_act, Grows, Spells, SpellAll}

pub found : (ns : List ℕ) (k told : ℕ) → k < length ns → slice_index ns k ≡ told → (more : List ℕ) → name (ns ++ more) k ≡ Constant told
found [] k told l is more = absurd (omega (arith, l))
found (n ∷ ns) zero told l is more = ap Constant is
found (n ∷ ns) (suc k) told l is more = found ns k told (omega (arith, l)) is more

pub pushed : (ns : List ℕ) (told : ℕ) (more : List ℕ) → name ((ns ++ told ∷ []) ++ more) (length ns) ≡ Constant told
pushed [] told more = refl
pushed (n ∷ ns) told more = pushed ns told more

pub closed_value : (told cells : List ℤ) (e : RExprTree) → value [] cells (closed told e) ≡ value told cells e
closed_value told cells (Number n) = refl
closed_value told cells (Scalar k) = refl
closed_value told cells (Constant k) = refl
closed_value told cells (Arg x form e at) = ap (element_value cells 0 0 at) (closed_value told cells e)
closed_value told cells (Local from count form e at) = ap (element_value cells from count at) (closed_value told cells e)
closed_value told cells (Const from count form e at) = ap (element_value cells 0 0 at) (closed_value told cells e)
closed_value told cells (Unary op e) = ap (λ v. and_then v (λ x. Ok (apply_unary op x))) (closed_value told cells e)
closed_value told cells (Binary op l r at) =
    ap (λ v. and_then v (λ x. cond (is_settled op x) (Ok (truth (not (is_zero x)))) (and_then (value [] cells (closed told r)) (λ y. apply op at x y))))
    (closed_value told cells l)
    ∙ ap (λ w. and_then (value told cells l) (λ x. cond (is_settled op x) (Ok (truth (not (is_zero x)))) (and_then w (λ y. apply op at x y))))
    (closed_value told cells r)
closed_value told cells (Choice c x y) =
    ap (λ v. and_then v (λ z. cond (is_zero z) (value [] cells (closed told y)) (value [] cells (closed told x)))) (closed_value told cells c)
    ∙ ap (λ v. and_then (value told cells c) (λ z. cond (is_zero z) v (value [] cells (closed told x)))) (closed_value told cells y)
    ∙ ap (λ v. and_then (value told cells c) (λ z. cond (is_zero z) (value told cells y) v)) (closed_value told cells x)
closed_value told cells (Paren e) = closed_value told cells e
closed_value told cells (Extremum which x y) =
    ap (λ v. and_then v (λ a. and_then (value [] cells (closed told y)) (λ b. Ok (extremum which a b)))) (closed_value told cells x)
    ∙ ap (λ v. and_then (value told cells x) (λ a. and_then v (λ b. Ok (extremum which a b)))) (closed_value told cells y)
closed_value told cells (Absolute e) = ap (λ v. and_then v (λ z. Ok (magnitude z))) (closed_value told cells e)

-- the values of these names
abbrev pub at_names : List ℤ → List ℕ → List ℤ
at_names told ns = map (λ n. slice_index_or told n (pos 0)) ns

closed_name : (told : List ℤ) (ns : List ℕ) (k : ℕ) → Number (slice_index_or (at_names told ns) k (pos 0)) ≡ closed told (name ns k)
closed_name told [] k = refl
closed_name told (n ∷ ns) zero = refl
closed_name told (n ∷ ns) (suc k) = closed_name told ns k

pub closed_renamed : (told : List ℤ) (ns : List ℕ) (e : RExprTree) → closed (at_names told ns) e ≡ closed told (renamed ns e)
closed_renamed told ns (Number n) = refl
closed_renamed told ns (Scalar k) = refl
closed_renamed told ns (Constant k) = closed_name told ns k
closed_renamed told ns (Arg x form e at) = ap (λ y. Arg x form y at) (closed_renamed told ns e)
closed_renamed told ns (Local from count form e at) = ap (λ y. Local from count form y at) (closed_renamed told ns e)
closed_renamed told ns (Const from count form e at) = ap (λ y. Const from count form y at) (closed_renamed told ns e)
closed_renamed told ns (Unary op e) = ap (Unary op) (closed_renamed told ns e)
closed_renamed told ns (Binary op l r at) =
    ap (λ x. Binary op x (closed (at_names told ns) r) at) (closed_renamed told ns l)
    ∙ ap (λ y. Binary op (closed told (renamed ns l)) y at) (closed_renamed told ns r)
closed_renamed told ns (Choice c x y) =
    ap (λ d. Choice d (closed (at_names told ns) x) (closed (at_names told ns) y)) (closed_renamed told ns c)
    ∙ ap (λ v. Choice (closed told (renamed ns c)) v (closed (at_names told ns) y)) (closed_renamed told ns x)
    ∙ ap (λ w. Choice (closed told (renamed ns c)) (closed told (renamed ns x)) w) (closed_renamed told ns y)
closed_renamed told ns (Paren e) = ap Paren (closed_renamed told ns e)
closed_renamed told ns (Extremum which x y) =
    ap (λ v. Extremum which v (closed (at_names told ns) y)) (closed_renamed told ns x)
    ∙ ap (λ w. Extremum which (closed told (renamed ns x)) w) (closed_renamed told ns y)
closed_renamed told ns (Absolute e) = ap Absolute (closed_renamed told ns e)

closed_all : (told : List ℤ) (ns : List ℕ) (es : List RExprTree) → map (closed (at_names told ns)) es ≡ map (closed told) (map (renamed ns) es)
closed_all told ns [] = refl
closed_all told ns (e ∷ es) =
    ap (λ x. x ∷ map (closed (at_names told ns)) es) (closed_renamed told ns e) ∙ ap (λ xs. closed told (renamed ns e) ∷ xs) (closed_all told ns es)

closed_index : (told : List ℤ) (ns : List ℕ) (i : Option RExprTree)
    → option_map (closed (at_names told ns)) i ≡ option_map (closed told) (option_map (renamed ns) i)
closed_index told ns None = refl
closed_index told ns (Some e) = ap Some (closed_renamed told ns e)

pub closed_renamed_act : (told : List ℤ) (ns : List ℕ) (a : ActValue) → closed_act (at_names told ns) a ≡ closed_act told (renamed_act ns a)
closed_renamed_act told ns (Clear v) = refl
closed_renamed_act told ns (Assign v i op op_at e at) =
    ap (λ j. Assign v j op op_at (closed (at_names told ns) e) at) (closed_index told ns i)
    ∙ ap (λ x. Assign v (option_map (closed told) (option_map (renamed ns) i)) op op_at x at) (closed_renamed told ns e)
closed_renamed_act told ns (Line l es) = ap (Line l) (closed_all told ns es)
closed_renamed_act told ns (Print d file) = refl
closed_renamed_act told ns Exit = refl

pub grows_not : (ns : List ℕ) → Grows ns ns
grows_not ns = ([], sym (append-nil ns))

pub grows_then : (a b c : List ℕ) → Grows a b → Grows b c → Grows a c
grows_then a b c (x, p) (y, q) = (x ++ y, q ∙ ap (λ r. r ++ y) p ∙ append_assoc a x y)

-- an expression keeps its names where more follow
pub spells_grown : (a b : List ℕ) (x e : RExprTree) → Spells a x e → Grows a b → Spells b x e
spells_grown a b x e s (m, p) = λ more. ap (λ ns. renamed (ns ++ more) x) p ∙ ap (λ ns. renamed ns x) (append_assoc a m more) ∙ s (m ++ more)

-- ---- expressions in order

pub spell_grown : (a b : List ℕ) (xs es : List RExprTree) → SpellAll a xs es → Grows a b → SpellAll b xs es
spell_grown a b xs es s (m, p) =
    λ more. ap (λ ns. map (renamed (ns ++ more)) xs) p ∙ ap (λ ns. map (renamed ns) xs) (append_assoc a m more) ∙ s (m ++ more)

pub spell_more : (b : List ℕ) (xs es : List RExprTree) (x e : RExprTree)
    → SpellAll b xs es → Spells b x e → SpellAll b (xs ++ x ∷ []) (es ++ e ∷ [])
spell_more b xs es x e s t =
    λ more. map-append (renamed (b ++ more)) xs (x ∷ []) ∙ ap (λ r. r ++ renamed (b ++ more) x ∷ []) (s more) ∙ ap (λ r. es ++ r ∷ []) (t more)

pub map_pushed : {A B : Type 0} (f : A → B) (xs : List A) (x : A) (ys : List A) → ys ≡ xs ++ x ∷ [] → map f ys ≡ map f xs ++ f x ∷ []
map_pushed f xs x ys p = ap (map f) p ∙ map-append f xs (x ∷ [])

-- ---- statements

spelt : (ns : List ℕ) (x e : RExprTree) → Spells ns x e → renamed ns x ≡ e
spelt ns x e s = ap (λ ms. renamed ms x) (sym (append-nil ns)) ∙ s []

pub line_spelt : (ns l : List ℕ) (xs es : List RExprTree) → SpellAll ns xs es → renamed_act ns (Line l xs) ≡ Line l es
line_spelt ns l xs es s = ap (Line l) (ap (λ ms. map (renamed ms) xs) (sym (append-nil ns)) ∙ s [])

-- the names of an index, and then those of a value
pub assign_spelt : (a b : List ℕ) (v : ℕ) (i j : Option RExprTree) (op : AssignOp) (op_at : Pos) (x e : RExprTree) (at : Pos)
    → ((more : List ℕ) → option_map (renamed (a ++ more)) i ≡ j) → Grows a b → Spells b x e
    → renamed_act b (Assign v i op op_at x at) ≡ Assign v j op op_at e at
assign_spelt a b v i j op op_at x e at s (m, p) t =
    ap (λ k. Assign v k op op_at (renamed b x) at) (ap (λ ns. option_map (renamed ns) i) p ∙ s m)
    ∙ ap (λ y. Assign v j op op_at y at) (spelt b x e t)
