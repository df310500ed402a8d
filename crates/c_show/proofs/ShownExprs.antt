-- The kinds of what an expression prints stand before those that follow it, at whatever level it stands.
use Rattle.std.proofs.Common.{◌≡◌, ℕ, suc, List, [], ◌∷◌, ◌++◌, map, refl, ap}
use Rattle.c_tree.specs.declared.lexer.tokens.Kind.{Kind}
use Rattle.c_tree.specs.Tree.{ExprTree, Number, Name, Index, Deref, Unary, Binary, Choice, Paren, Extremum, Absolute}
use Rattle.c_tree.specs.Print.{Mark, expr}
use Rattle.c_show.specs.Ahead.{expr_first}

-- the kinds of marks, before the rest
abbrev pub ahead : List Mark → List Kind → List Kind
ahead [] rest = rest
ahead (m ∷ ms) rest = m.kind ∷ ahead ms rest

pub ahead-append : (xs ys : List Mark) (rest : List Kind) → ahead (xs ++ ys) rest ≡ ahead xs (ahead ys rest)
ahead-append [] ys rest = refl
ahead-append (x ∷ xs) ys rest = ap (λ z. x.kind ∷ z) (ahead-append xs ys rest)

pub ahead_none : (ms : List Mark) → ahead ms [] ≡ map (λ m. m.kind) ms
ahead_none [] = refl
ahead_none (m ∷ ms) = ap (λ z. m.kind ∷ z) (ahead_none ms)

pub expr_is : (k : ℕ) (e : ExprTree) (rest : List Kind) → ahead (expr k e) rest ≡ expr_first e rest
expr_is k (Number n) rest = refl
expr_is k (Name x) rest = refl
expr_is k (Index x e) rest = rw (ahead-append, expr_is (suc k) e) refl
expr_is k (Deref at x) rest = refl
expr_is k (Unary op at e) rest = rw (expr_is (suc k) e) refl
expr_is k (Binary op at l r) rest = rw (ahead-append, expr_is k l, expr_is (suc k) r) refl
expr_is k (Choice at c y n) rest = rw (ahead-append, ahead-append, expr_is k c, expr_is (suc k) y, expr_is (suc k) n) refl
expr_is k (Paren at e) rest = rw (ahead-append, expr_is (suc k) e) refl
expr_is k (Extremum w at a b) rest = rw (ahead-append, ahead-append, expr_is (suc k) a, expr_is (suc k) b) refl
expr_is k (Absolute at e) rest = rw (ahead-append, expr_is (suc k) e) refl
