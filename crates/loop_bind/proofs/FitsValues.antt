-- The values of expressions of `main` are numbers of 32 bits, and what is left of an expression names cells alone.
use Rattle.std.proofs.Common.{ℕ, zero, suc, ℤ, pos, ◌+◌, ◌<◌, ◌≤◌, List, [], ◌∷◌, ◌++◌, Ok, Err, Bool, true, false, cond, arith, FitsSigned, w32}
use Rattle.std.specs.Prelude.{slice_index_or, Result}
use Rattle.c_tree.specs.declared.lexer.tokens.Pos.{Pos}
use Rattle.c_tree.specs.declared.expressions.BinaryOp.{BinaryOp}
use Rattle.c_tree.specs.declared.expressions.UnaryOp.{UnaryOp}
use Rattle.kernel_model.specs.declared.types.faults.KernelFault.{KernelFault}
use Rattle.kernel_model.specs.Numbers.{Value, truth, is_zero, is_settled, apply, apply_unary, magnitude}
use Rattle.kernel_model.specs.Operators.{IsNumber}
use Rattle.kernel_model.proofs.Public.{operators_stay_in_range}
use Rattle.kernel_model.specs.Meaning.{and_then, index_in}
use Rattle.kernel_model.specs.View.{RExprTree, Number, Scalar, Constant, Arg, Local, Const, Unary, Binary, Choice, Paren, Extremum, Absolute}
use Rattle.bound_program.specs.HostExpr.{value, closed}
use Rattle.bound_program.specs.Values.{BoundValue}
use Rattle.bound_program.specs.Fits.{all_cells, HostWithin}

abbrev pub Num : ℤ → Type 0
Num z = FitsSigned w32 z

pub zero_is_num : Num (pos 0)
zero_is_num = record { sfits = omega arith }

-- ---- operators

truth_is_num : (b : Bool) → Num (truth b)
truth_is_num = operators_stay_in_range.tests

magnitude_is_num : (x : ℤ) → Num (magnitude x)
magnitude_is_num = operators_stay_in_range.magnitudes

apply_num : (op : BinaryOp) (at : Pos) (x y : ℤ) → Num x → Num y → IsNumber (apply op at x y)
apply_num = operators_stay_in_range.binary

unary_num : (op : UnaryOp) (x : ℤ) → Num x → Num (apply_unary op x)
unary_num = operators_stay_in_range.unary

-- ---- expressions

-- the numbers of an expression are of 32 bits, and the cells that it names are among so many
abbrev pub Within : ℕ → RExprTree → Type 0
Within n (Number z) = Num z
Within n (Scalar k) = k < n
Within n (Constant k) = Unit {0}
Within n (Arg x form e at) = ⊥
Within n (Local from count form e at) = (from + count ≤ n) × Within n e
Within n (Const from count form e at) = ⊥
Within n (Unary op e) = Within n e
Within n (Binary op x y at) = Within n x × Within n y
Within n (Choice c x y) = Within n c × Within n x × Within n y
Within n (Paren e) = Within n e
Within n (Extremum which x y) = Within n x × Within n y
Within n (Absolute e) = Within n e

pub within_more : (n m : ℕ) → n ≤ m → (e : RExprTree) → Within n e → Within m e
within_more n m l (Number z) h = h
within_more n m l (Scalar k) h = omega (arith, l, h)
within_more n m l (Constant k) h = tt
within_more n m l (Arg x form e at) h = absurd h
within_more n m l (Const from count form e at) h = absurd h
within_more n m l (Local from count form e at) h = (omega (arith, l, h.0), within_more n m l e h.1)
within_more n m l (Unary op e) h = within_more n m l e h
within_more n m l (Binary op x y at) h = (within_more n m l x h.0, within_more n m l y h.1)
within_more n m l (Choice c x y) h = (within_more n m l c h.0, within_more n m l x h.1, within_more n m l y h.2)
within_more n m l (Paren e) h = within_more n m l e h
within_more n m l (Extremum which x y) h = (within_more n m l x h.0, within_more n m l y h.1)
within_more n m l (Absolute e) h = within_more n m l e h

abbrev pub Nums : List ℤ → Type 0
Nums zs = (k : ℕ) → Num (slice_index_or zs k (pos 0))

pub no_nums : Nums []
no_nums k = zero_is_num

pub more_nums : (zs : List ℤ) (z : ℤ) → Nums zs → Num z → Nums (zs ++ z ∷ [])
more_nums [] z h f zero = f
more_nums [] z h f (suc k) = zero_is_num
more_nums (x ∷ xs) z h f zero = h zero
more_nums (x ∷ xs) z h f (suc k) = more_nums xs z (λ j. h (suc j)) f k

num_then : (r : Value) (go : ℤ → Value) → IsNumber r → ((x : ℤ) → Num x → IsNumber (go x)) → IsNumber (and_then r go)
num_then (Ok x) go f h = h x f
num_then (Err e) go f h = tt

index_then : (r : Result ℕ KernelFault) (go : ℕ → Value) → ((i : ℕ) → IsNumber (go i)) → IsNumber (and_then r go)
index_then (Ok i) go h = h i
index_then (Err e) go h = tt

num_cond : (b : Bool) (x y : Value) → IsNumber x → IsNumber y → IsNumber (cond b x y)
num_cond true x y f g = f
num_cond false x y f g = g

pub value_num : (n : ℕ) (told cells : List ℤ) → Nums told → Nums cells → (e : RExprTree) → Within n e → IsNumber (value told cells e)
value_num n told cells t c (Number z) w = w
value_num n told cells t c (Scalar k) w = c k
value_num n told cells t c (Constant k) w = t k
value_num n told cells t c (Arg x form e at) w = absurd w
value_num n told cells t c (Const from count form e at) w = absurd w
value_num n told cells t c (Local from count form e at) w =
    num_then (value told cells e) _ (value_num n told cells t c e w.1) (λ z f. index_then (index_in count at z) _ (λ i. c (from + i)))
value_num n told cells t c (Unary op e) w = num_then (value told cells e) _ (value_num n told cells t c e w) (λ x f. unary_num op x f)
value_num n told cells t c (Binary op l r at) w =
    num_then (value told cells l) _ (value_num n told cells t c l w.0)
    (λ x f. num_cond (is_settled op x) _ _ (truth_is_num _) (num_then (value told cells r) _ (value_num n told cells t c r w.1) (λ y g. apply_num op at x y f g)))
value_num n told cells t c (Choice d x y) w =
    num_then (value told cells d) _ (value_num n told cells t c d w.0) (λ z f. num_cond (is_zero z) _ _ (value_num n told cells t c y w.2) (value_num n told cells t c x w.1))
value_num n told cells t c (Paren e) w = value_num n told cells t c e w
value_num n told cells t c (Extremum which x y) w =
    num_then (value told cells x) _ (value_num n told cells t c x w.0)
    (λ a f. num_then (value told cells y) _ (value_num n told cells t c y w.1) (λ b g. operators_stay_in_range.extrema which a b f g))
value_num n told cells t c (Absolute e) w = num_then (value told cells e) _ (value_num n told cells t c e w) (λ z f. magnitude_is_num z)

-- with values in place of the names that are told later, an expression names cells alone
pub closed_within : (b : BoundValue) (told : List ℤ) → Nums told → (e : RExprTree) → Within (all_cells b) e → HostWithin b (closed told e)
closed_within b told t (Number z) w = w
closed_within b told t (Scalar k) w = w
closed_within b told t (Constant k) w = t k
closed_within b told t (Arg x form e at) w = absurd w
closed_within b told t (Const from count form e at) w = absurd w
closed_within b told t (Local from count form e at) w = (w.0, closed_within b told t e w.1)
closed_within b told t (Unary op e) w = closed_within b told t e w
closed_within b told t (Binary op x y at) w = (closed_within b told t x w.0, closed_within b told t y w.1)
closed_within b told t (Choice c x y) w = (closed_within b told t c w.0, closed_within b told t x w.1, closed_within b told t y w.2)
closed_within b told t (Paren e) w = closed_within b told t e w
closed_within b told t (Extremum which x y) w = (closed_within b told t x w.0, closed_within b told t y w.1)
closed_within b told t (Absolute e) w = closed_within b told t e w
