-- What expressions of a source come to over values of 32 bits, and what names stand for.
use Rattle.std.proofs.Common.{ℕ, ℤ, not, Bool, true, false, cond, List, Option, Some, None, Ok, Err, []}
use Rattle.std.specs.Prelude.{Result, All, IfSome, bytes_eq}
use Rattle.std.proofs.lemmas.Map.Entries.{All-lookup}
use Rattle.c_tree.specs.declared.lexer.tokens.Pos.{Pos}
use Rattle.c_tree.specs.Tree as tree
use Rattle.c_tree.specs.Tree.{ExprTree}
use Rattle.kernel_model.specs.declared.types.faults.KernelFault.{KernelFault}
use Rattle.kernel_model.specs.View.{RExprTree, Number, Scalar, Constant, Arg, Local, Const, Unary, Binary, Choice, Paren, Extremum, Absolute}
use Rattle.kernel_model.specs.Numbers.{Value, is_zero, is_settled}
use Rattle.kernel_model.specs.Operators.{IsNumber}
use Rattle.kernel_model.specs.Meaning.{and_then, index_in}
use Rattle.kernel_model.proofs.Public.{operators_stay_in_range}
use Rattle.bound_program.specs.declared.refusals.refusals.BindRefusal.TheVariants as refusal
use Rattle.bound_program.specs.Refusals.{found_if}
use Rattle.bound_program.specs.HostExpr.{value, is_static}
use Rattle.main_declarations.specs.declared.names.scopes.Meaning.{Meaning}
use Rattle.main_declarations.specs.declared.names.scopes.Meaning.TheVariants as m
use Rattle.main_declarations.specs.Names.{Names, Scope, means, named_in, or_else}
use Rattle.main_declarations.specs.Expressions.{read, resolved, asked, known, first_token, judged_static, judged_value}
use Rattle.bound_program.specs.Steps.{Asked}
use Rattle.bound_program.specs.Trace.{number}
use Rattle.loop_bind.specs.Sources.{HasNumbers}
use Rattle.main_declarations.proofs.Public.{Gives, gives_then, gives_unless}
use Rattle.answers.proofs.laws.SpelledValues.{Num, zero_num, AllNum, num_at}

-- ---- expressions

-- the numbers in an expression
abbrev pub Nums : RExprTree → Type 0
Nums (Number z) = Num z
Nums (Scalar k) = Unit {0}
Nums (Constant k) = Unit {0}
Nums (Arg x form e at) = Nums e
Nums (Local from count form e at) = Nums e
Nums (Const from count form e at) = Nums e
Nums (Unary op e) = Nums e
Nums (Binary op x y at) = Nums x × Nums y
Nums (Choice c x y) = Nums c × Nums x × Nums y
Nums (Paren e) = Nums e
Nums (Extremum which x y) = Nums x × Nums y
Nums (Absolute e) = Nums e

num_then : (r : Value) (go : ℤ → Value) → IsNumber r → ((x : ℤ) → Num x → IsNumber (go x)) → IsNumber (and_then r go)
num_then (Ok x) go f h = h x f
num_then (Err e) go f h = tt

index_then : (r : Result ℕ KernelFault) (go : ℕ → Value) → ((i : ℕ) → IsNumber (go i)) → IsNumber (and_then r go)
index_then (Ok i) go h = h i
index_then (Err e) go h = tt

num_cond : (b : Bool) (x y : Value) → IsNumber x → IsNumber y → IsNumber (cond b x y)
num_cond true x y f g = f
num_cond false x y f g = g

pub value_in : (ts : List ℤ) → AllNum ts → (e : RExprTree) → Nums e → IsNumber (value ts [] e)
value_in ts t (Number z) w = w
value_in ts t (Scalar k) w = zero_num
value_in ts t (Constant k) w = num_at ts t k
value_in ts t (Arg x form e at) w = num_then (value ts [] e) _ (value_in ts t e w) (λ z f. index_then (index_in 0 at z) _ (λ i. zero_num))
value_in ts t (Const from count form e at) w = num_then (value ts [] e) _ (value_in ts t e w) (λ z f. index_then (index_in 0 at z) _ (λ i. zero_num))
value_in ts t (Local from count form e at) w = num_then (value ts [] e) _ (value_in ts t e w) (λ z f. index_then (index_in count at z) _ (λ i. zero_num))
value_in ts t (Unary op e) w = num_then (value ts [] e) _ (value_in ts t e w) (λ x f. operators_stay_in_range.unary op x f)
value_in ts t (Binary op l r at) w =
    num_then (value ts [] l) _ (value_in ts t l w.0)
    (λ x f. num_cond (is_settled op x) _ _ (operators_stay_in_range.tests _) (num_then (value ts [] r) _ (value_in ts t r w.1) (λ y g. operators_stay_in_range.binary op at x y f g)))
value_in ts t (Choice d x y) w =
    num_then (value ts [] d) _ (value_in ts t d w.0) (λ z f. num_cond (is_zero z) _ _ (value_in ts t y w.2) (value_in ts t x w.1))
value_in ts t (Paren e) w = value_in ts t e w
value_in ts t (Extremum which x y) w =
    num_then (value ts [] x) _ (value_in ts t x w.0)
    (λ a f. num_then (value ts [] y) _ (value_in ts t y w.1) (λ b g. operators_stay_in_range.extrema which a b f g))
value_in ts t (Absolute e) w = num_then (value ts [] e) _ (value_in ts t e w) (λ z f. operators_stay_in_range.magnitudes z)

-- ---- names

abbrev pub MeaningNum : Meaning → Type 0
MeaningNum (m.Extern z) = Num z
MeaningNum m.ExternArray = Unit {0}
MeaningNum (m.Kernel number params) = Unit {0}
MeaningNum (m.Set s) = Unit {0}
MeaningNum (m.Map s) = Unit {0}
MeaningNum (m.Dat d) = Unit {0}
MeaningNum (m.Variable c) = Unit {0}
MeaningNum (m.Fixed z c) = Num z
MeaningNum (m.FixedLater k c) = Unit {0}
MeaningNum (m.Turning k) = Unit {0}

abbrev pub NameNum : List ℕ × Meaning → Type 0
NameNum e = MeaningNum e.1

abbrev pub NamesNum : Names → Type 0
NamesNum ns = All NameNum ns

pub record ScopeNum (s : Scope) : Type 0 where
  pub file : NamesNum s.file
  pub own : NamesNum s.own

pub means_num : (s : Scope) (x : List ℕ) → ScopeNum s → IfSome (means s x) MeaningNum
means_num s x h = by (named_in s.own x) (named_in s.file x) (All-lookup MeaningNum (bytes_eq x) s.own h.own) (All-lookup MeaningNum (bytes_eq x) s.file h.file)
  where
    by : (o p : Option Meaning) → IfSome o MeaningNum → IfSome p MeaningNum → IfSome (or_else o p) MeaningNum
    by None p i j = j
    by (Some n) p i j = i

read_num : (o : Option Meaning) → IfSome o MeaningNum → Nums (read o)
read_num None h = zero_num
read_num (Some (m.Extern z)) h = h
read_num (Some m.ExternArray) h = zero_num
read_num (Some (m.Kernel number params)) h = zero_num
read_num (Some (m.Set s)) h = zero_num
read_num (Some (m.Map s)) h = zero_num
read_num (Some (m.Dat d)) h = zero_num
read_num (Some (m.Variable c)) h = tt
read_num (Some (m.Fixed z c)) h = h
read_num (Some (m.FixedLater k c)) h = tt
read_num (Some (m.Turning k)) h = tt

module _ (places : List Pos) (s : Scope) (h : ScopeNum s) where
  resolved_num : (e : ExprTree) → HasNumbers e → Nums (resolved places s e)
  resolved_num (tree.Number n) f = f
  resolved_num (tree.Name x) f = read_num (means s x.name) (means_num s x.name h)
  resolved_num (tree.Index x i) f = resolved_num i f
  resolved_num (tree.Deref at x) f = zero_num
  resolved_num (tree.Unary op at x) f = resolved_num x f
  resolved_num (tree.Binary op at l r) f = (resolved_num l f.0, resolved_num r f.1)
  resolved_num (tree.Choice at c x y) f = (resolved_num c f.0, resolved_num x f.1, resolved_num y f.2)
  resolved_num (tree.Paren at x) f = resolved_num x f
  resolved_num (tree.Extremum which at x y) f = (resolved_num x f.0, resolved_num y f.1)
  resolved_num (tree.Absolute at x) f = resolved_num x f

  pub static_num : (e : ExprTree) → HasNumbers e → Gives (λ (a : Asked). Nums a.value) (judged_static places s e)
  static_num e f = gives_unless (λ (a : Asked). Nums a.value)
      (found_if places (not (is_static (resolved places s e))) (first_token e) refusal.ControlNotStatic) (asked places s e)
      (λ none. resolved_num e f)

  known_num : (first : ℕ) (v : Value) → IsNumber v → Gives Num (known places first v)
  known_num first (Ok z) f = f
  known_num first (Err e) f = tt

  pub value_is_num : (e : ExprTree) → HasNumbers e → Gives Num (judged_value places s e)
  value_is_num e f =
      gives_then (λ (a : Asked). Nums a.value) Num (judged_static places s e) (λ a. known places (first_token e) (value [] [] a.value)) (static_num e f)
      (λ a w. known_num (first_token e) (value [] [] a.value) (value_in [] tt a.value w))
