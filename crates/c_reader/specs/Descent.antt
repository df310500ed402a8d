-- What the readers of an expression answer, as functions of the kinds of all tokens and of a place among them.
use Rattle.std.specs.Prelude.{◌≡◌, ℕ, zero, suc, Bool, false, List, Option, Some, None, Result, Ok, Err, slice_get, nat_le, nat_eq, length, if◌then◌else◌}
use Rattle.c_tree.specs.declared.lexer.tokens.Kind.{Kind}
use Rattle.c_tree.specs.declared.lexer.tokens.Kind.TheVariants as kind
use Rattle.c_tree.specs.declared.lexer.tokens.Sign.{Sign}
use Rattle.c_tree.specs.declared.lexer.tokens.Sign.TheVariants as sign
use Rattle.c_tree.specs.contracts.lexer.tokens.Sign as the_sign
use Rattle.c_tree.specs.declared.expressions.BinaryOp.{BinaryOp}
use Rattle.c_tree.specs.Signs.{level_of}
use Rattle.c_tree.specs.Tree.{ExprTree, Number, Name, Index, Deref, Unary, Binary, Choice, Paren, Extremum, Absolute}
use Rattle.c_tree.specs.declared.expressions.Expr.{Expr}
use Rattle.c_tree.specs.View.{expr_of}
use Rattle.c_reader.specs.declared.faults.Fault.{Fault}
use Rattle.c_reader.specs.declared.faults.Fault.TheVariants.{Syntax, TooDeep}
use Rattle.c_reader.specs.declared.faults.ReadError.{ReadError}
use Rattle.c_reader.specs.declared.faults.ReadError.TheVariants as errors
use Rattle.c_reader.specs.declared.leads.Lead.{Lead}
use Rattle.c_reader.specs.declared.leads.Lead.TheVariants as lead
use Rattle.c_reader.specs.declared.leads.WordLead.{WordLead}
use Rattle.c_reader.specs.declared.leads.WordLead.TheVariants as word_lead
use Rattle.c_reader.specs.Leads.{binary_of, lead_of, word_lead_of}
use denote.Enum.Bare.{sameb}

infixl 10 ◌>>=◌
-- goes on with what was read, unless there was a fault
abbrev pub ◌>>=◌ : {A B : Type 0} → Result A Fault → (A → Result B Fault) → Result B Fault
(Ok x) >>= f = f x
(Err e) >>= f = Err e

-- the error is the fault of reading, unless memory ran out
abbrev pub Fails : {Y : Type 0} → ReadError → Result Y Fault → Type 0
Fails errors.Memory read = Unit {0}
Fails (errors.Fault f) read = read ≡ Err f

-- What a function returned, seen by view, is what reading gives, unless memory ran out.
abbrev pub Gives : {X Y : Type 0} → (X → Y) → Result X ReadError → Result Y Fault → Type 0
Gives view (Ok x) read = read ≡ Ok (view x)
Gives view (Err e) read = Fails e read

-- what was read, without where it lies in memory
abbrev pub seen : Expr × ℕ → ExprTree × ℕ
seen x = (expr_of x.0, x.1)

-- a tree and the place after it
abbrev pub Step : Type 0
Step = Result (ExprTree × ℕ) Fault

-- reads an expression of at least this operator level from this place
abbrev pub Rec : Type 0
Rec = ℕ → ℕ → Step

-- whether a token is this sign
abbrev pub sign_is : Sign → Option Kind → Bool
sign_is s (Some (kind.Sign t)) = sameb the_sign.the_type t s
sign_is s _ = false

-- the place after a sign
unfoldable pub sign_at : List Kind → Sign → ℕ → Result ℕ Fault
sign_at ks s n = if sign_is s (slice_get ks n) then Ok (suc n) else Err (Syntax n)

-- the operator, if it is of at least level m
abbrev pub at_least : ℕ → Option BinaryOp → Option BinaryOp
at_least m None = None
at_least m (Some op) = if nat_le m (level_of op) then Some op else None

-- the binary operator that a token is, if it is of at least level m
abbrev pub operator_in : ℕ → Option Kind → Option BinaryOp
operator_in m (Some (kind.Sign s)) = at_least m (binary_of s)
operator_in m _ = None

-- the binary operator at a place, if it is of at least this level
unfoldable pub operator_at : List Kind → ℕ → ℕ → Option BinaryOp
operator_at ks m n = operator_in m (slice_get ks n)

-- a name, or a name with an index
unfoldable pub name_at : List Kind → Rec → List ℕ → ℕ → Step
name_at ks rec x n =
    if sign_is sign.LeftBracket (slice_get ks (suc n))
    then (rec 0 (suc (suc n)) >>= λ i. sign_at ks sign.RightBracket i.1 >>= λ e. Ok (
      Index (record {
        name = x;
        at = n;
      }) i.0,
      e,
    ))
    else Ok (Name (record { name = x; at = n }), suc n)

-- the name that the token of number n is
abbrev pub name_in : Option Kind → ℕ → Result (List ℕ) Fault
name_in (Some (kind.Name x)) n = Ok x
name_in _ n = Err (Syntax n)

-- an expression that begins with a sign, by what the sign begins
abbrev pub led_by : List Kind → Rec → Lead → ℕ → Step
led_by ks rec lead.Paren n = rec 0 (suc n) >>= λ x. sign_at ks sign.RightParen x.1 >>= λ e. Ok (Paren n x.0, e)
led_by ks rec lead.Deref n =
    name_in (slice_get ks (suc n)) (suc n) >>= λ x. Ok (Deref n (record { name = x; at = suc n }), suc (suc n))
led_by ks rec (lead.Unary op) n = rec 11 (suc n) >>= λ x. Ok (Unary op n x.0, x.1)
led_by ks rec lead.Nothing n = Err (Syntax n)

-- `MIN(a, b)`, `MAX(a, b)` or `ABS(a)`
abbrev pub worded_by : List Kind → Rec → WordLead → ℕ → Step
worded_by ks rec (word_lead.Extremum w) n =
    sign_at ks sign.LeftParen (suc n)
    >>= λ o. rec 0 o
    >>= λ a. sign_at ks sign.Comma a.1
    >>= λ c. rec 0 c
    >>= λ b. sign_at ks sign.RightParen b.1
    >>= λ e. Ok (Extremum w n a.0 b.0, e)
worded_by ks rec word_lead.Absolute n =
    sign_at ks sign.LeftParen (suc n)
    >>= λ o. rec 0 o
    >>= λ a. sign_at ks sign.RightParen a.1
    >>= λ e. Ok (Absolute n a.0, e)
worded_by ks rec word_lead.Nothing n = Err (Syntax n)

-- an expression up to its first binary operator or `?`, by the token that begins it
abbrev pub front_in : List Kind → Rec → Option Kind → ℕ → Step
front_in ks rec (Some (kind.Number v)) n = Ok (Number (record { value = v; at = n }), suc n)
front_in ks rec (Some (kind.Name x)) n = name_at ks rec x n
front_in ks rec (Some (kind.Sign s)) n = led_by ks rec (lead_of s) n
front_in ks rec (Some (kind.Word w)) n = worded_by ks rec (word_lead_of w) n
front_in ks rec _ n = Err (Syntax n)

-- an expression up to its first binary operator or `?`
unfoldable pub front : List Kind → Rec → ℕ → Step
front ks rec n = front_in ks rec (slice_get ks n) n

-- goes on by f where there is an operator, and else stays with a
abbrev pub on_operator : {A : Type 0} → Option BinaryOp → A → (BinaryOp → A) → A
on_operator None a f = a
on_operator (Some op) a f = f op

-- the operators of at least level m behind a tree, with their right operands, at most c of them
unfoldable pub chain : List Kind → Rec → ℕ → ℕ → ExprTree → ℕ → Step
chain ks rec zero m l n = on_operator (operator_at ks m n) (Ok (l, n)) (λ op. Err (TooDeep n))
chain ks rec (suc c) m l n =
    on_operator (operator_at ks m n) (Ok (l, n)) (λ op. rec (suc (level_of op)) (suc n) >>= λ x. chain ks rec c m (Binary op n l x.0) x.1)

-- the rest of a choice, where one may stand
unfoldable pub choice : List Kind → Rec → ℕ → ExprTree → ℕ → Step
choice ks rec zero l n =
    if sign_is sign.Question (slice_get ks n)
    then (rec 0 (suc n) >>= λ y. sign_at ks sign.Colon y.1 >>= λ e. rec 0 e >>= λ z. Ok (Choice n l y.0 z.0, z.1))
    else Ok (l, n)
choice ks rec (suc m) l n = Ok (l, n)

-- an expression of at least level m at a place, with d levels of nesting left
unfoldable pub read : List Kind → ℕ → Rec
read ks zero m n = Err (TooDeep n)
read ks (suc d) m n =
    front ks (read ks d) n >>= λ x. chain ks (read ks d) 128 m x.0 x.1 >>= λ y. choice ks (read ks d) m y.0 y.1

-- the expression that all tokens are
unfoldable pub whole : List Kind → Result ExprTree Fault
whole ks =
    read ks 64 0 0 >>= λ x. if nat_eq x.1 (length ks) then Ok x.0 else Err (Syntax x.1)
