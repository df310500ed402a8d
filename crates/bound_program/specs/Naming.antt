-- Statements whose names that are told when `main` is unrolled are numbered anew, so that the items of all turns share one statement.
use Rattle.std.specs.Prelude.{◌≡◌, ℕ, zero, suc, pos, List, [], ◌∷◌, ◌++◌, map, option_map}
use Rattle.kernel_model.specs.View.{RExprTree, Number, Scalar, Constant, Arg, Local, Const, Unary, Binary, Choice, Paren, Extremum, Absolute}
use Rattle.bound_program.specs.Values.{ActValue, Clear, Assign, Line, Print, Exit, act_of}
use Rattle.bound_program.specs.declared.trace.steps.NamedAct.{NamedAct}

-- the k-th of the names; what isn't there is 0
abbrev pub name : List ℕ → ℕ → RExprTree
name [] k = Number (pos 0)
name (n ∷ ns) zero = Constant n
name (n ∷ ns) (suc k) = name ns k

-- the expression whose k-th name is the k-th of these
abbrev pub renamed : List ℕ → RExprTree → RExprTree
renamed ns (Number n) = Number n
renamed ns (Scalar k) = Scalar k
renamed ns (Constant k) = name ns k
renamed ns (Arg x form e at) = Arg x form (renamed ns e) at
renamed ns (Local from count form e at) = Local from count form (renamed ns e) at
renamed ns (Const from count form e at) = Const from count form (renamed ns e) at
renamed ns (Unary op e) = Unary op (renamed ns e)
renamed ns (Binary op l r at) = Binary op (renamed ns l) (renamed ns r) at
renamed ns (Choice c x y) = Choice (renamed ns c) (renamed ns x) (renamed ns y)
renamed ns (Paren e) = Paren (renamed ns e)
renamed ns (Extremum which x y) = Extremum which (renamed ns x) (renamed ns y)
renamed ns (Absolute e) = Absolute (renamed ns e)

-- the statement whose k-th name is the k-th of these
abbrev pub renamed_act : List ℕ → ActValue → ActValue
renamed_act ns (Clear v) = Clear v
renamed_act ns (Assign v i op op_at e at) = Assign v (option_map (renamed ns) i) op op_at (renamed ns e) at
renamed_act ns (Line l es) = Line l (map (renamed ns) es)
renamed_act ns (Print d file) = Print d file
renamed_act ns Exit = Exit

-- the statement whose names were numbered anew, with its own names again
abbrev pub named_act_of : NamedAct → ActValue
named_act_of a = renamed_act a.names.items (act_of a.act.value)

-- these names begin with those
abbrev pub Grows : (old new : List ℕ) → Type 0
Grows old new = (more : List ℕ) × (new ≡ old ++ more)

-- x has the names of e, whatever further names there are
abbrev pub Spells : List ℕ → (x e : RExprTree) → Type 0
Spells ns x e = (more : List ℕ) → renamed (ns ++ more) x ≡ e

-- the expressions xs have the names of es, whatever further names there are
abbrev pub SpellAll : List ℕ → (xs es : List RExprTree) → Type 0
SpellAll ns xs es = (more : List ℕ) → map (renamed (ns ++ more)) xs ≡ es
