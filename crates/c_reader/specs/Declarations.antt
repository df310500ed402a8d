-- What the readers of declarations and assignments answer, with d levels left for their expressions.
use Rattle.std.specs.Prelude.{ℕ, suc, Bool, true, false, List, Option, Some, None, Ok, Err, slice_get, length, if◌then◌else◌}
use Rattle.c_tree.specs.declared.lexer.tokens.Kind.{Kind}
use Rattle.c_tree.specs.declared.lexer.tokens.Kind.TheVariants as kind
use Rattle.c_tree.specs.declared.lexer.tokens.Sign.TheVariants as s
use Rattle.c_tree.specs.declared.lexer.tokens.Word.TheVariants as w
use Rattle.c_tree.specs.declared.expressions.Ident.{Ident}
use Rattle.c_tree.specs.declared.declarations.AssignOp.{AssignOp}
use Rattle.c_tree.specs.Tree.{ExprTree, DeclrTree, Plain, Init, Array, DeclarationTree, PlaceTree, Scalar, Element, Target, AssignmentTree}
use Rattle.c_reader.specs.declared.faults.Fault.TheVariants.{Syntax}
use Rattle.c_reader.specs.Descent.{◌>>=◌, sign_is, sign_at, read}
use Rattle.c_reader.specs.Leads.{assign_of}
use Rattle.c_reader.specs.Rows.{Reader, both, made, sign, word_is, word_at, ident, number, separated}

-- a declared variable without a value
abbrev pub unset : List Kind → Bool → Ident → Reader DeclrTree
unset ks true x n = Err (Syntax n)
unset ks false x n =
    if sign_is s.LeftBracket (slice_get ks n)
    then (number ks (suc n) >>= λ v. sign_at ks s.RightBracket v.1 >>= λ e. Ok (Array x v.0, e))
    else Ok (Plain x, n)

-- a declared variable, of a `const` where c is true
unfoldable pub declr_at : List Kind → ℕ → Bool → Reader DeclrTree
declr_at ks d c n =
    ident ks n >>= λ x. if sign_is s.Assign (slice_get ks x.1)
    then (read ks d 0 (suc x.1) >>= λ v. Ok (Init x.0 v.0, v.1))
    else unset ks c x.0 x.1

-- a declaration from its `int` on
unfoldable pub declaration_behind : List Kind → ℕ → Bool → Reader DeclarationTree
declaration_behind ks d c n =
    word_at ks w.Int n
    >>= λ m. separated ks (declr_at ks d c) s.Semicolon (length ks) m
    >>= λ ds. Ok (
      record {
        is_const = c;
        at = n;
        declrs = ds.0;
      },
      ds.1,
    )

-- a declaration
unfoldable pub declaration_at : List Kind → ℕ → Reader DeclarationTree
declaration_at ks d n =
    if word_is w.Const (slice_get ks n) then declaration_behind ks d true (suc n) else declaration_behind ks d false n

-- a target that begins with a name
abbrev pub named_place : List Kind → ℕ → Ident → Reader PlaceTree
named_place ks d x n =
    if sign_is s.LeftBracket (slice_get ks n)
    then (read ks d 0 (suc n) >>= λ i. sign_at ks s.RightBracket i.1 >>= λ e. Ok (Element x i.0, e))
    else Ok (Scalar x, n)

-- the target of an assignment
unfoldable pub place_at : List Kind → ℕ → Reader PlaceTree
place_at ks d n =
    if sign_is s.Star (slice_get ks n)
    then (ident ks (suc n) >>= λ x. Ok (Target n x.0, x.1))
    else (ident ks n >>= λ x. named_place ks d x.0 x.1)

-- the assignment, where there is one
abbrev pub assign_or : Option AssignOp → Reader AssignOp
assign_or None n = Err (Syntax n)
assign_or (Some op) n = Ok (op, suc n)

-- the assignment that a token is the sign of
abbrev pub assign_in : Option Kind → Reader AssignOp
assign_in (Some (kind.Sign s)) n = assign_or (assign_of s) n
assign_in _ n = Err (Syntax n)

-- the sign of an assignment
unfoldable pub assign_at : List Kind → Reader AssignOp
assign_at ks n = assign_in (slice_get ks n) n

-- the sign of an assignment, and its number
abbrev pub placed_assign : List Kind → Reader (AssignOp × ℕ)
placed_assign ks n = assign_at ks n >>= λ o. Ok ((o.0, n), o.1)

-- the tokens of an assignment, one after another
abbrev pub assignment_row : List Kind → ℕ → Reader (PlaceTree × ((AssignOp × ℕ) × (ExprTree × Unit {0})))
assignment_row ks d = both (place_at ks d) (both (placed_assign ks) (both (read ks d 0) (sign ks s.Semicolon)))

-- the assignment that such tokens are
abbrev pub assigned : PlaceTree × ((AssignOp × ℕ) × (ExprTree × Unit {0})) → AssignmentTree
assigned v = record { place = v.0; op = v.1.0.0; at = v.1.0.1; value = v.1.1.0 }

-- an assignment
unfoldable pub assignment_at : List Kind → ℕ → Reader AssignmentTree
assignment_at ks d n = made assigned (assignment_row ks d) n
