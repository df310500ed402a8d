-- What the readers of statements answer, with d levels of nesting left.
use Rattle.std.specs.Prelude.{ℕ, zero, suc, List, [], ◌∷◌, Option, Some, None, Ok, Err, slice_get, length, if◌then◌else◌}
use Rattle.std.specs.Str.{bytes_eq}
use Rattle.c_tree.specs.declared.lexer.tokens.Kind.{Kind}
use Rattle.c_tree.specs.declared.lexer.tokens.Sign.TheVariants as s
use Rattle.c_tree.specs.declared.lexer.tokens.Word.TheVariants as w
use Rattle.c_tree.specs.declared.expressions.Ident.{Ident}
use Rattle.c_tree.specs.declared.expressions.NumberLiteral.{NumberLiteral}
use Rattle.c_tree.specs.declared.kernels.ForHeader.{ForHeader}
use Rattle.c_tree.specs.Tree.{ExprTree, StmtTree, LocalDeclaration, Block, Empty, Assign, If, IfElse, For, StmtTrees, NoStmt, MoreStmt}
use Rattle.c_reader.specs.declared.faults.Fault.TheVariants.{Syntax, TooDeep}
use Rattle.c_reader.specs.declared.leads.StmtLead.{StmtLead}
use Rattle.c_reader.specs.declared.leads.StmtLead.TheVariants as lead
use Rattle.c_reader.specs.Descent.{◌>>=◌, sign_is, sign_at, read}
use Rattle.c_reader.specs.Leads.{stmt_lead_of}
use Rattle.c_reader.specs.Rows.{Reader, both, made, word_is, sign, word, marked, ident, number, until}
use Rattle.c_reader.specs.Declarations.{declaration_at, assignment_at}

-- the tokens of the head of an `if`
abbrev pub condition_row : List Kind → ℕ → Reader (ℕ × (Unit {0} × (ExprTree × Unit {0})))
condition_row ks d = both (marked ks w.If) (both (sign ks s.LeftParen) (both (read ks d 0) (sign ks s.RightParen)))

-- the condition in the head of an `if`
abbrev pub condition_at : List Kind → ℕ → Reader ExprTree
condition_at ks d = made (λ v. v.1.1.0) (condition_row ks d)

-- a name that is the same as x
unfoldable pub same_ident : List Kind → Ident → Reader Ident
same_ident ks x n = ident ks n >>= λ y. if bytes_eq y.0.name x.name then Ok y else Err (Syntax n)

-- the head of a `for` up to its first `;`
abbrev pub for_front : List Kind → Reader (ℕ × (Unit {0} × (Unit {0} × (Ident × (Unit {0} × (NumberLiteral × Unit {0}))))))
for_front ks =
    both (marked ks w.For)
    (both (sign ks s.LeftParen)
    (both (word ks w.Int) (both (ident ks) (both (sign ks s.Assign) (both (number ks) (sign ks s.Semicolon))))))

-- the head of a `for` behind its first `;`, where x is its counter
abbrev pub for_behind : List Kind → Ident → Reader (Ident × (Unit {0} × (NumberLiteral × (Unit {0} × (Ident × (Unit {0} × Unit {0}))))))
for_behind ks x =
    both (same_ident ks x)
    (both (sign ks s.Less)
    (both (number ks) (both (sign ks s.Semicolon) (both (same_ident ks x) (both (sign ks s.PlusPlus) (sign ks s.RightParen))))))

-- the head of a `for`
unfoldable pub for_header_at : List Kind → Reader ForHeader
for_header_at ks n =
    for_front ks n >>= λ a. for_behind ks a.0.1.1.1.0 a.1 >>= λ b. Ok (
      record {
        at = a.0.0;
        name = a.0.1.1.1.0;
        from = a.0.1.1.1.1.1.0;
        tested = b.0.0;
        to = b.0.1.1.0;
        stepped = b.0.1.1.1.1.0;
      },
      b.1,
    )

-- which statement a token begins, where there is one
abbrev pub lead_in : Option Kind → StmtLead
lead_in None = lead.Nothing
lead_in (Some k) = stmt_lead_of k

-- the statements as a tree keeps them
abbrev pub stmt_trees : List StmtTree → StmtTrees
stmt_trees [] = NoStmt
stmt_trees (s ∷ ss) = MoreStmt s (stmt_trees ss)

-- the whole body of an `if` or a `for`, which is no declaration
abbrev pub body_at : List Kind → Reader StmtTree → Reader StmtTree
body_at ks rec n = if word_is w.Int (slice_get ks n) then Err (Syntax n) else rec n

-- the statements up to `}`, and its place
abbrev pub stmts_in : List Kind → Reader StmtTree → Reader (List StmtTree)
stmts_in ks rec n = until (λ m. sign_is s.RightBrace (slice_get ks m)) rec (length ks) n

-- an `if`, with its `else` where one stands behind its body
unfoldable pub if_at : List Kind → ℕ → Reader StmtTree → Reader StmtTree
if_at ks d rec n =
    condition_at ks d n
    >>= λ c. body_at ks rec c.1
    >>= λ s. if word_is w.Else (slice_get ks s.1)
    then (body_at ks rec (suc s.1) >>= λ t. Ok (IfElse n c.0 s.0 t.0, t.1))
    else Ok (If n c.0 s.0, s.1)

-- a statement, by which one its first token begins
abbrev pub stmt_led : List Kind → ℕ → Reader StmtTree → StmtLead → Reader StmtTree
stmt_led ks d rec lead.Declaration n = declaration_at ks d n >>= λ v. Ok (LocalDeclaration v.0, v.1)
stmt_led ks d rec lead.Block n =
    sign_at ks s.LeftBrace n
    >>= λ o. stmts_in ks rec o
    >>= λ b. sign_at ks s.RightBrace b.1
    >>= λ e. Ok (Block n (stmt_trees b.0), e)
stmt_led ks d rec lead.Empty n = sign_at ks s.Semicolon n >>= λ e. Ok (Empty n, e)
stmt_led ks d rec lead.Assignment n = assignment_at ks d n >>= λ a. Ok (Assign a.0, a.1)
stmt_led ks d rec lead.If n = if_at ks d rec n
stmt_led ks d rec lead.For n = for_header_at ks n >>= λ h. body_at ks rec h.1 >>= λ s. Ok (For h.0 s.0, s.1)
stmt_led ks d rec lead.Nothing n = Err (Syntax n)

-- a statement of a kernel
unfoldable pub stmt_at : List Kind → ℕ → Reader StmtTree
stmt_at ks zero n = Err (TooDeep n)
stmt_at ks (suc d) n = stmt_led ks d (stmt_at ks d) (lead_in (slice_get ks n)) n
