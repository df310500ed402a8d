-- What the readers of the parts of the file, of `main` and of the whole source answer.
use Rattle.std.specs.Prelude.{ℕ, suc, Bool, true, false, ◌&&◌, List, Option, Some, None, Result, Ok, Err, slice_get, length, nat_eq, if◌then◌else◌}
use Rattle.c_tree.specs.declared.lexer.tokens.Kind.{Kind}
use Rattle.c_tree.specs.declared.lexer.tokens.Pos.{Pos}
use Rattle.c_tree.specs.declared.lexer.tokens.Sign.TheVariants as s
use Rattle.c_tree.specs.declared.lexer.tokens.Word.{Word}
use Rattle.c_tree.specs.declared.lexer.tokens.Word.TheVariants as w
use Rattle.c_tree.specs.declared.expressions.Ident.{Ident}
use Rattle.c_tree.specs.declared.expressions.NumberLiteral.{NumberLiteral}
use Rattle.c_tree.specs.declared.kernels.Param.{Param}
use Rattle.c_tree.specs.Tree.{StmtTree, KernelTree, TopTree, Extern, ExternArray, FileDeclaration, Kernel, MainTree, ProgramTree}
use Rattle.c_reader.specs.declared.faults.Fault.{Fault}
use Rattle.c_reader.specs.declared.faults.Fault.TheVariants.{Syntax}
use Rattle.c_reader.specs.declared.hosts.Closing.TheVariants as closing
use Rattle.c_reader.specs.declared.leads.TopLead.{TopLead}
use Rattle.c_reader.specs.declared.leads.TopLead.TheVariants as lead
use Rattle.c_reader.specs.Descent.{◌>>=◌, sign_is, sign_at}
use Rattle.c_reader.specs.Leads.{top_lead_of}
use Rattle.c_reader.specs.Rows.{Reader, both, made, word_is, word_at, sign, word, marked, ident, number, separated, until}
use Rattle.c_reader.specs.Declarations.{declaration_at}
use Rattle.c_reader.specs.Statements.{stmt_at, stmts_in, stmt_trees}
use Rattle.c_reader.specs.Hosts.{host_at, hosts_in, host_trees}

-- an extern up to its name
abbrev pub extern_front : List Kind → Reader (Unit {0} × (Unit {0} × Ident))
extern_front ks = both (word ks w.Extern) (both (word ks w.Int) (ident ks))

-- `extern int x;` or `extern int x[];`
unfoldable pub extern_at : List Kind → Reader TopTree
extern_at ks n =
    extern_front ks n >>= λ x. if sign_is s.LeftBracket (slice_get ks x.1)
    then (both (sign ks s.RightBracket) (sign ks s.Semicolon) (suc x.1) >>= λ e. Ok (ExternArray x.0.1.1, e.1))
    else (sign_at ks s.Semicolon x.1 >>= λ e. Ok (Extern x.0.1.1, e))

-- whether a word stands there, and the place after it
abbrev pub skipped : List Kind → Word → ℕ → Bool × ℕ
skipped ks v n = if word_is v (slice_get ks n) then (true, suc n) else (false, n)

-- `int *x`
abbrev pub param_row : List Kind → Reader (Unit {0} × (Unit {0} × Ident))
param_row ks = both (word ks w.Int) (both (sign ks s.Star) (ident ks))

-- a parameter from its `int` on, `const` or not
abbrev pub param_behind : List Kind → Bool × ℕ → Result (Param × ℕ) Fault
param_behind ks c = param_row ks c.1 >>= λ v. Ok (record { is_const = c.0; name = v.0.1.1 }, v.1)

-- a parameter of a kernel
unfoldable pub param_at : List Kind → Reader Param
param_at ks n = param_behind ks (skipped ks w.Const n)

-- the parameters, and the place after their `)`
abbrev pub params_at : List Kind → Reader (List Param)
params_at ks n = separated ks (param_at ks) s.RightParen (length ks) n

-- the tokens of a kernel from its `void` on
abbrev pub kernel_row : List Kind → Reader (Unit {0} × (Ident × (Unit {0} × (List Param × (Unit {0} × (List StmtTree × Unit {0}))))))
kernel_row ks =
    both (word ks w.Void)
    (both (ident ks) (both (sign ks s.LeftParen)
    (both (params_at ks) (both (sign ks s.LeftBrace) (both (stmts_in ks (stmt_at ks 64)) (sign ks s.RightBrace))))))

-- a kernel from its `void` on, static or not and inline or not
abbrev pub kernel_behind : List Kind → Bool → Bool × ℕ → Result (KernelTree × ℕ) Fault
kernel_behind ks t i =
    kernel_row ks i.1 >>= λ v. Ok (
      record {
        is_static = t;
        is_inline = i.0;
        name = v.0.1.0;
        params = v.0.1.1.1.0;
        body = stmt_trees v.0.1.1.1.1.1.0;
      },
      v.1,
    )

-- a kernel behind its `static`, where it has one
abbrev pub kernel_after : List Kind → Bool × ℕ → Result (KernelTree × ℕ) Fault
kernel_after ks t = kernel_behind ks t.0 (skipped ks w.Inline t.1)

-- a kernel
unfoldable pub kernel_at : List Kind → Reader KernelTree
kernel_at ks n = kernel_after ks (skipped ks w.Static n)

-- which part of the file a token begins, where there is one
abbrev pub lead_in : Option Kind → TopLead
lead_in None = lead.Nothing
lead_in (Some k) = top_lead_of k

-- a part of the file, by which one its first token begins
abbrev pub top_led : List Kind → TopLead → Reader TopTree
top_led ks lead.Extern n = extern_at ks n
top_led ks lead.Declaration n = declaration_at ks 63 n >>= λ v. Ok (FileDeclaration v.0, v.1)
top_led ks lead.Kernel n = kernel_at ks n >>= λ f. Ok (Kernel f.0, f.1)
top_led ks lead.Nothing n = Err (Syntax n)

-- a part of the file before `main`
unfoldable pub top_at : List Kind → Reader TopTree
top_at ks n = top_led ks (lead_in (slice_get ks n)) n

-- whether `int main` stands there
abbrev pub begins_main : List Kind → ℕ → Bool
begins_main ks n = word_is w.Int (slice_get ks n) && word_is w.Main (slice_get ks (suc n))

-- the parts before `int main`, and its place
abbrev pub tops_at : List Kind → Reader (List TopTree)
tops_at ks n = until (begins_main ks) (top_at ks) (length ks) n

-- `**argv` or `*argv[]`: whether it has brackets
unfoldable pub argv_at : List Kind → Reader Bool
argv_at ks n =
    sign_at ks s.Star n >>= λ m. if sign_is s.Star (slice_get ks m)
    then (word_at ks w.Argv (suc m) >>= λ e. Ok (false, e))
    else (both (word ks w.Argv) (both (sign ks s.LeftBracket) (sign ks s.RightBracket)) m >>= λ e. Ok (true, e.1))

-- `return` and its number, where they stand there
unfoldable pub return_at : List Kind → Reader (Option NumberLiteral)
return_at ks n =
    if word_is w.Return (slice_get ks n)
    then (number ks (suc n) >>= λ v. sign_at ks s.Semicolon v.1 >>= λ e. Ok (Some v.0, e))
    else Ok (None, n)

-- the tokens of `main` up to its statements
abbrev pub main_front : List Kind
    → Reader (Unit {0} × (ℕ × (Unit {0} × (Unit {0} × (Unit {0} × (Unit {0} × (Unit {0} × (Bool × (Unit {0} × Unit {0})))))))))
main_front ks =
    both (word ks w.Int) (both (marked ks w.Main)
    (both (sign ks s.LeftParen)
    (both (word ks w.Int)
    (both (word ks w.Argc)
    (both (sign ks s.Comma) (both (word ks w.Char) (both (argv_at ks) (both (sign ks s.RightParen) (sign ks s.LeftBrace)))))))))

-- the tokens of `main` from its `op_exit` on
abbrev pub main_end : List Kind → Reader (ℕ × (Unit {0} × (Unit {0} × (Unit {0} × (Option NumberLiteral × Unit {0})))))
main_end ks =
    both (marked ks w.OpExit)
    (both (sign ks s.LeftParen) (both (sign ks s.RightParen) (both (sign ks s.Semicolon) (both (return_at ks) (sign ks s.RightBrace)))))

-- `main`
unfoldable pub main_at : List Kind → Reader MainTree
main_at ks =
    made (λ v. record {
      at = v.0.1.0;
      argv_has_brackets = v.0.1.1.1.1.1.1.1.0;
      body = host_trees v.1.0;
      exit_at = v.1.1.0;
      returned = v.1.1.1.1.1.1.0;
    }) (both (main_front ks) (both (hosts_in ks closing.Exit (host_at ks 64)) (main_end ks)))

-- the tree of all tokens, whose places are given
unfoldable pub whole : List Kind → List Pos → Result ProgramTree Fault
whole ks places =
    tops_at ks 0 >>= λ t. main_at ks t.1 >>= λ m. if nat_eq m.1 (length ks)
    then Ok (record {
      tops = t.0;
      main = m.0;
      places = places;
    })
    else Err (Syntax m.1)
