-- What the readers of the statements of `main` answer, with d levels of nesting left.
use Rattle.std.specs.Prelude.{ℕ, zero, suc, Bool, ◌||◌, List, [], ◌∷◌, Option, Some, None, Ok, Err, slice_get, length, if◌then◌else◌}
use Rattle.c_tree.specs.declared.lexer.tokens.Kind.{Kind}
use Rattle.c_tree.specs.declared.lexer.tokens.Sign.TheVariants as s
use Rattle.c_tree.specs.declared.lexer.tokens.Word.TheVariants as w
use Rattle.c_tree.specs.declared.expressions.Ident.{Ident}
use Rattle.c_tree.specs.Tree.{ExprTree, HostForHeaderTree, HostTree, HostDeclaration, HostBlock, HostEmpty, HostAssign, HostIf, HostIfElse, HostFor, HostCall, HostTrees, NoHost, MoreHost}
use Rattle.c_reader.specs.declared.faults.Fault.TheVariants.{Syntax, TooDeep}
use Rattle.c_reader.specs.declared.hosts.Closing.{Closing}
use Rattle.c_reader.specs.declared.hosts.Closing.TheVariants as closing
use Rattle.c_reader.specs.declared.leads.HostLead.{HostLead}
use Rattle.c_reader.specs.declared.leads.HostLead.TheVariants as lead
use Rattle.c_reader.specs.Descent.{◌>>=◌, sign_is, sign_at, read}
use Rattle.c_reader.specs.Leads.{host_lead_of}
use Rattle.c_reader.specs.Rows.{Reader, both, word_is, sign, word, marked, ident, until}
use Rattle.c_reader.specs.Declarations.{declaration_at, assignment_at}
use Rattle.c_reader.specs.Statements.{condition_at, same_ident}
use Rattle.c_reader.specs.Calls.{call_at}

-- the head of a `for` up to its first `;`
abbrev pub for_front : List Kind → ℕ → Reader (ℕ × (Unit {0} × (Unit {0} × (Ident × (Unit {0} × (ExprTree × Unit {0}))))))
for_front ks d =
    both (marked ks w.For)
    (both (sign ks s.LeftParen)
    (both (word ks w.Int) (both (ident ks) (both (sign ks s.Assign) (both (read ks d 0) (sign ks s.Semicolon))))))

-- the head of a `for` behind its first `;`, where x is its counter
abbrev pub for_behind : List Kind → ℕ → Ident → Reader (Ident × (Unit {0} × (ExprTree × (Unit {0} × (Ident × (Unit {0} × Unit {0}))))))
for_behind ks d x =
    both (same_ident ks x)
    (both (sign ks s.Less)
    (both (read ks d 0) (both (sign ks s.Semicolon) (both (same_ident ks x) (both (sign ks s.PlusPlus) (sign ks s.RightParen))))))

-- the head of a `for`
unfoldable pub for_header_at : List Kind → ℕ → Reader HostForHeaderTree
for_header_at ks d n =
    for_front ks d n >>= λ a. for_behind ks d a.0.1.1.1.0 a.1 >>= λ b. Ok (
      record {
        at = a.0.0;
        name = a.0.1.1.1.0;
        from = a.0.1.1.1.1.1.0;
        tested = b.0.0;
        to = b.0.1.1.0;
        stepped = b.0.1.1.1.1.0;
      },
      b.1,
    )

-- which statement a token begins, where there is one
abbrev pub lead_in : Option Kind → HostLead
lead_in None = lead.Nothing
lead_in (Some k) = host_lead_of k

-- the statements as a tree keeps them
abbrev pub host_trees : List HostTree → HostTrees
host_trees [] = NoHost
host_trees (h ∷ hs) = MoreHost h (host_trees hs)

-- whether a declaration begins there
abbrev pub declares : Option Kind → Bool
declares k = word_is w.Int k || word_is w.Const k

-- the whole body of an `if` or a `for`, which is no declaration
abbrev pub body_at : List Kind → Reader HostTree → Reader HostTree
body_at ks rec n = if declares (slice_get ks n) then Err (Syntax n) else rec n

-- whether what closes the statements stands there
abbrev pub is_closed : List Kind → Closing → ℕ → Bool
is_closed ks closing.Brace n = sign_is s.RightBrace (slice_get ks n)
is_closed ks closing.Exit n = word_is w.OpExit (slice_get ks n)

-- the statements up to what closes them, and its place
abbrev pub hosts_in : List Kind → Closing → Reader HostTree → Reader (List HostTree)
hosts_in ks c rec n = until (is_closed ks c) rec (length ks) n

-- an `if`, with its `else` where one stands behind its body
unfoldable pub if_at : List Kind → ℕ → Reader HostTree → Reader HostTree
if_at ks d rec n =
    condition_at ks d n
    >>= λ c. body_at ks rec c.1
    >>= λ s. if word_is w.Else (slice_get ks s.1)
    then (body_at ks rec (suc s.1) >>= λ t. Ok (HostIfElse n c.0 s.0 t.0, t.1))
    else Ok (HostIf n c.0 s.0, s.1)

-- a statement, by which one its first token begins
abbrev pub host_led : List Kind → ℕ → Reader HostTree → HostLead → Reader HostTree
host_led ks d rec lead.Declaration n = declaration_at ks d n >>= λ v. Ok (HostDeclaration v.0, v.1)
host_led ks d rec lead.Block n =
    sign_at ks s.LeftBrace n
    >>= λ o. hosts_in ks closing.Brace rec o
    >>= λ b. sign_at ks s.RightBrace b.1
    >>= λ e. Ok (HostBlock n (host_trees b.0), e)
host_led ks d rec lead.Empty n = sign_at ks s.Semicolon n >>= λ e. Ok (HostEmpty n, e)
host_led ks d rec lead.Assignment n = assignment_at ks d n >>= λ a. Ok (HostAssign a.0, a.1)
host_led ks d rec lead.If n = if_at ks d rec n
host_led ks d rec lead.For n = for_header_at ks d n >>= λ h. body_at ks rec h.1 >>= λ s. Ok (HostFor h.0 s.0, s.1)
host_led ks d rec (lead.Call c) n = call_at ks d c n >>= λ x. Ok (HostCall x.0, x.1)
host_led ks d rec lead.Nothing n = Err (Syntax n)

-- a statement of `main`
unfoldable pub host_at : List Kind → ℕ → Reader HostTree
host_at ks zero n = Err (TooDeep n)
host_at ks (suc d) n = host_led ks d (host_at ks d) (lead_in (slice_get ks n)) n
