-- Small programs, bound: what they declare, what they unroll to, and why they are refused.
use Rattle.std.proofs.Common.{◌≡◌, refl, ℕ, zero, suc, pos, Bool, true, false, List, [], ◌∷◌, Some, None, Ok, Err, codes}
use Rattle.c_tree.specs.declared.lexer.tokens.Pos.{Pos}
use Rattle.c_tree.specs.declared.declarations.AssignOp.TheVariants as assign
use Rattle.c_tree.specs.declared.expressions.BinaryOp.TheVariants as binary
use Rattle.c_tree.specs.declared.expressions.Ident.{Ident}
use Rattle.c_tree.specs.declared.expressions.NumberLiteral.{NumberLiteral}
use Rattle.c_tree.specs.declared.expressions.TextLiteral.{TextLiteral}
use Rattle.c_tree.specs.declared.hosts.AccessWord.TheVariants as word
use Rattle.c_tree.specs.declared.hosts.ArgVia.TheVariants as via
use Rattle.c_tree.specs.declared.hosts.LoopArg.TheVariants as arg
use Rattle.c_tree.specs.Tree as tree
use Rattle.c_tree.specs.Tree.{ExprTree, DeclrTree, TopTree, HostTree, HostTrees}
use Rattle.kernel_model.specs.declared.types.kernels.ConstDecl.{ConstDecl}
use Rattle.mesh_decl.specs.declared.text.entry.Entry.TheVariants.{Many}
use Rattle.mesh_decl.specs.Spelling.{Named}
use Rattle.mesh_decl.specs.Mesh.{size_in, map_from, map_to, map_dim, dat_set, dat_dim}
use Rattle.bound_program.specs.declared.refusals.refusals.BindRefusal.TheVariants as refusal
use Rattle.kernel_model.specs.View.{Number, Scalar, Binary}
use Rattle.bound_program.specs.Values.{Assign, Line, Exit, ItemValue, Free, Host, VarValue}
use Rattle.bound_program.specs.Refusals.{Judged, ◌>>=◌}
use Rattle.main_declarations.specs.SoFar.{Walked, quiet, nothing_declared}
use Rattle.main_declarations.specs.File.{judged_tops}
use Rattle.loop_bind.specs.Text.{judged_hosts, outermost}
use Rattle.bound_program.specs.Trace.{turns}
use Rattle.loop_bind.specs.Weights.{trace, with_told}
use Rattle.loop_bind.specs.Bound.{happens}

-- ---- trees

-- each token stands on line 1, in the column of its number
abbrev columns : ℕ → ℕ → List Pos
columns n zero = []
columns n (suc k) = record { line = 1; column = n } ∷ columns (suc n) k

abbrev places : List Pos
places = columns 0 60

abbrev column : ℕ → Pos
column n = record { line = 1; column = n }

abbrev named : List ℕ → ℕ → Ident
named x t = record { name = x; at = t }

abbrev numeral : ℕ → ℕ → NumberLiteral
numeral n t = record { value = pos n; at = t }

abbrev quoted : List ℕ → ℕ → TextLiteral
quoted l t = record { text = l; at = t }

abbrev int_text : TextLiteral
int_text = quoted (codes "int") 0

-- an expression that is a number or a name
abbrev n_ : ℕ → ExprTree
n_ n = tree.Number (numeral n 0)

abbrev x_ : List ℕ → ExprTree
x_ x = tree.Name (named x 0)

abbrev declares : Bool → List DeclrTree → HostTree
declares c ds = tree.HostDeclaration (record { is_const = c; at = 0; declrs = ds })

abbrev file_declares : Bool → List DeclrTree → TopTree
file_declares c ds = tree.FileDeclaration (record { is_const = c; at = 0; declrs = ds })

abbrev all_of : List HostTree → HostTrees
all_of [] = tree.NoHost
all_of (h ∷ hs) = tree.MoreHost h (all_of hs)

-- a kernel with one parameter
abbrev kernel : List ℕ → TopTree
kernel x = tree.Kernel (record {
  is_static = false;
  is_inline = false;
  name = named x 0;
  params = (record { is_const = false; name = named (codes "p") 0 }) ∷ [];
  body = tree.NoStmt;
})

abbrev set : List ℕ → ℕ → HostTree
set x n = tree.HostCall (tree.DeclSet 0 (named x 0) (n_ n) int_text)

abbrev prints : List ExprTree → HostTree
prints es = tree.HostCall (tree.Printf 0 (quoted (codes "%d") 0) es)

-- ---- what they are bound to

-- what the text declares
abbrev read : List ConstDecl → List Named → List TopTree → List HostTree → Judged Walked
read consts es ts hs =
    judged_tops places consts es nothing_declared ts >>= λ k. judged_hosts places consts es (quiet k) outermost (all_of hs)

-- the trace
abbrev trace_of : Judged Walked → Judged (List ItemValue)
trace_of r = r >>= λ w. trace w.declared.mesh (happens w) >>= λ u. Ok u.items

-- the variables behind the trace
abbrev vars_of : Judged Walked → Judged (List VarValue)
vars_of r = r >>= λ w. trace w.declared.mesh (happens w) >>= λ u. Ok (with_told u.values w.declared.vars)

-- ---- int x = 5; .. x = x + 1; op_printf("%d", x);

abbrev assigned : Judged Walked
assigned = read [] [] (file_declares false (tree.Init (named (codes "x") 0) (n_ 5) ∷ []) ∷ [])
    (tree.HostAssign (record {
      place = tree.Scalar (named (codes "x") 11);
      op = assign.Set;
      at = 12;
      value =
          tree.Binary binary.Add 14 (x_ (codes "x")) (n_ 1);
    }) ∷ prints (x_ (codes "x") ∷ []) ∷ [])

-- a variable of the file stays a variable
file_variable_is_read : trace_of assigned ≡ Ok
    (Host (Assign 0 None assign.Set (column 12) (Binary binary.Add (Scalar 0) (Number (pos 1)) (column 14)) (column 11))
    ∷ Host (Line (codes "%d") (Scalar 0 ∷ [])) ∷ Host Exit ∷ [])
file_variable_is_read = refl

file_variable_starts : vars_of assigned ≡ Ok ((record { name = codes "x"; start = pos 5 ∷ []; constant = None; is_const = false }) ∷ [])
file_variable_starts = refl

-- ---- const int c = 5; as a constant of kernels, and a value of `main`

abbrev constant : Judged Walked
constant = read ((record { name = codes "c"; from = 3; count = 1 }) ∷ []) [] (file_declares true (tree.Init (named (codes "c") 0) (n_ 5) ∷ []) ∷ []) (prints (x_ (codes "c") ∷ []) ∷ [])

constant_has_its_cell : vars_of constant ≡ Ok ((record { name = codes "c"; start = pos 5 ∷ []; constant = Some 3; is_const = true }) ∷ [])
constant_has_its_cell = refl

constant_is_a_number : trace_of constant ≡ Ok (Host (Line (codes "%d") (Number (pos 5) ∷ [])) ∷ Host Exit ∷ [])
constant_is_a_number = refl

-- ---- { const int c = 7; op_par_loop(k, "..", s, op_arg_gbl(&c, 1, "int", OP_READ)); }

abbrev block_const : Judged Walked
block_const = read [] [] (kernel (codes "k") ∷ [])
    (set (codes "s") 2 ∷ tree.HostBlock 0
    (all_of (declares true (tree.Init (named (codes "c") 0) (n_ 7) ∷ [])
    ∷ tree.HostCall (tree.ParLoop 9 (named (codes "k") 0) int_text (named (codes "s") 0)
    (arg.Global 0 (record { ampersand = Some 0; name = named (codes "c") 0 }) (numeral 1 0) int_text word.Read 0 ∷ [])) ∷ [])) ∷ [])

-- the value of a `const` name of a block is told when `main` is unrolled
block_const_starts : vars_of block_const ≡ Ok ((record { name = codes "c"; start = pos 7 ∷ []; constant = None; is_const = true }) ∷ [])
block_const_starts = refl

block_const_is_read : trace_of block_const ≡ Ok (Free 0 ∷ Host Exit ∷ [])
block_const_is_read = refl

-- ---- -0 by a map

abbrev minus_zero : Judged Walked
minus_zero = read [] ((codes "a", Many (pos 0 ∷ pos 1 ∷ [])) ∷ []) (kernel (codes "k") ∷ tree.ExternArray (named (codes "a") 0) ∷ [])
    (set (codes "s") 2 ∷ tree.HostCall
    (tree.DeclMap 0 (named (codes "m") 0) (named (codes "s") 0) (named (codes "s") 0) (numeral 1 0) (named (codes "a") 0) int_text)
    ∷ tree.HostCall (tree.DeclDat 0 (named (codes "d") 0) (named (codes "s") 0) (numeral 1 0) int_text (named (codes "a") 0) int_text)
    ∷ tree.HostCall (tree.ParLoop 9 (named (codes "k") 0) int_text (named (codes "s") 0)
    (arg.Dat 0 (named (codes "d") 0) (record { is_negative = true; at = 17; value = pos 0 }) (via.Map (named (codes "m") 0)) (numeral 1 0)
    int_text word.Read 0 ∷ [])) ∷ [])

minus_zero_is_out_of_range : minus_zero ≡ Err (refusal.IndexRange (column 17))
unfolding size_in map_from map_to map_dim dat_set dat_dim
minus_zero_is_out_of_range = refl

-- ---- turns

abbrev turn : List ℕ → (from to : ExprTree) → HostTree → HostTree
turn x from to h = tree.HostFor (record { at = 0; name = named x 0; from = from; tested = named x 0; to = to; stepped = named x 0 }) h

abbrev line_of : ℕ → ItemValue
line_of n = Host (Line (codes "%d") (Number (pos n) ∷ []))

no_turn : trace_of (read [] [] [] (turn (codes "i") (n_ 3) (n_ 3) (prints (x_ (codes "i") ∷ [])) ∷ [])) ≡ Ok (Host Exit ∷ [])
unfolding turns
no_turn = refl

-- the inner bound is the outer counter
nested_turns : trace_of (read [] [] []
    (turn (codes "i") (n_ 1) (n_ 3) (turn (codes "j") (n_ 0) (x_ (codes "i")) (prints (x_ (codes "j") ∷ []))) ∷ [])) ≡ Ok
    (line_of 0 ∷ line_of 0 ∷ line_of 1 ∷ Host Exit ∷ [])
unfolding turns
nested_turns = refl

-- if (0) .. else ..
else_is_taken : trace_of (read [] [] [] (tree.HostIfElse 0 (n_ 0) (prints (n_ 1 ∷ [])) (prints (n_ 2 ∷ [])) ∷ [])) ≡ Ok (line_of 2 ∷ Host Exit ∷ [])
else_is_taken = refl

-- a fault in a branch that is not taken is none
fault_is_not_reached : trace_of
    (read [] [] [] (tree.HostIf 0 (n_ 0)
    (tree.HostBlock 0 (all_of (declares true (tree.Init (named (codes "c") 0) (tree.Binary binary.Div 5 (n_ 1) (n_ 0)) ∷ []) ∷ []))) ∷ []))
    ≡ Ok (Host Exit ∷ [])
fault_is_not_reached = refl

fault_is_reached : trace_of (read [] [] []
    (tree.HostIf 0 (n_ 1) (tree.HostBlock 0
    (all_of (declares true (tree.Init (named (codes "c") 0) (tree.Binary binary.Div 5 (tree.Number (numeral 1 4)) (n_ 0)) ∷ []) ∷ [])))
    ∷ [])) ≡ Err (refusal.ControlNotStatic (column 4))
fault_is_reached = refl

-- a bound that isn't known before the run
not_static : trace_of (read [] [] (file_declares false (tree.Plain (named (codes "x") 0) ∷ []) ∷ [])
    (turn (codes "i") (n_ 0) (tree.Name (named (codes "x") 8)) (tree.HostEmpty 0) ∷ [])) ≡ Err (refusal.ControlNotStatic (column 8))
not_static = refl
