-- A source of which names and types refuse nothing: the premises of the law that bound programs fit can be met.
use Rattle.std.proofs.Common.{◌≡◌, ◌∙◌, refl, sym, subst, ℕ, pos, true, false, List, [], ◌∷◌, Some, None, codes, arith}
use Rattle.std.specs.Prelude.{◌≢◌, All, bytes_eq}
use Rattle.std.proofs.lemmas.List.Elements.{All-nil, All-from_recursion}
use Rattle.std.proofs.lemmas.Slice.Eq.{bytes_eq-Decides}
use Rattle.c_tree.specs.declared.declarations.AssignOp.TheVariants as assign
use Rattle.c_tree.specs.declared.expressions.Ident.{Ident}
use Rattle.c_tree.specs.declared.expressions.NumberLiteral.{NumberLiteral}
use Rattle.c_tree.specs.declared.expressions.TextLiteral.{TextLiteral}
use Rattle.c_tree.specs.Tree as tree
use Rattle.c_tree.specs.Tree.{DeclrTree, TopTree, HostTrees, ProgramTree}
use Rattle.kernel_model.specs.declared.types.kernels.ConstDecl.{ConstDecl}
use Rattle.kernel_model.specs.declared.types.kernels.RKernel.{RKernel}
use Rattle.kernel_model.specs.declared.types.kernels.Resolved.{Resolved}
use Rattle.kernel_model.specs.Resolved.{AreResolved, cells_of, FollowOn}
use Rattle.main_declarations.specs.SoFar.{first_cell}
use Rattle.name_resolution.specs.Programs.{named_in}
use Rattle.bound_program.specs.Fits.{UsesConstants}
use Rattle.loop_bind.specs.Sources.{HasNumbers, IsRead, TopIsRead, HostsAreRead}
use Rattle.loop_bind.specs.FileVariables.{FileVariable, file_variables, NamesApart, AreConstants, AreFound, AreOfOne}
use Rattle.loop_bind.specs.ResolvedSources.{IsResolvedSource}
use Rattle.main_declarations.proofs.Public.{never}

-- int x; const int c = 5; int a[2]; .. x = 1; op_decl_const(1, "int", &x); op_printf("%d", c);

abbrev named : List ℕ → Ident
named x = record { name = x; at = 0 }

abbrev numeral : ℕ → NumberLiteral
numeral n = record { value = pos n; at = 0 }

abbrev quoted : List ℕ → TextLiteral
quoted l = record { text = l; at = 0 }

abbrev five : DeclrTree
five = tree.Init (named (codes "c")) (tree.Number (numeral 5))

abbrev x_declr : DeclrTree
x_declr = tree.Plain (named (codes "x"))

abbrev a_declr : DeclrTree
a_declr = tree.Array (named (codes "a")) (numeral 2)

abbrev tops : List TopTree
tops =
    tree.FileDeclaration (record { is_const = false; at = 0; declrs = x_declr ∷ [] })
    ∷ tree.FileDeclaration (record { is_const = true; at = 0; declrs = five ∷ [] })
    ∷ tree.FileDeclaration (record { is_const = false; at = 0; declrs = a_declr ∷ [] }) ∷ []

abbrev body : HostTrees
body =
    tree.MoreHost (tree.HostAssign (record { place = tree.Scalar (named (codes "x")); op = assign.Set; at = 0; value = tree.Number (numeral 1) }))
    (tree.MoreHost (tree.HostCall (tree.DeclConst 0 (numeral 1) (quoted (codes "int")) (record { ampersand = Some 0; name = named (codes "x") })))
    (tree.MoreHost (tree.HostCall (tree.Printf 0 (quoted (codes "%d")) (tree.Name (named (codes "c")) ∷ []))) tree.NoHost))

abbrev program : ProgramTree
program = record { tops = tops; main = record { at = 0; argv_has_brackets = false; body = body; exit_at = 0; returned = None }; places = [] }

abbrev constants : List ConstDecl
constants = (record { name = codes "x"; from = 0; count = 1 }) ∷ (record { name = codes "c"; from = 1; count = 1 }) ∷ []

differ : (x y : List ℕ) → bytes_eq x y ≡ false → x ≢ y
differ x y e q = never (sym ((bytes_eq-Decides x y).1 q) ∙ e)

abbrev f_x : FileVariable
f_x = record { name = codes "x"; is_const = false; count = 1 }

abbrev f_c : FileVariable
f_c = record { name = codes "c"; is_const = true; count = 1 }

abbrev f_a : FileVariable
f_a = record { name = codes "a"; is_const = false; count = 2 }

found : AreFound constants
found = All-from_recursion (λ (c : ConstDecl). first_cell constants c.name ≡ Some c.from) constants (refl, (refl, tt))

apart : NamesApart (file_variables tops)
apart = (
  All-from_recursion (λ (g : FileVariable). codes "x" ≢ g.name) (f_c ∷ f_a ∷ []) (differ (codes "x") (codes "c") refl, (differ (codes "x") (codes "a") refl, tt)),
  (All-from_recursion (λ (g : FileVariable). codes "c" ≢ g.name) (f_a ∷ []) (differ (codes "c") (codes "a") refl, tt), (All-nil (λ (g : FileVariable). codes "a" ≢ g.name), tt)),
)

tops_read : All TopIsRead tops
tops_read = All-from_recursion TopIsRead tops (
  All-from_recursion IsRead (x_declr ∷ []) (tt, tt),
  (
    All-from_recursion IsRead (five ∷ []) (record { sfits = omega arith }, tt),
    (All-from_recursion IsRead (a_declr ∷ []) (omega arith, tt), tt),
  ),
)

body_read : HostsAreRead body
body_read = ((tt, record { sfits = omega arith }), (tt, (All-from_recursion HasNumbers (tree.Name (named (codes "c")) ∷ []) (tt, tt), tt)))

module _ (r : Resolved) (no_kernels : r.kernels.items ≡ []) (consts : r.consts.items ≡ constants) where
  met : IsResolvedSource program r
  met = record {
    resolved = record {
      consts = subst (FollowOn 0) (sym consts) (refl, (refl, tt));
      kernels = subst (AreResolved (cells_of r.consts.items)) (sym no_kernels) tt;
    };
    takes = tt;
    uses = subst (All (λ (k : RKernel). UsesConstants (AreOfOne r.consts.items) k.body.statement)) (sym no_kernels)
        (All-nil (λ (k : RKernel). UsesConstants (AreOfOne r.consts.items) k.body.statement));
    constants = subst (AreConstants (named_in program) (file_variables tops)) (sym consts) (refl, refl, (refl, refl, tt));
    found = subst AreFound (sym consts) found;
    apart = apart;
    tops = tops_read;
    body = body_read;
    assigns = (tt, (tt, (tt, tt)));
  }
