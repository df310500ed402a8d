-- Bound programs without where they lie in memory.
use Rattle.std.specs.Prelude.{ℕ, ℤ, Bool, false, List, [], map, Option, None, option_map}
use Rattle.c_tree.specs.declared.lexer.tokens.Pos.{Pos}
use Rattle.c_tree.specs.declared.declarations.AssignOp.{AssignOp}
use Rattle.kernel_model.specs.declared.types.kernels.RKernel.{RKernel}
use Rattle.mesh_decl.specs.Mesh.{MeshValue}
use Rattle.kernel_model.specs.View.{RExprTree, rexpr_of}
use Rattle.bound_program.specs.declared.acts.Act.{Act}
use Rattle.bound_program.specs.declared.acts.Act.TheVariants as a
use Rattle.bound_program.specs.declared.acts.ToldAct.{ToldAct}
use Rattle.bound_program.specs.declared.acts.Item.{Item}
use Rattle.bound_program.specs.declared.acts.Item.TheVariants as i
use Rattle.bound_program.specs.HostExpr.{closed}
use Rattle.bound_program.specs.declared.programs.Var.{Var}
use Rattle.bound_program.specs.declared.programs.Bound.{Bound}
use Rattle.bound_program.specs.declared.sites.Arg.{Arg}
use Rattle.bound_program.specs.declared.sites.Class.{Class}
use Rattle.bound_program.specs.declared.sites.Class.TheVariants as c
use Rattle.bound_program.specs.declared.sites.Site.{Site}

-- a statement of `main` that is no loop
pub data ActValue : Type 0 where
  -- the declaration of a variable, whose cells become 0
  Clear : (var : ℕ) → ActValue
  -- an assignment to a variable, or its initializer
  Assign : (var : ℕ) (index : Option RExprTree) (op : AssignOp) (op_at : Pos) (value : RExprTree) (at : Pos) → ActValue
  -- `op_printf`
  Line : (text : List ℕ) (values : List RExprTree) → ActValue
  -- `op_print_dat_to_txtfile`
  Print : (dat : ℕ) (file : List ℕ) → ActValue
  -- `op_exit`
  Exit : ActValue

-- an item of the trace, by the number of its loop
pub data ItemValue : Type 0 where
  -- a Free loop
  Free : (site : ℕ) → ItemValue
  -- the merging of the globals that the Free loop before it reduces
  Reduce : (site : ℕ) → ItemValue
  -- an Ordered loop
  Ordered : (site : ℕ) → ItemValue
  -- a statement of `main` that is no loop
  Host : ActValue → ItemValue

-- an `op_par_loop` of the text, with the numbers of its kernel and its set
pub record SiteValue : Type 0 where
  pub kernel : ℕ
  pub set : ℕ
  pub args : List Arg
  pub class : Class
  pub at : Pos

-- a variable: its cells before the run, and the number of the first among the constants that kernels read
pub record VarValue : Type 0 where
  pub name : List ℕ
  pub start : List ℤ
  pub constant : Option ℕ
  pub is_const : Bool

-- a program with its mesh: its kernels, loops and variables by number, and what `main` does
pub record BoundValue : Type 0 where
  pub mesh : MeshValue
  pub kernels : List RKernel
  pub sites : List SiteValue
  pub vars : List VarValue
  pub trace : List ItemValue

-- ---- the values of the program's types

-- the value of a statement
abbrev pub act_of : Act → ActValue
act_of (a.Clear v) = Clear v
act_of (a.Assign v index op op_at e at) = Assign v (option_map rexpr_of index) op op_at (rexpr_of e) at
act_of (a.Line text es) = Line text (map rexpr_of es.items)
act_of (a.Print d file) = Print d file
act_of a.Exit = Exit

-- the statement with these values in place of the names that are told later
abbrev pub closed_act : List ℤ → ActValue → ActValue
closed_act told (Clear v) = Clear v
closed_act told (Assign v i op op_at e at) = Assign v (option_map (closed told) i) op op_at (closed told e) at
closed_act told (Line l es) = Line l (map (closed told) es)
closed_act told (Print d file) = Print d file
closed_act told Exit = Exit

-- the value of a statement in which told names have their values
abbrev pub told_act_of : ToldAct → ActValue
told_act_of x = closed_act x.told.items (act_of x.act.value)

-- the value of an item
abbrev pub item_of : Item → ItemValue
item_of (i.Free s) = Free s
item_of (i.Reduce s) = Reduce s
item_of (i.Ordered s) = Ordered s
item_of (i.Host x) = Host (told_act_of x)

-- the value of a loop
abbrev pub site_of : Site → SiteValue
site_of s = record { kernel = s.kernel; set = s.set; args = s.args.items; class = s.class; at = s.at }

-- the value of a variable
abbrev pub var_of : Var → VarValue
var_of v = record { name = v.name; start = v.start; constant = v.constant; is_const = v.is_const }

-- the value of a program
abbrev pub bound_of : Bound → BoundValue
bound_of b = record {
  mesh = b.mesh;
  kernels = b.kernels.items;
  sites = map site_of b.sites.items;
  vars = map var_of b.vars.items;
  trace = map item_of b.trace.items;
}

-- ---- what numbers that nothing has stand for

-- a loop that isn't there
abbrev pub no_site : SiteValue
no_site = record { kernel = 0; set = 0; args = []; class = c.Free; at = record { line = 1; column = 1 } }

-- a variable that isn't there
abbrev pub no_var : VarValue
no_var = record { name = []; start = []; constant = None; is_const = false }
