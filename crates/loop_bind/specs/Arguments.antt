-- The loops of a program: their kernels, sets and arguments (`op_par_loop`, `op_arg_dat` and `op_arg_gbl` of the OP2 C API).
use Rattle.std.specs.Prelude.{ℕ, ℤ, Bool, true, false, not, ◌&&◌, ◌||◌, List, [], ◌∷◌, ◌++◌, length, map, slice_index_or, Option, Some, None, is_some, is_none, nat_eq, nat_lt, bytes_eq, if◌then◌else◌}
use Rattle.std.specs.Map.{lookup}
use Rattle.std.specs.List.{list_any}
use Rattle.c_tree.specs.declared.lexer.tokens.Pos.{Pos}
use Rattle.c_tree.specs.declared.expressions.Ident.{Ident}
use Rattle.c_tree.specs.declared.expressions.NumberLiteral.{NumberLiteral}
use Rattle.c_tree.specs.declared.hosts.AccessWord.{AccessWord}
use Rattle.c_tree.specs.declared.hosts.AccessWord.TheVariants as word
use Rattle.c_tree.specs.declared.hosts.ArgIndex.{ArgIndex}
use Rattle.c_tree.specs.declared.hosts.ArgVia.{ArgVia}
use Rattle.c_tree.specs.declared.hosts.ArgVia.TheVariants as via
use Rattle.c_tree.specs.declared.hosts.GlobalName.{GlobalName}
use Rattle.c_tree.specs.declared.expressions.TextLiteral.{TextLiteral}
use Rattle.c_tree.specs.declared.hosts.LoopArg.{LoopArg}
use Rattle.c_tree.specs.declared.hosts.LoopArg.TheVariants as tree
use Rattle.op_num.specs.declared.reductions.access.Access.{Access}
use Rattle.op_num.specs.declared.reductions.access.Access.TheVariants as access
use Rattle.mesh_decl.specs.declared.access.Via.{Via}
use Rattle.mesh_decl.specs.Mesh.{MeshValue, map_from, map_to, map_dim, dat_set, dat_dim}
use Rattle.bound_program.specs.declared.sites.Arg.{Arg}
use Rattle.bound_program.specs.declared.sites.Arg.TheVariants.{Dat, Global}
use Rattle.bound_program.specs.declared.refusals.refusals.BindRefusal.TheVariants as refusal
use Rattle.bound_program.specs.declared.refusals.refusals.Counted.TheVariants as counted
use Rattle.loop_bind.specs.declared.main_text.globals.GlobalVar.{GlobalVar}
use Rattle.loop_bind.specs.declared.main_text.arguments.Earlier.{Earlier}
use Rattle.bound_program.specs.Values.{SiteValue, VarValue, no_var}
use Rattle.main_declarations.specs.declared.names.scopes.Cells.{Cells}
use Rattle.main_declarations.specs.declared.names.scopes.Meaning.{Meaning}
use Rattle.main_declarations.specs.declared.names.scopes.Meaning.TheVariants.{Extern, ExternArray, Kernel, Variable, Fixed, FixedLater}
use Rattle.mesh_decl.specs.Spelling.{Named}
use Rattle.main_declarations.specs.Names.{Scope, means}
use Rattle.bound_program.specs.Refusals.{place, Judged, unless_found, found_over, found_if}
use Rattle.bound_program.specs.declared.refusals.founds.Turn.TheVariants.{InOrder}
use Rattle.bound_program.specs.declared.refusals.founds.Found.{Found}
use Rattle.bound_program.specs.Limits.{max_dim, max_arguments}
use Rattle.main_declarations.specs.SoFar.{Declared, with_var}
use Rattle.main_declarations.specs.Meanings.{set_of, map_of, dat_of, or_zero, count_of, values_named}
use Rattle.main_declarations.specs.Declarations.{set_found, type_found}
use Rattle.main_declarations.specs.Variables.{glob_token, ampersand_found}
use Rattle.bound_program.specs.Classes.{class_of, is_read}

-- ---- accesses

-- the access that a word names
abbrev pub access_of : AccessWord → Access
access_of word.Read = access.Read
access_of word.Write = access.Write
access_of word.Rw = access.Rw
access_of word.Inc = access.Inc
access_of word.Min = access.Min
access_of word.Max = access.Max

-- ---- globals

-- kernels read the variable as a constant
abbrev pub slot_constant : List VarValue → ℕ → Bool
slot_constant vs v = is_some (slice_index_or vs v no_var).constant

-- by its name, where externs that stand in the loop are variables already
abbrev pub global_of : List Named → Declared → List ℕ → Option GlobalVar
global_of es k x = by_meaning (means k.names x)
  where
    extern : ℕ
    extern = or_zero (lookup (bytes_eq x) k.externs)

    by_cells : Cells → Bool → GlobalVar
    by_cells c kept = record { var = c.var; count = c.count; is_array = c.is_array; is_kept = kept }

    by_meaning : Option Meaning → Option GlobalVar
    by_meaning (Some (Extern z)) = Some (record { var = extern; count = 1; is_array = false; is_kept = true })
    by_meaning (Some ExternArray) = Some (record { var = extern; count = length (values_named es x); is_array = true; is_kept = true })
    by_meaning (Some (Variable c)) = Some (by_cells c (slot_constant k.vars c.var))
    by_meaning (Some (Fixed z c)) = Some (by_cells c true)
    by_meaning (Some (FixedLater t c)) = Some (by_cells c true)
    by_meaning _ = None

-- the variable of an extern
abbrev pub extern_var : List ℕ → List ℤ → VarValue
extern_var x zs = record { name = x; start = zs; constant = None; is_const = true }

-- an extern becomes a variable, where it isn't one
abbrev pub with_extern : List ℕ → List ℤ → Declared → Declared
with_extern x zs k =
    if is_some (lookup (bytes_eq x) k.externs) then k
    else (record (with_var (extern_var x zs) k) { externs = k.externs ++ (x, length k.vars) ∷ [] })

-- what is declared behind an argument: an extern that is a global is a variable
abbrev pub after_global : List Named → LoopArg → Declared → Declared
after_global es (tree.Dat at x i v n l a a_at) k = k
after_global es (tree.Global at g n l a a_at) k = by_meaning (means k.names g.name.name)
  where
    by_meaning : Option Meaning → Declared
    by_meaning (Some (Extern z)) = with_extern g.name.name (z ∷ []) k
    by_meaning (Some ExternArray) = with_extern g.name.name (values_named es g.name.name) k
    by_meaning _ = k

-- the externs that are globals of a loop become variables, in order
abbrev pub after_globals : List Named → List LoopArg → Declared → Declared
after_globals es [] k = k
after_globals es (a ∷ more) k = after_globals es more (after_global es a k)

-- the global stands for the variable, and not both times as OP_READ
abbrev pub is_same : ℕ → Access → Earlier → Bool
is_same v a e = nat_eq e.var v && not (is_read e.access && is_read a)

-- the variable stands among those, and not both times as OP_READ
abbrev pub is_twice : List Earlier → ℕ → Access → Bool
is_twice before v a = list_any (is_same v a) before

-- an access that no global has, or that a kept one has not
abbrev pub is_reserved : Bool → Access → Bool
is_reserved kept access.Read = false
is_reserved kept access.Write = true
is_reserved kept access.Rw = true
is_reserved kept a = kept

-- ---- dats

-- the number of the map; none for OP_ID
abbrev pub via_map : Scope → ArgVia → Option ℕ
via_map s (via.Map x) = map_of (means s x.name)
via_map s (via.Identity at) = None

-- a direct dat isn't on the loop's set; or the map doesn't lead from there to the dat's set
abbrev pub is_wrong_set : MeshValue → Option ℕ → Option ℕ → ArgVia → Option ℕ → Bool
is_wrong_set g (Some set) (Some d) (via.Identity at) m = not (nat_eq (dat_set g d) set)
is_wrong_set g (Some set) (Some d) (via.Map x) (Some m) = not (nat_eq (map_from g m) set) || not (nat_eq (map_to g m) (dat_set g d))
is_wrong_set g _ _ v m = false

-- a number literal and its sign
abbrev pub is_minus_one : ArgIndex → Bool
is_minus_one i = i.is_negative && nat_eq (count_of (record { value = i.value; at = i.at })) 1

-- OP_ID has the index -1; a map has no index behind `-`, and one below its dim
abbrev pub is_wrong_index : MeshValue → ArgIndex → ArgVia → Option ℕ → Bool
is_wrong_index g i (via.Identity at) m = not (is_minus_one i)
is_wrong_index g i (via.Map x) None = i.is_negative && not (is_minus_one i)
is_wrong_index g i (via.Map x) (Some m) = i.is_negative || not (nat_lt (count_of (record { value = i.value; at = i.at })) (map_dim g m))

-- the dim is 0 or not that of the dat
abbrev pub is_wrong_dim : Option ℕ → ℕ → Bool
is_wrong_dim None n = nat_eq n 0
is_wrong_dim (Some dim) n = nat_eq n 0 || not (nat_eq n dim)

-- the dim of the dat, where one is meant
abbrev pub dim_of : MeshValue → Option ℕ → Option ℕ
dim_of g None = None
dim_of g (Some d) = Some (dat_dim g d)

-- ---- what is wrong with an argument

module _ (places : List Pos) (entries : List Named) where
  -- no map is meant
  abbrev pub map_found : Scope → ArgVia → List Found
  map_found s (via.Map x) = found_if places (is_none (map_of (means s x.name))) x.at refusal.UnknownMap
  map_found s (via.Identity at) = []

  -- what is wrong with a global behind those of earlier arguments: its name, its `&`, its dim, its access, or that it stands twice
  abbrev pub global_found : List Earlier → GlobalName → NumberLiteral → Access → ℕ → Option GlobalVar → List Found
  global_found before g n a a_at None =
      found_if places true g.name.at refusal.UnknownEntry
      ++ found_if places (nat_eq (count_of n) 0) n.at refusal.DimMismatch
      ++ found_if places (is_reserved false a) a_at refusal.ReservedAccess
  global_found before g n a a_at (Some v) =
      ampersand_found places v.is_array g
      ++ found_if places (is_twice before v.var a) (glob_token places g) refusal.GlobalTwice
      ++ found_if places (is_wrong_dim (Some v.count) (count_of n)) n.at refusal.DimMismatch
      ++ found_if places (is_reserved v.is_kept a) a_at refusal.ReservedAccess

  -- what is wrong with how an argument leads to a dat, in a loop over that set
  abbrev pub reach_found : Declared → Option ℕ → Ident → ArgIndex → ArgVia → List Found
  reach_found k set x i v =
      found_if places (is_none d) x.at refusal.UnknownDat
      ++ found_if places (is_wrong_set k.mesh set d v m) x.at refusal.SetMismatch
      ++ found_if places (is_wrong_index k.mesh i v m) i.at refusal.IndexRange
    where
      d : Option ℕ
      d = dat_of (means k.names x.name)

      m : Option ℕ
      m = via_map k.names v

  -- what is wrong with an argument on a dat
  abbrev pub dat_arg_found : Declared → Option ℕ → Ident → ArgIndex → ArgVia → NumberLiteral → TextLiteral → List Found
  dat_arg_found k set x i v n l =
      reach_found k set x i v
      ++ map_found k.names v
      ++ found_if places (is_wrong_dim (dim_of k.mesh (dat_of (means k.names x.name))) (count_of n)) n.at refusal.DimMismatch
      ++ type_found places l

  -- what is wrong with an argument of a loop over that set, behind those globals
  abbrev pub arg_found : Declared → Option ℕ → List Earlier → LoopArg → List Found
  arg_found k set before (tree.Dat at x i v n l a a_at) = dat_arg_found k set x i v n l
  arg_found k set before (tree.Global at g n l a a_at) =
      global_found before g n (access_of a) a_at (global_of entries k g.name.name)
      ++ found_over InOrder max_dim (count_of n) n.at counted.Dim
      ++ type_found places l

  -- the globals of earlier arguments, and that of this one
  abbrev pub with_earlier : Declared → LoopArg → List Earlier → List Earlier
  with_earlier k (tree.Dat at x i v n l a a_at) before = before
  with_earlier k (tree.Global at g n l a a_at) before = by_global (global_of entries k g.name.name)
    where
      by_global : Option GlobalVar → List Earlier
      by_global None = before
      by_global (Some v) = before ++ (record { var = v.var; access = access_of a }) ∷ []

  -- what is wrong with the arguments, each behind those before it
  abbrev pub args_found : Declared → Option ℕ → List Earlier → List LoopArg → List Found
  args_found k set before [] = []
  args_found k set before (x ∷ xs) = arg_found k set before x ++ args_found k set (with_earlier k x before) xs

  -- ---- the whole loop

  -- no kernel is meant, or it doesn't take so many arguments; the loop's word is at the token t
  abbrev pub kernel_found : ℕ → Ident → ℕ → Option Meaning → List Found
  kernel_found t x n (Some (Kernel number params)) = found_if places (not (nat_eq params n)) t refusal.ArgCount
  kernel_found t x n _ = found_if places true x.at refusal.UnknownKernel

  -- the number of the kernel that is meant
  abbrev pub kernel_number : Option Meaning → ℕ
  kernel_number (Some (Kernel number params)) = number
  kernel_number _ = 0

  -- how an argument is reached
  abbrev pub via_of : Scope → ArgIndex → ArgVia → Option Via
  via_of s i (via.Identity at) = None
  via_of s i (via.Map x) =
      Some (record { map = or_zero (map_of (means s x.name)); index = count_of (record { value = i.value; at = i.at }) })

  -- the number of the variable that is meant
  abbrev pub var_number : Option GlobalVar → ℕ
  var_number None = 0
  var_number (Some v) = v.var

  -- an argument by the numbers of what it names
  abbrev pub arg_of : Declared → LoopArg → Arg
  arg_of k (tree.Dat at x i v n l a a_at) = Dat (or_zero (dat_of (means k.names x.name))) (via_of k.names i v) (access_of a)
  arg_of k (tree.Global at g n l a a_at) = Global (var_number (global_of entries k g.name.name)) (access_of a)

  -- the loop by the numbers of what it names
  abbrev pub site : Declared → ℕ → Ident → Ident → List LoopArg → SiteValue
  site k t f on args = record {
    kernel = kernel_number (means k.names f.name);
    set = or_zero (set_of (means k.names on.name));
    args = map (arg_of k) args;
    class = class_of (map (arg_of k) args);
    at = place places t;
  }

  -- what is wrong with a loop
  abbrev pub loop_found : Declared → ℕ → Ident → Ident → List LoopArg → List Found
  loop_found k t f on args =
      kernel_found t f (length args) (means k.names f.name)
      ++ found_over InOrder max_arguments (length args) t counted.Arguments
      ++ set_found places k on
      ++ args_found k (set_of (means k.names on.name)) [] args

  -- `op_par_loop(f, "..", on, args ..);`, where its externs are variables already
  abbrev pub judged_args : Declared → ℕ → Ident → Ident → List LoopArg → Judged Declared
  judged_args k t f on args =
      unless_found
      (loop_found k t f on args)
      (record k { sites = k.sites ++ site k t f on args ∷ [] })

  -- `op_par_loop(f, "..", on, args ..);`
  abbrev pub judged_loop : Declared → ℕ → Ident → Ident → List LoopArg → Judged Declared
  judged_loop k t f on args = judged_args (after_globals entries args k) t f on args
