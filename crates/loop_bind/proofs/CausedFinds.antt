-- What is found wrong with a statement is never want of memory.
use Rattle.std.proofs.Common.{ℕ, suc, ◌+◌, ℤ, pos, negsuc, ◌/◌, ◌%◌, Bool, true, false, List, [], ◌∷◌, ◌++◌, length, Option, Some, None, Ok, Err, nat_lt, nat_eq, is_none, if◌then◌else◌}
use Rattle.c_tree.specs.declared.lexer.tokens.Pos.{Pos}
use Rattle.c_tree.specs.declared.expressions.Ident.{Ident}
use Rattle.c_tree.specs.declared.expressions.NumberLiteral.{NumberLiteral}
use Rattle.c_tree.specs.declared.expressions.TextLiteral.{TextLiteral}
use Rattle.c_tree.specs.declared.hosts.ArgIndex.{ArgIndex}
use Rattle.c_tree.specs.declared.hosts.ArgVia.{ArgVia}
use Rattle.c_tree.specs.declared.hosts.ArgVia.TheVariants as via
use Rattle.c_tree.specs.declared.hosts.GlobalName.{GlobalName}
use Rattle.c_tree.specs.declared.hosts.LoopArg.{LoopArg}
use Rattle.c_tree.specs.declared.hosts.LoopArg.TheVariants as tree
use Rattle.c_tree.specs.Tree.{ExprTree}
use Rattle.kernel_model.specs.Numbers.{Value}
use Rattle.kernel_model.specs.declared.types.kernels.ConstDecl.{ConstDecl}
use Rattle.op_num.specs.declared.reductions.access.Access.{Access}
use Rattle.mesh_decl.specs.Mesh.{MeshValue, set_count, map_count, dat_count}
use Rattle.mesh_decl.specs.Spelling.{Named}
use Rattle.bound_program.specs.declared.refusals.refusals.BindRefusal.{BindRefusal}
use Rattle.bound_program.specs.declared.refusals.refusals.BindRefusal.TheVariants as refusal
use Rattle.bound_program.specs.declared.refusals.refusals.Counted.{Counted}
use Rattle.bound_program.specs.declared.refusals.refusals.Counted.TheVariants as counted
use Rattle.bound_program.specs.declared.refusals.founds.Turn.{Turn}
use Rattle.bound_program.specs.declared.refusals.founds.Turn.TheVariants.{InOrder, SizeValue, MeshCells}
use Rattle.bound_program.specs.declared.refusals.founds.Found.{Found}
use Rattle.bound_program.specs.Refusals.{place, is_before, earlier, least_from, found_in, found_over, found_if}
use Rattle.bound_program.specs.HostExpr.{value, is_static}
use Rattle.bound_program.specs.Limits.{max_sets, max_maps, max_dats, max_size, max_dim, max_cells, max_arguments}
use Rattle.main_declarations.specs.declared.names.scopes.Cells.{Cells}
use Rattle.main_declarations.specs.declared.names.scopes.Meaning.{Meaning}
use Rattle.main_declarations.specs.declared.names.scopes.Meaning.TheVariants.{Kernel}
use Rattle.main_declarations.specs.Names.{Scope, means}
use Rattle.main_declarations.specs.Meanings.{count_of, set_of, dat_of, array_of, or_none}
use Rattle.main_declarations.specs.Expressions.{first_token, resolved}
use Rattle.main_declarations.specs.SoFar.{Declared}
use Rattle.main_declarations.specs.Declarations.{awaited, place_found, set_found, dim_found, type_found, data_found, stray_found, target_found, cells_found, value_found, size_found, set_decl_found, map_decl_found, dat_decl_found}
use Rattle.main_declarations.specs.Variables.{file_cells, glob_token, ampersand_found, constant_found, constant_decl_found}
use Rattle.loop_bind.specs.declared.main_text.globals.GlobalVar.{GlobalVar}
use Rattle.loop_bind.specs.declared.main_text.arguments.Earlier.{Earlier}
use Rattle.loop_bind.specs.Arguments.{access_of, is_twice, is_reserved, via_map, is_wrong_set, is_wrong_index, is_wrong_dim, dim_of, global_of, map_found, global_found, reach_found, dat_arg_found, arg_found, with_earlier, args_found, kernel_found, loop_found}
use Rattle.loop_bind.specs.Text.{line_found}

-- a refusal other than want of memory
abbrev pub IsCause : BindRefusal → Type 0
IsCause refusal.OutOfMemory = ⊥
IsCause r = Unit {0}

abbrev EachCaused : List Found → Type 0
EachCaused [] = Unit {0}
EachCaused (f ∷ fs) = IsCause f.refusal × EachCaused fs

-- all that is found has a cause
pub record AllCaused (fs : List Found) : Type 0 where
  pub each : EachCaused fs

-- the one that was found has, if any was
abbrev pub OneCaused : Option Found → Type 0
OneCaused None = Unit {0}
OneCaused (Some f) = IsCause f.refusal

-- ---- the first that is found

earlier_caused : (o : Option Found) (g : Found) → OneCaused o → IsCause g.refusal → OneCaused (earlier o g)
earlier_caused None g h k = k
earlier_caused (Some f) g h k = pick (is_before g f)
  where
    pick : (b : Bool) → OneCaused (if b then Some g else Some f)
    pick true = k
    pick false = h

least_each : (o : Option Found) (fs : List Found) → OneCaused o → EachCaused fs → OneCaused (least_from o fs)
least_each o [] h k = h
least_each o (g ∷ gs) h k = least_each (earlier o g) gs (earlier_caused o g h k.0) k.1

pub least_caused : (o : Option Found) (fs : List Found) → OneCaused o → AllCaused fs → OneCaused (least_from o fs)
least_caused o fs h k = least_each o fs h k.each

-- ---- lists of what is found

none_caused : AllCaused []
none_caused = record { each = tt }

both_each : (a b : List Found) → EachCaused a → EachCaused b → EachCaused (a ++ b)
both_each [] b h k = k
both_each (f ∷ a) b h k = (h.0, both_each a b h.1 k)

both_caused : (a b : List Found) → AllCaused a → AllCaused b → AllCaused (a ++ b)
both_caused a b h k = record { each = both_each a b h.each k.each }

three_caused : (a b c : List Found) → AllCaused a → AllCaused b → AllCaused c → AllCaused (a ++ b ++ c)
three_caused a b c h k l = both_caused (a ++ b) c (both_caused a b h k) l

four_caused : (a b c d : List Found) → AllCaused a → AllCaused b → AllCaused c → AllCaused d → AllCaused (a ++ b ++ c ++ d)
four_caused a b c d h k l m = both_caused (a ++ b ++ c) d (three_caused a b c h k l) m

chosen_caused : (t : Bool) (a b : List Found) → AllCaused a → AllCaused b → AllCaused (if t then a else b)
chosen_caused true a b h k = h
chosen_caused false a b h k = k

in_caused : (turn : Turn) (b : Bool) (t : ℕ) (r : BindRefusal) → IsCause r → AllCaused (found_in turn b t r)
in_caused turn false t r h = none_caused
in_caused turn true t r h = record { each = (h, tt) }

over_caused : (turn : Turn) (limit size t : ℕ) (c : Counted) → AllCaused (found_over turn limit size t c)
over_caused turn limit size t c = in_caused turn (nat_lt limit size) t (refusal.Limit c size) tt

module _ (places : List Pos) where
  pub if_caused : (b : Bool) (t : ℕ) (f : Pos → BindRefusal) → ((p : Pos) → IsCause (f p)) → AllCaused (found_if places b t f)
  if_caused b t f h = in_caused InOrder b t (f (place places t)) (h (place places t))

  -- ---- sets, maps and dats

  place_caused : (k : Declared) (nested : Bool) (t : ℕ) → AllCaused (place_found places k nested t)
  place_caused k nested t = if_caused _ t refusal.DeclarationPlace (λ p. tt)

  set_caused : (k : Declared) (x : Ident) → AllCaused (set_found places k x)
  set_caused k x = if_caused _ x.at refusal.UnknownSet (λ p. tt)

  dim_caused : (n : NumberLiteral) → AllCaused (dim_found places n)
  dim_caused n = both_caused _ _ (if_caused _ n.at refusal.DimMismatch (λ p. tt)) (over_caused InOrder max_dim (count_of n) n.at counted.Dim)

  type_caused : (l : TextLiteral) → AllCaused (type_found places l)
  type_caused l = if_caused _ l.at refusal.TypeMismatch (λ p. tt)

  data_caused : (zs : Option (List ℤ)) (n : Option ℕ) (x : Ident) → AllCaused (data_found places zs n x)
  data_caused None n x = if_caused true x.at refusal.UnknownEntry (λ p. tt)
  data_caused (Some zs) n x = if_caused _ x.at refusal.DimMismatch (λ p. tt)

  stray_caused : (m dim : ℕ) (x : Ident) (o : Option ℕ) → AllCaused (stray_found places m dim x o)
  stray_caused m dim x None = none_caused
  stray_caused m dim x (Some i) = if_caused true x.at (λ at. refusal.MapTarget at m (i / dim) (i % dim)) (λ p. tt)

  target_caused : (g : MeshValue) (dim : ℕ) (x : Ident) (zs : Option (List ℤ)) (n to : Option ℕ) → AllCaused (target_found places g dim x zs n to)
  target_caused g dim x (Some zs) (Some n) (Some to) = chosen_caused (nat_eq (length zs) n) _ _ (stray_caused _ dim x _) none_caused
  target_caused g dim x (Some zs) (Some n) None = none_caused
  target_caused g dim x (Some zs) None to = none_caused
  target_caused g dim x None n to = none_caused

  cells_caused : (t n : ℕ) → AllCaused (cells_found places t n)
  cells_caused t n = over_caused MeshCells max_cells n t counted.MeshCells

  value_caused : (k : Declared) (t first : ℕ) (v : Value) → AllCaused (value_found places k t first v)
  value_caused k t first (Err f) = if_caused true first refusal.ControlNotStatic (λ p. tt)
  value_caused k t first (Ok (negsuc n)) = in_caused SizeValue true first (refusal.DimMismatch (place places first)) tt
  value_caused k t first (Ok (pos n)) = both_caused _ _ (over_caused SizeValue max_size n t counted.SetSize) (cells_caused t (k.filled + n))

  size_caused : (k : Declared) (t : ℕ) (e : ExprTree) → AllCaused (size_found places k t e)
  size_caused k t e = chosen_caused (is_static (resolved places k.names e)) _ _
      (value_caused k t (first_token e) (value [] [] (resolved places k.names e)))
      (if_caused true (first_token e) refusal.ControlNotStatic (λ p. tt))

  pub set_decl_caused : (k : Declared) (nested : Bool) (t : ℕ) (e : ExprTree) → AllCaused (set_decl_found places k nested t e)
  set_decl_caused k nested t e =
      three_caused _ _ _ (place_caused k nested t) (over_caused InOrder max_sets (suc (set_count k.mesh)) t counted.Sets) (size_caused k t e)

  module _ (entries : List Named) where
    pub map_decl_caused : (k : Declared) (nested : Bool) (t : ℕ) (from to : Ident) (n : NumberLiteral) (x : Ident) → AllCaused (map_decl_found places entries k nested t from to n x)
    map_decl_caused k nested t from to n x =
        three_caused _ _ _ (place_caused k nested t) (over_caused InOrder max_maps (suc (map_count k.mesh)) t counted.Maps)
        (three_caused _ _ _ (four_caused _ _ _ _ (set_caused k from) (set_caused k to) (dim_caused n) (data_caused zs awaits x))
        (target_caused k.mesh (count_of n) x zs awaits (set_of (means k.names to.name)))
        (cells_caused t (k.filled + length (or_none zs))))
      where
        zs : Option (List ℤ)
        zs = array_of entries x.name (means k.names x.name)

        awaits : Option ℕ
        awaits = awaited k.mesh (set_of (means k.names from.name)) (count_of n)

    pub dat_decl_caused : (k : Declared) (nested : Bool) (t : ℕ) (set : Ident) (n : NumberLiteral) (l : TextLiteral) (x : Ident) → AllCaused (dat_decl_found places entries k nested t set n l x)
    dat_decl_caused k nested t set n l x =
        three_caused _ _ _ (place_caused k nested t) (over_caused InOrder max_dats (suc (dat_count k.mesh)) t counted.Dats)
        (three_caused _ _ _ (three_caused _ _ _ (set_caused k set) (dim_caused n) (type_caused l))
        (data_caused zs (awaited k.mesh (set_of (means k.names set.name)) (count_of n)) x)
        (cells_caused t (k.filled + length (or_none zs))))
      where
        zs : Option (List ℤ)
        zs = array_of entries x.name (means k.names x.name)

  -- ---- constants of kernels

  ampersand_caused : (is_array : Bool) (g : GlobalName) → AllCaused (ampersand_found places is_array g)
  ampersand_caused is_array g = if_caused _ _ refusal.TypeMismatch (λ p. tt)

  constant_caused : (n : NumberLiteral) (g : GlobalName) (c : Option Cells) → AllCaused (constant_found places n g c)
  constant_caused n g None = both_caused _ _ (if_caused true g.name.at refusal.UnknownEntry (λ p. tt)) (if_caused _ n.at refusal.DimMismatch (λ p. tt))
  constant_caused n g (Some c) = both_caused _ _ (ampersand_caused c.is_array g) (if_caused _ n.at refusal.DimMismatch (λ p. tt))

  pub constant_decl_caused : (k : Declared) (nested : Bool) (t : ℕ) (n : NumberLiteral) (l : TextLiteral) (g : GlobalName) → AllCaused (constant_decl_found places k nested t n l g)
  constant_decl_caused k nested t n l g =
      three_caused _ _ _ (place_caused k nested t) (constant_caused n g (file_cells places (means k.names g.name.name))) (type_caused l)

  module _ (entries : List Named) where
    -- ---- loops

    map_caused : (s : Scope) (v : ArgVia) → AllCaused (map_found places entries s v)
    map_caused s (via.Map x) = if_caused _ x.at refusal.UnknownMap (λ p. tt)
    map_caused s (via.Identity at) = none_caused

    global_caused : (before : List Earlier) (g : GlobalName) (n : NumberLiteral) (a : Access) (a_at : ℕ) (v : Option GlobalVar) → AllCaused (global_found places entries before g n a a_at v)
    global_caused before g n a a_at None =
        three_caused _ _ _ (if_caused true g.name.at refusal.UnknownEntry (λ p. tt))
        (if_caused (nat_eq (count_of n) 0) n.at refusal.DimMismatch (λ p. tt))
        (if_caused (is_reserved false a) a_at refusal.ReservedAccess (λ p. tt))
    global_caused before g n a a_at (Some v) =
        four_caused _ _ _ _ (ampersand_caused v.is_array g)
        (if_caused (is_twice before v.var a) (glob_token places g) refusal.GlobalTwice (λ p. tt))
        (if_caused (is_wrong_dim (Some v.count) (count_of n)) n.at refusal.DimMismatch (λ p. tt))
        (if_caused (is_reserved v.is_kept a) a_at refusal.ReservedAccess (λ p. tt))

    reach_caused : (k : Declared) (set : Option ℕ) (x : Ident) (i : ArgIndex) (v : ArgVia) → AllCaused (reach_found places entries k set x i v)
    reach_caused k set x i v =
        three_caused _ _ _ (if_caused (is_none d) x.at refusal.UnknownDat (λ p. tt))
        (if_caused (is_wrong_set k.mesh set d v m) x.at refusal.SetMismatch (λ p. tt))
        (if_caused (is_wrong_index k.mesh i v m) i.at refusal.IndexRange (λ p. tt))
      where
        d : Option ℕ
        d = dat_of (means k.names x.name)

        m : Option ℕ
        m = via_map k.names v

    dat_arg_caused : (k : Declared) (set : Option ℕ) (x : Ident) (i : ArgIndex) (v : ArgVia) (n : NumberLiteral) (l : TextLiteral) → AllCaused (dat_arg_found places entries k set x i v n l)
    dat_arg_caused k set x i v n l =
        four_caused _ _ _ _ (reach_caused k set x i v) (map_caused k.names v)
        (if_caused (is_wrong_dim (dim_of k.mesh (dat_of (means k.names x.name))) (count_of n)) n.at refusal.DimMismatch (λ p. tt))
        (type_caused l)

    kernel_caused : (t : ℕ) (x : Ident) (n : ℕ) (o : Option Meaning) → AllCaused (kernel_found places entries t x n o)
    kernel_caused t x n (Some (Kernel number params)) = if_caused _ t refusal.ArgCount (λ p. tt)
    kernel_caused t x n _ = if_caused true x.at refusal.UnknownKernel (λ p. tt)

    arg_caused : (k : Declared) (set : Option ℕ) (before : List Earlier) (a : LoopArg) → AllCaused (arg_found places entries k set before a)
    arg_caused k set before (tree.Dat at x i v n l a a_at) = dat_arg_caused k set x i v n l
    arg_caused k set before (tree.Global at g n l a a_at) =
        three_caused _ _ _ (global_caused before g n (access_of a) a_at (global_of entries k g.name.name))
        (over_caused InOrder max_dim (count_of n) n.at counted.Dim) (type_caused l)

    args_caused : (k : Declared) (set : Option ℕ) (before : List Earlier) (args : List LoopArg) → AllCaused (args_found places entries k set before args)
    args_caused k set before [] = none_caused
    args_caused k set before (a ∷ args) = both_caused _ _ (arg_caused k set before a) (args_caused k set (with_earlier places entries k a before) args)

    pub loop_caused : (k : Declared) (t : ℕ) (f on : Ident) (args : List LoopArg) → AllCaused (loop_found places entries k t f on args)
    loop_caused k t f on args =
        four_caused _ _ _ _ (kernel_caused t f (length args) (means k.names f.name))
        (over_caused InOrder max_arguments (length args) t counted.Arguments)
        (set_caused k on)
        (args_caused k (set_of (means k.names on.name)) [] args)

  -- ---- lines

  module _ (consts : List ConstDecl) (entries : List Named) where
    pub line_caused : (t : ℕ) (l : TextLiteral) (n : ℕ) (o : Option ℕ) → AllCaused (line_found places consts entries t l n o)
    line_caused t l n None = if_caused true l.at refusal.TypeMismatch (λ p. tt)
    line_caused t l n (Some m) = if_caused _ t refusal.ArgCount (λ p. tt)
