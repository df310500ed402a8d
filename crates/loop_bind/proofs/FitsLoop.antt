-- A loop of which nothing is refused fits, and what is declared stays so behind it.
use Rattle.std.proofs.Common.{◌≡◌, ℕ, ◌<◌, ◌≤◌, List, [], ◌∷◌, ◌++◌, length, map, Bool, true, false, not, ◌&&◌, refl, sym, subst, arith, ◌∙◌}
use Rattle.std.specs.Prelude.{All, Option, Some, None, IfSome, is_none, bytes_eq, nat_eq}
use Rattle.std.specs.List.{list_any}
use Rattle.std.proofs.lemmas.Bool.{eq-eqb, not-false, or_parts}
use Rattle.std.proofs.lemmas.List.{length-map, length_push}
use Rattle.std.proofs.lemmas.List.Elements.{All-nil, All-cons, All-push, All-weaker}
use Rattle.std.proofs.lemmas.Map.Entries.{All-lookup}
use Rattle.c_tree.specs.declared.lexer.tokens.Pos.{Pos}
use Rattle.c_tree.specs.declared.expressions.Ident.{Ident}
use Rattle.c_tree.specs.declared.expressions.NumberLiteral.{NumberLiteral}
use Rattle.c_tree.specs.declared.hosts.ArgIndex.{ArgIndex}
use Rattle.c_tree.specs.declared.hosts.ArgVia.{ArgVia}
use Rattle.c_tree.specs.declared.hosts.ArgVia.TheVariants as via
use Rattle.c_tree.specs.declared.hosts.GlobalName.{GlobalName}
use Rattle.c_tree.specs.declared.hosts.LoopArg.{LoopArg}
use Rattle.c_tree.specs.declared.hosts.LoopArg.TheVariants as tree
use Rattle.kernel_model.specs.declared.types.kernels.RKernel.{RKernel}
use Rattle.op_num.specs.declared.reductions.access.Access.{Access}
use Rattle.op_num.specs.declared.reductions.access.Access.TheVariants as access
use Rattle.mesh_decl.specs.Mesh.{set_count, dat_count}
use Rattle.mesh_decl.specs.Spelling.{Named}
use Rattle.bound_program.specs.declared.refusals.refusals.BindRefusal.TheVariants as refusal
use Rattle.bound_program.specs.declared.refusals.refusals.Counted.TheVariants as counted
use Rattle.bound_program.specs.declared.refusals.founds.Turn.TheVariants.{InOrder}
use Rattle.loop_bind.specs.declared.main_text.globals.GlobalVar.{GlobalVar}
use Rattle.loop_bind.specs.declared.main_text.arguments.Earlier.{Earlier}
use Rattle.bound_program.specs.declared.sites.Arg.{Arg}
use Rattle.bound_program.specs.declared.sites.Arg.TheVariants.{Dat, Global}
use Rattle.main_declarations.specs.declared.names.scopes.Meaning.{Meaning}
use Rattle.main_declarations.specs.declared.names.scopes.Meaning.TheVariants as m
use Rattle.bound_program.specs.Values.{SiteValue}
use Rattle.main_declarations.specs.Names.{named_in, means}
use Rattle.bound_program.specs.Limits.{max_dim, max_arguments}
use Rattle.bound_program.specs.Refusals.{found_if, found_over}
use Rattle.main_declarations.specs.SoFar.{Declared}
use Rattle.main_declarations.specs.Meanings.{set_of, map_of, dat_of, or_zero, count_of}
use Rattle.main_declarations.specs.Declarations.{set_found, type_found}
use Rattle.main_declarations.specs.Variables.{glob_token, ampersand_found}
use Rattle.loop_bind.specs.Arguments.{access_of, global_of, is_same, is_twice, is_reserved, is_wrong_set, is_wrong_index, is_wrong_dim, dim_of, map_found, global_found, reach_found, arg_found, with_earlier, args_found, kernel_found, kernel_number, via_of, var_number, arg_of, site, loop_found, judged_loop, after_globals}
use Rattle.bound_program.specs.Classes.{is_read}
use Rattle.bound_program.specs.Fits.{TakesArgs, AreApart, AllApart, ArgFits, SiteFits}
use Rattle.main_declarations.proofs.Public.{Gives, gives_unless, left_nil, right_nil, not_over, not_if, Below, never, known_below}
use Rattle.loop_bind.proofs.FitsState.{at, MeaningFits, IsOwn, Grows, grows-trans, vars-self, so_far, Lawful, means_fits}
use Rattle.loop_bind.proofs.FitsVars.{VarsKept, site_more}
use Rattle.loop_bind.proofs.FitsMesh.{set_below, map_below, dat_below}
use Rattle.loop_bind.proofs.FitsMeshWalk.{Goes}
use Rattle.loop_bind.proofs.FitsExterns.{IsThere, AllThere, all-add}
use Rattle.loop_bind.proofs.FitsArgs.{dat_dim_small, direct_fits, via_fits, GlobalFits, by_fits, access_fits}
use Rattle.lemmas.proofs.Numbers.{equal_from_not, positive}

-- ---- apart from the globals before

abbrev Away : List Earlier → Arg → Type 0
Away [] x = Unit {0}
Away (e ∷ es) x = AreApart (Global e.var e.access) x × Away es x

abbrev AllAway : List Earlier → List Arg → Type 0
AllAway es [] = Unit {0}
AllAway es (x ∷ xs) = Away es x × AllAway es xs

away_dat : (es : List Earlier) (d : ℕ) (v : _) (a : Access) → Away es (Dat d v a)
away_dat [] d v a = tt
away_dat (e ∷ es) d v a = (tt, away_dat es d v a)

and_true : (a b : Bool) → a && b ≡ true → (a ≡ true) × (b ≡ true)
and_true true b e = (refl, e)
and_true false b e = never (sym e)

read_is : (a : Access) → is_read a ≡ true → a ≡ access.Read
read_is access.Read e = refl
read_is access.Write e = never (sym e)
read_is access.Rw e = never (sym e)
read_is access.Inc e = never (sym e)
read_is access.Min e = never (sym e)
read_is access.Max e = never (sym e)

apart_is : (v : ℕ) (a : Access) (e : Earlier) → is_same v a e ≡ false → AreApart (Global e.var e.access) (Global v a)
apart_is v a e n same =
    let t : nat_eq e.var v ≡ true = eq-eqb e.var v same in
    let r = and_true (is_read e.access) (is_read a) (not-false (is_read e.access && is_read a) (subst (λ b. b && not (is_read e.access && is_read a) ≡ false) t n)) in
    (read_is e.access r.0, read_is a r.1)

away_global : (es : List Earlier) (v : ℕ) (a : Access) → is_twice es v a ≡ false → Away es (Global v a)
away_global [] v a n = tt
away_global (e ∷ es) v a n = let o = or_parts (is_same v a e) (list_any (is_same v a) es) n in (apart_is v a e o.0, away_global es v a o.1)

away_first : (es : List Earlier) (f : Earlier) (x : Arg) → Away (es ++ f ∷ []) x → Away es x
away_first [] f x h = tt
away_first (e ∷ es) f x h = (h.0, away_first es f x h.1)

away_last : (es : List Earlier) (f : Earlier) (x : Arg) → Away (es ++ f ∷ []) x → AreApart (Global f.var f.access) x
away_last [] f x h = h.0
away_last (e ∷ es) f x h = away_last es f x h.1

all_first : (es : List Earlier) (f : Earlier) (xs : List Arg) → AllAway (es ++ f ∷ []) xs → AllAway es xs
all_first es f [] h = tt
all_first es f (x ∷ xs) h = (away_first es f x h.0, all_first es f xs h.1)

all_last : (es : List Earlier) (f : Earlier) (xs : List Arg) → AllAway (es ++ f ∷ []) xs → All (AreApart (Global f.var f.access)) xs
all_last es f [] h = All-nil (AreApart (Global f.var f.access))
all_last es f (x ∷ xs) h = All-cons (AreApart (Global f.var f.access)) x xs (away_last es f x h.0) (all_last es f xs h.1)

-- ---- arguments

-- the globals so far and this one
abbrev earlier_by : List Earlier → Access → Option GlobalVar → List Earlier
earlier_by before a None = before
earlier_by before a (Some v) = before ++ (record { var = v.var; access = a }) ∷ []

module _ (ks : List RKernel) (es : List Named) (places : List Pos) (k : Declared) (h : Lawful ks es k) where
  -- the fitting of one argument, and that it is apart
  record Fine (set : ℕ) (before : List Earlier) (x : Arg) : Type 0 where
    fits : ArgFits (so_far ks k) set x
    away : Away before x

  dat_there : (x : Ident) → Below (dat_count k.mesh) (dat_of (means k.names x.name))
  dat_there x = dat_below ks k.mesh k.vars k.cells (means k.names x.name) (means_fits ks es k h x.name)

  reach : (set : Option ℕ) (x : Ident) (i : ArgIndex) (v : ArgVia) → is_none set ≡ false → reach_found places es k set x i v ≡ []
      → map_found places es k.names v ≡ [] → (a : Access)
      → ArgFits (so_far ks k) (or_zero set) (Dat (or_zero (dat_of (means k.names x.name))) (via_of places es k.names i v) a)
  reach set x i v s n o a = pick v n o
    where
      d : Option ℕ
      d = dat_of (means k.names x.name)

      pick : (v : ArgVia) → reach_found places es k set x i v ≡ [] → map_found places es k.names v ≡ []
          → ArgFits (so_far ks k) (or_zero set) (Dat (or_zero (dat_of (means k.names x.name))) (via_of places es k.names i v) a)
      pick (via.Identity p) n o =
          let f1 = found_if places (is_none (dat_of (means k.names x.name))) x.at refusal.UnknownDat in
          let f2 = found_if places (is_wrong_set k.mesh set (dat_of (means k.names x.name)) (via.Identity p) None) x.at refusal.SetMismatch in
          let f3 = found_if places (is_wrong_index k.mesh i (via.Identity p) None) i.at refusal.IndexRange in
          let n12 : f1 ++ f2 ≡ [] = left_nil (f1 ++ f2) f3 n in
          let known = not_if places (is_none (dat_of (means k.names x.name))) x.at refusal.UnknownDat (left_nil f1 f2 n12) in
          let below = known_below (dat_count k.mesh) (dat_of (means k.names x.name)) (dat_there x) known in (
            below,
            dat_dim_small k.mesh (or_zero (dat_of (means k.names x.name))) h.dims below,
            direct_fits k.mesh ks k.sites k.vars [] i set (dat_of (means k.names x.name)) p s known
                (not_if places (is_wrong_set k.mesh set (dat_of (means k.names x.name)) (via.Identity p) None) x.at refusal.SetMismatch
                (right_nil f1 f2 n12)),
          )
      pick (via.Map y) n o =
          let q = map_of (means k.names y.name) in
          let f1 = found_if places (is_none (dat_of (means k.names x.name))) x.at refusal.UnknownDat in
          let f2 = found_if places (is_wrong_set k.mesh set (dat_of (means k.names x.name)) (via.Map y) q) x.at refusal.SetMismatch in
          let f3 = found_if places (is_wrong_index k.mesh i (via.Map y) q) i.at refusal.IndexRange in
          let n12 : f1 ++ f2 ≡ [] = left_nil (f1 ++ f2) f3 n in
          let known = not_if places (is_none (dat_of (means k.names x.name))) x.at refusal.UnknownDat (left_nil f1 f2 n12) in
          let below = known_below (dat_count k.mesh) (dat_of (means k.names x.name)) (dat_there x) known in (
            below,
            dat_dim_small k.mesh (or_zero (dat_of (means k.names x.name))) h.dims below,
            via_fits k.mesh ks k.sites k.vars [] i y set (dat_of (means k.names x.name)) (map_of (means k.names y.name)) s known
                (not_if places (is_none (map_of (means k.names y.name))) y.at refusal.UnknownMap o)
                (map_below ks k.mesh k.vars k.cells (means k.names y.name) (means_fits ks es k h y.name))
                (not_if places (is_wrong_set k.mesh set (dat_of (means k.names x.name)) (via.Map y) q) x.at refusal.SetMismatch (right_nil f1 f2 n12))
                (not_if places (is_wrong_index k.mesh i (via.Map y) q) i.at refusal.IndexRange (right_nil (f1 ++ f2) f3 n)),
          )

  global_is : (set : ℕ) (before : List Earlier) (g : GlobalName) (n : NumberLiteral) (a : Access) (a_at : ℕ) (o : Option GlobalVar)
      → IfSome o (GlobalFits k.vars) → count_of n ≤ max_dim → global_found places es before g n a a_at o ≡ []
      → Fine set before (Global (var_number places es o) a)
  global_is set before g n a a_at None f l e =
      let f1 = found_if places true g.name.at refusal.UnknownEntry in
      let f2 = found_if places (nat_eq (count_of n) 0) n.at refusal.DimMismatch in
      let f3 = found_if places (is_reserved false a) a_at refusal.ReservedAccess in
      never (not_if places true g.name.at refusal.UnknownEntry (left_nil f1 f2 (left_nil (f1 ++ f2) f3 e)))
  global_is set before g n a a_at (Some v) f l e =
      let f1 = ampersand_found places v.is_array g in
      let f2 = found_if places (is_twice before v.var a) (glob_token places g) refusal.GlobalTwice in
      let f3 = found_if places (is_wrong_dim (Some v.count) (count_of n)) n.at refusal.DimMismatch in
      let f4 = found_if places (is_reserved v.is_kept a) a_at refusal.ReservedAccess in
      let e123 : f1 ++ f2 ++ f3 ≡ [] = left_nil (f1 ++ f2 ++ f3) f4 e in
      let dim = or_parts (nat_eq (count_of n) 0) (not (nat_eq (count_of n) v.count))
      (not_if places (is_wrong_dim (Some v.count) (count_of n)) n.at refusal.DimMismatch (right_nil (f1 ++ f2) f3 e123)) in
      let some : 0 < count_of n = positive (count_of n) dim.0 in
      let same : count_of n ≡ v.count = equal_from_not (count_of n) v.count dim.1 in
      record {
        fits = (
          f.var,
          omega (arith, f.start, some, same),
          omega (arith, f.start, l, same),
          access_fits a v.is_kept (at k.vars v.var).constant
              (not_if places (is_reserved v.is_kept a) a_at refusal.ReservedAccess (right_nil (f1 ++ f2 ++ f3) f4 e)) f.kept,
        );
        away = away_global before v.var a (not_if places (is_twice before v.var a) (glob_token places g) refusal.GlobalTwice (right_nil f1 f2 (left_nil (f1 ++ f2) f3 e123)));
      }

  arg_is : (set : Option ℕ) (before : List Earlier) (x : LoopArg) → is_none set ≡ false → IsThere k x → arg_found places es k set before x ≡ [] → Fine (or_zero set) before (arg_of places es k x)
  arg_is set before (tree.Dat p x i v n l a a_at) s t e =
      let f1 = reach_found places es k set x i v in
      let f2 = map_found places es k.names v in
      let f3 = found_if places (is_wrong_dim (dim_of k.mesh (dat_of (means k.names x.name))) (count_of n)) n.at refusal.DimMismatch in
      let f4 = type_found places l in
      let e12 : f1 ++ f2 ≡ [] = left_nil (f1 ++ f2) f3 (left_nil (f1 ++ f2 ++ f3) f4 e) in
      record {
        fits = reach set x i v s (left_nil f1 f2 e12) (right_nil f1 f2 e12) (access_of a);
        away = away_dat before (or_zero (dat_of (means k.names x.name))) (via_of places es k.names i v) (access_of a);
      }
  arg_is set before (tree.Global p g n l a a_at) s t e =
      let x = g.name.name in
      let o = global_of es k x in
      let f1 = global_found places es before g n (access_of a) a_at (global_of es k x) in
      let f2 = found_over InOrder max_dim (count_of n) n.at counted.Dim in
      let f3 = type_found places l in
      let e12 : f1 ++ f2 ≡ [] = left_nil (f1 ++ f2) f3 e in
      global_is (or_zero set) before g n (access_of a) a_at (global_of es k x)
      (by_fits ks es k h x (named_in k.names.own x) (named_in k.names.file x) (All-lookup IsOwn (bytes_eq x) k.names.own h.mine) refl (means_fits ks es k h x) t)
      (not_over InOrder max_dim (count_of n) n.at counted.Dim (right_nil f1 f2 e12)) (left_nil f1 f2 e12)

  -- all arguments behind those globals
  record AllFine (set : ℕ) (before : List Earlier) (xs : List Arg) : Type 0 where
    fits : All (ArgFits (so_far ks k) set) xs
    away : AllAway before xs
    apart : AllApart xs

  behind_global : (set : ℕ) (before : List Earlier) (a : Access) (o : Option GlobalVar) (xs : List Arg) → is_none o ≡ false
      → Fine set before (Global (var_number places es o) a) → AllFine set (earlier_by before a o) xs
      → AllFine set before (Global (var_number places es o) a ∷ xs)
  behind_global set before a None xs n f r = never n
  behind_global set before a (Some v) xs n f r = record {
    fits = All-cons (ArgFits (so_far ks k) set) (Global v.var a) xs f.fits r.fits;
    away = (f.away, all_first before (record { var = v.var; access = a }) xs r.away);
    apart = (all_last before (record { var = v.var; access = a }) xs r.away, r.apart);
  }

  known_global : (before : List Earlier) (g : GlobalName) (n : NumberLiteral) (a : Access) (a_at : ℕ) (o : Option GlobalVar) → global_found places es before g n a a_at o ≡ [] → is_none o ≡ false
  known_global before g n a a_at (Some v) e = refl
  known_global before g n a a_at None e =
      let f1 = found_if places true g.name.at refusal.UnknownEntry in
      let f2 = found_if places (nat_eq (count_of n) 0) n.at refusal.DimMismatch in
      let f3 = found_if places (is_reserved false a) a_at refusal.ReservedAccess in
      never (not_if places true g.name.at refusal.UnknownEntry (left_nil f1 f2 (left_nil (f1 ++ f2) f3 e)))

  args_are : (set : Option ℕ) (before : List Earlier) (args : List LoopArg) → is_none set ≡ false → AllThere ks es k args
      → args_found places es k set before args ≡ [] → AllFine (or_zero set) before (map (arg_of places es k) args)
  args_are set before [] s t e = record { fits = All-nil (ArgFits (so_far ks k) (or_zero set)); away = tt; apart = tt }
  args_are set before (tree.Dat p x i v n l a a_at ∷ args) s t e =
      let y = tree.Dat p x i v n l a a_at in
      let f1 = arg_found places es k set before y in
      let f2 = args_found places es k set before args in
      let one = arg_is set before y s t.0 (left_nil f1 f2 e) in
      let rest = args_are set before args s t.1 (right_nil f1 f2 e) in
      record {
        fits = All-cons (ArgFits (so_far ks k) (or_zero set)) (arg_of places es k y) (map (arg_of places es k) args) one.fits rest.fits;
        away = (one.away, rest.away);
        apart = (λ j d lt. tt, rest.apart);
      }
  args_are set before (tree.Global p g n l a a_at ∷ args) s t e =
      let y = tree.Global p g n l a a_at in
      let f1 = arg_found places es k set before y in
      let f2 = args_found places es k set (with_earlier places es k y before) args in
      let one = arg_is set before y s t.0 (left_nil f1 f2 e) in
      let rest = args_are set (with_earlier places es k y before) args s t.1 (right_nil f1 f2 e) in
      let g1 = global_found places es before g n (access_of a) a_at (global_of es k g.name.name) in
      let g2 = found_over InOrder max_dim (count_of n) n.at counted.Dim in
      let g3 = type_found places l in
      behind_global (or_zero set) before (access_of a) (global_of es k g.name.name) (map (arg_of places es k) args)
      (known_global before g n (access_of a) a_at (global_of es k g.name.name) (left_nil g1 g2 (left_nil (g1 ++ g2) g3 (left_nil f1 f2 e)))) one rest

  -- ---- the loop

  kernel_is : (t : ℕ) (x : Ident) (n : ℕ) (o : Option Meaning) → IfSome o (MeaningFits ks k.mesh k.vars k.cells) → kernel_found places es t x n o ≡ [] → TakesArgs ks (kernel_number places es o) n
  kernel_is t x n None f e = never (not_if places true x.at refusal.UnknownKernel e)
  kernel_is t x n (Some (m.Extern z)) f e = never (not_if places true x.at refusal.UnknownKernel e)
  kernel_is t x n (Some m.ExternArray) f e = never (not_if places true x.at refusal.UnknownKernel e)
  kernel_is t x n (Some (m.Kernel number params)) f e = subst (TakesArgs ks number) (equal_from_not params n (not_if places (not (nat_eq params n)) t refusal.ArgCount e)) f
  kernel_is t x n (Some (m.Set s)) f e = never (not_if places true x.at refusal.UnknownKernel e)
  kernel_is t x n (Some (m.Map s)) f e = never (not_if places true x.at refusal.UnknownKernel e)
  kernel_is t x n (Some (m.Dat s)) f e = never (not_if places true x.at refusal.UnknownKernel e)
  kernel_is t x n (Some (m.Variable c)) f e = never (not_if places true x.at refusal.UnknownKernel e)
  kernel_is t x n (Some (m.Fixed z c)) f e = never (not_if places true x.at refusal.UnknownKernel e)
  kernel_is t x n (Some (m.FixedLater s c)) f e = never (not_if places true x.at refusal.UnknownKernel e)
  kernel_is t x n (Some (m.Turning s)) f e = never (not_if places true x.at refusal.UnknownKernel e)

  site_is : (t : ℕ) (f on : Ident) (args : List LoopArg) → AllThere ks es k args → loop_found places es k t f on args ≡ [] → SiteFits (so_far ks k) (site places es k t f on args)
  site_is t f on args there e =
      let f1 = kernel_found places es t f (length args) (means k.names f.name) in
      let f2 = found_over InOrder max_arguments (length args) t counted.Arguments in
      let f3 = set_found places k on in
      let f4 = args_found places es k (set_of (means k.names on.name)) [] args in
      let e123 : f1 ++ f2 ++ f3 ≡ [] = left_nil (f1 ++ f2 ++ f3) f4 e in
      let e12 : f1 ++ f2 ≡ [] = left_nil (f1 ++ f2) f3 e123 in
      let set = not_if places (is_none (set_of (means k.names on.name))) on.at refusal.UnknownSet (right_nil (f1 ++ f2) f3 e123) in
      let all = args_are (set_of (means k.names on.name)) [] args set there (right_nil (f1 ++ f2 ++ f3) f4 e) in
      let n : length (map (arg_of places es k) args) ≡ length args = length-map args (arg_of places es k) in
      record {
        kernel = subst (TakesArgs ks (kernel_number places es (means k.names f.name))) (sym n) (kernel_is t f (length args) (means k.names f.name) (means_fits ks es k h f.name) (left_nil f1 f2 e12));
        set = known_below (set_count k.mesh) (set_of (means k.names on.name)) (set_below ks k.mesh k.vars k.cells (means k.names on.name) (means_fits ks es k h on.name)) set;
        few = omega (arith, n, not_over InOrder max_arguments (length args) t counted.Arguments (right_nil f1 f2 e12));
        args = all.fits;
        apart = all.apart;
        class = refl;
      }

-- behind a loop: lawful still, nothing is lost, and the loop is there
pub record Loops (ks : List RKernel) (es : List Named) (k l : Declared) : Type 0 where
  pub goes : Goes ks es k l
  pub more : length k.sites < length l.sites

module _ (ks : List RKernel) (es : List Named) (places : List Pos) where
  site_goes : (k : Declared) (s : SiteValue) → Lawful ks es k → SiteFits (so_far ks k) s → Loops ks es k (record k { sites = k.sites ++ s ∷ [] })
  site_goes k s h f = record { goes = record { lawful = lawful; grows = grows; file = refl }; more = omega (arith, length_push k.sites s) }
    where
      l : Declared
      l = record k { sites = k.sites ++ s ∷ [] }

      same : VarsKept k.vars k.vars
      same = record { grow = vars-self k.vars; constants = λ v lt. refl }

      kept : (t : SiteValue) → SiteFits (so_far ks k) t → SiteFits (so_far ks l) t
      kept t g = site_more k.mesh ks k.sites (k.sites ++ s ∷ []) k.vars k.vars [] [] same t g

      grows : Grows k l
      grows = record { vars = vars-self k.vars; cells = omega arith; sets = omega arith; maps = omega arith; dats = omega arith; sites = omega (arith, length_push k.sites s) }

      lawful : Lawful ks es l
      lawful = record {
        mesh = h.mesh;
        few_sets = h.few_sets;
        few_maps = h.few_maps;
        few_dats = h.few_dats;
        dims = h.dims;
        map_dims = h.map_dims;
        cells = h.cells;
        file = h.file;
        own = h.own;
        mine = h.mine;
        externs = h.externs;
        sites = All-push (SiteFits (so_far ks l)) k.sites s (All-weaker (SiteFits (so_far ks k)) (SiteFits (so_far ks l)) kept k.sites h.sites) (kept s f);
      }

  pub loop_is_lawful : (k : Declared) (t : ℕ) (f on : Ident) (args : List LoopArg) → Lawful ks es k → Gives (Loops ks es k) (judged_loop places es k t f on args)
  loop_is_lawful k t f on args h =
      let j = after_globals es args k in
      let adds = all-add ks es k args h in
      gives_unless (Loops ks es k) (loop_found places es j t f on args) (record j { sites = j.sites ++ site places es j t f on args ∷ [] })
      (λ none.
      let r = site_goes j (site places es j t f on args) adds.0.goes.lawful (site_is ks es places j adds.0.goes.lawful t f on args adds.1 none) in
      record {
        goes = record { lawful = r.goes.lawful; grows = grows-trans k j _ adds.0.goes.grows r.goes.grows; file = r.goes.file ∙ adds.0.goes.file };
        more = omega (arith, adds.0.goes.grows.sites, r.more);
      })
