-- The arguments of a loop of which nothing is refused.
use Rattle.std.proofs.Common.{◌≡◌, ℕ, ◌<◌, ◌≤◌, List, length, map, Bool, true, false, not, refl, sym, subst}
use Rattle.std.specs.Prelude.{All, Option, Some, None, IfSome, is_some, is_none, bytes_eq, nat_eq, nat_lt}
use Rattle.std.specs.Map.{lookup}
use Rattle.std.proofs.lemmas.Bool.{ltb-true, not-false, or_parts}
use Rattle.std.proofs.lemmas.List.{length-map}
use Rattle.std.proofs.lemmas.List.Elements.{All-get_or, All-map}
use Rattle.c_tree.specs.declared.expressions.Ident.{Ident}
use Rattle.c_tree.specs.declared.hosts.ArgIndex.{ArgIndex}
use Rattle.c_tree.specs.declared.hosts.ArgVia.TheVariants as via
use Rattle.kernel_model.specs.declared.types.kernels.RKernel.{RKernel}
use Rattle.op_num.specs.declared.reductions.access.Access.{Access}
use Rattle.op_num.specs.declared.reductions.access.Access.TheVariants as access
use Rattle.mesh_decl.specs.declared.decl.DatDecl.{DatDecl}
use Rattle.mesh_decl.specs.Mesh.{MeshValue, map_count, dat_count, map_from, map_to, map_dim, dat_set, dat_dim}
use Rattle.mesh_decl.specs.Spelling.{Named}
use Rattle.loop_bind.specs.declared.main_text.globals.GlobalVar.{GlobalVar}
use Rattle.main_declarations.specs.declared.names.scopes.Meaning.{Meaning}
use Rattle.main_declarations.specs.declared.names.scopes.Meaning.TheVariants.{Extern, ExternArray, Kernel, Set, Map, Dat, Variable, Fixed, FixedLater, Turning}
use Rattle.bound_program.specs.Values.{SiteValue, VarValue, ItemValue}
use Rattle.main_declarations.specs.Names.{named_in, or_else}
use Rattle.bound_program.specs.Limits.{max_dim}
use Rattle.main_declarations.specs.SoFar.{Declared}
use Rattle.main_declarations.specs.Meanings.{or_zero, count_of, values_named}
use Rattle.loop_bind.specs.Arguments.{slot_constant, is_reserved, is_wrong_set, is_wrong_index}
use Rattle.bound_program.specs.Fits.{ViaFits, GlobalAccess}
use Rattle.loop_bind.proofs.FitsState.{at, MeaningFits, HasDim, HasValues, ExternFits, IsOwn, Lawful}
use Rattle.loop_bind.proofs.FitsVars.{program}
use Rattle.main_declarations.proofs.Public.{Below, never}
use Rattle.loop_bind.proofs.FitsExterns.{found_entry, Is}
use Rattle.lemmas.proofs.Numbers.{equal_from_not}

-- ---- dats

pub dat_dim_small : (g : MeshValue) (d : ℕ) → All HasDim g.dats → d < dat_count g → dat_dim g d ≤ max_dim
unfolding dat_dim
dat_dim_small g d h l =
    All-get_or (λ n. n ≤ max_dim) (map (λ (e : DatDecl). e.dim) g.dats) d 0 (rw (length-map g.dats (λ (e : DatDecl). e.dim)) l) (All-map (λ n. n ≤ max_dim) (λ (e : DatDecl). e.dim) g.dats h)

-- how a dat is reached, in a loop over a set that is known
module _ (g : MeshValue) (ks : List RKernel) (ss : List SiteValue) (vs : List VarValue) (is : List ItemValue) where
  pub direct_fits : (i : ArgIndex) (set d : Option ℕ) (p : ℕ) → is_none set ≡ false → is_none d ≡ false
      → is_wrong_set g set d (via.Identity p) None ≡ false → ViaFits (program g ks ss vs is) (or_zero set) (or_zero d) None
  direct_fits i None d p a b e = never a
  direct_fits i (Some s) None p a b e = never b
  direct_fits i (Some s) (Some d) p a b e = equal_from_not (dat_set g d) s e

  pub via_fits : (i : ArgIndex) (x : Ident) (set d m : Option ℕ) → is_none set ≡ false → is_none d ≡ false → is_none m ≡ false → Below (map_count g) m
      → is_wrong_set g set d (via.Map x) m ≡ false → is_wrong_index g i (via.Map x) m ≡ false
      → ViaFits (program g ks ss vs is) (or_zero set) (or_zero d) (Some (record { map = or_zero m; index = count_of (record { value = i.value; at = i.at }) }))
  via_fits i x None d m a b c l e f = never a
  via_fits i x (Some s) None m a b c l e f = never b
  via_fits i x (Some s) (Some d) None a b c l e f = never c
  via_fits i x (Some s) (Some d) (Some m) a b c l e f =
      let n = count_of (record { value = i.value; at = i.at }) in
      let s' = or_parts (not (nat_eq (map_from g m) s)) (not (nat_eq (map_to g m) (dat_set g d))) e in
      let i' = or_parts i.is_negative (not (nat_lt n (map_dim g m))) f in
      (l, equal_from_not (map_from g m) s s'.0, equal_from_not (map_to g m) (dat_set g d) s'.1, ltb-true n (map_dim g m) (not-false (nat_lt n (map_dim g m)) i'.1))

-- ---- globals

-- a variable that can be a global is there; one that kernels read as a constant is kept
pub record GlobalFits (vs : List VarValue) (v : GlobalVar) : Type 0 where
  pub var : v.var < length vs
  pub start : length (at vs v.var).start ≡ v.count
  pub kept : v.is_kept ≡ false → (at vs v.var).constant ≡ None

-- the global of a name, by what it means
abbrev pub by : List Named → List ℕ → List VarValue → List (List ℕ × ℕ) → Option Meaning → Option GlobalVar
by es x vs ns (Some (Extern z)) = Some (record { var = or_zero (lookup (bytes_eq x) ns); count = 1; is_array = false; is_kept = true })
by es x vs ns (Some ExternArray) = Some (record { var = or_zero (lookup (bytes_eq x) ns); count = length (values_named es x); is_array = true; is_kept = true })
by es x vs ns (Some (Variable c)) = Some (record { var = c.var; count = c.count; is_array = c.is_array; is_kept = slot_constant vs c.var })
by es x vs ns (Some (Fixed z c)) = Some (record { var = c.var; count = c.count; is_array = c.is_array; is_kept = true })
by es x vs ns (Some (FixedLater t c)) = Some (record { var = c.var; count = c.count; is_array = c.is_array; is_kept = true })
by es x vs ns _ = None

none_constant : (o : Option ℕ) → is_some o ≡ false → o ≡ None
none_constant None e = refl
none_constant (Some n) e = never e

module _ (ks : List RKernel) (es : List Named) (k : Declared) (h : Lawful ks es k) (x : List ℕ) where
  extern_fits : (o : Option ℕ) (n : ℕ) (is_array : Bool) (m : Option Meaning) → named_in k.names.file x ≡ m → ((c : ℕ) → HasValues es x c m → c ≡ n)
      → IfSome o (λ v. ExternFits es k.names.file k.vars (x, v)) → is_some o ≡ true → GlobalFits k.vars (record { var = or_zero o; count = n; is_array = is_array; is_kept = true })
  extern_fits None n is_array m e values f i = never (sym i)
  extern_fits (Some v) n is_array m e values f i = record {
    var = f.0;
    start = values (length (at k.vars v).start) (subst (HasValues es x (length (at k.vars v).start)) e f.1);
    kept = λ q. never q;
  }

  pub by_fits : (a b : Option Meaning) → IfSome a IsOwn → named_in k.names.file x ≡ b
      → IfSome (or_else a b) (MeaningFits ks k.mesh k.vars k.cells) → Is x k.externs (or_else a b)
      → IfSome (by es x k.vars k.externs (or_else a b)) (GlobalFits k.vars)
  by_fits (Some (Extern z)) b o e m i = absurd o
  by_fits (Some ExternArray) b o e m i = absurd o
  by_fits (Some (Kernel number params)) b o e m i = tt
  by_fits (Some (Set s)) b o e m i = tt
  by_fits (Some (Map n)) b o e m i = tt
  by_fits (Some (Dat d)) b o e m i = tt
  by_fits (Some (Variable c)) b o e m i = record { var = m.var; start = m.start; kept = λ q. none_constant (at k.vars c.var).constant q }
  by_fits (Some (Fixed z c)) b o e m i = record { var = m.1.var; start = m.1.start; kept = λ q. never q }
  by_fits (Some (FixedLater t c)) b o e m i = record { var = m.var; start = m.start; kept = λ q. never q }
  by_fits (Some (Turning t)) b o e m i = tt
  by_fits None None o e m i = tt
  by_fits None (Some (Extern z)) o e m i = extern_fits (lookup (bytes_eq x) k.externs) 1 false (Some (Extern z)) e (λ c v. v) (found_entry (ExternFits es k.names.file k.vars) x k.externs h.externs) i
  by_fits None (Some ExternArray) o e m i = extern_fits (lookup (bytes_eq x) k.externs) (length (values_named es x)) true (Some ExternArray)
      e (λ c v. v) (found_entry (ExternFits es k.names.file k.vars) x k.externs h.externs) i
  by_fits None (Some (Kernel number params)) o e m i = tt
  by_fits None (Some (Set s)) o e m i = tt
  by_fits None (Some (Map n)) o e m i = tt
  by_fits None (Some (Dat d)) o e m i = tt
  by_fits None (Some (Variable c)) o e m i = record { var = m.var; start = m.start; kept = λ q. none_constant (at k.vars c.var).constant q }
  by_fits None (Some (Fixed z c)) o e m i = record { var = m.1.var; start = m.1.start; kept = λ q. never q }
  by_fits None (Some (FixedLater t c)) o e m i = record { var = m.var; start = m.start; kept = λ q. never q }
  by_fits None (Some (Turning t)) o e m i = tt

pub access_fits : (a : Access) (kept : Bool) (constant : Option ℕ) → is_reserved kept a ≡ false → (kept ≡ false → constant ≡ None) → GlobalAccess a constant
access_fits access.Read kept constant e f = tt
access_fits access.Write kept constant e f = never e
access_fits access.Rw kept constant e f = never e
access_fits access.Inc kept constant e f = f e
access_fits access.Min kept constant e f = f e
access_fits access.Max kept constant e f = f e
