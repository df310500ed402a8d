-- Externs that are globals of a loop become variables, each once.
use Rattle.std.proofs.Common.{◌≡◌, ℕ, ℤ, List, [], ◌∷◌, ◌++◌, length, Bool, true, false, cond, refl, sym, ap, subst, arith, ◌∙◌}
use Rattle.std.specs.Prelude.{All, Option, Some, None, IfSome, is_some, bytes_eq, if◌then◌else◌}
use Rattle.std.specs.Map.{lookup}
use Rattle.std.proofs.lemmas.List.{length_push}
use Rattle.std.proofs.lemmas.List.Elements.{All-head, All-tail, All-push}
use Rattle.std.proofs.lemmas.Map.Entries.{All-lookup}
use Rattle.std.proofs.lemmas.Slice.Eq.{bytes_eq-Decides}
use Rattle.c_tree.specs.declared.hosts.LoopArg.{LoopArg}
use Rattle.c_tree.specs.declared.hosts.LoopArg.TheVariants as tree
use Rattle.kernel_model.specs.declared.types.kernels.RKernel.{RKernel}
use Rattle.mesh_decl.specs.Spelling.{Named}
use Rattle.main_declarations.specs.declared.names.scopes.Meaning.{Meaning}
use Rattle.main_declarations.specs.declared.names.scopes.Meaning.TheVariants.{Extern, ExternArray, Kernel, Set, Map, Dat, Variable, Fixed, FixedLater, Turning}
use Rattle.bound_program.specs.Values.{VarValue}
use Rattle.main_declarations.specs.Names.{named_in, or_else, means}
use Rattle.main_declarations.specs.SoFar.{Declared, with_var}
use Rattle.main_declarations.specs.Meanings.{values_named}
use Rattle.loop_bind.specs.Arguments.{extern_var, with_extern, after_global, after_globals}
use Rattle.loop_bind.proofs.FitsState.{at, at_last, Grows, grows-self, grows-trans, HasValues, ExternFits, IsOwn, Lawful}
use Rattle.loop_bind.proofs.FitsVars.{lawful-var, grows-var}
use Rattle.loop_bind.proofs.FitsMeshWalk.{Goes}

-- ---- look-ups

-- the name is there
abbrev pub IsIn : List ℕ → List (List ℕ × ℕ) → Type 0
IsIn x es = is_some (lookup (bytes_eq x) es) ≡ true

in_more : (x : List ℕ) (es : List (List ℕ × ℕ)) (f : List ℕ × ℕ) → IsIn x es → IsIn x (es ++ f ∷ [])
in_more x [] f h = h' h
  where
    h' : false ≡ true → IsIn x (f ∷ [])
    h' p = absurd (never' p)
      where
        IsF : Bool → Type 0
        IsF false = Unit {0}
        IsF true = ⊥

        never' : false ≡ true → ⊥
        never' p = subst IsF p tt
in_more x (e ∷ es) f h = pick (λ i. in_more x es f i) (bytes_eq x e.0) h
  where
    pick : (IsIn x es → IsIn x (es ++ f ∷ [])) → (b : Bool) → is_some (cond b (Some e.1) (lookup (bytes_eq x) es)) ≡ true → is_some (cond b (Some e.1) (lookup (bytes_eq x) (es ++ f ∷ []))) ≡ true
    pick rest true i = refl
    pick rest false i = rest i

in_last : (x : List ℕ) (es : List (List ℕ × ℕ)) (n : ℕ) → IsIn x (es ++ (x, n) ∷ [])
in_last x [] n = ap (λ b. is_some (cond b (Some n) None)) ((bytes_eq-Decides x x).1 refl)
in_last x (e ∷ es) n = pick (in_last x es n) (bytes_eq x e.0)
  where
    pick : IsIn x (es ++ (x, n) ∷ []) → (b : Bool) → is_some (cond b (Some e.1) (lookup (bytes_eq x) (es ++ (x, n) ∷ []))) ≡ true
    pick rest true = refl
    pick rest false = rest

-- what is so of each entry is so of the one that is found, under the name by which it is found
pub found_entry : (P : List ℕ × ℕ → Type 0) (x : List ℕ) (es : List (List ℕ × ℕ)) → All P es → IfSome (lookup (bytes_eq x) es) (λ n. P (x, n))
found_entry P x [] h = tt
found_entry P x (e ∷ es) h = pick (found_entry P x es (All-tail P e es h)) (bytes_eq x e.0) refl
  where
    here : bytes_eq x e.0 ≡ true → P (x, e.1)
    here q = subst (λ y. P (y, e.1)) (sym ((bytes_eq-Decides x e.0).0 q)) (All-head P e es h)

    pick : IfSome (lookup (bytes_eq x) es) (λ n. P (x, n)) → (b : Bool) → bytes_eq x e.0 ≡ b → IfSome (cond b (Some e.1) (lookup (bytes_eq x) es)) (λ n. P (x, n))
    pick rest true q = here q
    pick rest false q = rest

-- ---- externs

-- what the globals of a loop add
pub record Adds (ks : List RKernel) (es : List Named) (k l : Declared) : Type 0 where
  pub goes : Goes ks es k l
  pub names : l.names ≡ k.names
  pub kept : (x : List ℕ) → IsIn x k.externs → IsIn x l.externs

-- an extern that is a global is a variable
abbrev pub IsThere : Declared → LoopArg → Type 0
IsThere k (tree.Dat at x i v n l a a_at) = Unit {0}
IsThere k (tree.Global at g n l a a_at) = by_meaning (means k.names g.name.name)
  where
    by_meaning : Option Meaning → Type 0
    by_meaning (Some (Extern z)) = IsIn g.name.name k.externs
    by_meaning (Some ExternArray) = IsIn g.name.name k.externs
    by_meaning _ = Unit {0}

-- the same by what its name means
abbrev pub Is : List ℕ → List (List ℕ × ℕ) → Option Meaning → Type 0
Is x es (Some (Extern z)) = IsIn x es
Is x es (Some ExternArray) = IsIn x es
Is x es _ = Unit {0}

abbrev step : List Named → List ℕ → Declared → Option Meaning → Declared
step es x k (Some (Extern z)) = with_extern x (z ∷ []) k
step es x k (Some ExternArray) = with_extern x (values_named es x) k
step es x k _ = k

module _ (ks : List RKernel) (es : List Named) where
  adds-self : (k : Declared) → Lawful ks es k → Adds ks es k k
  adds-self k h = record { goes = record { lawful = h; grows = grows-self k; file = refl }; names = refl; kept = λ x i. i }

  adds-trans : (j k l : Declared) → Adds ks es j k → Adds ks es k l → Adds ks es j l
  adds-trans j k l h i = record {
    goes = record { lawful = i.goes.lawful; grows = grows-trans j k l h.goes.grows i.goes.grows; file = i.goes.file ∙ h.goes.file };
    names = i.names ∙ h.names;
    kept = λ x p. i.kept x (h.kept x p);
  }

  abbrev added : Declared → List ℕ → List ℤ → Declared
  added k x zs = record (with_var (extern_var x zs) k) { externs = k.externs ++ (x, length k.vars) ∷ [] }

  added-goes : (k : Declared) (x : List ℕ) (zs : List ℤ) → Lawful ks es k → HasValues es x (length zs) (named_in k.names.file x) → Adds ks es k (added k x zs)
  added-goes k x zs h v = record { goes = record { lawful = lawful; grows = grows; file = refl }; names = refl; kept = λ y i. in_more y k.externs (x, length k.vars) i }
    where
      w : VarValue
      w = extern_var x zs

      m : Lawful ks es (with_var (extern_var x zs) k)
      m = lawful-var ks es k (extern_var x zs) h

      lawful : Lawful ks es (added k x zs)
      lawful = record {
        mesh = m.mesh;
        few_sets = m.few_sets;
        few_maps = m.few_maps;
        few_dats = m.few_dats;
        dims = m.dims;
        map_dims = m.map_dims;
        cells = m.cells;
        file = m.file;
        own = m.own;
        mine = m.mine;
        externs = All-push (ExternFits es k.names.file (k.vars ++ extern_var x zs ∷ [])) k.externs (x, length k.vars) m.externs (
          omega (arith, length_push k.vars (extern_var x zs)),
          subst (λ n. HasValues es x n (named_in k.names.file x))
              (sym (ap (λ (y : VarValue). length y.start) (at_last k.vars (extern_var x zs)))) v,
        );
        sites = m.sites;
      }

      g : Grows k (with_var (extern_var x zs) k)
      g = grows-var ks es k (extern_var x zs)

      grows : Grows k (added k x zs)
      grows = record { vars = g.vars; cells = g.cells; sites = g.sites; sets = g.sets; maps = g.maps; dats = g.dats }

  extern-adds : (k : Declared) (x : List ℕ) (zs : List ℤ) → Lawful ks es k → HasValues es x (length zs) (named_in k.names.file x)
      → Adds ks es k (with_extern x zs k) × IsIn x (with_extern x zs k).externs
  extern-adds k x zs h v = pick (is_some (lookup (bytes_eq x) k.externs)) refl
    where
      pick : (b : Bool) → is_some (lookup (bytes_eq x) k.externs) ≡ b → Adds ks es k (if b then k else added k x zs) × IsIn x (if b then k else added k x zs).externs
      pick true e = (adds-self k h, e)
      pick false e = (added-goes k x zs h v, in_last x k.externs (length k.vars))

  -- by what the name means: an extern is one of the file
  step-adds : (k : Declared) (x : List ℕ) → Lawful ks es k → (a b : Option Meaning) → IfSome a IsOwn → named_in k.names.file x ≡ b
      → Adds ks es k (step es x k (or_else a b)) × Is x (step es x k (or_else a b)).externs (or_else a b)
  step-adds k x h (Some (Extern z)) b o e = absurd o
  step-adds k x h (Some ExternArray) b o e = absurd o
  step-adds k x h (Some (Kernel number params)) b o e = (adds-self k h, tt)
  step-adds k x h (Some (Set s)) b o e = (adds-self k h, tt)
  step-adds k x h (Some (Map m)) b o e = (adds-self k h, tt)
  step-adds k x h (Some (Dat d)) b o e = (adds-self k h, tt)
  step-adds k x h (Some (Variable c)) b o e = (adds-self k h, tt)
  step-adds k x h (Some (Fixed z c)) b o e = (adds-self k h, tt)
  step-adds k x h (Some (FixedLater t c)) b o e = (adds-self k h, tt)
  step-adds k x h (Some (Turning t)) b o e = (adds-self k h, tt)
  step-adds k x h None (Some (Extern z)) o e = extern-adds k x (z ∷ []) h (subst (HasValues es x 1) (sym e) refl)
  step-adds k x h None (Some ExternArray) o e = extern-adds k x (values_named es x) h (subst (HasValues es x (length (values_named es x))) (sym e) refl)
  step-adds k x h None (Some (Kernel number params)) o e = (adds-self k h, tt)
  step-adds k x h None (Some (Set s)) o e = (adds-self k h, tt)
  step-adds k x h None (Some (Map m)) o e = (adds-self k h, tt)
  step-adds k x h None (Some (Dat d)) o e = (adds-self k h, tt)
  step-adds k x h None (Some (Variable c)) o e = (adds-self k h, tt)
  step-adds k x h None (Some (Fixed z c)) o e = (adds-self k h, tt)
  step-adds k x h None (Some (FixedLater t c)) o e = (adds-self k h, tt)
  step-adds k x h None (Some (Turning t)) o e = (adds-self k h, tt)
  step-adds k x h None None o e = (adds-self k h, tt)

  is-kept : (k l : Declared) → Adds ks es k l → (x : List ℕ) (m : Option Meaning) → Is x k.externs m → Is x l.externs m
  is-kept k l h x None i = tt
  is-kept k l h x (Some (Extern z)) i = h.kept x i
  is-kept k l h x (Some ExternArray) i = h.kept x i
  is-kept k l h x (Some (Kernel number params)) i = tt
  is-kept k l h x (Some (Set s)) i = tt
  is-kept k l h x (Some (Map m)) i = tt
  is-kept k l h x (Some (Dat d)) i = tt
  is-kept k l h x (Some (Variable c)) i = tt
  is-kept k l h x (Some (Fixed z c)) i = tt
  is-kept k l h x (Some (FixedLater t c)) i = tt
  is-kept k l h x (Some (Turning t)) i = tt

  one-adds : (k : Declared) (a : LoopArg) → Lawful ks es k → Adds ks es k (after_global es a k) × IsThere (after_global es a k) a
  one-adds k (tree.Dat at x i v n l a a_at) h = (adds-self k h, tt)
  one-adds k (tree.Global at g n l a a_at) h =
      let x = g.name.name in
      let r = step-adds k x h (named_in k.names.own x) (named_in k.names.file x) (All-lookup IsOwn (bytes_eq x) k.names.own h.mine) refl in
      (r.0, subst (λ s. Is x (step es x k (means k.names x)).externs (means s x)) (sym r.0.names) r.1)

  there-kept : (k l : Declared) → Adds ks es k l → (a : LoopArg) → IsThere k a → IsThere l a
  there-kept k l h (tree.Dat at x i v n p a a_at) t = tt
  there-kept k l h (tree.Global at g n p a a_at) t =
      let x = g.name.name in
      subst (λ s. Is x l.externs (means s x)) (sym h.names) (is-kept k l h x (means k.names x) t)

  -- all externs among the globals are variables
  abbrev pub AllThere : Declared → List LoopArg → Type 0
  AllThere k [] = Unit {0}
  AllThere k (a ∷ more) = IsThere k a × AllThere k more

  pub all-add : (k : Declared) (args : List LoopArg) → Lawful ks es k → Adds ks es k (after_globals es args k) × AllThere (after_globals es args k) args
  all-add k [] h = (adds-self k h, tt)
  all-add k (a ∷ more) h =
      let one = one-adds k a h in
      let l = after_global es a k in
      let rest = all-add (after_global es a k) more one.0.goes.lawful in
      (adds-trans k l (after_globals es more l) one.0 rest.0, (there-kept l (after_globals es more l) rest.0 a one.1, rest.1))
