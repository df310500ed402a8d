-- What is declared stays so behind the declaration of a constant.
use Rattle.std.proofs.Common.{◌≡◌, ℕ, zero, suc, ◌+◌, List, [], ◌∷◌, ◌++◌, length, Bool, refl, sym, ap, subst, arith, ◌∙◌}
use Rattle.std.specs.Prelude.{All, Option, Some, None}
use Rattle.std.proofs.lemmas.List.Elements.{All-nil, All-weaker}
use Rattle.std.proofs.lemmas.List.Sums.{sum_by-cons}
use Rattle.c_tree.specs.declared.lexer.tokens.Pos.{Pos}
use Rattle.c_tree.specs.declared.expressions.NumberLiteral.{NumberLiteral}
use Rattle.c_tree.specs.declared.expressions.TextLiteral.{TextLiteral}
use Rattle.c_tree.specs.declared.hosts.GlobalName.{GlobalName}
use Rattle.kernel_model.specs.declared.types.kernels.ConstDecl.{ConstDecl}
use Rattle.kernel_model.specs.declared.types.kernels.RKernel.{RKernel}
use Rattle.mesh_decl.specs.Spelling.{Named}
use Rattle.main_declarations.specs.declared.names.scopes.Cells.{Cells}
use Rattle.bound_program.specs.Values.{VarValue}
use Rattle.main_declarations.specs.Names.{means}
use Rattle.main_declarations.specs.SoFar.{Declared, first_cell}
use Rattle.main_declarations.specs.Declarations.{place_found, type_found}
use Rattle.main_declarations.specs.Variables.{file_cells, constant_found, with_constant, after_constant, constant_decl_found, judged_constant}
use Rattle.bound_program.specs.Fits.{SiteFits}
use Rattle.main_declarations.proofs.Public.{Gives, gives_unless, left_nil}
use Rattle.loop_bind.proofs.FitsState.{at, cells_in, VarsGrow, Grows, grows-self, names_more, ExternFits, extern_more, so_far, Lawful}
use Rattle.loop_bind.proofs.FitsMesh.{no_site_yet}
use Rattle.loop_bind.proofs.FitsMeshWalk.{Goes}

constant_length : (places : List Pos) → (v : ℕ) (c : Option ℕ) (vs : List VarValue) → length (with_constant places v c vs) ≡ length vs
constant_length places v c [] = refl
constant_length places zero c (x ∷ xs) = refl
constant_length places (suc v) c (x ∷ xs) = ap suc (constant_length places v c xs)

constant_start : (places : List Pos) → (v : ℕ) (c : Option ℕ) (vs : List VarValue) (w : ℕ) → length (at (with_constant places v c vs) w).start ≡ length (at vs w).start
constant_start places v c [] w = refl
constant_start places zero c (x ∷ xs) zero = refl
constant_start places zero c (x ∷ xs) (suc w) = refl
constant_start places (suc v) c (x ∷ xs) zero = refl
constant_start places (suc v) c (x ∷ xs) (suc w) = constant_start places v c xs w

constant_cells_in : (places : List Pos) → (v : ℕ) (c : Option ℕ) (vs : List VarValue) → cells_in (with_constant places v c vs) ≡ cells_in vs
constant_cells_in places v c [] = refl
constant_cells_in places zero c (x ∷ xs) = refl
constant_cells_in places (suc v) c (x ∷ xs) = sum_by-cons (λ (y : VarValue). length y.start) x (with_constant places v c xs)
    ∙ ap (λ n. length x.start + n) (constant_cells_in places v c xs) ∙ sym (sum_by-cons (λ (y : VarValue). length y.start) x xs)

pub constant_grow : (places : List Pos) → (v : ℕ) (c : Option ℕ) (vs : List VarValue) → VarsGrow vs (with_constant places v c vs)
constant_grow places v c vs = record { longer = omega (arith, constant_length places v c vs); same = λ w l. constant_start places v c vs w }

module _ (ks : List RKernel) (es : List Named) where
  constant-goes : (places : List Pos) (k : Declared) (v : ℕ) (c : Option ℕ) → Lawful ks es k → k.sites ≡ [] → Goes ks es k (record k { vars = with_constant places v c k.vars })
  constant-goes places k v c h e = record { lawful = lawful; grows = grows; file = refl }
    where
      l : Declared
      l = record k { vars = with_constant places v c k.vars }

      grows : Grows k l
      grows = record { vars = constant_grow places v c k.vars; cells = omega arith; sets = omega arith; maps = omega arith; dats = omega arith; sites = omega arith }

      lawful : Lawful ks es l
      lawful = record {
        mesh = h.mesh;
        few_sets = h.few_sets;
        few_maps = h.few_maps;
        few_dats = h.few_dats;
        dims = h.dims;
        map_dims = h.map_dims;
        cells = constant_cells_in places v c k.vars ∙ h.cells;
        file = names_more ks k l grows k.names.file h.file;
        own = names_more ks k l grows k.names.own h.own;
        mine = h.mine;
        externs = All-weaker (ExternFits es k.names.file k.vars) (ExternFits es k.names.file (with_constant places v c k.vars))
            (extern_more es k.names.file k.vars (with_constant places v c k.vars) (constant_grow places v c k.vars)) k.externs h.externs;
        sites = subst (All (SiteFits (so_far ks l))) (sym e) (All-nil (SiteFits (so_far ks l)));
      }

  pub constant_is_lawful : (places : List Pos) (consts : List ConstDecl) (k : Declared) (nested : Bool) (t : ℕ) (n : NumberLiteral)
      (l : TextLiteral) (g : GlobalName) → Lawful ks es k → Gives (Goes ks es k) (judged_constant places consts k nested t n l g)
  constant_is_lawful places consts k nested t n l g h =
      gives_unless (Goes ks es k) (constant_decl_found places k nested t n l g) (after_constant places consts k g.name.name (file_cells places (means k.names g.name.name)))
      (λ none.
      let p = place_found places k nested t in
      let c = constant_found places n g (file_cells places (means k.names g.name.name)) in
      let y = type_found places l in
      pick (file_cells places (means k.names g.name.name)) (no_site_yet places k nested t (left_nil p c (left_nil (p ++ c) y none))))
    where
      pick : (o : Option Cells) → k.sites ≡ [] → Goes ks es k (after_constant places consts k g.name.name o)
      pick None e = record { lawful = h; grows = grows-self k; file = refl }
      pick (Some c) e = constant-goes places k c.var (first_cell consts g.name.name) h e
