-- The constants of a source stand one behind the other.
use Rattle.std.proofs.Common.{◌≡◌, ◌∙◌, ℕ, ◌+◌, Bool, true, false, List, [], ◌∷◌, ◌++◌, is_some, arith, refl, sym, ap, subst, append_assoc, append-nil, if◌then◌else◌}
use Rattle.c_tree.specs.Tree as tree
use Rattle.c_tree.specs.Tree.{DeclrTree, TopTree}
use Rattle.kernel_model.specs.Resolved.{FollowOn, cells_of}
use Rattle.kernel_model.specs.declared.types.kernels.ConstDecl.{ConstDecl}
use Rattle.name_resolution.specs.declared.decls.Decl.{Decl}
use Rattle.name_resolution.specs.Scopes.{Names, decl_in, declared}
use Rattle.name_resolution.specs.Mains.{declr_name}
use Rattle.name_resolution.specs.Programs.{constant_cells, constant_of, constants, variable_decl, with_variable, after_variables, after_top, after_tops}

-- the constants among these names follow on from 0
pub record Follow (names : Names) : Type 0 where
  pub on : FollowOn 0 (constants names)

one_more : (n : ℕ) (cs : List ConstDecl) (c : ConstDecl) → FollowOn n cs → c.from ≡ n + cells_of cs → FollowOn n (cs ++ c ∷ [])
one_more n [] c h e = (omega (arith, e), tt)
one_more n (x ∷ cs) c h e = (h.0, one_more (n + x.count) cs c h.1 (omega (arith, e)))

pub cells_are : (names : Names) → cells_of (constants names) ≡ constant_cells names
cells_are [] = refl
cells_are (m ∷ ns) = by m.1.is_constant refl (cells_are ns)
  where
    by : (t : Bool) → m.1.is_constant ≡ t → cells_of (constants ns) ≡ constant_cells ns → cells_of (constants (m ∷ ns)) ≡ constant_cells (m ∷ ns)
    by true e h = rw e (ap (λ k. m.1.count + k) h)
    by false e h = rw e (omega (arith, h))

constants_one_more : (names : Names) (x : List ℕ) (d : Decl) → constants (names ++ (x, d) ∷ []) ≡ constants names ++ (constant_of x d ++ [])
constants_one_more [] x d = refl
constants_one_more (m ∷ ns) x d =
    ap (λ cs. constant_of m.0 m.1 ++ cs) (constants_one_more ns x d) ∙ sym (append_assoc (constant_of m.0 m.1) (constants ns) (constant_of x d ++ []))

added : (names : Names) (x : List ℕ) (d : Decl) → Follow names → (d.is_constant ≡ true → d.from ≡ constant_cells names) → Follow (names ++ (x, d) ∷ [])
added names x d h w = record { on = subst (λ cs. FollowOn 0 cs) (sym (constants_one_more names x d)) (by d.is_constant refl) }
  where
    by : (t : Bool) → d.is_constant ≡ t → FollowOn 0 (constants names ++ (constant_of x d ++ []))
    by true e = rw e (one_more 0 (constants names) _ h.on (w e ∙ sym (cells_are names) ∙ omega arith))
    by false e = rw e (rw append-nil h.on)

declared_follow : (names : Names) (x : List ℕ) (d : Decl) → Follow names → (d.is_constant ≡ true → d.from ≡ constant_cells names) → Follow (declared x d names)
declared_follow names x d h w = by (is_some (decl_in names x))
  where
    by : (t : Bool) → Follow (if t then names else (names ++ (x, d) ∷ []))
    by true = h
    by false = added names x d h w

module _ (named : List (List ℕ)) where
  variables_follow : (c : Bool) (file : Names) (ds : List DeclrTree) → Follow file → Follow (after_variables named c file ds)
  variables_follow c file [] h = h
  variables_follow c file (d ∷ ds) h =
      variables_follow c (with_variable named c file d) ds (declared_follow file (declr_name d).name (variable_decl named c (constant_cells file) d) h (λ _. refl))

  top_follows : (file : Names) (t : TopTree) → Follow file → Follow (after_top named file t)
  top_follows file (tree.Extern x) h = declared_follow file x.name _ h (λ e. cc)
  top_follows file (tree.ExternArray x) h = declared_follow file x.name _ h (λ e. cc)
  top_follows file (tree.FileDeclaration v) h = variables_follow v.is_const file v.declrs h
  top_follows file (tree.Kernel f) h = declared_follow file f.name.name _ h (λ e. cc)

  pub tops_follow : (file : Names) (ts : List TopTree) → Follow file → Follow (after_tops named file ts)
  tops_follow file [] h = h
  tops_follow file (t ∷ ts) h = tops_follow (after_top named file t) ts (top_follows file t h)

pub none_follow : Follow []
none_follow = record { on = tt }
