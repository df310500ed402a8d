-- The constants of a source are its variables that kernels read, in order.
use Rattle.std.proofs.Common.{◌≡◌, ◌∙◌, ℕ, ℤ, pos, negsuc, Bool, true, false, List, [], ◌∷◌, ◌++◌, is_some, refl, sym, ap, subst, append_assoc, append-nil, if◌then◌else◌}
use Rattle.std.specs.Prelude.{unsigned_abs}
use Rattle.c_tree.specs.Grouped.{IsDeclr, AreDeclrs, IsTop, AreTops}
use Rattle.c_tree.specs.Tree as tree
use Rattle.c_tree.specs.Tree.{DeclrTree, TopTree, ProgramTree}
use Rattle.kernel_model.specs.declared.types.kernels.ConstDecl.{ConstDecl}
use Rattle.name_resolution.specs.declared.breaches.TypeRule.TheVariants as rule
use Rattle.name_resolution.specs.declared.decls.Sort.{Sort}
use Rattle.name_resolution.specs.declared.decls.Sort.TheVariants as sort
use Rattle.name_resolution.specs.declared.decls.Decl.{Decl}
use Rattle.name_resolution.specs.Scopes.{Names, scope, decl_in, declared, repeated}
use Rattle.name_resolution.specs.Mains.{is_wrong_size, size_breaches, init_breaches, declr_name, declr_breaches, hosts_breaches}
use Rattle.name_resolution.specs.Programs.{constant_cells, constant_of, constants, right_size, declr_count, other_decl, variable_decl, with_variable, after_variables, after_top, after_tops, variables_breaches, top_breaches, tops_breaches, named_in, file_of, breaches}
use Rattle.name_resolution.specs.Work.{nat_of, size_of}
use Rattle.name_resolution.proofs.Public.{none_of_both, none_if}
use Rattle.loop_bind.specs.FileVariables.{FileVariable, declr_variable, declrs_variables, top_variables, file_variables, is_constant, Begins, AreConstants}
use Rattle.loop_bind.proofs.source_fits.Found.{constants_push}

-- ---- constants and more

are_more : (named : List (List ℕ)) (fs gs : List FileVariable) (a b : List ConstDecl) → AreConstants named fs a → AreConstants named gs b → AreConstants named (fs ++ gs) (a ++ b)
are_more named [] gs [] b h k = k
are_more named [] gs (c ∷ a) b h k = absurd h
are_more named (f ∷ fs) gs a b h k = by (λ ds i. are_more named fs gs ds b i k) (is_constant named f) a h
  where
    by : ((ds : List ConstDecl) → AreConstants named fs ds → AreConstants named (fs ++ gs) (ds ++ b)) → (q : Bool) (a : List ConstDecl)
        → Begins q f a (AreConstants named fs) → Begins q f (a ++ b) (AreConstants named (fs ++ gs))
    by rest false a h = rest a h
    by rest true [] h = absurd h
    by rest true (c ∷ a) h = (h.0, h.1, rest a h.2)

-- the names of the file grow by these variables, and their constants by those of these
record Adds (named : List (List ℕ)) (file after : Names) (fs : List FileVariable) : Type 0 where
  more : List ConstDecl
  whole : constants after ≡ constants file ++ more
  are : AreConstants named fs more

module _ (named : List (List ℕ)) where
  adds_none : (file after : Names) → constants after ≡ constants file → Adds named file after []
  adds_none file after e = record { more = []; whole = e ∙ sym (append-nil (constants file)); are = tt }

  adds_twice : (a b c : Names) (fs gs : List FileVariable) → Adds named a b fs → Adds named b c gs → Adds named a c (fs ++ gs)
  adds_twice a b c fs gs h k = record {
    more = h.more ++ k.more;
    whole = k.whole ∙ ap (λ cs. cs ++ k.more) h.whole ∙ append_assoc (constants a) h.more k.more;
    are = are_more named fs gs h.more k.more h.are k.are;
  }

  -- ---- a variable

  same_constant : (c : Bool) (from : ℕ) (d : DeclrTree) → IsDeclr c d → is_constant named (declr_variable c d) ≡ (variable_decl named c from d).is_constant
  same_constant c from (tree.Init x e) h = refl
  same_constant true from (tree.Plain x) h = absurd h
  same_constant false from (tree.Plain x) h = refl
  same_constant true from (tree.Array x n) h = absurd h
  same_constant false from (tree.Array x n) h = refl

  same_name : (c : Bool) (d : DeclrTree) → (declr_name d).name ≡ (declr_variable c d).name
  same_name c (tree.Plain x) = refl
  same_name c (tree.Init x e) = refl
  same_name c (tree.Array x n) = refl

  sized : (z : ℤ) → is_wrong_size (nat_of z) ≡ false → right_size (nat_of z) ≡ unsigned_abs z
  sized (pos n) h = ap (λ b. if b then 0 else n) h
  sized (negsuc n) h = cc

  same_count : (c : Bool) (d : DeclrTree) → size_breaches d ≡ [] → declr_count d ≡ (declr_variable c d).count
  same_count c (tree.Plain x) h = refl
  same_count c (tree.Init x e) h = refl
  same_count c (tree.Array x n) h = sized n.value (none_if (is_wrong_size (size_of n)) rule.TooMuchWork x.at h)

  one_is : (c : Bool) (from : ℕ) (d : DeclrTree) → IsDeclr c d → size_breaches d ≡ [] → AreConstants named (declr_variable c d ∷ []) (constant_of (declr_name d).name (variable_decl named c from d))
  one_is c from d g s = by (is_constant named (declr_variable c d)) (variable_decl named c from d).is_constant (same_constant c from d g)
    where
      by : (p q : Bool) → p ≡ q → Begins p (declr_variable c d) (if q then (record { name = (declr_name d).name; from = from; count = declr_count d } ∷ []) else []) (AreConstants named [])
      by true true e = (same_name c d, same_count c d s, tt)
      by true false e = cc
      by false true e = cc
      by false false e = tt

  -- a name that isn't known is pushed
  is_new : (x : List ℕ) (d : Decl) (file : Names) (t : ℕ) → repeated (record { name = x; at = t }) file ≡ [] → declared x d file ≡ file ++ (x, d) ∷ []
  is_new x d file t h = ap (λ b. if b then file else (file ++ (x, d) ∷ [])) (none_if (is_some (decl_in file x)) rule.DuplicateName t h)

  variable_adds : (c : Bool) (file : Names) (d : DeclrTree) → IsDeclr c d → declr_breaches (scope file []) d ≡ []
      → repeated (declr_name d) file ≡ [] → Adds named file (with_variable named c file d) (declr_variable c d ∷ [])
  variable_adds c file d g s r =
      let v = variable_decl named c (constant_cells file) d in
      record {
        more = constant_of (declr_name d).name v;
        whole = ap constants (is_new (declr_name d).name v file (declr_name d).at r) ∙ constants_push file (declr_name d).name v;
        are = one_is c (constant_cells file) d g (none_of_both (init_breaches (scope file []) d) (size_breaches d) s).1;
      }

  variables_add : (c : Bool) (file : Names) (ds : List DeclrTree) → AreDeclrs c ds → variables_breaches named c file ds ≡ [] → Adds named file (after_variables named c file ds) (declrs_variables c ds)
  variables_add c file [] g e = adds_none file file refl
  variables_add c file (d ∷ ds) g e =
      let later = with_variable named c file d in
      let b = none_of_both (declr_breaches (scope file []) d ++ repeated (declr_name d) file) (variables_breaches named c later ds) e in
      let h = none_of_both (declr_breaches (scope file []) d) (repeated (declr_name d) file) b.0 in
      adds_twice file later (after_variables named c later ds) (declr_variable c d ∷ []) (declrs_variables c ds) (variable_adds c file d g.0 h.0 h.1) (variables_add c later ds g.1 b.1)

  -- ---- the file

  other_adds : (s : Sort) (x : List ℕ) (at : ℕ) (file : Names) → Adds named file (declared x (other_decl s at) file) []
  other_adds s x at file = by (is_some (decl_in file x))
    where
      by : (b : Bool) → Adds named file (if b then file else (file ++ (x, other_decl s at) ∷ [])) []
      by true = adds_none file file refl
      by false = adds_none file (file ++ (x, other_decl s at) ∷ []) (constants_push file x (other_decl s at) ∙ append-nil (constants file))

  top_adds : (file : Names) (t : TopTree) → IsTop t → top_breaches named file t ≡ [] → Adds named file (after_top named file t) (top_variables t)
  top_adds file (tree.Extern x) g e = other_adds sort.Extern x.name x.at file
  top_adds file (tree.ExternArray x) g e = other_adds sort.ExternArray x.name x.at file
  top_adds file (tree.FileDeclaration v) g e = variables_add v.is_const file v.declrs g.1 e
  top_adds file (tree.Kernel f) g e = other_adds sort.Kernel f.name.name f.name.at file

  tops_add : (file : Names) (ts : List TopTree) → AreTops ts → tops_breaches named file ts ≡ [] → Adds named file (after_tops named file ts) (file_variables ts)
  tops_add file [] g e = adds_none file file refl
  tops_add file (t ∷ ts) g e =
      let later = after_top named file t in
      let b = none_of_both (top_breaches named file t) (tops_breaches named later ts) e in
      adds_twice file later (after_tops named later ts) (top_variables t) (file_variables ts) (top_adds file t g.0 b.0) (tops_add later ts g.1 b.1)

pub constants_listed : (p : ProgramTree) → AreTops p.tops → breaches p ≡ [] → AreConstants (named_in p) (file_variables p.tops) (constants (file_of p))
constants_listed p g e =
    let b = none_of_both (tops_breaches (named_in p) [] p.tops) (hosts_breaches (file_of p) [] [] p.main.body) e in
    let a = tops_add (named_in p) [] p.tops g b.0 in
    subst (AreConstants (named_in p) (file_variables p.tops)) (sym a.whole) a.are
