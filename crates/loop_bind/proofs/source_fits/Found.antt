-- Each constant of a source is found by its name.
use Rattle.std.proofs.Common.{◌≡◌, ◌∙◌, ℕ, Bool, true, false, List, [], ◌∷◌, ◌++◌, Option, Some, None, is_some, refl, sym, ap, subst, append_assoc, append-nil, if◌then◌else◌}
use Rattle.std.specs.Prelude.{bytes_eq}
use Rattle.std.proofs.lemmas.List.Elements.{All-nil, All-cons, All-append, All-weaker}
use Rattle.std.proofs.lemmas.Slice.Eq.{bytes_eq-Decides}
use Rattle.c_tree.specs.Tree.{ProgramTree}
use Rattle.kernel_model.specs.declared.types.kernels.ConstDecl.{ConstDecl}
use Rattle.name_resolution.specs.declared.decls.Decl.{Decl}
use Rattle.name_resolution.specs.Scopes.{Names, decl_in, declared}
use Rattle.name_resolution.specs.Mains.{declr_name}
use Rattle.name_resolution.specs.Programs.{constant_cells, constant_of, constants, other_decl, variable_decl, named_in, file_of}
use Rattle.main_declarations.specs.SoFar.{first_cell}
use Rattle.loop_bind.specs.FileVariables.{AreFound}
use Rattle.loop_bind.proofs.source_fits.Kept.{tops_keep}

-- ---- the first cell among constants and more

left_found : (cs ds : List ConstDecl) (x : List ℕ) (n : ℕ) → first_cell cs x ≡ Some n → first_cell (cs ++ ds) x ≡ Some n
left_found [] ds x n h = cc
left_found (c ∷ cs) ds x n h = by (bytes_eq c.name x) (λ e. left_found cs ds x n e) h
  where
    by : (b : Bool) → (first_cell cs x ≡ Some n → first_cell (cs ++ ds) x ≡ Some n) → (if b then Some c.from else first_cell cs x) ≡ Some n
        → (if b then Some c.from else first_cell (cs ++ ds) x) ≡ Some n
    by true rest h = h
    by false rest h = rest h

right_found : (cs ds : List ConstDecl) (x : List ℕ) → first_cell cs x ≡ None → first_cell (cs ++ ds) x ≡ first_cell ds x
right_found [] ds x h = refl
right_found (c ∷ cs) ds x h = by (bytes_eq c.name x) (λ e. right_found cs ds x e) h
  where
    by : (b : Bool) → (first_cell cs x ≡ None → first_cell (cs ++ ds) x ≡ first_cell ds x)
        → ◌≡◌ {A = Option ℕ} (if b then Some c.from else first_cell cs x) None
        → (if b then Some c.from else first_cell (cs ++ ds) x) ≡ first_cell ds x
    by true rest h = cc
    by false rest h = rest h

-- ---- a name that isn't known is no constant's

turned : (x y : List ℕ) → bytes_eq x y ≡ false → bytes_eq y x ≡ false
turned x y e = by (bytes_eq y x) refl
  where
    by : (b : Bool) → bytes_eq y x ≡ b → b ≡ false
    by true q = let r : bytes_eq x y ≡ true = (bytes_eq-Decides x y).1 (sym ((bytes_eq-Decides y x).0 q)) in cc
    by false q = refl

no_constant : (names : Names) (x : List ℕ) → decl_in names x ≡ None → first_cell (constants names) x ≡ None
no_constant [] x h = refl
no_constant (n ∷ names) x h = by (bytes_eq x n.0) refl (λ e. no_constant names x e) h
  where
    behind : (b : Bool) → bytes_eq n.0 x ≡ false → first_cell (constants names) x ≡ None
        → first_cell ((if b then (record { name = n.0; from = n.1.from; count = n.1.count } ∷ []) else []) ++ constants names) x ≡ None
    behind true q r = ap (λ b. if b then Some n.1.from else first_cell (constants names) x) q ∙ r
    behind false q r = r

    by : (b : Bool) → bytes_eq x n.0 ≡ b → (decl_in names x ≡ None → first_cell (constants names) x ≡ None)
        → ◌≡◌ {A = Option Decl} (if b then Some n.1 else decl_in names x) None → first_cell (constants (n ∷ names)) x ≡ None
    by true q rest e = cc
    by false q rest e = behind n.1.is_constant (turned x n.0 q) (rest e)

-- ---- one name more

pub constants_push : (names : Names) (x : List ℕ) (d : Decl) → constants (names ++ (x, d) ∷ []) ≡ constants names ++ constant_of x d
constants_push [] x d = append-nil (constant_of x d)
constants_push (n ∷ names) x d =
    ap (λ cs. constant_of n.0 n.1 ++ cs) (constants_push names x d) ∙ sym (append_assoc (constant_of n.0 n.1) (constants names) (constant_of x d))

abbrev IsIn : List ConstDecl → ConstDecl → Type 0
IsIn cs c = first_cell cs c.name ≡ Some c.from

pushed : (cs : List ConstDecl) (x : List ℕ) (d : Decl) → first_cell cs x ≡ None → AreFound cs → AreFound (cs ++ constant_of x d)
pushed cs x d n h = by d.is_constant
  where
    by : (b : Bool) → AreFound (cs ++ (if b then (record { name = x; from = d.from; count = d.count } ∷ []) else []))
    by false = subst AreFound (sym (append-nil cs)) h
    by true =
        let c : ConstDecl = record { name = x; from = d.from; count = d.count } in
        let all = cs ++ c ∷ [] in
        All-append (IsIn all) cs (c ∷ []) (All-weaker (IsIn cs) (IsIn all) (λ e i. left_found cs (c ∷ []) e.name e.from i) cs h)
        (All-cons (IsIn all) c [] (right_found cs (c ∷ []) x n ∙ ap (λ b. if b then Some d.from else None) ((bytes_eq-Decides x x).1 refl)) (All-nil (IsIn all)))

one_declared : (x : List ℕ) (d : Decl) (names : Names) → AreFound (constants names) → AreFound (constants (declared x d names))
one_declared x d names h = by (decl_in names x) refl
  where
    by : (o : Option Decl) → decl_in names x ≡ o → AreFound (constants (if is_some o then names else (names ++ (x, d) ∷ [])))
    by (Some q) e = h
    by None e = subst AreFound (sym (constants_push names x d)) (pushed (constants names) x d (no_constant names x e) h)

pub constants_found : (p : ProgramTree) → AreFound (constants (file_of p))
constants_found p =
    tops_keep (named_in p) (λ file. AreFound (constants file))
    (λ c file d h. one_declared (declr_name d).name (variable_decl (named_in p) c (constant_cells file) d) file h)
    (λ s i x at file h. one_declared x (other_decl s at) file h)
    [] p.tops (All-nil (IsIn []))
