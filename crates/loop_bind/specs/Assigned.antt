-- Which names of `main` stand for a variable that can be assigned, and that no others are assigned (ISO C 6.2.1, 6.5.16).
use Rattle.std.specs.Prelude.{ℕ, Bool, true, false, not, List, [], ◌∷◌, ◌++◌, length, take, Option, Some, None, is_some, bytes_eq, if◌then◌else◌}
use Rattle.std.specs.Map.{lookup}
use Rattle.c_tree.specs.Tree as tree
use Rattle.c_tree.specs.Tree.{DeclrTree, PlaceTree, TopTree, OpCallTree, HostTree, HostTrees, ProgramTree}

-- names in the order of the text, and whether they stand for a variable that isn't `const`
abbrev pub Known : Type 0
Known = List (List ℕ × Bool)

-- what a name stands for
abbrev pub found : Known → List ℕ → Option Bool
found names x = lookup (bytes_eq x) names

-- the name is known; one that was keeps what it stands for
abbrev pub knows : List ℕ → Bool → Known → Known
knows x b names = if is_some (found names x) then names else names ++ (x, b) ∷ []

-- the names behind a declarator
abbrev pub after_declr : Known → Bool → DeclrTree → Known
after_declr names c (tree.Plain x) = knows x.name true names
after_declr names c (tree.Init x e) = knows x.name (not c) names
after_declr names c (tree.Array x n) = knows x.name true names

-- the names behind declarators
abbrev pub after_declrs : Known → Bool → List DeclrTree → Known
after_declrs names c [] = names
after_declrs names c (d ∷ ds) = after_declrs (after_declr names c d) c ds

-- ---- the file

-- the names behind a declaration of the file
abbrev pub after_top : Known → TopTree → Known
after_top names (tree.Extern x) = knows x.name false names
after_top names (tree.ExternArray x) = knows x.name false names
after_top names (tree.FileDeclaration v) = after_declrs names v.is_const v.declrs
after_top names (tree.Kernel f) = knows f.name.name false names

-- the names behind declarations of the file
abbrev pub after_tops : Known → List TopTree → Known
after_tops names [] = names
after_tops names (t ∷ ts) = after_tops (after_top names t) ts

-- ---- `main`

-- the names behind a call
abbrev pub after_call : Known → OpCallTree → Known
after_call own (tree.DeclSet at x e l) = knows x.name false own
after_call own (tree.DeclMap at x from to n v l) = knows x.name false own
after_call own (tree.DeclDat at x on n u v l) = knows x.name false own
after_call own c = own

abbrev mutual
  -- the names behind a statement; those of a block or `for` end with it
  pub after_host : Known → HostTree → Known
  after_host own (tree.HostDeclaration v) = after_declrs own v.is_const v.declrs
  after_host own (tree.HostBlock at hs) = take (length own) (after_hosts own hs)
  after_host own (tree.HostEmpty at) = own
  after_host own (tree.HostAssign a) = own
  after_host own (tree.HostIf at e x) = after_host own x
  after_host own (tree.HostIfElse at e x y) = after_host (after_host own x) y
  after_host own (tree.HostFor f x) = take (length own) (after_host (knows f.name.name false own) x)
  after_host own (tree.HostCall c) = after_call own c

  -- the names behind statements
  pub after_hosts : Known → HostTrees → Known
  after_hosts own tree.NoHost = own
  after_hosts own (tree.MoreHost h hs) = after_hosts (after_host own h) hs

-- ---- what is assigned

-- the name of a target
abbrev pub place_name : PlaceTree → List ℕ
place_name (tree.Scalar x) = x.name
place_name (tree.Element x i) = x.name
place_name (tree.Target at x) = x.name

-- whether a name stands for a variable; a name of `main` hides one of the file
abbrev pub CanBeAssigned : Option Bool → Option Bool → Type 0
CanBeAssigned (Some true) f = Unit {0}
CanBeAssigned (Some false) f = ⊥
CanBeAssigned None (Some true) = Unit {0}
CanBeAssigned None (Some false) = ⊥
CanBeAssigned None None = ⊥

module _ (file : Known) where
  abbrev mutual
    -- a statement assigns variables alone
    pub Assigns : Known → HostTree → Type 0
    Assigns own (tree.HostDeclaration v) = Unit {0}
    Assigns own (tree.HostBlock at hs) = AllAssign own hs
    Assigns own (tree.HostEmpty at) = Unit {0}
    Assigns own (tree.HostAssign a) = CanBeAssigned (found own (place_name a.place)) (found file (place_name a.place))
    Assigns own (tree.HostIf at e x) = Assigns own x
    Assigns own (tree.HostIfElse at e x y) = Assigns own x × Assigns (after_host own x) y
    Assigns own (tree.HostFor f x) = Assigns (knows f.name.name false own) x
    Assigns own (tree.HostCall c) = Unit {0}

    -- each statement does
    pub AllAssign : Known → HostTrees → Type 0
    AllAssign own tree.NoHost = Unit {0}
    AllAssign own (tree.MoreHost h hs) = Assigns own h × AllAssign (after_host own h) hs

-- `main` does
abbrev pub MainAssigns : ProgramTree → Type 0
MainAssigns p = AllAssign (after_tops [] p.tops) [] p.main.body
