-- What a source that was read and breaks no rule keeps, and its mesh text: numbers of 32 bits, and arrays that have cells.
use Rattle.std.specs.Prelude.{ℕ, suc, ◌<◌, List, [], ◌∷◌, length, All, FitsSigned}
use Rattle.std.specs.Int.{w32}
use Rattle.c_tree.specs.Tree as tree
use Rattle.c_tree.specs.Tree.{ExprTree, DeclrTree, PlaceTree, TopTree, OpCallTree, HostTree, HostTrees}
use Rattle.kernel_model.specs.declared.types.kernels.RKernel.{RKernel}
use Rattle.mesh_decl.specs.declared.text.entry.Entry.{Entry}
use Rattle.mesh_decl.specs.declared.text.entry.Entry.TheVariants.{One, Many}
use Rattle.mesh_decl.specs.Spelling.{Named}
use Rattle.main_declarations.specs.Meanings.{count_of}
use Rattle.bound_program.specs.Fits.{TakesArgs}

-- the numbers of an expression are of 32 bits
abbrev pub HasNumbers : ExprTree → Type 0
HasNumbers (tree.Number n) = FitsSigned w32 n.value
HasNumbers (tree.Name x) = Unit {0}
HasNumbers (tree.Index x i) = HasNumbers i
HasNumbers (tree.Deref at x) = Unit {0}
HasNumbers (tree.Unary op at x) = HasNumbers x
HasNumbers (tree.Binary op at l r) = HasNumbers l × HasNumbers r
HasNumbers (tree.Choice at c x y) = HasNumbers c × HasNumbers x × HasNumbers y
HasNumbers (tree.Paren at x) = HasNumbers x
HasNumbers (tree.Extremum which at x y) = HasNumbers x × HasNumbers y
HasNumbers (tree.Absolute at x) = HasNumbers x

-- a declarator: its initializer has numbers of 32 bits, and an array has cells
abbrev pub IsRead : DeclrTree → Type 0
IsRead (tree.Plain x) = Unit {0}
IsRead (tree.Init x e) = HasNumbers e
IsRead (tree.Array x n) = 0 < count_of n

-- the index of a target has numbers of 32 bits
abbrev pub PlaceIsRead : PlaceTree → Type 0
PlaceIsRead (tree.Scalar x) = Unit {0}
PlaceIsRead (tree.Element x i) = HasNumbers i
PlaceIsRead (tree.Target at x) = Unit {0}

-- the declarators of the file are so
abbrev pub TopIsRead : TopTree → Type 0
TopIsRead (tree.FileDeclaration v) = All IsRead v.declrs
TopIsRead t = Unit {0}

-- the numbers of a call's expressions are of 32 bits
abbrev pub CallIsRead : OpCallTree → Type 0
CallIsRead (tree.DeclSet at x e l) = HasNumbers e
CallIsRead (tree.Printf at l es) = All HasNumbers es
CallIsRead c = Unit {0}

abbrev mutual
  -- numbers are of 32 bits and arrays have cells in a statement of `main`
  pub HostIsRead : HostTree → Type 0
  HostIsRead (tree.HostDeclaration v) = All IsRead v.declrs
  HostIsRead (tree.HostBlock at hs) = HostsAreRead hs
  HostIsRead (tree.HostEmpty at) = Unit {0}
  HostIsRead (tree.HostAssign a) = PlaceIsRead a.place × HasNumbers a.value
  HostIsRead (tree.HostIf at e x) = HasNumbers e × HostIsRead x
  HostIsRead (tree.HostIfElse at e x y) = HasNumbers e × HostIsRead x × HostIsRead y
  HostIsRead (tree.HostFor f x) = HasNumbers f.from × HasNumbers f.to × HostIsRead x
  HostIsRead (tree.HostCall c) = CallIsRead c

  -- the numbers in each of these statements of `main` are read
  pub HostsAreRead : HostTrees → Type 0
  HostsAreRead tree.NoHost = Unit {0}
  HostsAreRead (tree.MoreHost h hs) = HostIsRead h × HostsAreRead hs

-- the value of an entry with one value is of 32 bits
abbrev pub HasNumber : Entry → Type 0
HasNumber (One z) = FitsSigned w32 z
HasNumber (Many zs) = Unit {0}

-- the values of entries with one value are of 32 bits
abbrev pub HaveNumbers : List Named → Type 0
HaveNumbers es = All (λ e. HasNumber e.1) es

-- the kernels of the source, from this number on, take as many parameters as they are resolved with
abbrev pub TopsTake : List RKernel → ℕ → List TopTree → Type 0
TopsTake ks n [] = Unit {0}
TopsTake ks n (tree.Kernel f ∷ ts) = TakesArgs ks n (length f.params) × TopsTake ks (suc n) ts
TopsTake ks n (t ∷ ts) = TopsTake ks n ts
