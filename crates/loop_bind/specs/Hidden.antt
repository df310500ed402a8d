-- No `op_decl_const` names a variable of `main`: each names one that is not hidden there (ISO C 6.2.1).
use Rattle.std.specs.Prelude.{◌≡◌, false, None}
use Rattle.c_tree.specs.Tree as tree
use Rattle.c_tree.specs.Tree.{OpCallTree, HostTree, HostTrees}
use Rattle.loop_bind.specs.Assigned.{Known, found, knows, after_host}

-- a call names none of these, if it is an `op_decl_const`
abbrev pub CallNamesNoOwn : Known → OpCallTree → Type 0
CallNamesNoOwn own (tree.DeclConst at n l g) = found own g.name.name ≡ None
CallNamesNoOwn own c = Unit {0}

abbrev mutual
  -- nor does a statement behind these names of `main`
  pub NamesNoOwn : Known → HostTree → Type 0
  NamesNoOwn own (tree.HostDeclaration v) = Unit {0}
  NamesNoOwn own (tree.HostBlock at hs) = AllNameNoOwn own hs
  NamesNoOwn own (tree.HostEmpty at) = Unit {0}
  NamesNoOwn own (tree.HostAssign a) = Unit {0}
  NamesNoOwn own (tree.HostIf at e x) = NamesNoOwn own x
  NamesNoOwn own (tree.HostIfElse at e x y) = NamesNoOwn own x × NamesNoOwn (after_host own x) y
  NamesNoOwn own (tree.HostFor f x) = NamesNoOwn (knows f.name.name false own) x
  NamesNoOwn own (tree.HostCall c) = CallNamesNoOwn own c

  -- nor does any of these statements
  pub AllNameNoOwn : Known → HostTrees → Type 0
  AllNameNoOwn own tree.NoHost = Unit {0}
  AllNameNoOwn own (tree.MoreHost h hs) = NamesNoOwn own h × AllNameNoOwn (after_host own h) hs
