-- The calls of `op_par_loop` in a source.
use Rattle.std.specs.Prelude.{ℕ, List, [], ◌∷◌, ◌++◌}
use Rattle.c_tree.specs.declared.hosts.LoopArg.{LoopArg}
use Rattle.c_tree.specs.Tree as tree
use Rattle.c_tree.specs.Tree.{OpCallTree, HostTree, HostTrees}
use Rattle.explanations.specs.declared.error_loops.calls.LoopCall.{LoopCall}

-- a call of `op_par_loop`: the number of its word, the name of its kernel, and its arguments
pub record Call : Type 0 where
  pub at : ℕ
  pub kernel : List ℕ
  pub args : List LoopArg

-- a call in the code
abbrev pub call_of : LoopCall → Call
call_of c = record { at = c.at; kernel = c.kernel.now.name; args = c.args.now }

-- the call of the library, if it is of a loop
abbrev pub loop_of : OpCallTree → List Call
loop_of (tree.ParLoop at kernel label set args) = record { at = at; kernel = kernel.name; args = args } ∷ []
loop_of c = []

abbrev mutual
  -- those of a statement, in the order of the text
  pub loops_of : HostTree → List Call
  loops_of (tree.HostDeclaration v) = []
  loops_of (tree.HostBlock at hs) = all_loops_of hs
  loops_of (tree.HostEmpty at) = []
  loops_of (tree.HostAssign a) = []
  loops_of (tree.HostIf at e x) = loops_of x
  loops_of (tree.HostIfElse at e x y) = loops_of x ++ loops_of y
  loops_of (tree.HostFor f x) = loops_of x
  loops_of (tree.HostCall c) = loop_of c

  -- those of statements
  pub all_loops_of : HostTrees → List Call
  all_loops_of tree.NoHost = []
  all_loops_of (tree.MoreHost h hs) = loops_of h ++ all_loops_of hs
