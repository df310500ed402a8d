-- The table of a source's loops.
use Rattle.std.specs.Prelude.{ℕ, suc, ℤ, neg_ℤ, List, [], ◌∷◌, ◌++◌, length, codes, if◌then◌else◌}
use Rattle.std.specs.List.{flat_map}
use Rattle.std.specs.Fmt.{decimal, signed_decimal}
use Rattle.c_tree.specs.Spelling.{word_spelling}
use Rattle.c_tree.specs.declared.expressions.NumberLiteral.{NumberLiteral}
use Rattle.c_tree.specs.declared.hosts.AccessWord.{AccessWord}
use Rattle.c_tree.specs.declared.hosts.ArgIndex.{ArgIndex}
use Rattle.c_tree.specs.declared.hosts.ArgVia.{ArgVia}
use Rattle.c_tree.specs.declared.hosts.ArgVia.TheVariants as via
use Rattle.c_tree.specs.declared.hosts.LoopArg.{LoopArg}
use Rattle.c_tree.specs.declared.hosts.LoopArg.TheVariants as arg
use Rattle.c_tree.specs.Signs.{access_word_of}
use Rattle.c_tree.specs.Tree as tree
use Rattle.c_tree.specs.Tree.{OpCallTree, HostTree, HostTrees}

-- a loop: its kernel, its set and its arguments
pub record Loop : Type 0 where
  pub kernel : List ℕ
  pub set : List ℕ
  pub args : List LoopArg

-- the loop of a call, if it is one
abbrev pub loop_of : OpCallTree → List Loop
loop_of (tree.ParLoop at k label set xs) = record { kernel = k.name; set = set.name; args = xs } ∷ []
loop_of c = []

abbrev mutual
  -- those of a statement, in the order of the text
  pub loops_of : HostTree → List Loop
  loops_of (tree.HostDeclaration v) = []
  loops_of (tree.HostBlock at hs) = all_loops_of hs
  loops_of (tree.HostEmpty at) = []
  loops_of (tree.HostAssign a) = []
  loops_of (tree.HostIf at e x) = loops_of x
  loops_of (tree.HostIfElse at e x y) = loops_of x ++ loops_of y
  loops_of (tree.HostFor f x) = loops_of x
  loops_of (tree.HostCall c) = loop_of c

  -- those of statements
  pub all_loops_of : HostTrees → List Loop
  all_loops_of tree.NoHost = []
  all_loops_of (tree.MoreHost h hs) = loops_of h ++ all_loops_of hs

-- ---- the table

-- the index as an integer: behind `-` it is negative
abbrev pub index_of : ArgIndex → ℤ
index_of i = if i.is_negative then neg_ℤ i.value else i.value

-- the map, or `OP_ID`
abbrev pub via_name : ArgVia → List ℕ
via_name (via.Map m) = m.name
via_name (via.Identity at) = codes "OP_ID"

-- `/DIM/ACCESS`
abbrev pub use_text : NumberLiteral → AccessWord → List ℕ
use_text n a = codes "/" ++ signed_decimal n.value ++ codes "/" ++ word_spelling (access_word_of a)

-- ` DAT/INDEX/VIA/DIM/ACCESS` or ` gbl/NAME/DIM/ACCESS`
abbrev pub arg_text : LoopArg → List ℕ
arg_text (arg.Dat at d i v n t a aat) =
    codes " " ++ d.name ++ codes "/" ++ signed_decimal (index_of i) ++ codes "/" ++ via_name v ++ use_text n a
arg_text (arg.Global at g n t a aat) = codes " gbl/" ++ g.name.name ++ use_text n a

-- `// stub S K SET`
abbrev pub loop_text : ℕ → List ℕ → List ℕ → List ℕ
loop_text s kernel set = codes "// stub " ++ decimal s ++ codes " " ++ kernel ++ codes " " ++ set

-- that and the arguments
abbrev pub stub_text : ℕ → Loop → List ℕ
stub_text s l = loop_text s l.kernel l.set ++ flat_map arg_text l.args ++ codes "\n"

-- those of loops, of which the first has this number
abbrev pub stubs_text : ℕ → List Loop → List ℕ
stubs_text s [] = []
stubs_text s (l ∷ ls) = stub_text s l ++ stubs_text (suc s) ls

-- `// op2stubs` and how many there are, and then each
abbrev pub table_text : List Loop → List ℕ
table_text ls = codes "// op2stubs " ++ decimal (length ls) ++ codes "\n" ++ stubs_text 0 ls
