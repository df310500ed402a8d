-- How the arguments of a loop let its kernel use its parameters: by the access and the dim that they are written with.
use Rattle.std.specs.Prelude.{ℕ, ℤ, pos, negsuc}
use Rattle.c_tree.specs.declared.expressions.NumberLiteral.{NumberLiteral}
use Rattle.c_tree.specs.declared.hosts.AccessWord.{AccessWord}
use Rattle.c_tree.specs.declared.hosts.AccessWord.TheVariants as word
use Rattle.c_tree.specs.declared.hosts.LoopArg.{LoopArg}
use Rattle.c_tree.specs.declared.hosts.LoopArg.TheVariants as arg
use Rattle.op_num.specs.Reduction.{Add, Min, Max}
use Rattle.op_num.specs.Access.{Access, OpRead, OpWrite, OpRw, OpReduce}
use Rattle.kernel_model.specs.Obeys.{Mode}

-- the access that a word names
abbrev pub asked_by : AccessWord → Access
asked_by word.Read = OpRead
asked_by word.Write = OpWrite
asked_by word.Rw = OpRw
asked_by word.Inc = OpReduce Add
asked_by word.Min = OpReduce Min
asked_by word.Max = OpReduce Max

-- a number that isn't negative, as none of a source is
abbrev pub natural : ℤ → ℕ
natural (pos n) = n
natural (negsuc n) = 0

-- the dim that a literal spells
abbrev pub dim_of : NumberLiteral → ℕ
dim_of n = natural n.value

-- how an argument lets the kernel use its parameter
abbrev pub mode_by : LoopArg → Mode
mode_by (arg.Dat at dat index via dim text word word_at) = record { access = asked_by word; dim = dim_of dim }
mode_by (arg.Global at global dim text word word_at) = record { access = asked_by word; dim = dim_of dim }
