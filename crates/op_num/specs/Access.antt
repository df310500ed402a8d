-- How a kernel may use an argument.
use Rattle.op_num.specs.declared.reductions.access.Access.{Access as AccessCode}
use Rattle.op_num.specs.declared.reductions.access.Access.TheVariants as code
use Rattle.op_num.specs.Reduction.{Reduction, Add, Min, Max}

-- OP_READ, OP_WRITE and OP_RW; OP_INC, OP_MIN and OP_MAX reduce by a sum, a minimum and a maximum
pub data Access : Type 0 where
  OpRead : Access
  OpWrite : Access
  OpRw : Access
  OpReduce : (by : Reduction) → Access

-- what the code's access means
abbrev pub access_of : AccessCode → Access
access_of code.Read = OpRead
access_of code.Write = OpWrite
access_of code.Rw = OpRw
access_of code.Inc = OpReduce Add
access_of code.Min = OpReduce Min
access_of code.Max = OpReduce Max
