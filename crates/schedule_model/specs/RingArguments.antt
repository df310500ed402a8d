-- The arguments of the ring's loops, and the map from edges to nodes.
use Rattle.std.specs.Prelude.{ℕ, zero, suc}
use Rattle.op_num.specs.Reduction.{Add}
use Rattle.op_num.specs.Access.{OpRead, OpWrite, OpReduce}
use Rattle.schedule_model.specs.Arguments.{Argument, Direct, Indirect, Global, Entries}
use Rattle.schedule_model.specs.RingLayout.{of_side}

-- how many arguments a loop has
abbrev pub args : ℕ → ℕ
args zero = 3
args (suc zero) = 5
args (suc (suc n)) = 0

-- item 1's: x of both nodes, r of both nodes, and the sum
abbrev pub of_edges : ℕ → Argument
of_edges zero = Indirect 0 0 0 OpRead
of_edges (suc zero) = Indirect 0 0 1 OpRead
of_edges (suc (suc zero)) = Indirect 1 0 0 (OpReduce Add)
of_edges (suc (suc (suc zero))) = Indirect 1 0 1 (OpReduce Add)
of_edges (suc (suc (suc (suc n)))) = Global 0 (OpReduce Add)

-- item 0's: x of the node itself, and the base twice
abbrev pub of_nodes : ℕ → Argument
of_nodes zero = Direct 0 OpWrite
of_nodes (suc n) = Global 2 OpRead

-- by loop
abbrev pub arg : ℕ → ℕ → Argument
arg zero a = of_nodes a
arg (suc s) a = of_edges a

-- the map from edges to nodes: an edge's own, then the other
abbrev pub entry : Entries
entry m e i = of_side e i
