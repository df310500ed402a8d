-- How the counts of a plan are written: a line for each loop, and one of totals.
use Rattle.std.specs.Prelude.{ℕ, suc, ◌-◌, ◌/◌, ◌%◌, Bool, true, false, List, [], ◌∷◌, ◌++◌, map, length, not, slice_index_or, codes, if◌then◌else◌}
use Rattle.std.specs.List.{flat_map}
use Rattle.std.specs.Fmt.{decimal}
use lib.ListN.{replicate}
use Rattle.op_num.specs.Lines.{line_of}
use Rattle.c_tree.specs.declared.lexer.tokens.Pos.{Pos}
use Rattle.kernel_model.specs.declared.types.kernels.RKernel.{RKernel}
use Rattle.mesh_decl.specs.Mesh.{MeshValue, dat_name}
use Rattle.local_mesh.specs.declared.types.RankMesh.{RankMesh}
use Rattle.bound_program.specs.declared.sites.Arg.{Arg}
use Rattle.bound_program.specs.declared.sites.Arg.TheVariants.{Dat, Global}
use Rattle.bound_program.specs.declared.sites.Class.{Class}
use Rattle.bound_program.specs.declared.sites.Class.TheVariants as class
use Rattle.bound_program.specs.Values.{SiteValue, BoundValue}
use Rattle.bound_program.specs.Classes.{is_orderly_arg}
use Rattle.loop_plan.specs.Counted.{sum_below}
use Rattle.loop_plan.specs.Values.{PlanValue}
use Rattle.plan_counts.specs.declared.types.LoopCounts.{LoopCounts}
use Rattle.plan_counts.specs.declared.totals.Totals.{Totals}
use Rattle.plan_counts.specs.declared.table.TheConstants.{LEGEND}
use Rattle.plan_counts.specs.Counts.{counts_of}

-- the fields of a line
abbrev pub Fields : Type 0
Fields = List (List ℕ)

-- nothing stands in a field
abbrev pub dash : List ℕ
dash = codes "-"

-- ---- fields

-- a place in the source
abbrev pub place_text : Pos → List ℕ
place_text at = decimal at.line ++ codes ":" ++ decimal at.column

-- the class of a loop
abbrev pub class_text : Class → List ℕ
class_text class.Free = codes "free"
class_text class.Ordered = codes "ordered"

-- the argument of this number, counted from 1, and its dat
abbrev pub arg_text : MeshValue → ℕ → Arg → List ℕ
arg_text g n (Dat d v a) = decimal n ++ codes ":" ++ dat_name g d
arg_text g n (Global v a) = dash

-- Of all these arguments this one makes a loop Ordered: its dat is neither only read nor orderly. So a loop is Ordered exactly where one of
-- its arguments makes it so (`class_of`).
abbrev pub makes_ordered : (all : List Arg) → Arg → Bool
makes_ordered all x = not (is_orderly_arg all x)

-- of the arguments from number n on, the first that makes the loop with all these Ordered: by its number and its dat
abbrev pub blamed : MeshValue → (all : List Arg) → ℕ → List Arg → List ℕ
blamed g all n [] = dash
blamed g all n (x ∷ xs) = if makes_ordered all x then arg_text g n x else blamed g all (suc n) xs

-- a number of hundredths
abbrev pub hundredths : ℕ → List ℕ
hundredths n = decimal (n / 100) ++ codes "." ++ decimal (n % 100 / 10) ++ decimal (n % 10)

-- the name of a kernel
abbrev pub kernel_name : List RKernel → ℕ → List ℕ
kernel_name kernels n = slice_index_or (map (λ (k : RKernel). k.name) kernels) n []

-- ---- lines

-- the line of a loop
abbrev pub loop_fields : BoundValue → ℕ → SiteValue → LoopCounts → Fields
loop_fields b s site c =
    decimal s ∷ kernel_name b.kernels site.kernel ∷ place_text site.at ∷ class_text site.class ∷ blamed b.mesh site.args 1 site.args
    ∷ decimal c.runs ∷ decimal c.exchanges ∷ decimal c.messages ∷ decimal c.cells ∷ decimal c.owned ∷ decimal c.repeated
    ∷ hundredths c.imbalance ∷ decimal c.blocks ∷ decimal c.block_colours ∷ decimal c.inner_colours ∷ []

module _ (b : BoundValue) (meshes : List RankMesh) (p : PlanValue) where
  -- those of the loops from s on
  abbrev pub loops_from : ℕ → List SiteValue → List Fields
  loops_from s [] = []
  loops_from s (x ∷ xs) = loop_fields b s x (counts_of b meshes p s) ∷ loops_from (suc s) xs

  -- the sum of a count over the first n loops
  abbrev pub total_of : (LoopCounts → ℕ) → (n : ℕ) → ℕ
  total_of f n = sum_below (λ s. f (counts_of b meshes p s)) n

  -- the sums over the first n loops
  abbrev pub totals_of : (n : ℕ) → Totals
  totals_of n = record {
    runs = total_of (λ c. c.runs) n;
    exchanges = total_of (λ c. c.exchanges) n;
    messages = total_of (λ c. c.messages) n;
    cells = total_of (λ c. c.cells) n;
    owned = total_of (λ c. c.owned) n;
    repeated = total_of (λ c. c.repeated) n;
    blocks = total_of (λ c. c.blocks) n;
  }

-- the line of sums
abbrev pub total_fields : Totals → Fields
total_fields t =
    codes "total" ∷ dash ∷ dash ∷ dash ∷ dash ∷ decimal t.runs ∷ decimal t.exchanges ∷ decimal t.messages ∷ decimal t.cells
    ∷ decimal t.owned ∷ decimal t.repeated ∷ dash ∷ decimal t.blocks ∷ dash ∷ dash ∷ []

-- what stands over the columns
abbrev pub head_fields : Fields
head_fields =
    codes "loop" ∷ codes "name" ∷ codes "place" ∷ codes "class" ∷ codes "argument" ∷ codes "runs" ∷ codes "exchanges" ∷ codes "messages"
    ∷ codes "cells" ∷ codes "owned" ∷ codes "repeated" ∷ codes "imbalance" ∷ codes "blocks" ∷ codes "colours" ∷ codes "inner" ∷ []

-- a field at the right of a column of ten, a space before it
abbrev pub padded : List ℕ → List ℕ
padded field = 32 ∷ (replicate (10 - length field) 32 ++ field)

-- a line in columns, and one for scripts, with single spaces
abbrev pub row_text : (plain : Bool) → Fields → List ℕ
row_text true fields = line_of fields
row_text false fields = flat_map padded fields ++ codes "\n"

-- what stands before the loops
abbrev pub head_text : (plain : Bool) → List ℕ
head_text true = []
head_text false = row_text false head_fields

-- what stands behind the totals
abbrev pub legend_text : (plain : Bool) → List ℕ
legend_text true = []
legend_text false = LEGEND.now

-- The counts of a plan: a line for each loop and one of sums; in columns with a head and a legend, or plain.
abbrev pub counts_text : (plain : Bool) → BoundValue → List RankMesh → PlanValue → List ℕ
counts_text plain b meshes p =
    head_text plain ++ flat_map (row_text plain) (loops_from b meshes p 0 b.sites)
    ++ row_text plain (total_fields (totals_of b meshes p (length b.sites))) ++ legend_text plain
