-- Where pairs and variables stand in blocks: within the memory.
use Rattle.std.proofs.Common.{◌≡◌, ◌<◌, ◌≤◌, ◌+◌, ◌*◌, ℕ, zero, suc, List, length, get_or, refl, ap, ◌∙◌, arith}
use Rattle.std.proofs.Math.Nat.{mul-le-mul_right, suc-mul}
use Rattle.std.proofs.lemmas.List.{get_or_read}
use Rattle.mesh_decl.specs.Mesh.{dat_count, dat_set, set_size}
use Rattle.bound_program.specs.Values.{BoundValue}
use Rattle.run_model.specs.Windows.{Element, Whole, cell_in}
use Rattle.run_model.specs.Arguments.{dat_width, var_width}
use Rattle.run_model.specs.Memory.{memory_length, place_of, dat_start, var_start}
use Rattle.run_model.proofs.Public.{dats_follow, vars_follow, after_dats}
use Rattle.run_model.specs.Variables.{of_vars, VarsBegin}
use Rattle.deep_halo.specs.Places.{in_block, all_cells}
use Rattle.deep_halo.specs.Layouts.{AreDatStarts}

-- a block of so many is within all of them
pub block_end : (size k n : ℕ) → k ≤ n → k * size + size ≤ suc n * size
block_end size k n le = let a : suc k * size ≤ suc n * size = mul-le-mul_right size (let l : suc k ≤ suc n = omega arith in l) in omega (arith, suc-mul k size)

module _ (b : BoundValue) where
  -- a pair's cells, and a variable's, are within a block
  pub pair_inside : (d y : ℕ) → d < dat_count b.mesh → y < set_size b.mesh (dat_set b.mesh d) → place_of b (cell_in (Element d y) 0) + dat_width b d ≤ var_start b 0
  pair_inside d y ld ly =
      let a : suc y * dat_width b d ≤ set_size b.mesh (dat_set b.mesh d) * dat_width b d = mul-le-mul_right (dat_width b d) (let l : suc y ≤ set_size b.mesh (dat_set b.mesh d) = omega arith in l) in
      omega (arith, suc-mul y (dat_width b d), dats_follow b d (dat_count b.mesh) ld)

  pub pair_within : (d y : ℕ) → d < dat_count b.mesh → y < set_size b.mesh (dat_set b.mesh d) → place_of b (cell_in (Element d y) 0) + dat_width b d ≤ memory_length b
  pair_within d y ld ly = omega (arith, pair_inside d y ld ly, after_dats b (length b.vars))

  pub variable_within : (v : ℕ) → v < length b.vars → place_of b (cell_in (Whole v) 0) + var_width b v ≤ memory_length b
  variable_within v lv = omega (arith, vars_follow b v (length b.vars) lv)

  -- in each block
  pub pair_in_blocks : (ranks n d y : ℕ) → n ≤ ranks → d < dat_count b.mesh → y < set_size b.mesh (dat_set b.mesh d)
      → in_block b n (cell_in (Element d y) 0) + dat_width b d ≤ all_cells b ranks
  pair_in_blocks ranks n d y le ld ly = omega (arith, block_end (memory_length b) n ranks le, pair_within d y ld ly)

  pub variable_in_blocks : (ranks n v : ℕ) → n ≤ ranks → v < length b.vars → in_block b n (cell_in (Whole v) 0) + var_width b v ≤ all_cells b ranks
  variable_in_blocks ranks n v le lv = omega (arith, block_end (memory_length b) n ranks le, variable_within v lv)

  -- ---- as the tables say

  -- variables begin behind the dats as they do alone
  pub vars_behind : (v : ℕ) → var_start b v ≡ var_start b 0 + var_start (of_vars b.vars) v
  vars_behind zero = omega arith
  vars_behind (suc v) =
      let e : var_start b v ≡ var_start b 0 + var_start (of_vars b.vars) v = vars_behind v in
      let s : var_start (of_vars b.vars) (suc v) ≡ var_start (of_vars b.vars) v + var_width b v = refl in
      omega (arith, e, s)

  -- a dat's place as it is read and added
  pub pair_read : (starts : List ℕ) (end n d y from cells dim : ℕ) → AreDatStarts b (dat_count b.mesh) starts end → d < dat_count b.mesh
      → from ≡ get_or starts d from → cells ≡ memory_length b → dim ≡ dat_width b d
      → n * cells + from + y * dim ≡ in_block b n (cell_in (Element d y) 0)
  pair_read starts end n d y from cells dim are ld is all wide =
      let f : from ≡ dat_start b d = get_or_read starts d from (omega (arith, are.count)) is 0 ∙ are.each d ld in
      let m : n * cells ≡ n * memory_length b = ap (λ k. n * k) all in
      let w : y * dim ≡ y * dat_width b d = ap (λ k. y * k) wide in
      omega (arith, f, m, w)

  -- a variable's place as it is read and added
  pub variable_read : (starts : List ℕ) (n v end from cells : ℕ) → VarsBegin b.vars starts → v < length b.vars
      → from ≡ get_or starts v from → cells ≡ memory_length b → end ≡ var_start b 0
      → n * cells + end + from ≡ in_block b n (cell_in (Whole v) 0)
  variable_read starts n v end from cells begin lv is all ends =
      let f : from ≡ var_start (of_vars b.vars) v = get_or_read starts v from (omega (arith, begin.all)) is 0 ∙ begin.each v lv in
      let m : n * cells ≡ n * memory_length b = ap (λ k. n * k) all in
      omega (arith, f, m, ends, vars_behind v)
