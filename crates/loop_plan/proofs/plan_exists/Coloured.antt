-- Least colours of blocks and of places within them.
use Rattle.std.proofs.Common.{◌⊎◌, inl, inr, ◌≡◌, ◌+◌, ◌-◌, ◌*◌, ◌/◌, ◌<◌, ◌≤◌, ◌^◌, ◌↔◌, ℕ, List, length, sym, ap, ◌∙◌, subst, arith, Vec, Global}
use Rattle.std.proofs.lemmas.Bool.{cases_lt}
use Rattle.std.proofs.Math.Nat.{le-div_iff_mul-le, le-mul_of_pos_right}
use Rattle.mesh_decl.specs.Mesh.{MeshValue}
use Rattle.colouring.specs.declared.types.IncArg.{IncArg}
use Rattle.colouring.specs.declared.types.Colours.{Colours}
use Rattle.colouring.specs.Colours.{ConflictWithin, BlocksConflict, IsLeast, AreColours}
use Rattle.loop_plan.proofs.plan_exists.Built.{vec_of, items_are}
use Rattle.loop_plan.proofs.plan_exists.Tests.{within, within_is, between, between_is}
use Rattle.loop_plan.proofs.plan_exists.Free.{colours, length_colours, least}

module _ (g : MeshValue) (maps : List (Vec ℕ Global)) (args : List IncArg) (places size : ℕ) where
  -- how many blocks there are
  block_count : ℕ
  block_count = (places + size - 1) / size

  pub colours_of : Colours
  colours_of = record {
    blocks = vec_of (colours (between g maps args size places) block_count);
    inner = vec_of (colours (within g maps args size) places);
  }

  module _ (some : 0 < size) (few : places < 2 ^ 32) where
    is_block : (a : ℕ) → (a < block_count) ↔ (a * size < places)
    unfolding block_count
    is_block a = (
      λ l. (let h : (a + 1) * size ≤ places + size - 1 = (le-div_iff_mul-le some).0 (omega arith) in omega arith),
      λ l. (let h : a + 1 ≤ (places + size - 1) / size = (le-div_iff_mul-le some).1 (omega arith) in omega arith),
    )

    few_blocks : block_count ≤ places
    few_blocks = few_by (cases_lt places block_count)
      where
        few_by : (places < block_count) ⊎ (block_count ≤ places) → block_count ≤ places
        few_by (inl l) = let h : places * size < places = (is_block places).0 l in let m : places ≤ places * size = le-mul_of_pos_right places some in absurd (omega arith)
        few_by (inr l) = l

    block_items : (vec_of (colours (between g maps args size places) block_count)).items ≡ colours (between g maps args size places) block_count
    block_items = items_are (colours (between g maps args size places) block_count) (let e = length_colours (between g maps args size places) block_count in let f = few_blocks in omega arith)

    inner_items : (vec_of (colours (within g maps args size) places)).items ≡ colours (within g maps args size) places
    inner_items = items_are (colours (within g maps args size) places) (let e = length_colours (within g maps args size) places in omega arith)

    count_blocks : length (vec_of (colours (between g maps args size places) block_count)).items ≡ block_count
    count_blocks = ap length block_items ∙ length_colours (between g maps args size places) block_count

    pub colours_are : AreColours g maps args places size colours_of
    unfolding colours_of
    colours_are = record {
      blocks_count = λ a. subst (λ z. (a < z) ↔ (a * size < places)) (sym count_blocks) (is_block a);
      inner_count = ap length inner_items ∙ length_colours (within g maps args size) places;
      blocks = λ a l. subst (λ z. IsLeast (BlocksConflict g maps args places size) z a) (sym block_items)
          (least (between g maps args size places) (BlocksConflict g maps args places size) block_count (λ e a m. between_is g maps args size places some e a) a (subst (λ z. a < z) count_blocks l));
      inner = λ p l. subst (λ z. IsLeast (ConflictWithin g maps args size) z p) (sym inner_items)
          (least (within g maps args size) (ConflictWithin g maps args size) places (λ q p m. within_is g maps args size q p) p l);
    }
