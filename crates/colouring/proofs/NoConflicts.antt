-- Where nothing reduces, nothing is in conflict.
use Rattle.std.proofs.Common.{◌≡◌, ◌==◌, ◌<◌, ◌*◌, ℕ, Bool, true, List, Vec, [], ◌∷◌, refl, length, get_or, ap, ◌∙◌, sym, subst, arith}
use Rattle.std.specs.Prelude.{◌↔◌, replicate}
use Rattle.std.specs.declared.alloc.Global.{Global}
use Rattle.std.proofs.lemmas.Bool.{eqb-true}
use Rattle.std.proofs.lemmas.List.{get_or-replicate, length-replicate}
use Rattle.mesh_decl.specs.Mesh.{MeshValue}
use Rattle.colouring.specs.declared.types.Colours.{Colours}
use Rattle.colouring.specs.Colours.{Conflict, ConflictWithin, BlocksConflict, IsLeast, AreColours}

none_meet : (g : MeshValue) (maps : List (Vec ℕ Global)) (p q : ℕ) → Conflict g maps [] p q → ⊥
none_meet g maps p q h = absurd (let c = h.2 in omega (arith, c.1))

-- the least colour is the first, where there are no conflicts
first_least : (Conflicts : ℕ → ℕ → Type 0) (n p : ℕ) → p < n → ((q : ℕ) → Conflicts q p → ⊥) → IsLeast Conflicts (replicate n 0) p
first_least Conflicts n p lt none =
    let none_is : ℕ = 0 in
    let zeros : List ℕ = replicate n none_is in
    let zero_at : get_or zeros p none_is ≡ none_is = get_or-replicate n p none_is none_is lt in
    record {
      free = λ q l h _. none q h;
      taken = λ c l. absurd (omega (arith, zero_at, l));
    }

pub one_colour_is : (g : MeshValue) (maps : List (Vec ℕ Global)) (places size n : ℕ) (c : Colours) → ((b : ℕ) → (b < n) ↔ (b * size < places))
    → c.blocks.items ≡ replicate n 0 → c.inner.items ≡ replicate places 0 → AreColours g maps [] places size c
one_colour_is g maps places size n c count blocks inner =
    let blocks_length : length c.blocks.items ≡ n = ap length blocks ∙ length-replicate n 0 in
    record {
      blocks_count = λ b. subst (λ (m : ℕ). (b < m) ↔ (b * size < places)) (sym blocks_length) (count b);
      inner_count = ap length inner ∙ length-replicate places 0;
      blocks = λ b lt. subst (λ (z : List ℕ). IsLeast (BlocksConflict g maps [] places size) z b) (sym blocks)
          (first_least (BlocksConflict g maps [] places size) n b (omega (arith, blocks_length, lt)) (λ q h. none_meet g maps h.0 h.1 h.4));
      inner = λ p lt. subst (λ (z : List ℕ). IsLeast (ConflictWithin g maps [] size) z p) (sym inner)
          (first_least (ConflictWithin g maps [] size) places p lt (λ q h. none_meet g maps q p h.1));
    }

zero_length : {A : Type 0} (xs : List A) → length xs ≡ 0 → xs ≡ []
zero_length [] e = refl
zero_length (x ∷ xs) e = absurd (omega arith)

pub empty_of : {A : Type 0} (xs : List A) (t : Bool) → t ≡ (length xs == 0) → t ≡ true → xs ≡ []
empty_of xs t e s = zero_length xs (eqb-true (length xs) 0 (sym e ∙ s))
