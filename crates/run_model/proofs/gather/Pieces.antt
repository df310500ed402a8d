-- The first piece of a text.
use Rattle.std.proofs.Common.{◌≡◌, ◌<◌, ℕ, ℤ, true, false, List, [], ◌∷◌, ◌++◌, length, drop, slice_index_or, refl, sym, ◌∙◌, arith}
use Rattle.std.proofs.lemmas.List.{append-nil}
use Rattle.std.proofs.lemmas.Bool.{false≢true}
use Rattle.mesh_decl.specs.Printed.{printed_line, shown}
use Rattle.run_model.specs.Pieces.{begins}

pub value_first : (t : List ℕ) (zs : List ℤ) → begins 100 t ≡ true → printed_line t zs ≡ shown zs ++ printed_line (drop 2 t) (drop 1 zs)
unfolding printed_line
value_first [] zs h = absurd (false≢true h)
value_first (c ∷ []) zs h = absurd (false≢true h)
value_first (c ∷ d ∷ ds) zs h = rw h refl

pub percent_first : (t : List ℕ) (zs : List ℤ) → begins 100 t ≡ false → begins 37 t ≡ true → printed_line t zs ≡ 37 ∷ printed_line (drop 2 t) zs
unfolding printed_line
percent_first [] zs n h = absurd (false≢true h)
percent_first (c ∷ []) zs n h = absurd (false≢true h)
percent_first (c ∷ d ∷ ds) zs n h = rw n (rw h refl)

pub byte_first : (t : List ℕ) (zs : List ℤ)
    → 0 < length t
    → begins 100 t ≡ false
    → begins 37 t ≡ false
    → printed_line t zs ≡ slice_index_or t 0 0 ∷ printed_line (drop 1 t) zs
unfolding printed_line
byte_first [] zs l n m = absurd (omega (arith, l))
byte_first (c ∷ []) zs l n m = refl
byte_first (c ∷ d ∷ ds) zs l n m = rw n (rw m refl)

-- where nothing of the text is left, all of it was printed
pub line_ends : (out whole rest : List ℕ) (zs : List ℤ) → length rest ≡ 0 → out ++ printed_line rest zs ≡ whole → out ≡ whole
unfolding printed_line
line_ends out whole [] zs l h = sym (append-nil out) ∙ h
line_ends out whole (c ∷ cs) zs l h = absurd (omega (arith, l))
