-- A short number as a token where values are awaited.
use Rattle.std.proofs.Common.{◌≡◌, ℕ, ℤ, pos, negsuc, ◌<◌, Bool, true, false, cond, nat_le, List, length, Option, Some, None, Ok, refl, sym, ap, ◌∙◌, arith, inl, w32, FitsSigned}
use Rattle.std.proofs.lemmas.Bool.Decides.{nat_tests}
use Rattle.op_num.specs.Spelling.{integer_of, fits_i32, i32_judged}
use Rattle.op_num.specs.Cut.{Word, Uncut, first_of, rest_of}
use Rattle.op_num.specs.Short.{short_of}
use Rattle.op_num.specs.Automaton.{IsNext}
use Rattle.mesh_decl.specs.declared.text.entry.Form.{Form}
use Rattle.mesh_decl.specs.declared.text.entry.Form.TheVariants as form
use Rattle.mesh_decl.specs.declared.text.piece.Piece.TheVariants.{Values}
use Rattle.mesh_decl.specs.Piece.{IsValue, Gives, piece_of}
use Rattle.mesh_decl.specs.Reading.{given}
use Rattle.mesh_decl.proofs.text.PieceExact.{piece_complete}

short_word : (o : Option Word) (z : ℤ) → Some z ≡ short_of o → (w : Word) × (o ≡ Some w) × (integer_of w.text ≡ Some z)
short_word None z h = cc
short_word (Some w) z h = go (nat_le (length w.text) 9) h
  where
    go : (b : Bool) → Some z ≡ cond b (integer_of w.text) None → (x : Word) × (Some w ≡ Some x) × (integer_of x.text ≡ Some z)
    go true h = (w, refl, sym h)
    go false h = cc

fits : (z : ℤ) → FitsSigned w32 z → fits_i32 z ≡ true
fits (pos n) f = grind (arith, nat_tests, f.sfits)
fits (negsuc n) f = grind (arith, nat_tests, f.sfits)

one_value : (f : Form) (text : List ℕ) (z : ℤ) → IsValue text z → Gives f text 1 z
one_value form.One text z h = (refl, h)
one_value form.Two text z h = inl (refl, h)

given_one : (left line : ℕ) (z : ℤ) → 0 < left → given left line (Values 1 z) ≡ Ok (1, z)
unfolding given
given_one left line z h = let e : nat_le 1 left ≡ true = grind (arith, nat_tests) in rw e refl

-- the token that next_short passes gives one value
pub short_given : (f : Form) (u v : Uncut) (left : ℕ) (z : ℤ) → 0 < left → FitsSigned w32 z → Some z ≡ short_of (first_of u) → v ≡ rest_of u
    → (w : Word) × IsNext u v w × (Ok (1, z) ≡ given left w.line (piece_of f w.text))
short_given f u v left z more i h r =
    let k = short_word (first_of u) z h in
    let is : IsValue k.0.text z = ap i32_judged k.2 ∙ rw (fits z i) refl in (
      k.0,
      record { first = k.1; rest = r },
      sym (ap (given left k.0.line) (piece_complete f k.0.text 1 z (one_value f k.0.text z is)) ∙ given_one left k.0.line z more),
    )
