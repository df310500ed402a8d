-- The components that every path has assigned: those before, and those that the statement assigns itself.
use Rattle.std.proofs.Common.{◌≡◌, ℕ, zero, suc, ℤ, pos, negsuc, ◌-◌, Option, Some, None, Bool, true, false, ◌&&◌, ◌||◌, refl, sym, ap, ◌∙◌}
use Rattle.std.specs.Prelude.{nat_eq}
use Rattle.kernel_model.specs.declared.types.statements.RStmt.{RStmt, Block', Declare, SetScalar, SetLocal, SetArg, If', For', Row_of-RStmt, end_of-RStmt, more_of-RStmt}
use Rattle.kernel_model.specs.Obeys.{Counters, with_counter, static}
use Rattle.kernel_model.specs.Walk.{Covered, none_covered, with_covered, both_covered, turns_covered, covered_after, row_covered_after}
use Rattle.lemmas.proofs.Truth.{or_assoc, or_none}

-- what c has, d has too
abbrev pub Within : Covered → Covered → Type 0
Within c d = (a i : ℕ) → c a i ≡ true → d a i ≡ true

-- it adds the same to whatever there is
abbrev pub Adds : (Covered → Covered) → Type 0
Adds f = (c : Covered) (a i : ℕ) → f c a i ≡ (c a i || f none_covered a i)

-- ---- or

or_over : (x y : Bool) → (x || y) ≡ (y || (x || false))
or_over true true = refl
or_over true false = refl
or_over false true = refl
or_over false false = refl

or_both : (x y z : Bool) → ((x || y) && (x || z)) ≡ (x || (y && z))
or_both true y z = refl
or_both false y z = refl

or_twice : (x y : Bool) → ((x || y) || y) ≡ (x || y)
or_twice true y = refl
or_twice false true = refl
or_twice false false = refl

or_more : (x y z : Bool) → (x ≡ true → y ≡ true) → (x || z) ≡ true → (y || z) ≡ true
or_more true y z f e = ap (λ b. b || z) (f refl)
or_more false true z f e = refl
or_more false false z f e = e

-- ---- each form

adds_none : Adds (λ c. c)
adds_none c a i = or_none (c a i)

adds_with : (b : ℕ) (ix : Option ℤ) → Adds (with_covered b ix)
adds_with b None c a i = or_none (c a i)
adds_with b (Some (negsuc j)) c a i = or_none (c a i)
adds_with b (Some (pos j)) c a i = or_over (nat_eq b a && nat_eq j i) (c a i)

adds_then : (f g : Covered → Covered) → Adds f → Adds g → Adds (λ c. g (f c))
adds_then f g h k c a i =
    k (f c) a i ∙ ap (λ x. x || g none_covered a i) (h c a i) ∙ or_assoc (c a i) (f none_covered a i) (g none_covered a i) ∙ ap (λ x. c a i || x) (sym (k (f none_covered) a i))

adds_both : (f g : Covered → Covered) → Adds f → Adds g → Adds (λ c. both_covered (f c) (g c))
adds_both f g h k c a i =
    ap (λ x. x && g c a i) (h c a i) ∙ ap (λ x. (c a i || f none_covered a i) && x) (k c a i) ∙ or_both (c a i) (f none_covered a i) (g none_covered a i)

adds_turns : (u : ℕ → Covered → Covered) → ((i : ℕ) → Adds (u i)) → (i n : ℕ) → Adds (turns_covered u i n)
adds_turns u h i zero = adds_none
adds_turns u h i (suc n) = adds_then (u i) (turns_covered u (suc i) n) (h i) (adds_turns u h (suc i) n)

mutual
  pub adds_stmt : (st : RStmt) (cs : Counters) → Adds (covered_after st cs)
  adds_stmt (Block' shape all) cs = adds_row all cs
  adds_stmt (Declare from count) cs = adds_none
  adds_stmt (SetScalar k op opat e) cs = adds_none
  adds_stmt (SetLocal from count form ix at op opat e) cs = adds_none
  adds_stmt (SetArg a form ix at op opat e) cs = adds_with a (static ix cs)
  adds_stmt (If' e p a q b) cs = adds_both (covered_after a cs) (covered_after b cs) (adds_stmt a cs) (adds_stmt b cs)
  adds_stmt (For' k first past p body) cs =
      adds_turns (λ i d. covered_after body (with_counter cs k (pos i)) d) (λ i. adds_stmt body (with_counter cs k (pos i))) first (past - first)

  adds_row : {m : _} → (all : Row_of-RStmt m) (cs : Counters) → Adds (row_covered_after all cs)
  adds_row end_of-RStmt cs = adds_none
  adds_row (more_of-RStmt first rest) cs = adds_then (covered_after first cs) (row_covered_after rest cs) (adds_stmt first cs) (adds_row rest cs)

-- ---- more before, more after

pub within_after : (st : RStmt) (cs : Counters) (c d : Covered) → Within c d → Within (covered_after st cs c) (covered_after st cs d)
within_after st cs c d h a i e =
    adds_stmt st cs d a i ∙ or_more (c a i) (d a i) (covered_after st cs none_covered a i) (h a i) (sym (adds_stmt st cs c a i) ∙ e)

-- what was covered still is
pub still_within : (st : RStmt) (cs : Counters) (c : Covered) → Within c (covered_after st cs c)
still_within st cs c a i e = adds_stmt st cs c a i ∙ ap (λ x. x || covered_after st cs none_covered a i) e

-- a second time changes nothing
pub covered_twice : (st : RStmt) (cs : Counters) (c : Covered) (a i : ℕ) → covered_after st cs (covered_after st cs c) a i ≡ covered_after st cs c a i
covered_twice st cs c a i =
    adds_stmt st cs (covered_after st cs c) a i ∙ ap (λ x. x || covered_after st cs none_covered a i) (adds_stmt st cs c a i)
    ∙ or_twice (c a i) (covered_after st cs none_covered a i) ∙ sym (adds_stmt st cs c a i)
