-- The values of the entries of a mesh text are of 32 bits.
use Rattle.std.proofs.Common.{◌≡◌, ℕ, ℤ, pos, negsuc, ◌<◌, ◌^◌, Bool, true, false, List, [], ◌∷◌, ◌++◌, Option, Some, None, Ok, Err, refl, subst, arith, if◌then◌else◌}
use Rattle.std.specs.Prelude.{FitsSigned, Result}
use Rattle.std.specs.Int.{w32}
use Rattle.std.proofs.lemmas.Bool.Decides.{nat_tests}
use Rattle.std.proofs.lemmas.List.Elements.{All-nil, All-cons}
use Rattle.op_num.specs.Spelling.{fits_i32, i32_judged, integer_of}
use Rattle.op_num.specs.declared.refusals.NumRefusal.{NumRefusal}
use Rattle.op_num.specs.declared.refusals.NumRefusal.TheVariants.{TooLarge}
use Rattle.mesh_decl.specs.declared.text.entry.Entry.{Entry}
use Rattle.mesh_decl.specs.declared.text.entry.Entry.TheVariants.{One, Many}
use Rattle.mesh_decl.specs.declared.text.entry.Form.{Form}
use Rattle.mesh_decl.specs.Spelling.{Named, IsEntry, AreEntries, Spells}
use Rattle.loop_bind.specs.Sources.{HasNumber, HaveNumbers}

fits : (z : ℤ) → fits_i32 z ≡ true → FitsSigned w32 z
fits (pos n) h = let l : n < 2 ^ 31 = grind (arith, nat_tests) in record { sfits = omega arith }
fits (negsuc n) h = let l : n < 2 ^ 31 = grind (arith, nat_tests) in record { sfits = omega arith }

judged : (y : Option ℤ) (z : ℤ) → i32_judged y ≡ Ok z → FitsSigned w32 z
judged None z e = cc
judged (Some y) z e = by (fits_i32 y) refl e
  where
    by : (b : Bool) → fits_i32 y ≡ b → ◌≡◌ {A = Result ℤ NumRefusal} (if b then Ok y else Err TooLarge) (Ok z) → FitsSigned w32 z
    by true q e = let same : y ≡ z = cc in subst (FitsSigned w32) same (fits y q)
    by false q e = cc

entry_fits : (f : Form) (ts : List (List ℕ)) (x : List ℕ) (e : Entry) → IsEntry f ts x e → HasNumber e
entry_fits f ts x (One z) h = judged (integer_of h.0) z h.2
entry_fits f ts x (Many zs) h = tt

entries_fit : (f : Form) (before : List Named) (ts : List (List ℕ)) (es : List Named) → AreEntries f before ts es → HaveNumbers es
entries_fit f before ts [] h = All-nil (λ (e : Named). HasNumber e.1)
entries_fit f before ts (e ∷ es) h =
    All-cons (λ (e : Named). HasNumber e.1) e es (entry_fits f h.0 e.0 e.1 h.3) (entries_fit f (before ++ e ∷ []) h.1 es h.5)

pub spelled_fit : (bytes : List ℕ) (es : List Named) → Spells bytes es → HaveNumbers es
spelled_fit bytes es h = entries_fit h.0 [] h.3.0 es h.3.2
