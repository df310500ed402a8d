-- Windows on a dat that the loop modifies have modified cells alone.
use Rattle.std.proofs.Common.{◌≡◌, ℕ, ◌<◌, true, sym, ap, ◌∙◌, ⊎_elim}
use Rattle.std.specs.Prelude.{◌↔◌}
use Rattle.op_num.specs.Reduction.{Reduction}
use Rattle.schedule_model.specs.Cells.{Data, DatCell}
use Rattle.schedule_model.specs.Effects.{is_modified}
use Rattle.schedule_model.specs.Program.{Free, elements}
use Rattle.schedule_model.specs.Setup.{Setup}
use Rattle.op_num.specs.Access.{OpReduce}
use Rattle.schedule_model.specs.Arguments.{access_of, modifying, is_direct, is_on, reaches}
use Rattle.schedule_model.specs.LoopParts.{LoopParts}
use Rattle.schedule_model.proofs.schedule_laws.Touches.{modified_by, reaches_on, modified_if, direct_reaches}

pub whole_windows : {F : Type 0} (p : Setup F) (f : LoopParts p) (k e : ℕ) (c : DatCell) (a b : ℕ) → p.program.kind k ≡ Free
    → e < elements p.program k → a < f.args (p.program.site k) → b < f.args (p.program.site k)
    → reaches f.entry f.dim f.width e (f.arg (p.program.site k) a) (Data c) ≡ true → is_on c.dat (f.arg (p.program.site k) b) ≡ true
    → modifying (access_of (f.arg (p.program.site k) b)) ≡ true → is_modified (p.touch k e (Data c)) ≡ true
whole_windows p f k e c a b fr lt la lb r on m = ap is_modified (f.touch_is k e c fr lt) ∙ ⊎_elim
    (λ (one : (o : Reduction) × ((x : ℕ) → x < f.args (p.program.site k) → is_on c.dat (f.arg (p.program.site k) x) ≡ true → access_of (f.arg (p.program.site k) x) ≡ OpReduce o)).
    modified_if f.entry f.dim f.width (f.arg (p.program.site k)) e (Data c) (f.args (p.program.site k)) a la r
    (ap modifying (one.1 a la (reaches_on f.entry f.dim f.width e (f.arg (p.program.site k) a) c r).0)))
    (λ (dir : (x : ℕ) → x < f.args (p.program.site k) → is_on c.dat (f.arg (p.program.site k) x) ≡ true → is_direct (f.arg (p.program.site k) x) ≡ true).
    modified_if f.entry f.dim f.width (f.arg (p.program.site k)) e (Data c) (f.args (p.program.site k)) b lb
    (direct_reaches f.entry f.dim f.width e (f.arg (p.program.site k) a) (f.arg (p.program.site k) b) c r
    (dir a la (reaches_on f.entry f.dim f.width e (f.arg (p.program.site k) a) c r).0) on (dir b lb on)) m)
    (f.free_is k b c.dat fr lb on m)

pub exactly : {F : Type 0} (p : Setup F) (f : LoopParts p) (k e : ℕ) (c : DatCell) → p.program.kind k ≡ Free → e < elements p.program k
    → (is_modified (p.touch k e (Data c)) ≡ true) ↔
    ((p.modifies k c.dat ≡ true) × (a : ℕ) × (a < f.args (p.program.site k))
    × (reaches f.entry f.dim f.width e (f.arg (p.program.site k) a) (Data c) ≡ true))
exactly p f k e c fr lt = (
  (λ h.
      let r : (a : ℕ) × (a < f.args (p.program.site k)) × (reaches f.entry f.dim f.width e (f.arg (p.program.site k) a) (Data c) ≡ true) × (modifying (access_of (f.arg (p.program.site k) a)) ≡ true) =
      modified_by f.entry f.dim f.width (f.arg (p.program.site k)) e (Data c) (f.args (p.program.site k)) (ap is_modified (sym (f.touch_is k e c fr lt)) ∙ h) in
      (f.modifies_is k r.0 c.dat fr r.1 (reaches_on f.entry f.dim f.width e (f.arg (p.program.site k) r.0) c r.2).0 r.3, r.0, r.1, r.2)),
  (λ h.
      let b : (b : ℕ) × (b < f.args (p.program.site k)) × (is_on c.dat (f.arg (p.program.site k) b) ≡ true)
      × (modifying (access_of (f.arg (p.program.site k) b)) ≡ true) = f.modifies_only k c.dat fr h.0 in
      whole_windows p f k e c h.1 b.0 fr lt h.2 b.1 h.3 b.2 b.3),
)
