-- The line of the sizes, and the number that it tells.
use Rattle.std.proofs.Common.{◌≡◌, ℕ, ◌<◌, ◌≤◌, ◌^◌, cond, refl, sym, ap, subst, ◌∙◌, arith, List, [], ◌∷◌, ◌++◌, append_assoc, length, Option, Some, None, Result, Ok, Err}
use Rattle.std.specs.Prelude.{codes}
use Rattle.std.specs.Fmt.{decimal}
use Rattle.std.proofs.lemmas.Bool.{lt-ltb}
use Rattle.op_num.specs.Spelling.{number_of, u64_judged}
use Rattle.op_num.specs.declared.refusals.NumRefusal.{NumRefusal}
use Rattle.op_num.specs.declared.refusals.NumRefusal.TheVariants.{TooLarge}
use Rattle.op_num.specs.Lines.{line_of}
use Rattle.op_num.specs.CutLines.{HasNoLf, Unread, unread, IsTaken}
use Rattle.op_num.proofs.Public.{one_line}
use Rattle.local_mesh.specs.declared.types.RankMesh.{RankMesh}
use Rattle.bound_program.specs.Values.{BoundValue}
use Rattle.plan_cert.specs.Awaited.{Sizes, sizes_front, IsSizes}
use Rattle.plan_cert.specs.Certified.{RefusedAmong}
use Rattle.plan_cert.specs.Judged.{FitsAmong}
use Rattle.plan_cert.proofs.Lining.{decimal_dark, dark_no_lf, lf_there}
use Rattle.plan_cert.proofs.Reading.{fits_one, refused_here}
use Rattle.std.proofs.lemmas.Option.{same_Some}

-- ---- the number behind

judged_some : (c : ℕ) → c < 2 ^ 64 → u64_judged (Some c) ≡ Ok c
judged_some c l = ap (λ t. cond t (Ok c) (Err TooLarge)) (lt-ltb c (2 ^ 64) l)

abbrev NumbersAreRead : Type 0
NumbersAreRead = (n : ℕ) → n < 2 ^ 64 → number_of (decimal n) ≡ Some n

-- there is no line where no LF is
pub no_digits : (u : Unread) (behind digits more : List ℕ) → u ≡ unread behind → HasNoLf u.rest → behind ≡ digits ++ 10 ∷ more → ⊥
no_digits u behind digits more e h b = lf_there digits more (subst HasNoLf (ap (λ (v : Unread). v.rest) e ∙ b) h)

pub digits_are : NumbersAreRead → (n : ℕ) (more digits rest behind : List ℕ) → n < 2 ^ 32 → behind ≡ decimal n ++ 10 ∷ more
    → behind ≡ digits ++ 10 ∷ rest → HasNoLf digits → u64_judged (number_of digits) ≡ Ok n
digits_are read n more digits rest behind l e t none =
    let same : digits ≡ decimal n = (one_line digits (decimal n) rest more none (dark_no_lf (decimal n) (decimal_dark n)) (sym t ∙ e)).0 in
    ap (λ z. u64_judged (number_of z)) same ∙ (ap u64_judged (read n (omega arith)) ∙ judged_some n (omega arith))

-- ---- the line

pub sizes_line : (ranks n : ℕ) → line_of (codes "ranks" ∷ decimal ranks ∷ codes "block" ∷ decimal n ∷ []) ≡ sizes_front ranks ++ (decimal n ++ 10 ∷ [])
sizes_line ranks n = ap (λ z. codes "ranks " ++ z) (sym (append_assoc (decimal ranks) (codes " block ") (decimal n ++ 10 ∷ [])))

pub ok_same : (m n : ℕ) (r : Result ℕ NumRefusal) → r ≡ Ok m → r ≡ Ok n → m ≡ n
ok_same m n r e f = let g : Ok m ≡ Ok n = sym e ∙ f in cc

pub ok_no_err : (n : ℕ) (e : NumRefusal) (r : Result ℕ NumRefusal) → r ≡ Err e → r ≡ Ok n → ⊥
ok_no_err n e r f g = let h : Err e ≡ Ok n = sym f ∙ g in cc

module _ (b : BoundValue) (meshes : List RankMesh) (ranks : ℕ) (count : length meshes ≡ ranks) (old : Unread) (told : Option ℕ)
    (rest front : List ℕ) (er : rest ≡ old.rest) (ef : front ≡ sizes_front ranks)
    (tells : (n : ℕ) (more : List ℕ) → n < 2 ^ 32 → rest ≡ front ++ (decimal n ++ 10 ∷ more) → told ≡ Some n) where
  line_is : (n : ℕ) (line : List ℕ) → IsSizes b meshes n line → line ≡ front ++ (decimal n ++ 10 ∷ [])
  line_is n line i = i.is ∙ (ap (λ z. line_of (codes "ranks" ∷ decimal z ∷ codes "block" ∷ decimal n ∷ [])) count ∙ (sizes_line ranks n ∙ ap (λ z. z ++ (decimal n ++ 10 ∷ [])) (sym ef)))

  told_is : (n : ℕ) (line more : List ℕ) → IsSizes b meshes n line → old.rest ≡ line ++ more → told ≡ Some n
  told_is n line more i e = tells n more (let f = i.few in omega arith)
      (er ∙ (e ∙ (ap (λ z. z ++ more) (line_is n line i) ∙ (append_assoc front (decimal n ++ 10 ∷ []) more ∙ ap (λ z. front ++ z) (append_assoc (decimal n) (10 ∷ []) more)))))

  pub none_refused : told ≡ None → (size : ℕ) → RefusedAmong b meshes size (Sizes ∷ []) old.rest 2 0
  none_refused e size = refused_here b meshes size Sizes old 2 (refl, λ n line more i h. (let s : None ≡ Some n = sym e ∙ told_is n line more i h in cc))

  pub size_refused : (s : ℕ) → told ≡ Some s → (0 < s → s ≤ 65536 → ⊥) → (size : ℕ) → RefusedAmong b meshes size (Sizes ∷ []) old.rest 2 0
  size_refused s e wrong size = refused_here b meshes size Sizes old 2 (
    refl,
    λ n line more i h. (
        let same : s ≡ n = same_Some s n (sym e ∙ told_is n line more i h) in
        let some = i.some in
        let few = i.few in
        wrong (omega arith) (omega arith)),
  )

  pub other_refused : (s : ℕ) (text : List ℕ) → told ≡ Some s → text ≡ front ++ (decimal s ++ 10 ∷ [])
      → ((more : List ℕ) → old.rest ≡ text ++ more → ⊥) → (size : ℕ) → RefusedAmong b meshes size (Sizes ∷ []) old.rest 2 0
  other_refused s text e t wrong size = refused_here b meshes size Sizes old 2 (
    refl,
    λ n line more i h. (
        let same : n ≡ s = same_Some n s (sym (told_is n line more i h) ∙ e) in
        let line_text : line ≡ text = line_is n line i ∙ (ap (λ z. front ++ (decimal z ++ 10 ∷ [])) same ∙ sym t) in
        wrong more (h ∙ ap (λ z. z ++ more) line_text)),
  )

  pub sizes_taken : (s : ℕ) (text : List ℕ) (new : Unread) → 0 < s → s ≤ 65536 → text ≡ front ++ (decimal s ++ 10 ∷ []) → IsTaken old new text → FitsAmong b meshes s (Sizes ∷ []) old new []
  sizes_taken s text new some few t k = fits_one b meshes s Sizes old new text [] k (
    record {
      some = some;
      few = few;
      is = t ∙ (ap (λ z. z ++ (decimal s ++ 10 ∷ [])) ef ∙ (sym (sizes_line ranks s) ∙ ap (λ z. line_of (codes "ranks" ∷ decimal z ∷ codes "block" ∷ decimal s ∷ [])) (sym count)));
    },
    refl,
  )
