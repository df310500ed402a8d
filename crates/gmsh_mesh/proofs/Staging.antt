-- Judgements one after another and side by side.
use Rattle.std.proofs.Common.{◌≡◌, ◌⊎◌, inl, inr, Bool, true, false, ◌∙◌, refl, sym, ap, Result, Ok, Err, arith, IsErrAnd}
use Rattle.std.proofs.lemmas.Result.{err_from_is_err_and}
use Rattle.std.proofs.lemmas.Bool.Decides.{nat_tests}
use Rattle.std.specs.Prelude.{nat_lt, if◌then◌else◌, ◌||◌}
use Rattle.gmsh_mesh.specs.declared.refusal.GmshRefusal.{GmshRefusal}
use Rattle.gmsh_mesh.specs.declared.refusal.GmshRefusal.TheVariants as refusal
use Rattle.op_num.specs.Automaton.{Answers}
use Rattle.gmsh_mesh.specs.Stages.{Judgement, given, line_of, lower, Both, is_lost, earlier, joined, Gives}

-- what is given goes on
pub goes : {M A B : Type 0} (judged : Judgement A) (rest : A → Judgement B) (x : A) → judged (Ok x) → (r : Result M GmshRefusal) (view : M → B)
    → Gives r view (rest x) → Gives r view (given judged rest)
goes judged rest x h (Ok m) view k = inr (x, h, k)
goes judged rest x h (Err e) view (inl k) = inl k
goes judged rest x h (Err e) view (inr k) = inr (inr (x, h, k))

-- what `?` passes on
pub passed : {M A : Type 0} (r : Result M GmshRefusal) (e : GmshRefusal) (view : M → A) (judged : Judgement A) → IsErrAnd r (λ y. y ≡ e)
    → ((e ≡ refusal.OutOfMemory) ⊎ judged (Err e))
    → Gives r view judged
passed r e view judged h f = let k = err_from_is_err_and r h in rw (k.1, k.2) f

lost-is : (e : GmshRefusal) → is_lost e ≡ true → e ≡ refusal.OutOfMemory
lost-is refusal.OutOfMemory h = refl
lost-is (refusal.Text cause) h = cc
lost-is refusal.NoCells h = cc
lost-is (refusal.TwoTypes line) h = cc
lost-is (refusal.DuplicateTag line) h = cc
lost-is (refusal.Coordinate line largest) h = cc
lost-is (refusal.NotPlane line) h = cc
lost-is (refusal.UnknownTag line) h = cc
lost-is (refusal.ThirdCell line) h = cc
lost-is (refusal.TwoGroups line) h = cc
lost-is (refusal.Limit size) h = cc
lost-is (refusal.Bytes size) h = cc

-- want of memory comes first
first-lost : (f : GmshRefusal) → earlier refusal.OutOfMemory f ≡ refusal.OutOfMemory
first-lost f = by (is_lost f) refl
  where
    by : (b : Bool) → is_lost f ≡ b → earlier refusal.OutOfMemory f ≡ refusal.OutOfMemory
    by true h = ap (λ b. if b || nat_lt (line_of f) 0 then f else refusal.OutOfMemory) h ∙ lost-is f h
    by false h =
        let low : nat_lt (line_of f) 0 ≡ false = grind (arith, nat_tests) in
        ap (λ b. if b || nat_lt (line_of f) 0 then f else refusal.OutOfMemory) h ∙ ap (λ b. if b then f else refusal.OutOfMemory) low

second-lost : (e f : GmshRefusal) → f ≡ refusal.OutOfMemory → earlier e f ≡ refusal.OutOfMemory
second-lost e f h = rw h refl

module _ {M N A B : Type 0} (v : M → A) (w : N → B) (one : Judgement A) (other : Judgement B) where
  two : (e f : GmshRefusal) → one (Err e) → other (Err f) → (earlier e f ≡ refusal.OutOfMemory) ⊎ Both one other (Err (earlier e f))
  two e f h k = by (is_lost f) refl
    where
      by : (b : Bool) → is_lost f ≡ b → (earlier e f ≡ refusal.OutOfMemory) ⊎ Both one other (Err (earlier e f))
      by true l = inl (second-lost e f (lost-is f l))
      by false l =
          let same : earlier e f ≡ lower e f = ap (λ b. if b || nat_lt (line_of f) (line_of e) then f else e) l in
          inr (Err e, Err f, h, k, ap Err same)

  pub side-by-side : (a : Result M GmshRefusal) (b : Result N GmshRefusal) (r : Result (M × N) GmshRefusal) → r ≡ joined a b
      → Gives a v one
      → Gives b w other
      → Gives r (λ p. (v p.0, w p.1)) (Both one other)
  side-by-side (Ok m) (Ok n) r is h k = rw is (Ok (v m), Ok (w n), h, k, refl)
  side-by-side (Ok m) (Err f) r is h (inl k) = rw is (inl k)
  side-by-side (Ok m) (Err f) r is h (inr k) = rw is (inr (Ok (v m), Err f, h, k, refl))
  side-by-side (Err e) (Ok n) r is (inl h) k = rw is (inl h)
  side-by-side (Err e) (Ok n) r is (inr h) k = rw is (inr (Err e, Ok (w n), h, k, refl))
  side-by-side (Err e) (Err f) r is (inl h) k = rw is (inl (ap (λ x. earlier x f) h ∙ first-lost f))
  side-by-side (Err e) (Err f) r is (inr h) (inl k) = rw is (inl (second-lost e f k))
  side-by-side (Err e) (Err f) r is (inr h) (inr k) = rw is (two e f h k)

-- what an answer is, a judgement of it says
pub answered : {M A : Type 0} (r : Result M GmshRefusal) (view : M → A) (p : Result A GmshRefusal) → Answers refusal.OutOfMemory r view p
    → Gives r view (λ x. x ≡ p)
answered (Ok m) view p h = sym h
answered (Err e) view p (inl h) = inl h
answered (Err e) view p (inr h) = inr (sym h)
