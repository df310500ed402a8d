-- Which loop gives a judgement.
use Rattle.std.proofs.Common.{◌≡◌, ◌<◌, ◌≤◌, ◌+◌, ◌↔◌, ℕ, zero, suc, List, [], ◌∷◌, ◌++◌, Bool, true, false, Some, None, Result, Ok, Err, IfOk, map, length, get_or, take, drop, All, refl, sym, ap, ◌∙◌, subst, arith}
use Rattle.std.specs.Prelude.{IsTrue}
use Rattle.std.specs.List.{find}
use Rattle.std.proofs.Math.Seq.{drop-cons}
use Rattle.std.proofs.lemmas.List.{take-append-drop, take_all, map-append}
use Rattle.std.proofs.lemmas.List.Elements.{All-nil, All-cons}
use Rattle.c_tree.specs.declared.lexer.tokens.Pos.{Pos}
use Rattle.kernel_model.specs.declared.types.kernels.RKernel.{RKernel}
use Rattle.kernel_model.specs.Resolved.{IsResolved, AreResolved}
use Rattle.kernel_model.specs.Obeys.{Mode, KernelObeys}
use Rattle.kernel_model.specs.Refusals.{Rule, ObeysUnlessBroken, OneRefusal, number_of}
use Rattle.explanations.specs.declared.error_loops.calls.LoopCall.{LoopCall}
use Rattle.explanations.specs.declared.error_loops.judgements.Judgement.{Judgement}
use Rattle.explanations.specs.Placed.{place_of}
use Rattle.explanations.specs.Calls.{call_of}
use Rattle.explanations.specs.First.{IsRefusedSo, SaysSo, Gives, IsGiving, StandsFirst}

-- ---- one kernel

-- a resolved kernel is what is found among resolved ones
pub resolved_among : (p : RKernel → Bool) (consts : ℕ) (ks : List RKernel) (k : RKernel) → AreResolved consts ks → find p ks ≡ Some k → IsResolved consts k
resolved_among p consts [] k all e = absurd (let f : ⊥ = cc in f)
resolved_among p consts (x ∷ xs) k all e = by (λ f. resolved_among p consts xs k all.1 f) (p x) refl
  where
    by : (find p xs ≡ Some k → IsResolved consts k) → (b : Bool) → p x ≡ b → IsResolved consts k
    by rest true t = (let same : Some x ≡ Some k = rw t at e in let is : x ≡ k = cc in subst (IsResolved consts) is all.0)
    by rest false t = rest (rw t at e)

-- a refusal is the judgement exactly where it is the first that the kernel has
pub says_so : (b : Bool) (j said : Judgement) (k : RKernel) (modes : List Mode)
    → OneRefusal
    → IsRefusedSo said k modes
    → (IsTrue b ↔ (said ≡ j))
    → SaysSo j k modes b
says_so b j said k modes one (rule, at, is, says) same =
    (λ t. (rule, at, is, sym (same.0 t) ∙ says), λ r. same.1 (says ∙ others r))
  where
    told : Rule → Pos → Judgement
    told n p = record { number = number_of n; at = place_of p }

    others : IsRefusedSo j k modes → told rule at ≡ j
    others r =
        let e = one k modes rule r.0 at r.1 is r.2 in
        ap (λ n. told n at) e.0 ∙ ap (told r.0) e.1 ∙ sym r.3

-- a kernel that obeys gives none
pub obeys_so : (j : Judgement) (k : RKernel) (modes : List Mode) → ObeysUnlessBroken → KernelObeys k modes → SaysSo j k modes false
obeys_so j k modes law h = (λ t. absurd (let f : ⊥ = cc in f), λ r. absurd ((law k modes).0 h r.0 r.1 r.2.breaks))

-- ---- loops in order

module _ (ks : List RKernel) (j : Judgement) (xs : List LoopCall) (i : ℕ) (x : LoopCall) (lt : i < length xs) (is : x ≡ get_or xs i x) where
  -- the first that gives the judgement
  pub stands_first : (k : RKernel) → All (λ e. IsGiving ks j e None) (map call_of (take i xs)) → Gives ks j (call_of x) k
      → StandsFirst ks j (map call_of xs) (call_of x) k
  stands_first k before gives = record {
    earlier = map call_of (take i xs);
    later = map call_of (drop (suc i) xs);
    whole = split;
    before = before;
    gives = gives;
  }
    where
      rest : drop i xs ≡ x ∷ drop (suc i) xs
      rest = drop-cons xs i x lt ∙ ap (λ z. z ∷ drop (suc i) xs) (sym is)

      split : map call_of xs ≡ map call_of (take i xs) ++ call_of x ∷ map call_of (drop (suc i) xs)
      split =
          ap (map call_of) (sym (take-append-drop i xs) ∙ ap (λ z. take i xs ++ z) rest)
          ∙ map-append call_of (take i xs) (x ∷ drop (suc i) xs)

all_next : {A B : Type 0} (P : B → Type 0) (f : A → B) (xs : List A) (i : ℕ) (x : A)
    → i < length xs
    → x ≡ get_or xs i x
    → All P (map f (take i xs))
    → P (f x)
    → All P (map f (take (suc i) xs))
all_next P f [] i x lt is h p = absurd (omega (arith, lt))
all_next P f (y ∷ ys) zero x lt is h p = All-cons P (f y) [] (subst (λ z. P (f z)) is p) (All-nil P)
all_next P f (y ∷ ys) (suc i) x lt is h p =
    All-cons P (f y) (map f (take (suc i) ys)) (h 0 (f y) (omega arith))
    (all_next P f ys i x (omega (arith, lt)) is (λ k d l. h (suc k) d (omega (arith, l))) p)

-- one more doesn't
pub none_next : (ks : List RKernel) (j : Judgement) (xs : List LoopCall) (i : ℕ) (x : LoopCall)
    → i < length xs
    → x ≡ get_or xs i x
    → All (λ e. IsGiving ks j e None) (map call_of (take i xs))
    → IsGiving ks j (call_of x) None
    → All (λ e. IsGiving ks j e None) (map call_of (take (i + 1) xs))
none_next ks j xs i x lt is h p =
    let next : suc i ≡ i + 1 = omega arith in
    subst (λ n. All (λ e. IsGiving ks j e None) (map call_of (take n xs))) next (all_next (λ e. IsGiving ks j e None) call_of xs i x lt is h p)

-- none does, where none is left
pub none_left : (ks : List RKernel) (j : Judgement) (xs : List LoopCall) (i : ℕ) → length xs ≤ i
    → All (λ e. IsGiving ks j e None) (map call_of (take i xs)) → All (λ e. IsGiving ks j e None) (map call_of xs)
none_left ks j xs i none h = subst (λ l. All (λ e. IsGiving ks j e None) (map call_of l)) (take_all i xs none) h

-- what is so of a value, where it follows
pub weaker : {X E : Type 0} (r : Result X E) (P Q : X → Type 0) → ((x : X) → P x → Q x) → IfOk r P → IfOk r Q
weaker (Ok x) P Q step h = step x h
weaker (Err e) P Q step h = tt

pub err_no_ok : {X E : Type 0} (e : E) (x : X) → Err e ≡ Ok x → ⊥
err_no_ok e x p = (let bad : ⊥ = cc in bad)
