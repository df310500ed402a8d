-- A source comes to one outcome.
use Rattle.std.proofs.Common.{◌≡◌, ◌∙◌, ℕ, inl, inr, nat_eq, List, [], Result, Ok, Err, refl, sym, ap, subst, arith, if◌then◌else◌}
use Rattle.std.specs.List.{Contains}
use Rattle.c_tree.specs.Tree.{ProgramTree}
use Rattle.kernel_model.specs.declared.types.kernels.Resolved.{Resolved}
use Rattle.name_resolution.specs.declared.breaches.TypeRule.{TypeRule}
use Rattle.name_resolution.specs.declared.breaches.TypeRule.TheVariants.{UnknownName, DuplicateName, NotAnArray, NotAScalar, AssignsCounter, AssignsConst, TooMuchWork}
use Rattle.name_resolution.specs.declared.breaches.Breach.{Breach}
use Rattle.name_resolution.specs.declared.refusals.TypeRefusal.{TypeRefusal}
use Rattle.name_resolution.specs.declared.refusals.TypeRefusal.TheVariants as refusal
use Rattle.name_resolution.specs.First.{number_of, NotAfter}
use Rattle.kernel_model.specs.View.{ResolvedTree, resolved_of}
use Rattle.name_resolution.specs.Programs.{Answers, Outcome, Resolves, IsFirstRefusal, breaches, refusal_of}

abbrev rule_of : ℕ → TypeRule
rule_of n =
    if nat_eq n 1 then UnknownName else
    (if nat_eq n 2 then DuplicateName else
    (if nat_eq n 3 then NotAnArray else
    (if nat_eq n 4 then NotAScalar else (if nat_eq n 5 then AssignsCounter else (if nat_eq n 6 then AssignsConst else TooMuchWork)))))

rule_of_number : (r : TypeRule) → rule_of (number_of r) ≡ r
rule_of_number UnknownName = refl
rule_of_number DuplicateName = refl
rule_of_number NotAnArray = refl
rule_of_number NotAScalar = refl
rule_of_number AssignsCounter = refl
rule_of_number AssignsConst = refl
rule_of_number TooMuchWork = refl

same_rule : (r s : TypeRule) → number_of r ≡ number_of s → r ≡ s
same_rule r s e = sym (rule_of_number r) ∙ ap rule_of e ∙ rule_of_number s

abbrev made : TypeRule → ℕ → Breach
made r t = record { rule = r; at = t }

same_breach : (t u : ℕ) (r s : TypeRule) → t ≡ u → r ≡ s → made r t ≡ made s u
same_breach t u r s e f = rw (e, f) refl

pub one_first : (a b : Breach) → NotAfter a b → NotAfter b a → a ≡ b
one_first a b (inl p) (inl q) = absurd (omega arith)
one_first a b (inl p) (inr q) = absurd (omega (arith, q.0))
one_first a b (inr p) (inl q) = absurd (omega (arith, p.0))
one_first a b (inr p) (inr q) = same_breach a.at b.at a.rule b.rule p.0 (same_rule a.rule b.rule (omega (arith, p.1, q.1)))

one_refusal : (p : ProgramTree) (e f : TypeRefusal) → IsFirstRefusal p e → IsFirstRefusal p f → e ≡ f
one_refusal p e f h k =
    h.refusal ∙ ap (λ b. refusal_of p.places b) (one_first h.breach k.breach (h.first.first k.breach k.first.there) (k.first.first h.breach h.first.there)) ∙ sym k.refusal

never_both : (p : ProgramTree) (e : TypeRefusal) → breaches p ≡ [] → IsFirstRefusal p e → ⊥
never_both p e h k =
    let c : Contains [] k.breach = subst (λ (bs : List Breach). Contains bs k.breach) h k.first.there in
    absurd (omega (arith, c.1))

pub one_answer : (p : ProgramTree) (a b : Outcome) → Resolves p a → Resolves p b → a ≡ b
one_answer p (Ok r) (Ok s) h k = ap (λ (x : ResolvedTree). Ok x) (h.1 ∙ sym k.1)
one_answer p (Err e) (Err f) h k = ap (λ (x : TypeRefusal). Err x) (one_refusal p e f h k)
one_answer p (Ok r) (Err e) h k = absurd (never_both p e h.0 k)
one_answer p (Err e) (Ok r) h k = absurd (never_both p e k.0 h)

-- what is answered is all that it comes to
pub only_answer : (p : ProgramTree) (r : Result Resolved TypeRefusal) (o : Outcome) → Resolves p o → Answers (Resolves p) r → Answers (λ x. x ≡ o) r
only_answer p (Ok r) o h a = one_answer p (Ok (resolved_of r)) o a h
only_answer p (Err refusal.OutOfMemory) o h a = tt
only_answer p (Err (refusal.UnknownName at)) o h a = one_answer p (Err (refusal.UnknownName at)) o a h
only_answer p (Err (refusal.DuplicateName at)) o h a = one_answer p (Err (refusal.DuplicateName at)) o a h
only_answer p (Err (refusal.NotAnArray at)) o h a = one_answer p (Err (refusal.NotAnArray at)) o a h
only_answer p (Err (refusal.NotAScalar at)) o h a = one_answer p (Err (refusal.NotAScalar at)) o a h
only_answer p (Err (refusal.AssignsCounter at)) o h a = one_answer p (Err (refusal.AssignsCounter at)) o a h
only_answer p (Err (refusal.AssignsConst at)) o h a = one_answer p (Err (refusal.AssignsConst at)) o a h
only_answer p (Err (refusal.TooMuchWork at)) o h a = one_answer p (Err (refusal.TooMuchWork at)) o a h
