-- What a source comes to is there.
use Rattle.std.proofs.Common.{◌≡◌, ℕ, ◌<◌, ◌≤◌, ◌^◌, List, [], ◌∷◌, length, Some, Ok, Err, refl, ap, arith, Bool, true, false, if◌then◌else◌}
use Rattle.std.proofs.lemmas.List.{length-map}
use Rattle.c_tree.specs.declared.lexer.tokens.Pos.{Pos}
use Rattle.c_tree.specs.declared.lexer.tokens.Token.{Token}
use Rattle.c_tree.specs.Lexed.{Lexes}
use Rattle.c_tree.specs.Tree.{ProgramTree}
use Rattle.c_tree.specs.Print.{program}
use Rattle.c_tree.specs.Reads.{Reads}
use Rattle.kernel_model.specs.declared.types.kernels.Resolved.{Resolved}
use Rattle.kernel_model.specs.View.{resolved_of}
use Rattle.name_resolution.specs.declared.breaches.TypeRule.{TypeRule}
use Rattle.name_resolution.specs.declared.breaches.TypeRule.TheVariants as rule
use Rattle.name_resolution.specs.declared.breaches.Breach.{Breach}
use Rattle.name_resolution.specs.declared.refusals.TypeRefusal.TheVariants as refusal
use Rattle.name_resolution.specs.First.{is_before, least_from}
use Rattle.name_resolution.specs.Programs.{breaches, resolved, refusal_of, Outcome, Resolves}
use Rattle.name_resolution.proofs.Least.{kept_is_first}
use Rattle.name_resolution.proofs.MadeKernels.{made}
use Rattle.name_resolution.proofs.ShortLists.{is_short}

-- ---- the outcome

kept_some : (a : Breach) (bs : List Breach) → (r : Breach) × (least_from (Some a) bs ≡ Some r)
kept_some a [] = (a, refl)
kept_some a (b ∷ bs) = pick (is_before b a) (kept_some a bs) (kept_some b bs)
  where
    pick : (t : Bool) → (r : Breach) × (least_from (Some a) bs ≡ Some r) → (r : Breach) × (least_from (Some b) bs ≡ Some r) → (r : Breach) × (least_from (if t then Some b else Some a) bs ≡ Some r)
    pick true h k = k
    pick false h k = h

pub some_outcome : (p : ProgramTree) → (o : Outcome) × Resolves p o
some_outcome p = by_breaches (breaches p) refl
  where
    by_breaches : (bs : List Breach) → breaches p ≡ bs → (o : Outcome) × Resolves p o
    by_breaches [] is = (Ok (resolved p), (is, refl))
    by_breaches (b ∷ bs) is =
        let r = kept_some b bs in
        (Err (refusal_of p.places r.0), record { breach = r.0; first = rw is (kept_is_first b r.0 bs r.1); refusal = refl })

rule_cause : (places : List Pos) (r : TypeRule) (at : ℕ) → refusal.OutOfMemory ≡ refusal_of places (record { rule = r; at = at }) → ⊥
rule_cause places rule.UnknownName at e = cc
rule_cause places rule.DuplicateName at e = cc
rule_cause places rule.NotAnArray at e = cc
rule_cause places rule.NotAScalar at e = cc
rule_cause places rule.AssignsCounter at e = cc
rule_cause places rule.AssignsConst at e = cc
rule_cause places rule.TooMuchWork at e = cc

pub refusals_have_causes : (p : ProgramTree) → ¬ Resolves p (Err refusal.OutOfMemory)
refusals_have_causes p h = rule_cause p.places h.breach.rule h.breach.at h.refusal

-- ---- the kernels and constants

pub some_kernels : ((bytes : List ℕ) (tokens : List Token) → Lexes bytes (Ok tokens) → length tokens ≤ length bytes)
    → (bytes : List ℕ) (p : ProgramTree) → Reads bytes p → length bytes < 2 ^ 63 → (r : Resolved) × (resolved_of r ≡ resolved p)
some_kernels few bytes p reads small =
    let tokens = few bytes reads.tokens reads.lexed in
    let kinds = ap length reads.prints.kinds in
    let marks = length-map (program p) (λ m. m.kind) in
    let long = length-map reads.tokens (λ t. t.kind) in
    let fits : length (program p) < 2 ^ 63 = omega (arith, tokens, kinds, marks, long, small) in
    let short = is_short (length (program p)) p (omega arith) in
    made (length (program p)) fits (resolved p) short.kernels short.few_kernels short.few_consts
