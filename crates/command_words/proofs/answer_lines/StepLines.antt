-- Lines about steps, one part behind another.
use Rattle.std.proofs.Common.{◌≡◌, ℕ, List, ◌++◌, codes, Result, Ok, Err, OnOk, refl, ap, ◌∙◌, append_assoc}

-- three numbers behind a word
three_joined : (old word a b c : List ℕ)
    → (((old ++ (codes " " ++ word)) ++ (codes " " ++ a)) ++ (codes " " ++ b)) ++ (codes " " ++ c)
    ≡ old ++ (codes " " ++ word ++ codes " " ++ a ++ codes " " ++ b ++ codes " " ++ c)
three_joined old word a b c = simp append_assoc refl

pub three : {T E : Type 0} (r : Result T E) (old o1 o2 o3 o4 word a b c : List ℕ)
    → o1 ≡ old ++ (codes " " ++ word)
    → o2 ≡ o1 ++ (codes " " ++ a)
    → o3 ≡ o2 ++ (codes " " ++ b)
    → OnOk r (o4 ≡ o3 ++ (codes " " ++ c))
    → OnOk r (o4 ≡ old ++ (codes " " ++ word ++ codes " " ++ a ++ codes " " ++ b ++ codes " " ++ c))
three (Err e) old o1 o2 o3 o4 word a b c e1 e2 e3 ok = tt
three (Ok v) old o1 o2 o3 o4 word a b c e1 e2 e3 ok =
    ok
    ∙ (ap (λ z. z ++ (codes " " ++ c)) e3
    ∙ (ap (λ z. (z ++ (codes " " ++ b)) ++ (codes " " ++ c)) e2
    ∙ (ap (λ z. ((z ++ (codes " " ++ a)) ++ (codes " " ++ b)) ++ (codes " " ++ c)) e1
    ∙ three_joined old word a b c)))

-- a line, a step and one that is missing
pub early : {T E : Type 0} (r : Result T E) (old o1 o2 o3 said line step needs missing : List ℕ)
    → o1 ≡ old ++ said ++ codes " " ++ line
    → o2 ≡ o1 ++ step
    → OnOk r (o3 ≡ o2 ++ (needs ++ missing))
    → OnOk r (o3 ≡ old ++ ((said ++ codes " ") ++ line ++ step ++ needs ++ missing))
early (Err e) old o1 o2 o3 said line step needs missing e1 e2 ok = tt
early (Ok v) old o1 o2 o3 said line step needs missing e1 e2 ok =
    ok ∙ (ap (λ z. z ++ (needs ++ missing)) e2 ∙ (ap (λ z. (z ++ step) ++ (needs ++ missing)) e1 ∙ joined))
  where
    joined : ((old ++ said ++ codes " " ++ line) ++ step) ++ (needs ++ missing) ≡ old ++ ((said ++ codes " ") ++ line ++ step ++ needs ++ missing)
    joined = simp append_assoc refl

-- a line, and a step that is missing
pub left : {T E : Type 0} (r : Result T E) (old o1 o2 said line needs missing : List ℕ)
    → o1 ≡ old ++ said ++ codes " " ++ line
    → OnOk r (o2 ≡ o1 ++ (needs ++ missing))
    → OnOk r (o2 ≡ old ++ ((said ++ codes " ") ++ line ++ needs ++ missing))
left (Err e) old o1 o2 said line needs missing e1 ok = tt
left (Ok v) old o1 o2 said line needs missing e1 ok = ok ∙ (ap (λ z. z ++ (needs ++ missing)) e1 ∙ joined)
  where
    joined : (old ++ said ++ codes " " ++ line) ++ (needs ++ missing) ≡ old ++ ((said ++ codes " ") ++ line ++ needs ++ missing)
    joined = simp append_assoc refl
