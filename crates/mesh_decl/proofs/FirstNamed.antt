-- The first of a name, found by looking at one number after another.
use Rattle.std.proofs.Common.{◌≡◌, ◌≢◌, ℕ, ◌+◌, ◌<◌, ◌≤◌, true, false, List, sym, ap, ◌∙◌, arith, ⊎_elim}
use Rattle.std.specs.Str.{bytes_eq}
use Rattle.std.proofs.lemmas.Bool.{cases_lt}
use Rattle.std.proofs.lemmas.Slice.Eq.{bytes_eq-Decides}
use Rattle.mesh_decl.specs.Named.{IsFirstNamed}

-- no number below k has this name
abbrev pub NoneBelow : ℕ → (ℕ → List ℕ) → List ℕ → Type 0
NoneBelow k name_of name = (j : ℕ) → j < k → name_of j ≢ name

module _ (n : ℕ) (name_of : ℕ → List ℕ) (name : List ℕ) (k : ℕ) (read : List ℕ) (is : read ≡ name_of k) where
  pub found : k < n → bytes_eq read name ≡ true → NoneBelow k name_of name → IsFirstNamed n name_of name k
  found l e h = record { within = l; is = sym is ∙ (bytes_eq-Decides read name).0 e; first = h }

  pub passed : bytes_eq read name ≡ false → NoneBelow k name_of name → NoneBelow (k + 1) name_of name
  passed e h j l = ⊎_elim
      (λ (q : j < k). h j q)
      (λ (q : k ≤ j) (same : name_of j ≡ name).
      let at : j ≡ k = omega arith in
      let t : bytes_eq read name ≡ true = (bytes_eq-Decides read name).1 (is ∙ (ap name_of (sym at) ∙ same)) in
      let z : true ≡ false = sym t ∙ e in
      absurd (cc))
      (cases_lt j k)
