-- From the bytes of a file to the text of their mesh.
use Rattle.std.proofs.Common.{◌≡◌, inr, ℕ, ◌<◌, ◌≤◌, ◌∙◌, refl, sym, ap, subst, arith, Bool, true, false, List, length, Option, Result, Ok, Err}
use Rattle.std.specs.Prelude.{nat_lt, if◌then◌else◌}
use Rattle.std.proofs.lemmas.Bool.Decides.{nat_tests}
use Rattle.mesh_decl.specs.declared.text.entry.TheConstants.{MESH_VALUES, MESH_BYTES}
use Rattle.mesh_decl.specs.declared.text.entry.Form.TheVariants.{Two}
use Rattle.mesh_decl.specs.Spelling.{total}
use Rattle.mesh_decl.specs.Canonical.{canonical}
use Rattle.gmsh_text.specs.declared.read.GmshText.{GmshText}
use Rattle.gmsh_text.specs.Reading.{outcome}
use Rattle.gmsh_mesh.specs.declared.choice.Dimension.{Dimension}
use Rattle.gmsh_mesh.specs.declared.refusal.GmshRefusal.{GmshRefusal}
use Rattle.gmsh_mesh.specs.declared.refusal.GmshRefusal.TheVariants.{Limit, Bytes}
use Rattle.gmsh_mesh.specs.Stages.{Gives}
use Rattle.gmsh_mesh.specs.Choice.{dimension}
use Rattle.gmsh_mesh.specs.Mesh.{Arrays, MeshIs}
use Rattle.gmsh_mesh.specs.Entries.{entries}
use Rattle.gmsh_mesh.specs.Source.{source_text}
use Rattle.gmsh_mesh.specs.Outcome.{told, ArraysAre, Conversion, written, Comes}
use Rattle.gmsh_mesh.proofs.Staging.{goes}

abbrev pub texts : List ℕ → List ℕ → Conversion
texts mesh source = record { mesh = mesh; source = source }

-- what is written by whether there are too many values and too many bytes
abbrev chosen : Arrays → Bool → Bool → Result Conversion GmshRefusal
chosen m a b = if a then Err (Limit (total (entries m))) else if b then Err (Bytes (length (canonical Two (entries m))))
    else Ok (texts (canonical Two (entries m)) (source_text m.shape))

written-by : (m : Arrays) (a b : Bool) → nat_lt MESH_VALUES (total (entries m)) ≡ a → nat_lt MESH_BYTES (length (canonical Two (entries m))) ≡ b
    → written m ≡ chosen m a b
written-by m a b p q = ap (λ x. chosen m x (nat_lt MESH_BYTES (length (canonical Two (entries m))))) p ∙ ap (chosen m a) q

beyond : (n k : ℕ) → n < k → nat_lt n k ≡ true
beyond n k l = grind (arith, nat_tests)

not-beyond : (n k : ℕ) → k ≤ n → nat_lt n k ≡ false
not-beyond n k l = grind (arith, nat_tests)

module _ (bytes : List ℕ) (dim : Option Dimension) (scale : ℕ) where
  -- the text is read, and its mesh is made
  pub text-read : {M : Type 0} (t : GmshText) → outcome bytes ≡ Ok t → (d : Dimension) → d ≡ dimension dim t.elements
      → (r : Result M GmshRefusal) (view : M → Arrays)
      → Gives r view (MeshIs t d scale)
      → Gives r view (ArraysAre bytes dim scale)
  text-read t h d is r view k =
      goes (λ q. q ≡ told (outcome bytes)) (λ u. MeshIs u (dimension dim u.elements) scale) t (sym (ap told h)) r view
      (subst (λ z. Gives r view (MeshIs t z scale)) is k)

  module _ (m : Arrays) (h : ArraysAre bytes dim scale (Ok m)) where
    comes : (r : Result Conversion GmshRefusal) → r ≡ written m → Comes bytes dim scale r
    comes r is = inr (m, h, is)

    -- it has too many values
    pub many-values : (size : ℕ) → size ≡ total (entries m) → MESH_VALUES < size → Comes bytes dim scale (Err (Limit size))
    many-values size is l =
        let yes : nat_lt MESH_VALUES (total (entries m)) ≡ true = beyond MESH_VALUES (total (entries m)) (subst (λ k. MESH_VALUES < k) is l) in
        comes (Err (Limit size)) (ap (λ n. Err (Limit n)) is ∙ sym (written-by m true (nat_lt MESH_BYTES (length (canonical Two (entries m)))) yes refl))

    module _ (few : total (entries m) ≤ MESH_VALUES) (out : List ℕ) (is : out ≡ canonical Two (entries m)) where
      low : nat_lt MESH_VALUES (total (entries m)) ≡ false
      low = not-beyond MESH_VALUES (total (entries m)) few

      -- its text has too many bytes
      pub many-bytes : (size : ℕ) → size ≡ length out → MESH_BYTES < size → Comes bytes dim scale (Err (Bytes size))
      many-bytes size same l =
          let long : size ≡ length (canonical Two (entries m)) = same ∙ ap length is in
          let yes : nat_lt MESH_BYTES (length (canonical Two (entries m))) ≡ true = beyond MESH_BYTES (length (canonical Two (entries m))) (subst (λ k. MESH_BYTES < k) long l) in
          comes (Err (Bytes size)) (ap (λ n. Err (Bytes n)) long ∙ sym (written-by m false true low yes))

      -- both are within the limits
      pub both-texts : (source : List ℕ) → source ≡ source_text m.shape → length out ≤ MESH_BYTES
          → Comes bytes dim scale (Ok (texts out source))
      both-texts source same l =
          let no : nat_lt MESH_BYTES (length (canonical Two (entries m))) ≡ false = not-beyond MESH_BYTES (length (canonical Two (entries m))) (subst (λ k. k ≤ MESH_BYTES) (ap length is) l) in
          comes (Ok (texts out source)) (ap (λ z. Ok (texts z source)) is
          ∙ ap (λ z. Ok (texts (canonical Two (entries m)) z)) same ∙ sym (written-by m false false low no))
