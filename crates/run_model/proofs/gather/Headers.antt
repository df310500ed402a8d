-- The parts of what is printed of a dat, one behind another.
use Rattle.std.proofs.Common.{◌≡◌, ℕ, ℤ, List, [], ◌++◌, codes, Result, Ok, Err, OnOk, refl, ap, ◌∙◌, append_assoc}
use Rattle.std.specs.List.{flat_map}
use Rattle.std.specs.Fmt.{decimal}
use Rattle.mesh_decl.specs.Mesh.{MeshValue, dat_name, dat_set, dat_dim, set_name, set_size}
use Rattle.mesh_decl.specs.Printed.{rows, row_text, printed_dat}

-- the names, the numbers and the rows are the whole text
joined : (old f d s n m lines : List ℕ)
    → ((old ++ f ++ codes ": " ++ d ++ codes " " ++ s ++ codes " ") ++ n ++ codes " " ++ m ++ codes "\n") ++ lines
    ≡ old ++ ((f ++ (codes ": " ++ (d ++ (codes " " ++ (s ++ (codes " " ++ (n ++ (codes " " ++ (m ++ (codes "\n" ++ [])))))))))) ++ lines)
joined old f d s n m lines = simp append_assoc refl

pub printed_in_parts : {T E : Type 0} (r : Result T E) (old named numbered new file : List ℕ) (g : MeshValue) (dat : ℕ) (zs : List ℤ)
    → named ≡ old ++ file ++ codes ": " ++ dat_name g dat ++ codes " " ++ set_name g (dat_set g dat) ++ codes " "
    → numbered ≡ named ++ decimal (set_size g (dat_set g dat)) ++ codes " " ++ decimal (dat_dim g dat) ++ codes "\n"
    → OnOk r (new ≡ numbered ++ flat_map row_text (rows (dat_dim g dat) (set_size g (dat_set g dat)) zs))
    → OnOk r (new ≡ old ++ printed_dat file g dat zs)
unfolding printed_dat
printed_in_parts (Err e) old named numbered new file g dat zs ea eb ok = tt
printed_in_parts (Ok v) old named numbered new file g dat zs ea eb ok =
    let lines = flat_map row_text (rows (dat_dim g dat) (set_size g (dat_set g dat)) zs) in
    let numbers = λ (x : List ℕ). x ++ decimal (set_size g (dat_set g dat)) ++ codes " " ++ decimal (dat_dim g dat) ++ codes "\n" in
    ok
    ∙ ap (λ x. x ++ lines) eb
    ∙ ap (λ x. numbers x ++ lines) ea
    ∙ joined old file (dat_name g dat) (set_name g (dat_set g dat)) (decimal (set_size g (dat_set g dat))) (decimal (dat_dim g dat)) lines
