-- The values of dats, one dat after another.
use Rattle.std.proofs.Common.{◌≡◌, ℕ, ℤ, ◌+◌, refl, sym, ap, ap₂, ◌∙◌, arith, List, [], ◌∷◌, ◌++◌, length, map, get_or}
use Rattle.std.specs.List.{range_with_len}
use Rattle.std.proofs.lemmas.List.{ext_get_or, get_or-map, length-map, map-append}
use Rattle.std.proofs.lemmas.List.FromFn.{length-map-range_with_len, get_or-map-range_with_len}
use Rattle.mesh_decl.specs.declared.decl.DatDecl.{DatDecl}
use Rattle.mesh_decl.specs.Mesh.{MeshValue, dat_count, dat_values}
use Rattle.run_model.specs.Windows.{numbers}
use Rattle.checkpoint.proofs.state_texts.Below.{numbers_more}
use Rattle.checkpoint.proofs.state_texts.VarLines.{lengths_push}

abbrev values : DatDecl → List ℤ
values d = d.values

twice : (ds : List DatDecl) → map (λ (d : DatDecl). length d.values) ds ≡ map length (map values ds)
twice [] = refl
twice (d ∷ ds) = ap (λ l. length d.values ∷ l) (twice ds)

-- how many values each has, by their numbers and in order
pub lengths_by_number : (g : MeshValue) → map (λ d. length (dat_values g d)) (numbers (dat_count g)) ≡ map (λ (d : DatDecl). length d.values) g.dats
unfolding dat_values
lengths_by_number g =
    let f = λ (d : ℕ). length (get_or (map values g.dats) d []) in
    let n = length g.dats in
    let left : length (map f (range_with_len 0 n)) ≡ n = length-map-range_with_len f 0 n in
    let many : length (map values g.dats) ≡ n = length-map g.dats values in
    let right : length (map length (map values g.dats)) ≡ length (map values g.dats) = length-map (map values g.dats) length in
    ext_get_or 0 (map f (range_with_len 0 n)) (map length (map values g.dats)) (left ∙ sym (right ∙ many))
    (λ i l. get_or-map-range_with_len f 0 n i i 0 (omega arith) (omega arith) ∙ sym (get_or-map length (map values g.dats) i [] 0 (omega arith)))
    ∙ sym (twice g.dats)

-- those of one more
pub lengths_next : (g : MeshValue) (told : List (List ℤ)) (z : List ℤ) (d : ℕ) → map length told ≡ map (λ e. length (dat_values g e)) (numbers d) → length z ≡ length (dat_values g d)
    → map length (told ++ z ∷ []) ≡ map (λ e. length (dat_values g e)) (numbers (d + 1))
lengths_next g told z d h e =
    lengths_push told z
    ∙ (ap₂ (λ l n. l ++ n ∷ []) h e
    ∙ sym (ap (map (λ e. length (dat_values g e))) (numbers_more d) ∙ map-append (λ e. length (dat_values g e)) (numbers d) (d ∷ [])))
