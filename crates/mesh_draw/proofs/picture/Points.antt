-- The places of nodes.
use Rattle.std.proofs.Common.{◌≡◌, ℕ, ◌+◌, ◌*◌, ◌<◌, ◌==◌, List, [], ◌∷◌, ◌++◌, length, map, refl, sym, ap, subst, ◌∙◌, append_assoc, arith, if◌then◌else◌}
use Rattle.std.specs.List.{join_with_byte, range_with_len, flat_map}
use Rattle.std.proofs.lemmas.List.{flat_map_more}
use Rattle.mesh_draw.specs.Tree.{Node, printed}
use Rattle.std.proofs.lemmas.Bool.Decides.{nat_tests}
use Rattle.std.proofs.lemmas.List.FromFn.{length-map-range_with_len, map-range_with_len_more}
use Rattle.mesh_decl.specs.Mesh.{MeshValue, IsInRange, set_size, map_to, dat_set, dat_dim, dat_values}
use Rattle.mesh_draw.specs.declared.shapes.shape.Shape.{Shape}
use Rattle.mesh_draw.specs.Picture.{IsPlane}

-- both coordinates of a node are there
pub both_within : (g : MeshValue) (s : Shape) (node : ℕ)
    → IsInRange g → IsPlane g s → node < set_size g (map_to g s.cells)
    → node * 2 + 1 < length (dat_values g s.coords)
both_within g s node r p l =
    let e : length (dat_values g s.coords) ≡ set_size g (dat_set g s.coords) * dat_dim g s.coords = (r.dats s.coords p.dat).length in
    let two : length (dat_values g s.coords) ≡ set_size g (dat_set g s.coords) * 2 =
    e ∙ ap (λ (n : ℕ). set_size g (dat_set g s.coords) * n) p.plane in
    let below : node < set_size g (dat_set g s.coords) = subst (λ (t : ℕ). node < set_size g t) p.leads l in
    omega (arith, two, below)

-- what stands before a place that isn't the first
abbrev pub gap : ℕ → List ℕ
gap n = if n == 0 then [] else 32 ∷ []

-- where there are places before, it is a space
pub gap_some : (n : ℕ) → 0 < n → gap n ≡ 32 ∷ []
gap_some n h = grind (arith, nat_tests)

-- one more behind others, with a space between
pub join_more : (xs : List (List ℕ)) (x : List ℕ) → join_with_byte 32 (xs ++ x ∷ []) ≡ join_with_byte 32 xs ++ (gap (length xs) ++ x)
join_more [] x = refl
join_more (y ∷ []) x = refl
join_more (y ∷ z ∷ zs) x =
    let one : gap (length (z ∷ zs)) ≡ 32 ∷ [] = gap_some (length (z ∷ zs)) (omega arith) in
    let two : gap (length (y ∷ z ∷ zs)) ≡ 32 ∷ [] = gap_some (length (y ∷ z ∷ zs)) (omega arith) in
    let rest : List ℕ = join_with_byte 32 (z ∷ zs) in
    ap (λ (t : List ℕ). y ++ 32 ∷ t) (join_more (z ∷ zs) x ∙ ap (λ (t : List ℕ). rest ++ (t ++ x)) one)
    ∙ sym (append_assoc y (32 ∷ rest) (32 ∷ x))
    ∙ sym (ap (λ (t : List ℕ). (y ++ 32 ∷ rest) ++ (t ++ x)) two)

-- one more of some texts made from numbers
pub joined_more : (f : ℕ → List ℕ) (n : ℕ) (old between gapped now : List ℕ)
    → between ≡ old ++ join_with_byte 32 (map f (range_with_len 0 n))
    → gapped ≡ between ++ gap n
    → now ≡ gapped ++ f n
    → now ≡ old ++ join_with_byte 32 (map f (range_with_len 0 (n + 1)))
joined_more f n old between gapped now b g e =
    let xs : List (List ℕ) = map f (range_with_len 0 n) in
    let len : length xs ≡ n = length-map-range_with_len f 0 n in
    let more : map f (range_with_len 0 (n + 1)) ≡ xs ++ f n ∷ [] = map-range_with_len_more f 0 n n (omega arith) in
    let joined : join_with_byte 32 (xs ++ f n ∷ []) ≡ join_with_byte 32 xs ++ (gap n ++ f n) =
    join_more xs (f n) ∙ ap (λ (k : ℕ). join_with_byte 32 xs ++ (gap k ++ f n)) len in
    e ∙ ap (λ (t : List ℕ). t ++ f n) (g ∙ ap (λ (t : List ℕ). t ++ gap n) b)
    ∙ append_assoc (old ++ join_with_byte 32 xs) (gap n) (f n)
    ∙ append_assoc old (join_with_byte 32 xs) (gap n ++ f n)
    ∙ sym (ap (λ (t : List ℕ). old ++ t) (ap (join_with_byte 32) more ∙ joined))

-- one more of some nodes made from numbers
pub printed_more : (f : ℕ → Node) (n : ℕ) (old between now : List ℕ)
    → between ≡ old ++ flat_map printed (map f (range_with_len 0 n))
    → now ≡ between ++ printed (f n)
    → now ≡ old ++ flat_map printed (map f (range_with_len 0 (n + 1)))
printed_more f n old between now b e =
    let more : map f (range_with_len 0 (n + 1)) ≡ map f (range_with_len 0 n) ++ f n ∷ [] = map-range_with_len_more f 0 n n (omega arith) in
    e ∙ ap (λ (t : List ℕ). t ++ printed (f n)) b
    ∙ flat_map_more printed old (map f (range_with_len 0 n)) (f n)
    ∙ sym (ap (λ (ns : List Node). old ++ flat_map printed ns) more)
