-- How long the mesh text is at most, and that its entries can be spelled.
use Rattle.std.proofs.Common.{◌≡◌, ℕ, ℤ, pos, negsuc, ◌+◌, ◌-◌, ◌*◌, ◌^◌, ◌<◌, ◌≤◌, List, [], ◌∷◌, ◌++◌, map, length, Ok, refl, sym, subst, ap, ◌∙◌, arith, codes, append_assoc, length-append}
use Rattle.std.proofs.lemmas.Fmt.{length_signed_le, length-decimal-le}
use Rattle.std.proofs.lemmas.Grind.{flat_map-append}
use Rattle.std.proofs.lemmas.List.Sums.{sum_by-cons}
use Rattle.std.specs.Fmt.{decimal, signed_decimal}
use Rattle.std.specs.List.{flat_map, sum_by}
use Rattle.op_num.specs.Lines.{line_of, separator, text_of_lines}
use Rattle.mesh_decl.specs.declared.text.entry.Form.TheVariants as form
use Rattle.mesh_decl.specs.declared.text.entry.Entry.TheVariants.{One, Many}
use Rattle.mesh_decl.specs.declared.text.entry.TheConstants.{MESH_BYTES, MESH_VALUES}
use Rattle.mesh_decl.specs.Spelling.{Named, Spells, total, header}
use Rattle.mesh_decl.specs.Reading.{Reads}
use Rattle.mesh_decl.specs.Canonical.{alone, groups, piece_text, pieces_of, entry_lines, entry_text, CanBeSpelled, canonical}
use Rattle.mesh_gen.specs.Grid.{nodes_of_cells, cells_of_edges, cells_of_boundary, walls, coordinates, sums, zeros}
use Rattle.mesh_gen.specs.Sample.{mesh_entries, sample_mesh}
use Rattle.mesh_gen.proofs.Bounds.{product_fits}
use Rattle.mesh_gen.proofs.Weights.{IsLight, nodes_light, edges_light, boundary_light, walls_light, coordinates_light, sums_light, zeros_light}

-- one for each value
one : ℤ → ℕ
one z = 1

one_light : IsLight one
unfolding one
one_light = record { number = λ x l. omega arith; minus = omega arith }

counted : (zs : List ℤ) → length zs ≤ sum_by one zs
unfolding one
counted [] = omega arith
counted (z ∷ zs) = let rest : length zs ≤ sum_by one zs = counted zs in let more : sum_by one (z ∷ zs) ≡ 1 + sum_by one zs = sum_by-cons one z zs in omega arith

-- the bytes of a value, and one behind it
token : ℤ → ℕ
token z = length (signed_decimal z) + 1

token_light : IsLight token
unfolding token
token_light = record {
  number = λ x l. let short : length (signed_decimal (pos x)) ≤ 7 = length_signed_le 6 (pos x) (omega arith) (omega arith) in omega arith;
  minus = let short : length (signed_decimal (negsuc 0)) ≤ 7 = length_signed_le 6 (negsuc 0) (omega arith) (omega arith) in omega arith;
}

-- the bytes of a token of a line, and the one behind it
word : List ℕ → ℕ
word t = length t + 1

line_long : (ts : List (List ℕ)) → length (line_of ts) ≤ sum_by word ts
unfolding word
line_long [] = omega arith
line_long (t ∷ ts) =
    let rest : length (line_of ts) ≤ sum_by word ts = line_long ts in
    let more : sum_by word (t ∷ ts) ≡ word t + sum_by word ts = sum_by-cons word t ts in
    let split : length (t ++ separator ts ∷ line_of ts) ≡ length t + length (separator ts ∷ line_of ts) = length-append t (separator ts ∷ line_of ts) in
    omega arith

pieces_long : (zs : List ℤ) → sum_by word (map piece_text (map alone zs)) ≡ sum_by token zs
unfolding word token
pieces_long [] = refl
pieces_long (z ∷ zs) =
    sum_by-cons word (signed_decimal z) (map piece_text (map alone zs)) ∙ ap (λ n. length (signed_decimal z) + 1 + n) (pieces_long zs) ∙ sym (sum_by-cons token z zs)

values_long : (zs : List ℤ) → length (line_of (pieces_of form.One zs)) ≤ sum_by token zs
unfolding groups
values_long zs =
    let line : length (line_of (map piece_text (map alone zs))) ≤ sum_by word (map piece_text (map alone zs)) = line_long (map piece_text (map alone zs)) in
    let same : sum_by word (map piece_text (map alone zs)) ≡ sum_by token zs = pieces_long zs in
    omega arith

-- the text of one integer of the grid
one_short : (name : List ℕ) (x : ℕ) → length name ≤ 6 → x ≤ 160801 → length (entry_text form.One (name, One (pos x))) ≤ 20
unfolding word
one_short name x ln l =
    let line : length (line_of (codes "int" ∷ name ∷ signed_decimal (pos x) ∷ [])) ≤ sum_by word
    (codes "int" ∷ name ∷ signed_decimal (pos x) ∷ []) = line_long (codes "int" ∷ name ∷ signed_decimal (pos x) ∷ []) in
    let value : length (signed_decimal (pos x)) ≤ 7 = length_signed_le 6 (pos x) (omega arith) (omega arith) in
    let whole : length (line_of (codes "int" ∷ name ∷ signed_decimal (pos x) ∷ []) ++ []) ≡ length (line_of (codes "int" ∷ name ∷ signed_decimal (pos x) ∷ [])) + 0 =
    length-append (line_of (codes "int" ∷ name ∷ signed_decimal (pos x) ∷ [])) []
    in
    omega arith

-- the text of an array of the grid
many_short : (name : List ℕ) (zs : List ℤ) → length name ≤ 6 → length zs ≤ 3000000 → sum_by token zs ≤ 3000000 → length (entry_text form.One (name, Many zs)) ≤ 3000020
unfolding word
many_short name zs ln lz lt =
    let front : List (List ℕ) = codes "ints" ∷ name ∷ decimal (length zs) ∷ [] in
    let line : length (line_of front) ≤ sum_by word front = line_long front in
    let values : length (line_of (pieces_of form.One zs)) ≤ sum_by token zs = values_long zs in
    let count : length (decimal (length zs)) ≤ 7 = length-decimal-le 7 (length zs) (omega arith) (omega arith) (omega arith) in
    let whole : length (line_of front ++ (line_of (pieces_of form.One zs) ++ [])) ≡ length (line_of front) + length
    (line_of (pieces_of form.One zs) ++ []) = length-append (line_of front) (line_of (pieces_of form.One zs) ++ []) in
    let behind : length (line_of (pieces_of form.One zs) ++ []) ≡ length (line_of (pieces_of form.One zs)) + 0 = length-append (line_of (pieces_of form.One zs)) [] in
    omega arith

-- the text of entries
entry_long : Named → ℕ
entry_long e = length (entry_text form.One e)

entries_long : (es : List Named) (ls : List (List (List ℕ))) → length (text_of_lines (flat_map (entry_lines form.One) es ++ ls)) ≡ sum_by entry_long es + length (text_of_lines ls)
unfolding entry_long
entries_long [] ls = omega arith
entries_long (e ∷ es) ls =
    let rest = flat_map (entry_lines form.One) es ++ ls in
    let apart : text_of_lines (flat_map (entry_lines form.One) (e ∷ es) ++ ls) ≡ entry_text form.One e ++ text_of_lines rest =
    ap text_of_lines (append_assoc (entry_lines form.One e) (flat_map (entry_lines form.One) es) ls) ∙ flat_map-append line_of (entry_lines form.One e) rest
    in
    let lengths : length (text_of_lines (flat_map (entry_lines form.One) (e ∷ es) ++ ls)) ≡ length (entry_text form.One e) + length
    (text_of_lines rest) = ap length apart ∙ length-append (entry_text form.One e) (text_of_lines rest) in
    let more : sum_by entry_long (e ∷ es) ≡ length (entry_text form.One e) + sum_by entry_long es = sum_by-cons entry_long e es in
    let behind : length (text_of_lines rest) ≡ sum_by entry_long es + length (text_of_lines ls) = entries_long es ls in
    omega arith

-- how many values the arrays have at most
record AreCounted (n : ℕ) : Type 0 where
  cells : length (nodes_of_cells n) ≤ 3000000
  edges : length (cells_of_edges n) ≤ 3000000
  boundary : length (cells_of_boundary n) ≤ 3000000
  wall : length (walls n) ≤ 3000000
  places : length (coordinates n) ≤ 3000000
  starts : length (sums n) ≤ 3000000
  rest : length (zeros n) ≤ 3000000

-- as many as they weigh at most
few : (zs : List ℤ) (k : ℕ) → sum_by one zs ≤ k → k ≤ 3000000 → length zs ≤ 3000000
few zs k l lk = let all : length zs ≤ sum_by one zs = counted zs in omega arith

are_counted : (n : ℕ) → n ≤ 200 → AreCounted n
are_counted n l = record {
  cells = few (nodes_of_cells n) 1292832 (nodes_light one one_light n l) (omega arith);
  edges = few (cells_of_edges n) 2585664 (edges_light one one_light n l) (omega arith);
  boundary = few (cells_of_boundary n) 6400 (boundary_light one one_light n l) (omega arith);
  wall = few (walls n) 6400 (walls_light one one_light n l) (omega arith);
  places = few (coordinates n) 1292832 (coordinates_light one one_light n l) (omega arith);
  starts = few (sums n) 1292832 (sums_light one one_light n l) (omega arith);
  rest = few (zeros n) 1286408 (zeros_light one one_light n l) (omega arith);
}

countable : (zs : List ℤ) → length zs ≤ 3000000 → length zs < 2 ^ 31
countable zs h = omega arith

-- the names are C names, and the arrays have counts
can_be_spelled : (n : ℕ) → n ≤ 200 → CanBeSpelled (mesh_entries n)
unfolding mesh_entries
can_be_spelled n l =
    let c = are_counted n l in (
      refl,
      tt,
      (
        refl,
        tt,
        (
          refl,
          tt,
          (
            refl,
            tt,
            (
              refl,
              countable (nodes_of_cells n) c.cells,
              (
                refl,
                countable (cells_of_edges n) c.edges,
                (
                  refl,
                  countable (cells_of_boundary n) c.boundary,
                  (
                    refl,
                    countable (walls n) c.wall,
                    (refl, countable (coordinates n) c.places, (refl, countable (sums n) c.starts, (refl, countable (zeros n) c.rest, tt))),
                  ),
                ),
              ),
            ),
          ),
        ),
      ),
    )

-- the values are within the limit
are_few : (n : ℕ) → n ≤ 200 → total (mesh_entries n) ≤ MESH_VALUES
unfolding mesh_entries
are_few n l =
    let c = are_counted n l in
    let a : length (nodes_of_cells n) ≤ 3000000 = c.cells in
    let b : length (cells_of_edges n) ≤ 3000000 = c.edges in
    let d : length (cells_of_boundary n) ≤ 3000000 = c.boundary in
    let e : length (walls n) ≤ 3000000 = c.wall in
    let f : length (coordinates n) ≤ 3000000 = c.places in
    let g : length (sums n) ≤ 3000000 = c.starts in
    let h : length (zeros n) ≤ 3000000 = c.rest in
    omega arith

-- an array of the grid under a short name
array_short : (name : List ℕ) (zs : List ℤ) (k : ℕ) → length name ≤ 6 → length zs ≤ 3000000 → sum_by token zs ≤ k → k ≤ 3000000 → entry_long (name, Many zs) ≤ 3000020
unfolding entry_long
array_short name zs k ln lz lt lk = many_short name zs ln lz (omega arith)

size_short : (name : List ℕ) (x : ℕ) → length name ≤ 6 → x ≤ 160801 → entry_long (name, One (pos x)) ≤ 20
unfolding entry_long
size_short name x ln l = one_short name x ln l

-- texts of entries that are short in all
text_short : (es : List Named) → sum_by entry_long es ≤ 21000220 → length (canonical form.One es) ≤ MESH_BYTES
text_short es l =
    let done : List (List (List ℕ)) = (codes "done" ∷ []) ∷ [] in
    let rest = text_of_lines (flat_map (entry_lines form.One) es ++ done) in
    let whole : length (line_of (header form.One) ++ rest) ≡ length (line_of (header form.One)) + length rest = length-append (line_of (header form.One)) rest in
    let entries : length rest ≡ sum_by entry_long es + length (text_of_lines done) = entries_long es done in
    omega arith

-- the text is
is_short : (n : ℕ) → n ≤ 200 → length (sample_mesh n) ≤ MESH_BYTES
unfolding mesh_entries
is_short n l =
    let c = are_counted n l in
    let nodes : (n + 1) * (n + 1) ≤ 160801 = product_fits (n + 1) (n + 1) (omega arith) (omega arith) in
    let cells : n * n ≤ 160801 = product_fits n n (omega arith) (omega arith) in
    let edges : 2 * n * (n - 1) ≤ 160801 = product_fits (2 * n) (n - 1) (omega arith) (omega arith) in
    let a : entry_long (codes "nnode", One (pos ((n + 1) * (n + 1)))) ≤ 20 = size_short (codes "nnode") ((n + 1) * (n + 1)) (omega arith) nodes in
    let b : entry_long (codes "ncell", One (pos (n * n))) ≤ 20 = size_short (codes "ncell") (n * n) (omega arith) cells in
    let d : entry_long (codes "nedge", One (pos (2 * n * (n - 1)))) ≤ 20 = size_short (codes "nedge") (2 * n * (n - 1)) (omega arith) edges in
    let e : entry_long (codes "nbedge", One (pos (4 * n))) ≤ 20 = size_short (codes "nbedge") (4 * n) (omega arith) (omega arith) in
    let f : entry_long (codes "cell", Many (nodes_of_cells n)) ≤ 3000020 =
    array_short (codes "cell") (nodes_of_cells n) 1292832 (omega arith) c.cells (nodes_light token token_light n l) (omega arith) in
    let g : entry_long (codes "ecell", Many (cells_of_edges n)) ≤ 3000020 =
    array_short (codes "ecell") (cells_of_edges n) 2585664 (omega arith) c.edges (edges_light token token_light n l) (omega arith) in
    let h : entry_long (codes "bcell", Many (cells_of_boundary n)) ≤ 3000020 =
    array_short (codes "bcell") (cells_of_boundary n) 6400 (omega arith) c.boundary (boundary_light token token_light n l) (omega arith)
    in
    let i : entry_long (codes "wall0", Many (walls n)) ≤ 3000020 = array_short (codes "wall0") (walls n) 6400 (omega arith) c.wall (walls_light token token_light n l) (omega arith) in
    let j : entry_long (codes "x0", Many (coordinates n)) ≤ 3000020 = array_short (codes "x0") (coordinates n) 1292832 (omega arith) c.places (coordinates_light token token_light n l) (omega arith) in
    let k : entry_long (codes "q0", Many (sums n)) ≤ 3000020 = array_short (codes "q0") (sums n) 1292832 (omega arith) c.starts (sums_light token token_light n l) (omega arith) in
    let m : entry_long (codes "zero", Many (zeros n)) ≤ 3000020 = array_short (codes "zero") (zeros n) 1286408 (omega arith) c.rest (zeros_light token token_light n l) (omega arith) in
    text_short (mesh_entries n) (omega arith)

pub text_is_short : (bytes : List ℕ) (es : List Named) (n : ℕ) → n ≤ 200 → es ≡ mesh_entries n → bytes ≡ canonical form.One es → length bytes ≤ MESH_BYTES
text_is_short bytes es n l e text = subst (λ bs. length bs ≤ MESH_BYTES) (sym (text ∙ ap (canonical form.One) e)) (is_short n l)

pub text_is_read : (bytes : List ℕ) (es : List Named) (n : ℕ) → n ≤ 200 → es ≡ mesh_entries n → (CanBeSpelled es → Spells bytes es) → Reads bytes (Ok (mesh_entries n))
text_is_read bytes es n l e spelled = (subst (λ xs. CanBeSpelled xs → Spells bytes xs) e spelled (can_be_spelled n l), are_few n l)
