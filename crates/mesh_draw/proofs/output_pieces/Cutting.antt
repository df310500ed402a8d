-- The first line of a printed dat, and the place behind it.
use Rattle.std.proofs.Common.{◌≡◌, ℕ, ◌+◌, ◌-◌, ◌<◌, ◌≤◌, List, [], ◌∷◌, ◌++◌, codes, length, take, drop, Result, Ok, Err, OnOk, inr, refl, sym, ap, subst, ◌∙◌, append_assoc, length-append, length-take-le, arith}
use Rattle.std.proofs.lemmas.List.{take-append-drop}
use Rattle.std.proofs.Math.Seq.{drop-append_seam, take-append-add}
use Rattle.std.specs.Fmt.{decimal}
use Rattle.mesh_decl.specs.Mesh.{MeshValue, dat_name, dat_set, dat_dim, set_name, set_size}
use Rattle.bound_program.specs.Values.{BoundValue}
use Rattle.mesh_draw.specs.declared.output_pieces.prints.Print.{Print}
use Rattle.mesh_draw.specs.Pieces.{header, IsPiece}
use Rattle.mesh_draw.specs.Found.{IsFound}
use Rattle.mesh_draw.specs.Answered.{LacksRows}
use Rattle.mesh_draw.specs.Lines.{lines_in, AreLines}
use Rattle.mesh_draw.specs.Cuts.{IsClosed, IsBehind, IsNowhere}
use Rattle.mesh_draw.proofs.output_pieces.Counted.{lines-append, lines_one}

joined : (f d s n m : List ℕ)
    → ([] ++ f ++ codes ": " ++ d ++ codes " " ++ s ++ codes " ") ++ n ++ codes " " ++ m ++ codes "\n"
    ≡ f ++ (codes ": " ++ (d ++ (codes " " ++ (s ++ (codes " " ++ (n ++ (codes " " ++ (m ++ (codes "\n" ++ [])))))))))
joined f d s n m = simp append_assoc refl

-- its parts are the whole
pub header_written : {T E : Type 0} (r : Result T E) (old named new file : List ℕ) (g : MeshValue) (dat : ℕ)
    → old ≡ []
    → named ≡ old ++ file ++ codes ": " ++ dat_name g dat ++ codes " " ++ set_name g (dat_set g dat) ++ codes " "
    → OnOk r (new ≡ named ++ decimal (set_size g (dat_set g dat)) ++ codes " " ++ decimal (dat_dim g dat) ++ codes "\n")
    → OnOk r (new ≡ header file g dat)
unfolding header
header_written (Err e) old named new file g dat en ea eb = tt
header_written (Ok v) old named new file g dat en ea eb =
    let numbers = λ (x : List ℕ). x ++ decimal (set_size g (dat_set g dat)) ++ codes " " ++ decimal (dat_dim g dat) ++ codes "\n" in
    let names = λ (x : List ℕ). x ++ file ++ codes ": " ++ dat_name g dat ++ codes " " ++ set_name g (dat_set g dat) ++ codes " " in
    eb ∙ ap numbers ea ∙ ap (λ x. numbers (names x)) en
    ∙ joined file (dat_name g dat) (set_name g (dat_set g dat)) (decimal (set_size g (dat_set g dat))) (decimal (dat_dim g dat))

split : (f d s n m : List ℕ)
    → f ++ (codes ": " ++ (d ++ (codes " " ++ (s ++ (codes " " ++ (n ++ (codes " " ++ (m ++ (codes "\n" ++ [])))))))))
    ≡ (f ++ (codes ": " ++ (d ++ (codes " " ++ (s ++ (codes " " ++ (n ++ (codes " " ++ m)))))))) ++ 10 ∷ []
split f d s n m = simp append_assoc refl

-- it ends in an LF
pub header_closed : (file : List ℕ) (g : MeshValue) (dat : ℕ) → IsClosed (header file g dat)
unfolding header
header_closed file g dat = (
  file ++ (codes ": " ++ (dat_name g dat ++ (codes " " ++ (set_name g (dat_set g dat) ++ (codes " "
      ++ (decimal (set_size g (dat_set g dat)) ++ (codes " " ++ decimal (dat_dim g dat)))))))),
  split file (dat_name g dat) (set_name g (dat_set g dat)) (decimal (set_size g (dat_set g dat))) (decimal (dat_dim g dat)),
)

-- ---- cuts

-- where the first lines of an output end in a first, it stands behind the lines before
pub cut_here : (before line end : ℕ) (first output : List ℕ)
    → line ≡ before + lines_in first
    → AreLines line (take end output)
    → end ≤ length output
    → take end output ≡ take (length (take end output) - length first) (take end output) ++ first
    → IsBehind before first output end
cut_here before line end first output counts lines within e =
    let front : List ℕ = take (length (take end output) - length first) (take end output) in
    let size : length (take end output) ≡ length front + length first = ap length e ∙ length-append front first in
    let all : length (take end output) ≡ end = length-take-le end output within in
    let count : lines_in (take end output) ≡ lines_in front + lines_in first = ap lines_in e ∙ lines-append front first in
    let is = lines.count in
    record {
      front = front;
      cut = sym (take-append-drop end output) ∙ ap (λ x. x ++ drop end output) e;
      lines = omega arith;
      place = sym all ∙ size;
    }

-- where they don't, it stands nowhere behind so many lines
pub uncut_here : (before line end : ℕ) (first output : List ℕ)
    → IsClosed first
    → line ≡ before + lines_in first
    → AreLines line (take end output)
    → ((front : List ℕ) → take end output ≡ front ++ first → ⊥)
    → IsNowhere before first output line
uncut_here before line end first output closed counts lines none =
    record {
      none = λ front rest e n. (
          let whole : take end output ++ drop end output ≡ (front ++ first) ++ rest =
          take-append-drop end output ∙ e in
          let count : lines_in (front ++ first) ≡ line = lines-append front first ∙ ap (λ k. k + lines_in first) n ∙ sym counts in
          let ends : front ++ first ≡ (front ++ closed.0) ++ 10 ∷ [] =
          ap (λ x. front ++ x) closed.1 ∙ sym (append_assoc front closed.0 (10 ∷ [])) in
          none front (lines_one (take end output) (front ++ first) (drop end output) rest line whole lines
          (record { count = count; ends = inr (front ++ closed.0, ends) })));
      awaited = counts;
    }

-- the bytes from a first on, with some behind it
pub piece_cut : (front first more output : List ℕ) (end rows : ℕ)
    → output ≡ front ++ first ++ more
    → end ≡ length front + length first
    → take (end + rows - (end - length first)) (drop (end - length first) output) ≡ first ++ take rows more
piece_cut front first more output end rows e place =
    let from : end - length first ≡ length front = omega arith in
    let size : end + rows - (end - length first) ≡ length first + rows = omega arith in
    ap (λ k. take k (drop (end - length first) output)) size
    ∙ ap (λ k. take (length first + rows) (drop k output)) from
    ∙ ap (λ x. take (length first + rows) (drop (length front) x)) (e ∙ append_assoc front first more)
    ∙ ap (λ x. take (length first + rows) x) (drop-append_seam front (first ++ more))
    ∙ take-append-add first more rows

-- and what is behind those
pub piece_rest : (front first more output : List ℕ) (rows : ℕ)
    → output ≡ front ++ first ++ more
    → output ≡ front ++ (first ++ take rows more) ++ drop rows more
piece_rest front first more output rows e =
    e ∙ ap (λ x. front ++ first ++ x) (sym (take-append-drop rows more))
    ∙ sym (append_assoc (front ++ first) (take rows more) (drop rows more))
    ∙ ap (λ x. x ++ drop rows more) (append_assoc front first (take rows more))

-- ---- pieces

-- the piece that the search and the cuts give
pub found_piece : (b : BoundValue) (file output : List ℕ) (number end rows len size : ℕ) (p : Print)
    → IsFound b file number p
    → IsBehind p.before (header file b.mesh p.dat) output end
    → AreLines size (take rows (drop end output))
    → size ≡ set_size b.mesh (dat_set b.mesh p.dat)
    → len ≡ length (header file b.mesh p.dat)
    → IsPiece b file number output (take (end + rows - (end - len)) (drop (end - len) output))
found_piece b file output number end rows len size p found behind lines sized measured =
    let first : List ℕ = header file b.mesh p.dat in
    let same = ap (λ n. take (end + rows - (end - n)) (drop (end - n) output)) measured
    ∙ piece_cut behind.front first (drop end output) output end rows behind.cut behind.place in
    subst (IsPiece b file number output) (sym same) (record {
      item = found.item;
      dat = p.dat;
      is = found.is;
      at = record {
        front = behind.front;
        rest = drop rows (drop end output);
        cut = piece_rest behind.front first (drop end output) output rows behind.cut;
        lines = behind.lines ∙ found.before;
      };
      printed = record { rows = take rows (drop end output); whole = refl; lines = subst (λ n. AreLines n (take rows (drop end output))) sized lines };
    })

-- too few rows behind the first line
pub found_few : (b : BoundValue) (file output : List ℕ) (number end size line : ℕ) (p : Print)
    → IsFound b file number p
    → IsBehind p.before (header file b.mesh p.dat) output end
    → lines_in (drop end output) < size
    → size ≡ set_size b.mesh (dat_set b.mesh p.dat)
    → line ≡ lines_in output + 1
    → LacksRows b file number output line
found_few b file output number end size line p found behind few sized awaited = record {
  item = found.item;
  dat = p.dat;
  is = found.is;
  at = record { front = behind.front; rest = drop end output; cut = behind.cut; lines = behind.lines ∙ found.before };
  few = omega arith;
  awaited = awaited;
}
