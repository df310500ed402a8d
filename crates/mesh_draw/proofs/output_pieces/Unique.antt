-- An output has one piece at most.
use Rattle.std.proofs.Common.{◌≡◌, ℕ, ◌+◌, ◌<◌, ◌≤◌, inr, List, [], ◌∷◌, ◌++◌, take, Some, slice_get, cond, true, refl, sym, ap, subst, ◌∙◌, append_assoc, arith}
use Rattle.std.specs.List.{count_by}
use Rattle.std.proofs.lemmas.Slice.Eq.{bytes_eq-Decides}
use Rattle.std.proofs.lemmas.List.{take-take, append_cancel_left}
use Rattle.std.proofs.lemmas.List.Sums.{sum_by-take-le}
use Rattle.mesh_decl.specs.Mesh.{set_size, dat_set}
use Rattle.bound_program.specs.Values.{BoundValue, ItemValue, Host, Print}
use Rattle.mesh_draw.specs.Lines.{lines_in, AreLines}
use Rattle.mesh_draw.specs.Pieces.{header, is_print, lines_before, IsPrint, IsAt, IsDat, IsPiece}
use Rattle.mesh_draw.proofs.output_pieces.Counted.{lines-append, lines_one}
use Rattle.mesh_draw.proofs.output_pieces.Cutting.{header_closed}
use Rattle.mesh_draw.proofs.output_pieces.Searching.{more_prints}

-- ---- the item

-- counts of a front grow
count_grows : (file : List ℕ) (trace : List ItemValue) (i j : ℕ) → i ≤ j
    → count_by (is_print file) (take i trace) ≤ count_by (is_print file) (take j trace)
count_grows file trace i j le =
    subst (λ n. n ≤ count_by (is_print file) (take j trace)) (ap (count_by (is_print file)) (take-take i j trace le))
    (sum_by-take-le (λ x. cond (is_print file x) 1 0) (take j trace) i)

same_text : (file : List ℕ) (dat : ℕ) → is_print file (Host (Print dat file)) ≡ true
same_text file dat = (bytes_eq-Decides file file).1 refl

-- a print behind as many isn't later
no_later : (b : BoundValue) (file : List ℕ) (earlier i j d e : ℕ) → IsPrint b file earlier i d → IsPrint b file earlier j e → i < j → ⊥
no_later b file earlier i j d e p q lt =
    let more = more_prints file b.trace i (Host (Print d file)) p.prints (same_text file d) in
    let grows = count_grows file b.trace (i + 1) j (omega arith) in
    let one = p.passed in
    let other = q.passed in
    omega arith

-- ---- the piece

same_dat : (d e : ℕ) (file : List ℕ) → Some (Host (Print d file)) ≡ Some (Host (Print e file)) → d ≡ e
same_dat d e file h = cc

same_item : (i j : ℕ) → (i < j → ⊥) → (j < i → ⊥) → i ≡ j
same_item i j f g = grind (arith, f, g)

-- with one item and one dat
module _ (b : BoundValue) (file : List ℕ) (dat item : ℕ) (output : List ℕ) where
  -- the output by the first line and the rows
  cut_of : (p : List ℕ) (a : IsAt b item output p) (d : IsDat b file dat p) → output ≡ (a.front ++ header file b.mesh dat) ++ (d.rows ++ a.rest)
  cut_of p a d =
      a.cut ∙ ap (λ x. (a.front ++ x) ++ a.rest) d.whole
      ∙ ap (λ x. x ++ a.rest) (sym (append_assoc a.front (header file b.mesh dat) d.rows))
      ∙ append_assoc (a.front ++ header file b.mesh dat) d.rows a.rest

  -- the lines up to the rows
  front_lines : (p : List ℕ) (a : IsAt b item output p) → AreLines (lines_before b item + lines_in (header file b.mesh dat)) (a.front ++ header file b.mesh dat)
  front_lines p a =
      let closed = header_closed file b.mesh dat in
      record {
        count = lines-append a.front (header file b.mesh dat) ∙ ap (λ n. n + lines_in (header file b.mesh dat)) a.lines;
        ends = inr (a.front ++ closed.0, ap (λ x. a.front ++ x) closed.1 ∙ sym (append_assoc a.front closed.0 (10 ∷ [])));
      }

  same_piece : (p q : List ℕ) → IsAt b item output p → IsAt b item output q → IsDat b file dat p → IsDat b file dat q → p ≡ q
  same_piece p q at_p at_q dp dq =
      let first : List ℕ = header file b.mesh dat in
      let whole : (at_p.front ++ first) ++ (dp.rows ++ at_p.rest) ≡ (at_q.front ++ first) ++ (dq.rows ++ at_q.rest) = sym (cut_of p at_p dp) ∙ cut_of q at_q dq in
      let fronts : at_p.front ++ first ≡ at_q.front ++ first =
      lines_one (at_p.front ++ first) (at_q.front ++ first) (dp.rows ++ at_p.rest) (dq.rows ++ at_q.rest) (lines_before b item + lines_in first) whole (front_lines p at_p) (front_lines q at_q) in
      let behind : dp.rows ++ at_p.rest ≡ dq.rows ++ at_q.rest =
      append_cancel_left (at_q.front ++ first) (dp.rows ++ at_p.rest) (dq.rows ++ at_q.rest) (ap (λ x. x ++ (dp.rows ++ at_p.rest)) (sym fronts) ∙ whole) in
      let rows : dp.rows ≡ dq.rows = lines_one dp.rows dq.rows at_p.rest at_q.rest (set_size b.mesh (dat_set b.mesh dat)) behind dp.lines dq.lines in
      dp.whole ∙ ap (λ x. first ++ x) rows ∙ sym dq.whole

pub one_piece : (b : BoundValue) (file : List ℕ) (earlier : ℕ) (output piece other : List ℕ) → IsPiece b file earlier output piece → IsPiece b file earlier output other → piece ≡ other
one_piece b file earlier output piece other p q =
    let item : q.item ≡ p.item = same_item q.item p.item (no_later b file earlier q.item p.item q.dat p.dat q.is p.is) (no_later b file earlier p.item q.item p.dat q.dat p.is q.is) in
    let dat : q.dat ≡ p.dat = same_dat q.dat p.dat file (sym q.is.prints ∙ ap (slice_get b.trace) item ∙ p.is.prints) in
    same_piece b file p.dat p.item output piece other p.at (subst (λ i. IsAt b i output other) item q.at) p.printed (subst (λ d. IsDat b file d other) dat q.printed)
