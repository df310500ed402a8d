-- The last print of a dat, as items are gone through.
use Rattle.std.proofs.Common.{◌≡◌, ℕ, ◌+◌, ◌<◌, ◌≤◌, ⊎_elim, Some, None, Option, false, List, ◌++◌, drop, length, sym, ap, subst, ◌∙◌, slice_get, arith, take}
use Rattle.std.proofs.lemmas.Bool.{cases_eq}
use Rattle.bound_program.specs.Values.{BoundValue, ItemValue, Host, Print}
use Rattle.mesh_decl.specs.Mesh.{set_size, dat_set}
use Rattle.mesh_draw.specs.Pieces.{header, lines_before}
use Rattle.mesh_draw.specs.Lines.{lines_in, AreLines}
use Rattle.mesh_draw.specs.Cuts.{IsBehind}
use Rattle.mesh_draw.specs.Last.{prints_dat, PrintNone, AreLastRows, LacksLastRows}
use Rattle.mesh_draw.specs.LastFound.{IsFoundLast, IsLastPrint}
use Rattle.mesh_draw.specs.declared.output_pieces.last.LastPrint.{LastPrint}
use Rattle.mesh_draw.proofs.output_pieces.Cutting.{piece_rest}

-- an item is one thing
same_item : (a c : ItemValue) (o : Option ItemValue) → o ≡ Some a → o ≡ Some c → a ≡ c
same_item a c o ea ec = let e : Some a ≡ Some c = sym ea ∙ ec in cc

-- with one item more that doesn't print the dat
pub none_more : (b : BoundValue) (dat from to : ℕ) (x : ItemValue)
    → slice_get b.trace to ≡ Some x → prints_dat dat x ≡ false → PrintNone b dat from to → PrintNone b dat from (to + 1)
none_more b dat from to x here isnt before j y lf lt e =
    ⊎_elim
    (λ (same : j ≡ to). let is : x ≡ y = same_item x y (slice_get b.trace to) here (ap (λ n. slice_get b.trace n) (sym same) ∙ e) in
    ap (prints_dat dat) (sym is) ∙ isnt)
    (λ (other : j ≡ to → ⊥). before j y lf (omega (arith, other)) e)
    (cases_eq j to)

-- with one item more that doesn't print it, the last print is the same
pub found_more : (b : BoundValue) (to dat : ℕ) (x : ItemValue) (o : Option LastPrint)
    → slice_get b.trace to ≡ Some x → prints_dat dat x ≡ false → IsFoundLast b to dat o → IsFoundLast b (to + 1) dat o
found_more b to dat x None here isnt f = none_more b dat 0 to x here isnt f
found_more b to dat x (Some p) here isnt f = record {
  item = f.item;
  is = record { prints = f.is.prints; last = none_more b dat (f.item + 1) to x here isnt f.is.last };
  before = f.before;
}

-- with one that does, it is the last print
pub found_here : (b : BoundValue) (to dat : ℕ) (p : LastPrint)
    → slice_get b.trace to ≡ Some (Host (Print dat p.file.now)) → p.before ≡ lines_before b to → IsFoundLast b (to + 1) dat (Some p)
found_here b to dat p here lines = record {
  item = to;
  is = record { prints = here; last = λ j y lf lt e. absurd (omega (arith, lf, lt)) };
  before = lines;
}

-- the lines that the search and the cuts give
pub rows_found : (b : BoundValue) (dat end rows before size : ℕ) (output : List ℕ) (p : LastPrint)
    → IsLastPrint b (length b.trace) dat p
    → IsBehind p.before (header p.file.now b.mesh dat) output end
    → AreLines size (take rows (drop end output))
    → size ≡ set_size b.mesh (dat_set b.mesh dat)
    → before ≡ p.before + lines_in (header p.file.now b.mesh dat)
    → AreLastRows b dat output (take rows (drop end output)) before
rows_found b dat end rows before size output p found behind lines sized count = record {
  item = found.item;
  file = p.file.now;
  is = found.is;
  at = record {
    front = behind.front;
    rest = drop rows (drop end output);
    cut = piece_rest behind.front (header p.file.now b.mesh dat) (drop end output) output rows behind.cut;
    lines = behind.lines ∙ found.before;
  };
  lines = subst (λ n. AreLines n (take rows (drop end output))) sized lines;
  count = count ∙ ap (λ n. n + lines_in (header p.file.now b.mesh dat)) found.before;
}

-- too few lines behind the first line
pub few_found : (b : BoundValue) (dat end size line : ℕ) (output : List ℕ) (p : LastPrint)
    → IsLastPrint b (length b.trace) dat p
    → IsBehind p.before (header p.file.now b.mesh dat) output end
    → lines_in (drop end output) < size
    → size ≡ set_size b.mesh (dat_set b.mesh dat)
    → line ≡ lines_in output + 1
    → LacksLastRows b dat output line
few_found b dat end size line output p found behind few sized awaited = record {
  item = found.item;
  file = p.file.now;
  is = found.is;
  at = record { front = behind.front; rest = drop end output; cut = behind.cut; lines = behind.lines ∙ found.before };
  few = omega (arith, few, sized);
  awaited = awaited;
}
