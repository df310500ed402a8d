-- What a run prints, item by item.
use Rattle.std.proofs.Common.{◌≡◌, ℕ, zero, suc, ◌+◌, ◌-◌, ◌*◌, ◌<◌, ◌≤◌, List, [], ◌++◌, length, None, Result, Ok, Err, refl, sym, ap, subst, ◌∙◌, append_assoc, append-nil, add-one, arith}
use Rattle.std.specs.Prelude.{slice_index_or}
use Rattle.std.proofs.lemmas.Option.{slice_get_within, get_or_from_slice_get, slice_get-get_or}
use Rattle.kernel_model.specs.declared.types.faults.KernelFault.{KernelFault}
use Rattle.kernel_model.specs.Meaning.{on_value, cell, stored}
use Rattle.kernel_model.specs.Meaning as kernel
use Rattle.mesh_decl.specs.Mesh.{dat_count, dat_set, dat_dim, set_size, IsMesh, IsDatAt}
use Rattle.mesh_decl.specs.Printed.{printed_dat, printed_line}
use Rattle.schedule_model.specs.Sequential.{seq}
use Rattle.schedule_model.specs.Sequential as cells
use Rattle.bound_program.specs.Values.{BoundValue, SiteValue, ItemValue, Free, Reduce, Ordered, Host, ActValue, Clear, Assign, Line, Print, Exit}
use Rattle.bound_program.specs.Fits.{Fits, site_at, var_at}
use Rattle.run_model.specs.Programs.{program_of}
use Rattle.run_model.specs.Arrays.{Arrays, array_of}
use Rattle.run_model.specs.Runs.{Run, Stopped, Going, printed_by, stops}
use Rattle.run_model.specs.Program.{ended, element_run, after_element, after_elements, after_item, before, printed}
use Rattle.run_model.specs.Statements.{after_statement, values_of, component_of, value_of}
use Rattle.run_model.specs.SequentialLaws.{Agree, ItemsAgree}
use Rattle.mesh_draw.specs.Lines.{lines_in}
use Rattle.mesh_draw.specs.Found.{FitsHere}
use Rattle.mesh_draw.specs.Pieces.{header, item_lines, lines_before, IsPrint, IsPiece}
use Rattle.mesh_draw.proofs.output_pieces.Counted.{lines-append}
use Rattle.mesh_draw.proofs.output_pieces.Printed.{line_lines, dat_lines}
use Rattle.mesh_draw.proofs.output_pieces.Searching.{item_fits, more_lines}

-- the output is longer by something
abbrev Grows : List ℕ → List ℕ → Type 0
Grows o p = (more : List ℕ) × (p ≡ o ++ more)

stays : (o p : List ℕ) → p ≡ o → Grows o p
stays o p e = ([], e ∙ sym (append-nil o))

grows_on : (a b c : List ℕ) → Grows a b → Grows b c → Grows a c
grows_on a b c f g = (f.0 ++ g.0, g.1 ∙ ap (λ z. z ++ g.0) f.1 ∙ append_assoc a f.0 g.0)

-- ---- loops print nothing

module _ (b : BoundValue) (k : ℕ) where
  ended_prints : (e : ℕ) (o : List ℕ) (x : kernel.Ran) → printed_by (ended k e o x) ≡ o
  ended_prints e o (kernel.Finished arrays) = refl
  ended_prints e o (kernel.Stopped arrays f) = refl

  element_prints : (site : SiteValue) (e : ℕ) (r : Run) → printed_by (after_element b k site e r) ≡ printed_by r
  element_prints site e (Stopped x o) = refl
  element_prints site e (Going arrays o) = ended_prints e o (element_run b site e arrays)

  elements_print : (site : SiteValue) (n : ℕ) (r : Run) → printed_by (after_elements b k site n r) ≡ printed_by r
  elements_print site zero r = refl
  elements_print site (suc n) r = element_prints site n (after_elements b k site n r) ∙ elements_print site n r

  -- ---- statements

  chained : {A : Type 0} (o : List ℕ) (r : Result A KernelFault) (next : A → Run) → ((x : A) → Grows o (printed_by (next x)))
      → Grows o (printed_by (on_value (stops k None o) r next))
  chained o (Ok x) next h = h x
  chained o (Err f) next h = stays o _ refl

  statement_grows : (act : ActValue) (arrays : Arrays) (o : List ℕ) → Grows o (printed_by (after_statement b k act arrays o))
  statement_grows (Clear v) arrays o = stays o _ refl
  statement_grows (Assign v index op op_at e at) arrays o =
      chained o (component_of b arrays (var_at b v) at index) _ (λ i.
      chained o (value_of b arrays e) _ (λ x.
      chained o (stored op op_at (cell arrays (array_of b v) i) x) _ (λ z. stays o _ refl)))
  statement_grows (Line text es) arrays o = chained o (values_of b arrays es) _ (λ zs. (printed_line text zs, refl))
  statement_grows (Print d file) arrays o = (printed_dat file b.mesh d (slice_index_or arrays d []), refl)
  statement_grows Exit arrays o = stays o _ refl

  item_grows : (x : ItemValue) (r : Run) → Grows (printed_by r) (printed_by (after_item b k x r))
  item_grows (Free s) r = stays _ _ (elements_print (site_at b s) (set_size b.mesh (site_at b s).set) r)
  item_grows (Ordered s) r = stays _ _ (elements_print (site_at b s) (set_size b.mesh (site_at b s).set) r)
  item_grows (Reduce s) r = stays _ _ refl
  item_grows (Host act) (Stopped x o) = stays o _ refl
  item_grows (Host act) (Going arrays o) = statement_grows act arrays o

-- from item to item
beyond : ℕ → ℕ → ℕ
beyond zero k = k
beyond (suc j) k = suc (beyond j k)

beyond_is : (j k : ℕ) → beyond j k ≡ j + k
unfolding beyond
beyond_is zero k = omega arith
beyond_is (suc j) k = let rest = beyond_is j k in ap suc rest ∙ omega arith

run_grows : (b : BoundValue) (k j : ℕ) → Grows (printed_by (before b k)) (printed_by (before b (beyond j k)))
unfolding beyond
run_grows b k zero = stays _ _ refl
run_grows b k (suc j) = grows_on _ _ _ (run_grows b k j) (item_grows b (beyond j k) (slice_index_or b.trace (beyond j k) (Host Exit)) (before b (beyond j k)))

-- ---- lines

-- where it goes on, it has printed so many LFs
abbrev Counted : ℕ → Run → Type 0
Counted n (Stopped x o) = Unit {0}
Counted n (Going arrays o) = lines_in o ≡ n

-- where it goes on, each dat has as many values as it should
abbrev Shaped : BoundValue → Run → Type 0
Shaped b (Stopped x o) = Unit {0}
Shaped b (Going arrays o) =
    (d : ℕ) → d < dat_count b.mesh → length (slice_index_or arrays d []) ≡ set_size b.mesh (dat_set b.mesh d) * dat_dim b.mesh d

shaped : (b : BoundValue) (r : Run) (q : cells.Seq KernelFault) → Agree b r q → Shaped b r
shaped b (Stopped x o) q h = tt
shaped b (Going arrays o) (cells.Going s p) h = h.0.dats
shaped b (Going arrays o) (cells.Stopped x s p) h = absurd h

module _ (b : BoundValue) (dims : (d : ℕ) → d < dat_count b.mesh → IsDatAt b.mesh d) (k : ℕ) where
  ended_counts : (n e : ℕ) (o : List ℕ) (x : kernel.Ran) → lines_in o ≡ n → Counted n (ended k e o x)
  ended_counts n e o (kernel.Finished arrays) h = h
  ended_counts n e o (kernel.Stopped arrays f) h = tt

  element_counts : (n : ℕ) (site : SiteValue) (e : ℕ) (r : Run) → Counted n r → Counted n (after_element b k site e r)
  element_counts n site e (Stopped x o) h = tt
  element_counts n site e (Going arrays o) h = ended_counts n e o (element_run b site e arrays) h

  elements_count : (n : ℕ) (site : SiteValue) (m : ℕ) (r : Run) → Counted n r → Counted n (after_elements b k site m r)
  elements_count n site zero r h = h
  elements_count n site (suc m) r h = element_counts n site m (after_elements b k site m r) (elements_count n site m r h)

  chained_counts : {A : Type 0} (n : ℕ) (o : List ℕ) (r : Result A KernelFault) (next : A → Run) → ((x : A) → Counted n (next x))
      → Counted n (on_value (stops k None o) r next)
  chained_counts n o (Ok x) next h = h x
  chained_counts n o (Err f) next h = tt

  statement_counts : (act : ActValue) (arrays : Arrays) (o : List ℕ) (m : ℕ) → FitsHere b.mesh (Host act) → Shaped b (Going arrays o)
      → m ≡ lines_in o + item_lines b.mesh (Host act)
      → Counted m (after_statement b k act arrays o)
  statement_counts (Clear v) arrays o m fits shape e = omega arith
  statement_counts (Assign v index op op_at x at) arrays o m fits shape e =
      let same : lines_in o ≡ m = omega arith in
      chained_counts m o (component_of b arrays (var_at b v) at index) _ (λ i.
      chained_counts m o (value_of b arrays x) _ (λ y.
      chained_counts m o (stored op op_at (cell arrays (array_of b v) i) y) _ (λ z. same)))
  statement_counts (Line text es) arrays o m fits shape e =
      chained_counts m o (values_of b arrays es) _ (λ zs.
      let whole = lines-append o (printed_line text zs) in
      let own = line_lines text zs in
      omega arith)
  statement_counts (Print d file) arrays o m fits shape e =
      let dat = dat_lines b file d (slice_index_or arrays d []) (dims d fits).some (shape d fits) in
      let whole = lines-append o (printed_dat file b.mesh d (slice_index_or arrays d [])) in
      let own : lines_in (printed_dat file b.mesh d (slice_index_or arrays d [])) ≡ lines_in (header file b.mesh d) + lines_in dat.rows =
      ap lines_in dat.whole ∙ lines-append (header file b.mesh d) dat.rows in
      let rows = dat.lines.count in
      omega arith
  statement_counts Exit arrays o m fits shape e = omega arith

  item_counts : (x : ItemValue) (r : Run) (n m : ℕ) → FitsHere b.mesh x → Shaped b r → Counted n r → m ≡ n + item_lines b.mesh x
      → Counted m (after_item b k x r)
  item_counts (Free s) r n m fits shape h e =
      let same : n ≡ m = omega arith in
      subst (λ z. Counted z (after_item b k (Free s) r)) same (elements_count n (site_at b s) (set_size b.mesh (site_at b s).set) r h)
  item_counts (Ordered s) r n m fits shape h e =
      let same : n ≡ m = omega arith in
      subst (λ z. Counted z (after_item b k (Ordered s) r)) same (elements_count n (site_at b s) (set_size b.mesh (site_at b s).set) r h)
  item_counts (Reduce s) r n m fits shape h e =
      let same : n ≡ m = omega arith in
      subst (λ z. Counted z r) same h
  item_counts (Host act) (Stopped x o) n m fits shape h e = tt
  item_counts (Host act) (Going arrays o) n m fits shape h e = statement_counts act arrays o m fits shape (e ∙ ap (λ z. z + item_lines b.mesh (Host act)) (sym h))

before_counts : (b : BoundValue) → Fits b → ((d : ℕ) → d < dat_count b.mesh → IsDatAt b.mesh d) → ItemsAgree → (k : ℕ) → k ≤ length b.trace
    → Counted (lines_before b k) (before b k)
before_counts b fits dims agree zero le = refl
before_counts b fits dims agree (suc k) le =
    let lt : k < length b.trace = omega arith in
    let is = slice_get-get_or b.trace k (Host Exit) lt in
    let lines : lines_before b (suc k) ≡ lines_before b k + item_lines b.mesh (slice_index_or b.trace k (Host Exit)) =
    subst (λ n. lines_before b n ≡ lines_before b k + item_lines b.mesh (slice_index_or b.trace k (Host Exit))) (add-one k) (more_lines b k _ is) in
    item_counts b dims k (slice_index_or b.trace k (Host Exit)) (before b k) (lines_before b k) (lines_before b (suc k))
    (item_fits b k _ fits.items is) (shaped b (before b k) (seq (program_of b) k) (agree b fits k)) (before_counts b fits dims agree k (omega arith)) lines

-- ---- the piece

pub run_has_piece : ((b : BoundValue) → IsMesh b.mesh → (d : ℕ) → d < dat_count b.mesh → IsDatAt b.mesh d) → ItemsAgree
    → (b : BoundValue) (file : List ℕ) (earlier item dat : ℕ) (arrays : Arrays) (o : List ℕ)
    → Fits b
    → IsPrint b file earlier item dat
    → before b item ≡ Going arrays o
    → IsPiece b file earlier (printed b) (printed_dat file b.mesh dat (slice_index_or arrays dat []))
run_has_piece declared agree b file earlier item dat arrays o fits is here =
    let lt : item < length b.trace = slice_get_within b.trace item _ is.prints in
    let there = item_fits b item _ fits.items is.prints in
    let dims = declared b fits.mesh in
    let shape = subst (Shaped b) here (shaped b (before b item) (seq (program_of b) item) (agree b fits item)) in
    let count = subst (Counted (lines_before b item)) here (before_counts b fits dims agree item (omega arith)) in
    let at : slice_index_or b.trace item (Host Exit) ≡ Host (Print dat file) = get_or_from_slice_get b.trace item _ (Host Exit) is.prints in
    let next : before b (suc item) ≡ Going arrays (o ++ printed_dat file b.mesh dat (slice_index_or arrays dat [])) =
    ap (λ r. after_item b item (slice_index_or b.trace item (Host Exit)) r) here ∙ ap (λ x. after_item b item x (Going arrays o)) at in
    let end : beyond (length b.trace - suc item) (suc item) ≡ length b.trace = beyond_is (length b.trace - suc item) (suc item) ∙ omega arith in
    let grown = run_grows b (suc item) (length b.trace - suc item) in
    record {
      item = item;
      dat = dat;
      is = is;
      at = record {
        front = o;
        rest = grown.0;
        cut = sym (ap (λ n. printed_by (before b n)) end) ∙ grown.1 ∙ ap (λ r. printed_by r ++ grown.0) next;
        lines = count;
      };
      printed = dat_lines b file dat (slice_index_or arrays dat []) (dims dat there).some (shape dat there);
    }
