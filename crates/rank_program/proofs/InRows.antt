-- The columns of a Free loop: no two share a cell but those that reduce into it alike.
use Rattle.std.proofs.Common.{◌≡◌, ◌≢◌, ◌<◌, ◌≤◌, ◌+◌, ◌*◌, ◌⊎◌, inl, inr, ℕ, suc, true, false, List, length, get_or, Option, None, refl, sym, ap, ap₂, ◌∙◌, subst, ⊎_elim, arith}
use Rattle.std.specs.Prelude.{slice_index}
use Rattle.std.proofs.Math.Nat.{suc-mul}
use Rattle.std.proofs.lemmas.Bool.{cases_Bool, cases_lt, false≢true}
use Rattle.std.proofs.lemmas.Nat.{same_from_place}
use Rattle.op_num.specs.Reduction.{Reduction}
use Rattle.op_num.specs.declared.reductions.access.Access.{Access}
use Rattle.op_num.specs.Access.{OpRead, OpWrite, OpRw, OpReduce, access_of}
use Rattle.op_num.specs.Access as model
use Rattle.mesh_decl.specs.declared.access.Via.{Via}
use Rattle.kernel_model.specs.declared.types.views.frame.Place.{Place}
use Rattle.bound_program.specs.declared.sites.Arg.{Arg}
use Rattle.bound_program.specs.declared.sites.Arg.TheVariants.{Dat}
use Rattle.run_model.specs.Arguments.{access_by}
use Rattle.kernel_runs.specs.declared.row_batches.rows.RowColumn.{RowColumn}
use Rattle.kernel_runs.specs.declared.row_batches.rows.RowLoop.{RowLoop}
use Rattle.kernel_runs.specs.Ways.{local_in}
use Rattle.kernel_runs.specs.RowLoops.{Allows, column_at, column_access, way_of, column_cell, AreTested, IsWhole, LeadsFrom, ReduceApart}
use Rattle.kernel_runs.specs.declared.row_batches.batch_tables.args.LocalArg.{LocalArg}
use Rattle.kernel_runs.specs.Alike.{arg_in, same_via, same_column, IsFirst}
use Rattle.kernel_runs.specs.Tables.{place_at, IsShared}
use Rattle.rank_program.proofs.RowArgs.{same_via_is, same_way_is, same_column_dat, same_column_way, are_same_column, column_sym, column_trans, same_via_self, allows_reduction, orderly, they_meet}
use Rattle.rank_program.proofs.RowWays.{IsOn, AreOn, AreTables}
use Rattle.rank_program.proofs.RowWays as its

module _ (args : List Arg) (locals : List (Option LocalArg)) (Begins : ℕ → Type 0) (width : ℕ)
    (base_of dim_of : ℕ → ℕ) (reach : ℕ → Option Via → ℕ) (row : RowLoop) (numbers : List ℕ) (places : List Place)
    (all : AreOn args locals Begins width base_of dim_of reach)
    (tables : AreTables args locals Begins width base_of dim_of reach row numbers places) where
  abbrev OnDats : ℕ → LocalArg → Type 0
  OnDats = IsOn args locals Begins width base_of dim_of reach

  -- the argument whose component a column has
  pub record Owner (c : ℕ) : Type 0 where
    pub arg : ℕ
    pub local : LocalArg
    pub component : ℕ
    pub on : OnDats arg local
    pub first : IsFirst same_column args arg arg
    pub below : component < local.dim
    pub at : c ≡ (place_at places arg).from + component
    pub shared : Access
    pub is_shared : IsShared args arg shared
    pub is : column_at row c ≡ record { way = slice_index numbers arg; cell = local.base + component; dim = local.dim; access = shared }

  pub owner : (c : ℕ) → c < length row.columns.now → Owner c
  owner c lt =
      let o = tables.columns.each c lt in
      let opens = o.4 in
      let has = tables.columns.opened o.0 o.1 o.3 opens in
      record {
        arg = o.0;
        local = o.1;
        component = o.2;
        on = all.on o.0 o.1 o.3 opens.local;
        first = opens.first;
        below = o.5;
        at = o.6;
        shared = has.shared;
        is_shared = has.is_shared;
        is = ap (column_at row) o.6 ∙ has.are o.2 o.5;
      }

  module _ (c : ℕ) (o : Owner c) where
    access_is : column_access row c ≡ access_of o.shared
    access_is = ap (λ (q : RowColumn). access_of q.access) o.is

    way_is : way_of row c ≡ get_or row.ways.now (slice_index numbers o.arg) None
    way_is = ap (λ (q : RowColumn). get_or row.ways.now q.way None) o.is

    pub cell_is : (x : ℕ) → Begins x → column_cell row x c ≡ o.local.base + local_in o.local.via x * o.local.dim + o.component
    cell_is x begins =
        let lead : local_in (way_of row c) x ≡ local_in o.local.via x = ap (λ v. local_in v x) way_is
        ∙ its.way_leads args locals Begins width base_of dim_of reach row numbers places all tables o.arg o.local o.on x begins in
        let cell : (column_at row c).cell ≡ o.local.base + o.component = ap (λ (q : RowColumn). q.cell) o.is in
        let product : local_in (way_of row c) x * (column_at row c).dim ≡ local_in o.local.via x * o.local.dim =
        ap₂ (λ n d. n * d) lead (ap (λ (q : RowColumn). q.dim) o.is) in
        omega (arith, cell, product)

    pub cell_inside : (x : ℕ) → Begins x → column_cell row x c < width
    cell_inside x begins =
        let cell = cell_is x begins in
        let room = o.on.inside x begins in
        let one : (local_in o.local.via x + 1) * o.local.dim ≡ local_in o.local.via x * o.local.dim + o.local.dim =
        (let next : local_in o.local.via x + 1 ≡ suc (local_in o.local.via x) = omega arith in ap (λ n. n * o.local.dim) next ∙ suc-mul (local_in o.local.via x) o.local.dim) in
        let below = o.below in
        omega (arith, cell, room, one, below)

    pub has_dim : 0 < (column_at row c).dim
    has_dim = let dim : (column_at row c).dim ≡ o.local.dim = ap (λ (q : RowColumn). q.dim) o.is in let below = o.below in omega (arith, dim, below)

    pub way_below : (column_at row c).way < length row.ways.now
    way_below = subst (λ w. w < length row.ways.now) (sym (ap (λ (q : RowColumn). q.way) o.is))
        (its.number_below args locals Begins width base_of dim_of reach row numbers places all tables o.arg o.on.there)

    -- an argument that may modify a column
    pub record Modifier : Type 0 where
      pub arg : ℕ
      pub local : LocalArg
      pub on : OnDats arg local
      pub dat : on.dat ≡ o.on.dat
      pub via : on.via ≡ o.on.via
      pub modifies : access_of on.access ≢ OpRead
      pub allowed : Allows (access_of o.shared) (access_of on.access)
      pub stands : (place_at places arg).from ≡ (place_at places o.arg).from

    pub modifier : column_access row c ≢ OpRead → Modifier
    modifier ne =
        let found = o.is_shared.modified (λ e. ne (access_is ∙ e)) in
        let b = found.0 in
        let alike = same_way_is (arg_in args b) (arg_in args o.arg) (same_column_way (arg_in args b) (arg_in args o.arg) found.2) in
        let z = all.local b alike.dat alike.via alike.access found.1 alike.is in
        let q : OnDats b z.0 = all.on b z.0 found.1 z.1 in
        let both = same_column_dat (arg_in args b) (arg_in args o.arg) q.dat o.on.dat q.via o.on.via q.access o.on.access q.is o.on.is found.2 in
        let how : access_by (arg_in args b) ≡ access_of q.access = ap access_by q.is in
        record {
          arg = b;
          local = z.0;
          on = q;
          dat = both.0;
          via = both.1;
          modifies = subst (λ x. x ≢ OpRead) how found.3;
          allowed = subst (λ x. Allows (access_of o.shared) x) how (o.is_shared.allows b found.1 found.2);
          stands = tables.columns.stands b o.arg z.0 found.1 z.1 (first_of_like b found.2);
        }
      where
        first_of_like : (b : ℕ) → same_column (arg_in args b) (arg_in args o.arg) ≡ true → IsFirst same_column args b o.arg
        first_of_like b t =
            let back : same_column (arg_in args o.arg) (arg_in args b) ≡ true = column_sym (arg_in args b) (arg_in args o.arg) t in
            record {
              upto = ⊎_elim
                  (λ (lt : b < o.arg). absurd (false≢true (sym (o.first.least b lt) ∙ t)))
                  (λ (le : o.arg ≤ b). le)
                  (cases_lt b o.arg);
              alike = inr back;
              least = λ e lt. ⊎_elim
                  (λ (is : same_column (arg_in args e) (arg_in args b) ≡ true).
                  absurd (false≢true (sym (o.first.least e lt) ∙ column_trans (arg_in args e) (arg_in args b) (arg_in args o.arg) is t)))
                  (λ (no : same_column (arg_in args e) (arg_in args b) ≡ false). no)
                  (cases_Bool (same_column (arg_in args e) (arg_in args b)));
            }

    -- the arguments of one that is stored to need no map
    pub stored_direct : (column_access row c ≡ OpWrite) ⊎ (column_access row c ≡ OpRw) → way_of row c ≡ None
    stored_direct stored =
        let m = modifier (not_read stored) in
        ⊎_elim
        (λ (d : (m.on.via ≡ None) × (m.on.via ≡ None)). way_is ∙ its.way_direct args locals Begins width base_of dim_of reach row numbers places all tables o.arg o.local o.on (sym m.via ∙ d.0))
        (λ r. absurd (not_reduced r.0 stored (access_is ∙ allows_reduction (access_of o.shared) r.0 (subst (λ x. Allows (access_of o.shared) x) r.1 m.allowed))))
        (orderly args all.free m.arg m.arg m.on.dat m.on.via m.on.via m.on.access m.on.access m.on.there m.on.there m.on.is m.on.is m.modifies).kind
      where
        not_read : (column_access row c ≡ OpWrite) ⊎ (column_access row c ≡ OpRw) → column_access row c ≢ OpRead
        not_read h e = ⊎_elim
            (λ (t : column_access row c ≡ OpWrite). let no : OpWrite ≡ OpRead = sym t ∙ e in cc)
            (λ (t : column_access row c ≡ OpRw). let no : OpRw ≡ OpRead = sym t ∙ e in cc)
            h

        not_reduced : (r : Reduction) → (column_access row c ≡ OpWrite) ⊎ (column_access row c ≡ OpRw) → column_access row c ≡ OpReduce r → ⊥
        not_reduced r h e = ⊎_elim
            (λ (t : column_access row c ≡ OpWrite). let no : OpWrite ≡ OpReduce r = sym t ∙ e in cc)
            (λ (t : column_access row c ≡ OpRw). let no : OpRw ≡ OpReduce r = sym t ∙ e in cc)
            h

  -- ---- two columns

  module _ (c d : ℕ) (o : Owner c) (q : Owner d) where
    -- two columns with a cell in common are of one component of one dat
    pub record AreOne : Type 0 where
      pub dat : o.on.dat ≡ q.on.dat
      pub component : o.component ≡ q.component

    pub meets : (x u : ℕ) → Begins x → Begins u → column_cell row x c ≡ column_cell row u d → AreOne
    meets x u here there same =
        let cells : o.local.base + local_in o.local.via x * o.local.dim + o.component ≡ q.local.base + local_in q.local.via u * q.local.dim + q.component =
        sym (cell_is c o x here) ∙ same ∙ cell_is d q u there in
        let dat = all.one_dat o.arg q.arg o.local q.local o.on q.on x u o.component q.component here there o.below q.below cells in
        let dim : q.local.dim ≡ o.local.dim = q.on.dim ∙ ap dim_of (sym dat) ∙ sym o.on.dim in
        let base : q.local.base ≡ o.local.base = q.on.base ∙ ap base_of (sym dat) ∙ sym o.on.base in
        let product : local_in q.local.via u * q.local.dim ≡ local_in q.local.via u * o.local.dim = ap (λ n. local_in q.local.via u * n) dim in
        let below = q.below in
        let both = same_from_place (local_in o.local.via x) o.component (local_in q.local.via u) q.component o.local.dim o.below (omega (arith, below, dim)) (omega (arith, cells, base, product)) in
        record { dat = dat; component = both.1 }

    -- two columns of one component of one dat, which a loop may modify, reduce into it alike in ways that are tested
    pub apart : c ≢ d → column_access row c ≢ OpRead → AreOne → ReduceApart row c d
    apart ne modified one =
        let m = modifier c o modified in
        let m_dat : m.on.dat ≡ q.on.dat = m.dat ∙ one.dat in
        ⊎_elim
        (λ (t : same_via o.on.via q.on.via ≡ true). absurd (ne (same_place (same_via_is o.on.via q.on.via t))))
        (λ (t : same_via o.on.via q.on.via ≡ false). ⊎_elim
        (λ (r : (m.on.via ≡ None) × (q.on.via ≡ None)).
        absurd (false≢true (sym t ∙ subst (λ v. same_via v q.on.via ≡ true) m.via (subst (λ v. same_via m.on.via v ≡ true) (sym r.1) (subst (λ v. same_via v None ≡ true) (sym r.0) refl)))))
        (λ (r : (x : Reduction) × (access_of m.on.access ≡ OpReduce x) × (access_of q.on.access ≡ OpReduce x)).
        let first : access_of o.shared ≡ OpReduce r.0 = allows_reduction (access_of o.shared) r.0 (subst (λ x. Allows (access_of o.shared) x) r.1 m.allowed) in
        let second : access_of q.shared ≡ OpReduce r.0 =
        allows_reduction (access_of q.shared) r.0 (subst (λ x. Allows (access_of q.shared) x) (ap access_by q.on.is ∙ r.2) q.is_shared.own) in
        let own : access_of o.on.access ≡ OpReduce r.0 =
        reduction_allows r.0 (access_of o.on.access) (subst (λ x. Allows x (access_of o.on.access)) first (subst (λ x. Allows (access_of o.shared) x) (ap access_by o.on.is) o.is_shared.own)) in
        let is : column_access row c ≡ OpReduce r.0 = access_is c o ∙ first in
        record {
          cell = ap (λ (z : RowColumn). z.cell) o.is ∙ ap₂ (λ n k. n + k) base one.component ∙ sym (ap (λ (z : RowColumn). z.cell) q.is);
          dim = ap (λ (z : RowColumn). z.dim) o.is ∙ dim ∙ sym (ap (λ (z : RowColumn). z.dim) q.is);
          access = is ∙ sym (access_is d q ∙ second);
          reduces = (
            λ e. let no : OpReduce r.0 ≡ OpRead = sym is ∙ e in cc,
            λ e. let no : OpReduce r.0 ≡ OpWrite = sym is ∙ e in cc,
            λ e. let no : OpReduce r.0 ≡ OpRw = sym is ∙ e in cc,
          );
          tested = subst (λ v. AreTested row v (column_at row d).way) (sym (ap (λ (z : RowColumn). z.way) o.is))
              (subst (AreTested row (slice_index numbers o.arg)) (sym (ap (λ (z : RowColumn). z.way) q.is)) (tested r.0 own r.2 (differ t)));
        })
        (orderly args all.free m.arg q.arg q.on.dat m.on.via q.on.via m.on.access q.on.access m.on.there q.on.there
        (m.on.is ∙ ap (λ n. Dat n m.on.via m.on.access) m_dat) q.on.is m.modifies).kind)
        (cases_Bool (same_via o.on.via q.on.via))
      where
        base : o.local.base ≡ q.local.base
        base = o.on.base ∙ ap base_of one.dat ∙ sym q.on.base

        dim : o.local.dim ≡ q.local.dim
        dim = o.on.dim ∙ ap dim_of one.dat ∙ sym q.on.dim

        differ : same_via o.on.via q.on.via ≡ false → o.on.via ≢ q.on.via
        differ t e = false≢true (sym t ∙ subst (λ v. same_via o.on.via v ≡ true) e (same_via_self o.on.via))

        reduction_allows : (r : Reduction) (own : model.Access) → Allows (OpReduce r) own → own ≡ OpReduce r
        reduction_allows r own h = sym h

        same_place : o.on.via ≡ q.on.via → c ≡ d
        same_place via =
            let like = are_same_column (arg_in args o.arg) (arg_in args q.arg) o.on.dat q.on.dat o.on.via q.on.via o.on.access q.on.access o.on.is q.on.is one.dat via in
            let back = column_sym (arg_in args o.arg) (arg_in args q.arg) like in
            let same : o.arg ≡ q.arg = ⊎_elim
            (λ (lt : o.arg < q.arg). absurd (false≢true (sym (q.first.least o.arg lt) ∙ like)))
            (λ (le : q.arg ≤ o.arg). ⊎_elim
            (λ (lt : q.arg < o.arg). absurd (false≢true (sym (o.first.least q.arg lt) ∙ back)))
            (λ (ge : o.arg ≤ q.arg). omega (arith, le, ge))
            (cases_lt q.arg o.arg))
            (cases_lt o.arg q.arg) in
            o.at ∙ ap₂ (λ n k. n + k) (ap (λ a. (place_at places a).from) same) one.component ∙ sym q.at

        tested : (r : Reduction) → access_of o.on.access ≡ OpReduce r → access_of q.on.access ≡ OpReduce r → o.on.via ≢ q.on.via
            → AreTested row (slice_index numbers o.arg) (slice_index numbers q.arg)
        tested r own others ne = ⊎_elim
            (λ (lt : o.arg < q.arg).
            let found = tables.pairs.all q.arg o.arg (inl q.on.there) lt
            (they_meet (arg_in args q.arg) (arg_in args o.arg) q.on.dat q.on.via o.on.via q.on.access o.on.access q.on.is
            (o.on.is ∙ ap (λ n. Dat n o.on.via o.on.access) one.dat) (λ e. ne (sym e)) (λ e. let no : OpReduce r ≡ OpRead = sym others ∙ e in cc)) in
            (found.0, found.1, inr found.2))
            (λ (le : q.arg ≤ o.arg).
            let strict : q.arg < o.arg = omega (arith, le, not_same ne) in
            let found = tables.pairs.all o.arg q.arg (inl o.on.there) strict
            (they_meet (arg_in args o.arg) (arg_in args q.arg) q.on.dat o.on.via q.on.via o.on.access q.on.access
            (o.on.is ∙ ap (λ n. Dat n o.on.via o.on.access) one.dat) q.on.is ne (λ e. let no : OpReduce r ≡ OpRead = sym own ∙ e in cc)) in
            (found.0, found.1, inl found.2))
            (cases_lt o.arg q.arg)
          where
            not_same : o.on.via ≢ q.on.via → o.arg ≡ q.arg → ⊥
            not_same ne e = ne (
                let same : Dat o.on.dat o.on.via o.on.access ≡ Dat q.on.dat q.on.via q.on.access = sym o.on.is ∙ ap (arg_in args) e ∙ q.on.is in cc)

  -- ---- its numbers

  -- its numbers name what is there
  pub is_whole : IsWhole row
  is_whole = record {
    ways = λ c lt. way_below c (owner c lt);
    firsts = λ i lt.
        let p = tables.pairs.whole i lt in
        subst (λ n. n < length row.ways.now) (sym (ap (λ (z : ℕ × ℕ). z.0) p.4)) (its.number_below args locals Begins width base_of dim_of reach row numbers places all tables p.0 p.2);
    seconds = λ i lt.
        let p = tables.pairs.whole i lt in
        subst (λ n. n < length row.ways.now) (sym (ap (λ (z : ℕ × ℕ). z.1) p.4)) (its.number_below args locals Begins width base_of dim_of reach row numbers places all tables p.1 p.3);
  }

  pub leads_from : (x : ℕ) → Begins x → LeadsFrom row width x
  leads_from x begins = record {
    targets = its.ways_lead args locals Begins width base_of dim_of reach row numbers places all tables x begins;
    inside = λ c lt. cell_inside c (owner c lt) x begins;
  }
