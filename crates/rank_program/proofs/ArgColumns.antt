-- The components of the arguments of a Free loop on dats stand in columns.
use Rattle.std.proofs.Common.{◌≡◌, ◌<◌, ◌≤◌, ◌+◌, ◌*◌, ℕ, true, List, length, get_or, Option, Some, None, refl, sym, ap, ap₂, ◌∙◌, subst, ⊎_elim, arith}
use Rattle.std.specs.Prelude.{slice_index}
use Rattle.op_num.specs.declared.reductions.access.Access.{Access}
use Rattle.op_num.specs.Access.{access_of}
use Rattle.mesh_decl.specs.declared.access.Via.{Via}
use Rattle.kernel_model.specs.declared.types.views.frame.Place.{Place}
use Rattle.bound_program.specs.declared.sites.Arg.{Arg}
use Rattle.run_model.specs.Arguments.{access_by}
use Rattle.kernel_runs.specs.declared.row_batches.rows.RowColumn.{RowColumn}
use Rattle.kernel_runs.specs.declared.row_batches.rows.RowLoop.{RowLoop}
use Rattle.kernel_runs.specs.Ways.{local_in}
use Rattle.kernel_runs.specs.RowLoops.{Allows, column_at, way_of, OnDat}
use Rattle.kernel_runs.specs.declared.row_batches.batch_tables.args.LocalArg.{LocalArg}
use Rattle.kernel_runs.specs.Alike.{arg_in, same_column, IsFirst}
use Rattle.kernel_runs.specs.Tables.{place_at, local_at, IsShared, Opens}
use Rattle.rank_program.proofs.RowArgs.{same_way_is, same_column_dat, same_column_way, are_same_column, column_sym, first_column_again}
use Rattle.rank_program.proofs.RowWays.{IsOn, AreOn, AreTables, has_first}
use Rattle.rank_program.proofs.RowWays as its

module _ (args : List Arg) (locals : List (Option LocalArg)) (Begins : ℕ → Type 0) (width : ℕ)
    (base_of dim_of : ℕ → ℕ) (reach : ℕ → Option Via → ℕ) (row : RowLoop) (numbers : List ℕ) (places : List Place)
    (all : AreOn args locals Begins width base_of dim_of reach)
    (tables : AreTables args locals Begins width base_of dim_of reach row numbers places) where
  abbrev OnDats : ℕ → LocalArg → Type 0
  OnDats = IsOn args locals Begins width base_of dim_of reach

  -- a component of an argument on a dat stands in a column
  module _ (a : ℕ) (y : LocalArg) (p : OnDats a y) where
    first_like : (b : ℕ) → IsFirst same_column args a b → same_column (arg_in args b) (arg_in args a) ≡ true
    first_like b first = ⊎_elim
        (λ (e : b ≡ a). are_same_column (arg_in args b) (arg_in args a) p.dat p.dat p.via p.via p.access p.access (ap (arg_in args) e ∙ p.is) p.is refl refl)
        (λ t. t)
        first.alike

    first_there : (b : ℕ) → IsFirst same_column args a b → b < length args
    first_there b first = let upto = first.upto in let la = p.there in omega (arith, upto, la)

    found : (b : ℕ) → IsFirst same_column args a b → (z : LocalArg) × (local_at args locals b ≡ Some z)
    found b first =
        let alike = same_way_is (arg_in args b) (arg_in args a) (same_column_way (arg_in args b) (arg_in args a) (first_like b first)) in
        all.local b alike.dat alike.via alike.access (first_there b first) alike.is

    first_same : (b : ℕ) (first : IsFirst same_column args a b) (q : OnDats b (found b first).0) → (q.dat ≡ p.dat) × (q.via ≡ p.via)
    first_same b first q =
        same_column_dat (arg_in args b) (arg_in args a) q.dat p.dat q.via p.via q.access p.access q.is p.is (first_like b first)

    allows : (b : ℕ) → IsFirst same_column args a b → {s : Access} → IsShared args b s → Allows (access_of s) (access_of p.access)
    allows b first {s} shared =
        subst (λ x. Allows (access_of s) x) (ap access_by p.is)
        (shared.allows a p.there (column_sym (arg_in args b) (arg_in args a) (first_like b first)))

    pub stands : (x i : ℕ) → Begins x → i < y.dim → OnDat row x (access_of p.access) ((place_at places a).from + i) (y.base + local_in y.via x * y.dim + i)
    stands x i begins lt =
        let f = has_first same_column args a in
        let b = f.0 in
        let first = f.1 in
        let there : b < length args = (let upto = first.upto in let la = p.there in omega (arith, upto, la)) in
        let z = (found b first).0 in
        let q : OnDats b z = all.on b z there (found b first).1 in
        let opens : Opens args locals b z = record { there = there; local = (found b first).1; first = first_column_again args a b first } in
        let has = tables.columns.opened b z there opens in
        let from : (place_at places a).from ≡ (place_at places b).from = tables.columns.stands a b y p.there p.local first in
        let both = first_same b first q in
        let dim : y.dim ≡ z.dim = p.dim ∙ ap dim_of (sym both.0) ∙ sym q.dim in
        let base : y.base ≡ z.base = p.base ∙ ap base_of (sym both.0) ∙ sym q.base in
        let below : i < z.dim = omega (arith, lt, dim) in
        let c = (place_at places a).from + i in
        let at : column_at row c ≡ record { way = slice_index numbers b; cell = z.base + i; dim = z.dim; access = has.shared } =
        ap (λ n. column_at row (n + i)) from ∙ has.are i below in
        let lead : local_in (way_of row c) x ≡ local_in y.via x =
        ap (λ (r : RowColumn). local_in (get_or row.ways.now r.way None) x) at
        ∙ its.way_leads args locals Begins width base_of dim_of reach row numbers places all tables b z q x begins ∙ q.leads x begins
        ∙ ap (reach x) both.1 ∙ sym (p.leads x begins) in
        let cell : (column_at row c).cell ≡ z.base + i = ap (λ (r : RowColumn). r.cell) at in
        let product : local_in (way_of row c) x * (column_at row c).dim ≡ local_in y.via x * y.dim = ap₂ (λ n k. n * k) lead (ap (λ (r : RowColumn). r.dim) at ∙ sym dim) in
        let inside = has.inside in
        record {
          few = omega (arith, inside, below, from);
          cell = omega (arith, cell, product, base);
          allows = subst (λ s. Allows s (access_of p.access)) (sym (ap (λ (r : RowColumn). access_of r.access) at)) (allows b first has.is_shared);
        }

    -- as do all of them
    pub room : (place_at places a).from + y.dim ≤ length row.columns.now
    room =
        let f = has_first same_column args a in
        let b = f.0 in
        let first = f.1 in
        let z = found b first in
        let there : b < length args = first_there b first in
        let q : OnDats b z.0 = all.on b z.0 there z.1 in
        let both = first_same b first q in
        let dim : y.dim ≡ z.0.dim = p.dim ∙ ap dim_of (sym both.0) ∙ sym q.dim in
        let from : (place_at places a).from ≡ (place_at places b).from = tables.columns.stands a b y p.there p.local first in
        let inside = (tables.columns.opened b z.0 there (record { there = there; local = z.1; first = first_column_again args a b first })).inside in
        omega (arith, inside, from, dim)
