-- The tables of a Free loop, and the ways in which its arguments on dats reach elements.
use Rattle.std.proofs.Common.{◌≡◌, ◌<◌, ◌≤◌, ◌+◌, ◌*◌, inl, inr, ℕ, zero, suc, Bool, true, false, List, length, get_or, Option, Some, None, refl, sym, ap, ◌∙◌, subst, ⊎_elim, arith}
use Rattle.std.specs.Prelude.{slice_index}
use Rattle.std.proofs.lemmas.Bool.{cases_Bool, cases_eq}
use Rattle.op_num.specs.declared.reductions.access.Access.{Access}
use Rattle.mesh_decl.specs.declared.access.Via.{Via}
use Rattle.kernel_model.specs.declared.types.views.frame.Place.{Place}
use Rattle.bound_program.specs.declared.sites.Arg.{Arg}
use Rattle.bound_program.specs.declared.sites.Arg.TheVariants.{Dat}
use Rattle.bound_program.specs.declared.sites.Class.TheVariants as class
use Rattle.bound_program.specs.Classes.{class_of}
use Rattle.kernel_runs.specs.declared.row_batches.rows.RowLoop.{RowLoop}
use Rattle.kernel_runs.specs.Ways.{HasTarget, local_in}
use Rattle.kernel_runs.specs.RowLoops.{column_at}
use Rattle.kernel_runs.specs.declared.row_batches.batch_tables.args.LocalArg.{LocalArg}
use Rattle.kernel_runs.specs.Alike.{arg_in, same_way, IsFirst}
use Rattle.kernel_runs.specs.Tables.{via_of, local_at, AreWays, AreColumns, ArePairs, IsStored}
use Rattle.kernel_runs.proofs.Public.{unique}
use Rattle.rank_program.proofs.RowArgs.{same_way_is, same_way_of, first_way_again}

-- each argument has a first one that is like it
module _ (like : Arg → Arg → Bool) (args : List Arg) (a : ℕ) where
  search_first : (left n : ℕ) → n + left ≡ a → ((b : ℕ) → b < n → like (arg_in args b) (arg_in args a) ≡ false) → (first : ℕ) × IsFirst like args a first
  search_first zero n e none = (n, record { upto = omega (arith, e); alike = inl (omega (arith, e)); least = none })
  search_first (suc left) n e none = ⊎_elim
      (λ (t : like (arg_in args n) (arg_in args a) ≡ true). (n, record { upto = omega (arith, e); alike = inr t; least = none }))
      (λ (t : like (arg_in args n) (arg_in args a) ≡ false). search_first left (suc n) (omega (arith, e)) (λ b lt. ⊎_elim
      (λ (is : b ≡ n). subst (λ k. like (arg_in args k) (arg_in args a) ≡ false) (sym is) t)
      (λ (ne : b ≡ n → ⊥). none b (omega (arith, lt, ne)))
      (cases_eq b n)))
      (cases_Bool (like (arg_in args n) (arg_in args a)))

  pub has_first : (first : ℕ) × IsFirst like args a first
  has_first = search_first a 0 (omega arith) (λ b lt. absurd (omega (arith, lt)))

module _ (args : List Arg) (locals : List (Option LocalArg)) (Begins : ℕ → Type 0) (width : ℕ)
    (base_of dim_of : ℕ → ℕ) (reach : ℕ → Option Via → ℕ) where
  -- an argument on a dat, and where it leads from the places at which elements begin
  pub record IsOn (a : ℕ) (y : LocalArg) : Type 0 where
    pub dat : ℕ
    pub via : Option Via
    pub access : Access
    pub there : a < length args
    pub local : local_at args locals a ≡ Some y
    pub is : arg_in args a ≡ Dat dat via access
    pub base : y.base ≡ base_of dat
    pub dim : y.dim ≡ dim_of dat
    pub direct : via ≡ None → y.via ≡ None
    pub target : (x : ℕ) → Begins x → HasTarget y.via x
    pub leads : (x : ℕ) → Begins x → local_in y.via x ≡ reach x via
    pub inside : (x : ℕ) → Begins x → y.base + (local_in y.via x + 1) * y.dim ≤ width

  -- arguments by local numbers are on dats, and those on dats have such; what two of them have in one cell is of one dat
  pub record AreOn : Type 0 where
    pub on : (a : ℕ) (y : LocalArg) → a < length args → local_at args locals a ≡ Some y → IsOn a y
    pub local : (a d : ℕ) (v : Option Via) (b : Access) → a < length args → arg_in args a ≡ Dat d v b → (y : LocalArg) × (local_at args locals a ≡ Some y)
    pub one_dat : (a b : ℕ) (y z : LocalArg) (p : IsOn a y) (q : IsOn b z) (x u i j : ℕ)
        → Begins x → Begins u → i < y.dim → j < z.dim
        → y.base + local_in y.via x * y.dim + i ≡ z.base + local_in z.via u * z.dim + j → p.dat ≡ q.dat
    pub free : class_of args ≡ class.Free

  module _ (row : RowLoop) (numbers : List ℕ) (places : List Place) where
    -- the tables are those of its arguments
    pub record AreTables : Type 0 where
      pub ways : AreWays args locals numbers row.ways.now (length args)
      pub way_count : length row.ways.now ≡ length args
      pub columns : AreColumns args locals numbers row.columns.now places (length args) (length row.columns.now)
      pub pairs : ArePairs args numbers row.pairs.now (length args) 0 (length row.pairs.now)
      pub differ : (c : ℕ) → c < length row.columns.now → IsStored (column_at row c) → row.differ ≡ true

    module _ (all : AreOn) (tables : AreTables) where
      -- an argument names a way that is there
      pub number_below : (a : ℕ) → a < length args → slice_index numbers a < length row.ways.now
      number_below a lt = let upto = (tables.ways.numbered a lt).upto in omega (arith, upto, lt, tables.way_count)

      -- the argument of whose way an argument has the number
      record Leader (a : ℕ) (y : LocalArg) (p : IsOn a y) : Type 0 where
        local : LocalArg
        on : IsOn (slice_index numbers a) local
        same : on.via ≡ p.via
        is : get_or row.ways.now (slice_index numbers a) None ≡ local.via

      leader : (a : ℕ) (y : LocalArg) (p : IsOn a y) → Leader a y p
      leader a y p =
          let first = tables.ways.numbered a p.there in
          let w = slice_index numbers a in
          let there : w < length args = (let upto = first.upto in let lt = p.there in omega (arith, upto, lt)) in
          let again : slice_index numbers w ≡ w = unique same_way args w (slice_index numbers w) w (tables.ways.numbered w there) (first_way_again args a w first) in
          ⊎_elim
          (λ (e : w ≡ a).
          let own : local_at args locals w ≡ Some y = ap (local_at args locals) e ∙ p.local in
          let q : IsOn w y = all.on w y there own in
          let same : Dat q.dat q.via q.access ≡ Dat p.dat p.via p.access = sym q.is ∙ ap (arg_in args) e ∙ p.is in
          record { local = y; on = q; same = cc; is = tables.ways.first w there again ∙ ap via_of own })
          (λ (t : same_way (arg_in args w) (arg_in args a) ≡ true).
          let alike = same_way_is (arg_in args w) (arg_in args a) t in
          let z = all.local w alike.dat alike.via alike.access there alike.is in
          let q : IsOn w z.0 = all.on w z.0 there z.1 in
          record {
            local = z.0;
            on = q;
            same = same_way_of (arg_in args w) (arg_in args a) q.dat p.dat q.via p.via q.access p.access q.is p.is t;
            is = tables.ways.first w there again ∙ ap via_of z.1;
          })
          first.alike

      -- a way leads where its arguments do
      pub way_leads : (a : ℕ) (y : LocalArg) (p : IsOn a y) (x : ℕ) → Begins x → local_in (get_or row.ways.now (slice_index numbers a) None) x ≡ local_in y.via x
      way_leads a y p x begins =
          let l = leader a y p in
          ap (λ v. local_in v x) l.is ∙ l.on.leads x begins ∙ ap (reach x) l.same ∙ sym (p.leads x begins)

      -- and not by a map where they need none
      pub way_direct : (a : ℕ) (y : LocalArg) (p : IsOn a y) → p.via ≡ None → get_or row.ways.now (slice_index numbers a) None ≡ None
      way_direct a y p none = let l = leader a y p in l.is ∙ l.on.direct (l.same ∙ none)

      -- each way leads somewhere
      pub ways_lead : (x : ℕ) → Begins x → (w : ℕ) → w < length row.ways.now → HasTarget (get_or row.ways.now w None) x
      ways_lead x begins w lt = ⊎_elim
          (λ (e : slice_index numbers w ≡ w). subst (λ v. HasTarget v x) (sym (tables.ways.first w there e)) (own (local_at args locals w) refl))
          (λ (ne : slice_index numbers w ≡ w → ⊥). subst (λ v. HasTarget v x) (sym (tables.ways.other w there ne)) tt)
          (cases_eq (slice_index numbers w) w)
        where
          there : w < length args
          there = omega (arith, lt, tables.way_count)

          own : (l : Option LocalArg) → local_at args locals w ≡ l → HasTarget (via_of l) x
          own None e = tt
          own (Some y) e = (all.on w y there e).target x begins
