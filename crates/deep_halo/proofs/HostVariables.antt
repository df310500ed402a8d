-- A host statement on the block of the program's variables.
use Rattle.std.proofs.Common.{◌≡◌, ◌<◌, ◌≤◌, ◌+◌, ◌-◌, ◌*◌, ℕ, suc, ℤ, pos, true, List, ◌++◌, take, drop, length, get_or, Result, Ok, Err, refl, ap, ◌∙◌, arith, get_or-take, get_or-drop, length-take-le, length-drop}
use borrow.Rule.Slice.PartMut.{put_mid, post_of}
use Rattle.std.proofs.lemmas.List.{get_or_append_left, get_or-append_right}
use Rattle.std.proofs.Math.Nat.{mul-le-mul_right, suc-mul}
use Rattle.kernel_model.specs.declared.types.faults.KernelFault.{KernelFault}
use Rattle.mesh_decl.specs.declared.owners.Owners.{Owners}
use Rattle.schedule_model.specs.Cells.{Cell, Data, Variable, DatCell, VarCell, Store}
use Rattle.schedule_model.specs.Program.{Hosted, Halts, Goes}
use Rattle.schedule_model.specs.Sequential.{with_variables}
use Rattle.op_num.specs.declared.bytes.Text.{Text}
use Rattle.bound_program.specs.declared.acts.Act.{Act}
use Rattle.bound_program.specs.declared.acts.ToldAct.{ToldAct}
use Rattle.bound_program.specs.declared.acts.Act.TheVariants as act
use Rattle.bound_program.specs.Values.{act_of, told_act_of, closed_act, BoundValue, ActValue, Clear, Assign, Line, Print, Exit}
use Rattle.bound_program.specs.Fits.{ActFits}
use Rattle.run_model.specs.Hosts.{act_run}
use Rattle.run_model.specs.Memory.{Holds, memory_length, var_start, place_of, has_cell}
use Rattle.run_model.proofs.Public.{dat_there, inside}
use Rattle.run_model.specs.Variables.{of_vars}
use Rattle.run_model.specs.Acts.{ActEnds}
use Rattle.deep_halo.specs.Places.{in_block, all_cells}
use Rattle.deep_halo.specs.Layouts.{IsLayout}
use Rattle.deep_halo.specs.declared.chain_memory.layouts.Layout.{Layout}
use Rattle.deep_halo.proofs.chain_memory.Within.{vars_behind}
use Rattle.deep_halo.specs.Orders.{OwnersStand}
use Rattle.deep_halo.specs.Hosts.{Sets, HostEnds}

-- a statement that prints no dat doesn't depend on the mesh
pub same_act : (b : BoundValue) (s : Store) (a : ActValue) → ((d : ℕ) (file : List ℕ) → a ≡ Print d file → ⊥) → act_run (of_vars b.vars) s a ≡ act_run b s a
same_act b s (Clear v) plain = refl
same_act b s (Assign v i op op_at e at) plain = refl
same_act b s (Line text es) plain = refl
same_act b s (Print d file) plain = absurd (plain d file refl)
same_act b s Exit plain = refl

-- a statement that is no print is none with the values of its names
closed_no_print : (ts : List ℤ) (x : Act) → ((d : ℕ) (file : Text) → x ≡ act.Print d file → ⊥) → (d : ℕ) (file : List ℕ) → closed_act ts (act_of x) ≡ Print d file → ⊥
closed_no_print ts (act.Clear v) plain d file h = let q : ⊥ = cc in q
closed_no_print ts (act.Assign v i op op_at e at) plain d file h = let q : ⊥ = cc in q
closed_no_print ts (act.Line text es) plain d file h = let q : ⊥ = cc in q
closed_no_print ts (act.Print n text) plain d file h = plain n text refl
closed_no_print ts act.Exit plain d file h = let q : ⊥ = cc in q

-- nor as a value
pub not_print : (x : ToldAct) (a : Act) → a ≡ x.act.value → ((d : ℕ) (file : Text) → a ≡ act.Print d file → ⊥) → (d : ℕ) (file : List ℕ) → told_act_of x ≡ Print d file → ⊥
not_print x a same plain = closed_no_print x.told.items x.act.value (λ d file h. plain d file (same ∙ h))

-- what it names is there, without the mesh too
pub plain_fits : (b : BoundValue) (a : ActValue) → ((d : ℕ) (file : List ℕ) → a ≡ Print d file → ⊥) → ActFits b a → ActFits (of_vars b.vars) a
plain_fits b (Clear v) plain h = h
plain_fits b (Assign v i op op_at e at) plain h = h
plain_fits b (Line text es) plain h = h
plain_fits b (Print d file) plain h = absurd (plain d file refl)
plain_fits b Exit plain h = h

module _ (b : BoundValue) (o : Owners) where
  -- the variables stand at the memory's end
  pub variables_long : memory_length b ≡ var_start b 0 + memory_length (of_vars b.vars)
  variables_long = vars_behind b (length b.vars)

  pub variables_last : all_cells b o.ranks ≡ o.ranks * memory_length b + var_start b 0 + memory_length (of_vars b.vars)
  variables_last = omega (arith, suc-mul o.ranks (memory_length b), variables_long)

  -- where they begin, as the table says
  pub first_at : (l : Layout) → IsLayout b l → l.cells * o.ranks + l.dats_end ≡ o.ranks * memory_length b + var_start b 0
  first_at l is = let m : l.cells * o.ranks ≡ memory_length b * o.ranks = ap (λ k. k * o.ranks) is.cells in omega (arith, m, is.dats.ends)

  -- a variable's place from there on
  variable_place : (v : VarCell) → in_block b o.ranks (Variable v) ≡ o.ranks * memory_length b + var_start b 0 + place_of (of_vars b.vars) (Variable v)
  variable_place v = omega (arith, vars_behind b v.variable)

  -- a rank's pairs stand before them
  pair_before : (r : ℕ) (c : DatCell) → r < o.ranks → has_cell b (Data c) ≡ true → in_block b r (Data c) < o.ranks * memory_length b + var_start b 0
  pair_before r c lr h =
      let m : suc r * memory_length b ≤ o.ranks * memory_length b = mul-le-mul_right (memory_length b) (let l : suc r ≤ o.ranks = omega (arith, lr) in l) in
      omega (arith, m, suc-mul r (memory_length b), inside b (Data c) h)

  module _ (first : ℕ) (at : first ≡ o.ranks * memory_length b + var_start b 0) (old : List ℤ) (count : length old ≡ all_cells b o.ranks) where
    pub tail_long : length old - first ≡ memory_length (of_vars b.vars)
    tail_long = omega (arith, at, count, variables_last)

    pub first_within : first ≤ length old
    first_within = omega (arith, at, count, variables_last)

    pub tail_is : length (take (length old - first) (drop first old)) ≡ memory_length (of_vars b.vars)
    tail_is = length-take-le (length old - first) (drop first old) (let q = length-drop first old in omega (arith, q)) ∙ tail_long

    -- the memory's end holds the variables
    pub tail_holds : (s : Store) → OwnersStand b o old s → Holds (of_vars b.vars) (take (length old - first) (drop first old)) s
    tail_holds s stand = record { length = tail_is; values = value }
      where
        value : (c : Cell) → has_cell (of_vars b.vars) c ≡ true → get_or (take (length old - first) (drop first old)) (place_of (of_vars b.vars) c) (pos 0) ≡ s c
        value (Data c) h = let d = dat_there (of_vars b.vars) c h in absurd (omega (arith, d.dat))
        value (Variable v) h =
            let p = place_of (of_vars b.vars) (Variable v) in
            get_or-take (length old - first) (drop first old) p (pos 0) (omega (arith, inside (of_vars b.vars) (Variable v) h, tail_long))
            ∙ get_or-drop first old p (pos 0) ∙ ap (λ k. get_or old k (pos 0)) (let q : first + p ≡ in_block b o.ranks (Variable v) = omega (arith, at, variable_place v) in q)
            ∙ stand.cells (Variable v) h

    -- with other cells there, the memory is the same before it
    pub other_cells : (cells : List ℤ) (k : ℕ) → k < first → get_or (put_mid first (length old - first) old cells) k (pos 0) ≡ get_or old k (pos 0)
    other_cells cells k lt =
        get_or_append_left (take first old) (cells ++ post_of first (length old - first) old) (pos 0) k (let l = length-take-le first old first_within in omega (arith, l, lt))
        ∙ get_or-take first old k (pos 0) lt

    pub tail_cells : (cells : List ℤ) (i : ℕ) → i < length cells → get_or (put_mid first (length old - first) old cells) (first + i) (pos 0) ≡ get_or cells i (pos 0)
    tail_cells cells i li =
        get_or-append_right (take first old) (cells ++ post_of first (length old - first) old) first (first + i) (pos 0) (length-take-le first old first_within) (omega arith)
        ∙ ap (λ k. get_or (cells ++ post_of first (length old - first) old) k (pos 0)) (let q : first + i - first ≡ i = omega arith in q)
        ∙ get_or_append_left cells (post_of first (length old - first) old) (pos 0) i li

    -- and the ranks' pairs stay
    module _ (cells : List ℤ) (s : Store) (said says : List ℕ) where
      abbrev new : List ℤ
      new = put_mid first (length old - first) old cells

      sets : (v : VarCell → ℤ) → Holds (of_vars b.vars) cells (with_variables v s) → Sets b o old new said says v
      sets v holds = record {
        pairs = λ r c lr h. other_cells cells (in_block b r (Data c)) (omega (arith, at, pair_before r c lr h));
        variables = λ x h.
            let p = place_of (of_vars b.vars) (Variable x) in
            ap (λ k. get_or new k (pos 0)) (let q : in_block b o.ranks (Variable x) ≡ first + p = omega (arith, at, variable_place x) in q)
            ∙ tail_cells cells p (omega (arith, holds.length, inside (of_vars b.vars) (Variable x) h)) ∙ holds.values (Variable x) h;
      }

      pub host_ends : {A : Type 0} (r : Result A KernelFault) (x : Hosted KernelFault) → ActEnds (of_vars b.vars) cells s said says r x → HostEnds b o old new said says r x
      host_ends (Ok u) (Goes v bytes) ends = (sets v ends.0, ends.1)
      host_ends (Err f) (Halts g) ends = ends
      host_ends (Ok u) (Halts g) ends = absurd ends
      host_ends (Err f) (Goes v bytes) ends = absurd ends
