-- Needs and executed elements of a bound program hang together, by how its loops reach cells.
use Rattle.std.proofs.Common.{◌≡◌, ℕ, suc, ◌<◌, Bool, true, false, not, List, length, get_or, Some, None, refl, ap, ◌∙◌}
use Rattle.std.specs.Prelude.{◌&&◌, ◌==◌, nat_eq, nat_lt}
use Rattle.std.specs.List.{list_any}
use Rattle.std.proofs.lemmas.Bool.{false≢true, and_parts, and_from, or_left, or_right, eqb-true, eq-eqb, not_from_false}
use Rattle.std.proofs.lemmas.List.Folds.{list_any_at}
use Rattle.lemmas.specs.Below.{any_below}
use Rattle.lemmas.proofs.Below.{any_from}
use Rattle.op_num.specs.Access.{access_of}
use Rattle.op_num.specs.declared.reductions.access.Access.{Access}
use Rattle.op_num.specs.declared.reductions.access.Access.TheVariants as code
use Rattle.mesh_decl.specs.declared.owners.Owners.{Owners}
use Rattle.mesh_decl.specs.Mesh.{set_size, target}
use Rattle.mesh_decl.specs.Owners.{owner_of}
use Rattle.local_mesh.specs.declared.types.RankMesh.{RankMesh}
use Rattle.schedule_model.specs.Cells.{Data, DatCell}
use Rattle.schedule_model.specs.Effects.{is_read, is_modified}
use Rattle.schedule_model.specs.Program.{Free, is_free}
use Rattle.schedule_model.specs.Arguments as theorem
use Rattle.schedule_model.specs.Arguments.{reading, modifying, reaches}
use Rattle.schedule_model.proofs.Public.{read_by, modified_by}
use Rattle.bound_program.specs.declared.sites.Arg.{Arg}
use Rattle.bound_program.specs.declared.sites.Arg.TheVariants.{Dat, Global}
use Rattle.bound_program.specs.Values.{BoundValue}
use Rattle.bound_program.specs.Classes as class
use Rattle.run_model.specs.Programs.{kind_of, item_at}
use Rattle.run_model.specs.Laws.{site_of}
use Rattle.run_model.specs.Arguments.{no_arg, argument_of, argument_at, entries, dat_width, var_width}
use Rattle.loop_plan.specs.Values.{PlanValue}
use Rattle.bound_plan.specs.Setups.{setup_of}
use Rattle.chain_model.specs.ChainLaws.{AreSlices}
use Rattle.chain_model.specs.Slices.{may_read, reads_pair, modifies_some, needs, executes}
use Rattle.chain_model.proofs.bound_chains.Backwards.{backwards, owns_needed}

may_read_is : (a : Access) → reading (access_of a) ≡ true → may_read a ≡ true
may_read_is code.Read h = refl
may_read_is code.Rw h = refl
may_read_is code.Write h = absurd (false≢true h)
may_read_is code.Inc h = absurd (false≢true h)
may_read_is code.Min h = absurd (false≢true h)
may_read_is code.Max h = absurd (false≢true h)

not_read : (a : Access) → modifying (access_of a) ≡ true → class.is_read a ≡ false
not_read code.Read h = absurd (false≢true h)
not_read code.Write h = refl
not_read code.Rw h = refl
not_read code.Inc h = refl
not_read code.Min h = refl
not_read code.Max h = refl

module _ (b : BoundValue) (e : ℕ) (x : DatCell) where
  -- the dat and the element of a cell that an argument reaches
  two_parts : (d y : ℕ) → ((d == x.dat) && ((y == x.element) && nat_lt x.component (dat_width b d))) ≡ true → (d ≡ x.dat) × (y ≡ x.element)
  two_parts d y h =
      let u : ((d == x.dat) ≡ true) × (((y == x.element) && nat_lt x.component (dat_width b d)) ≡ true) = and_parts (d == x.dat) ((y == x.element) && nat_lt x.component (dat_width b d)) h in
      (eqb-true d x.dat u.0, eqb-true y x.element (and_parts (y == x.element) (nat_lt x.component (dat_width b d)) u.1).0)

  pair_of : (d y : ℕ) (pairs : ℕ → ℕ → Bool) → (d ≡ x.dat) × (y ≡ x.element) → pairs x.dat x.element ≡ true → pairs d y ≡ true
  pair_of d y pairs h need = ap (λ z. pairs z y) h.0 ∙ (ap (pairs x.dat) h.1 ∙ need)

  modified_pair : (pairs : ℕ → ℕ → Bool) (a : Arg) → reaches (entries b) (dat_width b) (var_width b) e (argument_of a) (Data x) ≡ true
      → modifying (theorem.access_of (argument_of a)) ≡ true → pairs x.dat x.element ≡ true → modifies_some b pairs e a ≡ true
  modified_pair pairs (Dat d None a) h m need =
      and_from (not (class.is_read a)) (pairs d e) (not_from_false (class.is_read a) (not_read a m)) (pair_of d e pairs (two_parts d e h) need)
  modified_pair pairs (Dat d (Some v) a) h m need =
      and_from (not (class.is_read a)) (pairs d (target b.mesh v.map e v.index)) (not_from_false (class.is_read a) (not_read a m))
      (pair_of d (target b.mesh v.map e v.index) pairs (two_parts d (target b.mesh v.map e v.index) h) need)
  modified_pair pairs (Global v a) h m need = absurd (false≢true h)

  same_pair : (d y : ℕ) → (d ≡ x.dat) × (y ≡ x.element) → (nat_eq d x.dat && nat_eq y x.element) ≡ true
  same_pair d y h = and_from (nat_eq d x.dat) (nat_eq y x.element) (eq-eqb d x.dat h.0) (eq-eqb y x.element h.1)

  read_pair : (a : Arg) → reaches (entries b) (dat_width b) (var_width b) e (argument_of a) (Data x) ≡ true
      → reading (theorem.access_of (argument_of a)) ≡ true → reads_pair b x.dat x.element e a ≡ true
  read_pair (Dat d None a) h m = and_from (may_read a) (nat_eq d x.dat && nat_eq e x.element) (may_read_is a m) (same_pair d e (two_parts d e h))
  read_pair (Dat d (Some v) a) h m =
      and_from (may_read a) (nat_eq d x.dat && nat_eq (target b.mesh v.map e v.index) x.element) (may_read_is a m)
      (same_pair d (target b.mesh v.map e v.index) (two_parts d (target b.mesh v.map e v.index) h))
  read_pair (Global v a) h m = absurd (false≢true h)

module _ (b : BoundValue) (o : Owners) (meshes : List RankMesh) (p : PlanValue) where
  is_modified_by : (k r e : ℕ) (x : DatCell) → is_modified ((setup_of b o meshes p).touch k e (Data x)) ≡ true → needs b o (suc k) r x.dat x.element ≡ true → executes b o k r e ≡ true
  is_modified_by k r e x h need =
      let w = modified_by (entries b) (dat_width b) (var_width b) (argument_at (site_of b k)) e (Data x) (length (site_of b k).args) h in
      (backwards b o).executed k r e
      ∙ or_right (nat_eq (owner_of o (site_of b k).set e) r) (list_any (modifies_some b (needs b o (suc k) r) e) (site_of b k).args)
      (list_any_at (modifies_some b (needs b o (suc k) r) e) (site_of b k).args w.0 no_arg w.1
      (modified_pair b e x (needs b o (suc k) r) (get_or (site_of b k).args w.0 no_arg) w.2 w.3 need))

  is_read_by : (k r e : ℕ) (x : DatCell) → kind_of (item_at b k) ≡ Free → e < set_size b.mesh (site_of b k).set → executes b o k r e ≡ true
      → is_read ((setup_of b o meshes p).touch k e (Data x)) ≡ true → needs b o k r x.dat x.element ≡ true
  is_read_by k r e x free le runs h =
      let w = read_by (entries b) (dat_width b) (var_width b) (argument_at (site_of b k)) e (Data x) (length (site_of b k).args) h in
      (backwards b o).needed k r x.dat x.element (ap is_free free)
      ∙ or_right (needs b o (suc k) r x.dat x.element) (any_below (set_size b.mesh (site_of b k).set) (λ a. executes b o k r a && list_any (reads_pair b x.dat x.element a) (site_of b k).args))
      (any_from (set_size b.mesh (site_of b k).set) (λ a. executes b o k r a && list_any (reads_pair b x.dat x.element a) (site_of b k).args) e le
      (and_from (executes b o k r e) (list_any (reads_pair b x.dat x.element e) (site_of b k).args) runs
      (list_any_at (reads_pair b x.dat x.element e) (site_of b k).args w.0 no_arg w.1 (read_pair b e x (get_or (site_of b k).args w.0 no_arg) w.2 w.3))))

  pub are_slices : AreSlices (setup_of b o meshes p) (needs b o) (executes b o)
  are_slices = record {
    own_elements = λ k r e free le own.
        (backwards b o).executed k r e
        ∙ or_left (nat_eq (owner_of o (site_of b k).set e) r) (list_any (modifies_some b (needs b o (suc k) r) e) (site_of b k).args) (eq-eqb (owner_of o (site_of b k).set e) r own);
    own_pairs = λ k r x own. owns_needed b o k r x.dat x.element (eq-eqb _ r own);
    later = λ k r d y free need.
        (backwards b o).needed k r d y (ap is_free free)
        ∙ or_left (needs b o (suc k) r d y) (any_below (set_size b.mesh (site_of b k).set) (λ a. executes b o k r a && list_any (reads_pair b d y a) (site_of b k).args)) need;
    modified = λ k r e x free le h need. is_modified_by k r e x h need;
    read = λ k r e x free le runs h. is_read_by k r e x free le runs h;
  }
