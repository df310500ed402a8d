-- The spans of messages are where their cells stand.
use Rattle.std.proofs.Common.{◌≡◌, ◌<◌, ◌≤◌, ◌+◌, ◌*◌, ℕ, zero, suc, Bool, true, false, List, [], ◌∷◌, ◌++◌, All, map, flat_map, length, get_or, refl, sym, ap, ◌∙◌, subst, arith}
use Rattle.std.specs.Prelude.{◌||◌, slice_index}
use Rattle.std.proofs.lemmas.Bool.{and_from, or_left, or_right, eq-eqb}
use Rattle.std.proofs.lemmas.List.{get_or-map, get_or_default}
use Rattle.lemmas.specs.Below.{HasNumbers, row, rows}
use Rattle.mesh_decl.specs.declared.owners.Owners.{Owners}
use Rattle.mesh_decl.specs.declared.owners.Perms.{Perms}
use Rattle.mesh_decl.specs.Mesh.{MeshValue, IsMesh, IsDatAt, set_count, dat_count, dat_dim, dat_set}
use Rattle.local_mesh.specs.declared.halo_lists.types.Halos.{Halos}
use Rattle.local_mesh.specs.declared.types.RankMesh.{RankMesh}
use Rattle.local_mesh.specs.declared.lists.LocalLists.{LocalLists}
use Rattle.local_mesh.specs.Lists.{AreLocals}
use Rattle.schedule_model.specs.Cells.{Cell, Data, DatCell, same_cell}
use Rattle.schedule_model.specs.Machine.{arrives}
use Rattle.schedule_model.specs.Layout.{among}
use Rattle.bound_program.specs.Values.{BoundValue}
use Rattle.run_model.specs.Windows.{Element, cells_in}
use Rattle.loop_plan.specs.Values.{PlanValue, item_plan}
use Rattle.bound_plan.specs.Places.{originals, bases_of, cells_of, cell_at}
use Rattle.bound_plan.specs.Layouts.{exported, exported_cells}
use Rattle.bound_plan.specs.Machine.{Stand, ElementsStand, MessagesHaveCells}
use Rattle.bound_plan.specs.Setups.{setup_of}
use Rattle.rank_state.specs.declared.spans.Span.{Span}
use Rattle.rank_state.specs.Spans.{Within}
use Rattle.rank_state.specs.Windows.{cells_from, span_cells, Marked}
use Rattle.rank_layout.specs.Exports.{exports_in, exported_locals}
use Rattle.rank_layout.specs.Messages.{element_span, imports_in, imported_locals, dat_spans, spans_of}
use Rattle.rank_layout.specs.MessageLaws.{HasLists, ExportsStand, ImportsStand}
use Rattle.rank_layout.proofs.MessageCells.{elements_cells, dats_cells, elements_within, dats_within}

-- ---- marks

cell_same : (c : DatCell) → same_cell (Data c) (Data c) ≡ true
cell_same c = and_from _ _ (eq-eqb c.dat c.dat refl) (and_from _ _ (eq-eqb c.element c.element refl) (eq-eqb c.component c.component refl))

run_among : (cell_at : ℕ → DatCell) (at n j : ℕ) → j < n → among (cells_from cell_at at n) (Data (cell_at (at + j))) ≡ true
run_among cell_at at zero j lt = absurd (omega arith)
run_among cell_at at (suc n) zero lt =
    or_left _ _ (subst (λ m. same_cell (Data (cell_at at)) (Data (cell_at m)) ≡ true) (let e : at ≡ at + 0 = omega arith in e) (cell_same (cell_at at)))
run_among cell_at at (suc n) (suc j) lt =
    or_right _ _ (subst (λ m. among (cells_from cell_at (suc at) n) (Data (cell_at m)) ≡ true) (let e : suc at + j ≡ at + suc j = omega arith in e)
    (run_among cell_at (suc at) n j (omega arith)))

among_left : (xs ys : List Cell) (c : Cell) → among xs c ≡ true → among (xs ++ ys) c ≡ true
among_left xs ys c h = subst (λ z. z ≡ true) (sym (split xs ys c)) (or_left (among xs c) (among ys c) h)
  where
    regroup : (a b d : Bool) → (a || (b || d)) ≡ ((a || b) || d)
    regroup true b d = refl
    regroup false b d = refl

    split : (us vs : List Cell) (z : Cell) → among (us ++ vs) z ≡ (among us z || among vs z)
    split [] vs z = refl
    split (u ∷ us) vs z = ap (λ q. same_cell u z || q) (split us vs z) ∙ regroup (same_cell u z) (among us z) (among vs z)

among_right : (xs ys : List Cell) (c : Cell) → among ys c ≡ true → among (xs ++ ys) c ≡ true
among_right [] ys c h = h
among_right (x ∷ xs) ys c h = or_right (same_cell x c) (among (xs ++ ys) c) (among_right xs ys c h)

abbrev AllWrite : List Span → Type 0
AllWrite [] = Unit {0}
AllWrite (s ∷ ss) = (s.writes ≡ true) × AllWrite ss

all_marked : (taken : DatCell → Bool) (cell_at : ℕ → DatCell) (spans : List Span) → AllWrite spans
    → ((c : DatCell) → among (span_cells cell_at spans) (Data c) ≡ true → taken c ≡ true) → Marked (λ i. taken (cell_at i)) spans
all_marked taken cell_at [] w h = tt
all_marked taken cell_at (s ∷ ss) w h = (
  (λ j lt. h (cell_at (s.at + j)) (among_left (cells_from cell_at s.at s.dim) (span_cells cell_at ss) (Data (cell_at (s.at + j))) (run_among cell_at s.at s.dim j lt)) ∙ sym w.0),
  all_marked taken cell_at ss w.1 (λ c a. h c (among_right (cells_from cell_at s.at s.dim) (span_cells cell_at ss) (Data c) a)),
)

write_append : (xs ys : List Span) → AllWrite xs → AllWrite ys → AllWrite (xs ++ ys)
write_append [] ys h g = g
write_append (x ∷ xs) ys h g = (h.0, write_append xs ys h.1 g)

elements_write : (base dim : ℕ) (locals : List ℕ) → AllWrite (map (element_span base dim) locals)
elements_write base dim [] = tt
elements_write base dim (k ∷ ks) = (refl, elements_write base dim ks)

dats_write : (g : MeshValue) (m : RankMesh) (locals : ℕ → List ℕ) (dats : List ℕ) → AllWrite (spans_of g m locals dats)
dats_write g m locals [] = tt
dats_write g m locals (d ∷ ds) =
    write_append (dat_spans g m locals d) (spans_of g m locals ds)
    (elements_write (slice_index m.bases.items d) (dat_dim g d) (locals (dat_set g d))) (dats_write g m locals ds)

-- ---- what stands in lists

pub some_at : {A : Type 0} (xs : List A) (i : ℕ) → i < length xs → A
some_at [] i lt = absurd (omega arith)
some_at (x ∷ xs) i lt = x

pub exports_at : (lists : List LocalLists) (t : ℕ) (e : LocalLists) → t < length lists → exports_in lists t ≡ (get_or lists t e).exports.items
unfolding exports_in
exports_at lists t e lt = get_or-map (λ (x : LocalLists). x.exports.items) lists t e [] lt

pub imports_at : (lists : List LocalLists) (t : ℕ) (e : LocalLists) → t < length lists → imports_in lists t ≡ (get_or lists t e).imports.items
unfolding imports_in
imports_at lists t e lt = get_or-map (λ (x : LocalLists). x.imports.items) lists t e [] lt

pub bases_at : (meshes : List RankMesh) (r : ℕ) (m : RankMesh) → r < length meshes → m ≡ get_or meshes r m → m.bases.items ≡ bases_of meshes r
unfolding bases_of
bases_at meshes r m lt is = ap (λ (x : RankMesh). x.bases.items) is ∙ sym (get_or-map (λ (x : RankMesh). x.bases.items) meshes r m [] lt)

module _ (numbered : (n : ℕ) (t : ℕ → Bool) → HasNumbers n t) (declared : (g : MeshValue) → IsMesh g → (d : ℕ) → d < dat_count g → IsDatAt g d)
    (standing : ElementsStand) (sent : MessagesHaveCells)
    (b : BoundValue) (o : Owners) (n : Perms) (meshes : List RankMesh) (p : PlanValue) (h : Halos) (lists : List LocalLists)
    (has : HasLists b o n meshes p h lists) where
  pub set_there : (d : ℕ) → d < dat_count b.mesh → dat_set b.mesh d < set_count b.mesh
  set_there d ld = (declared b.mesh has.planned.fits.mesh d ld).set

  pub exchange_there : (k : ℕ) → k < length b.trace → All (λ d. d < dat_count b.mesh) (item_plan p k).exchange
  exchange_there k lk = subst (All (λ d. d < dat_count b.mesh)) (sym (has.planned.proper.exchanges.in_order k lk))
      (λ i d lt. subst (λ x. x < dat_count b.mesh) (get_or_default _ i 0 d lt) ((numbered (dat_count b.mesh) _).passes i lt).0)

  -- local numbers of what is exported
  pub local_exports : (t s r : ℕ) → t < set_count b.mesh → s < o.ranks → r < o.ranks
      → AreLocals (originals meshes s t) (exported b.mesh o t s r) (exported_locals lists t s r)
  local_exports t s r lt ls lr =
      let here : t < length lists = omega (arith, has.lists.count) in
      let there : t < length h.sets.items = omega (arith, has.halos.count) in
      let e = some_at lists t here in
      let d = some_at h.sets.items t there in
      subst (λ z. AreLocals (originals meshes s t) z (exported_locals lists t s r)) ((has.halos.sets t d lt).exports s r ls lr)
      (subst (λ z. AreLocals (originals meshes s t) (row (rows (get_or h.sets.items t d).exports.items s) r) (row (rows z s) r)) (sym (exports_at lists t e here))
      ((has.lists.sets t d e lt).exports.each s r ls lr))

  -- and imported
  pub local_imports : (t s r : ℕ) → t < set_count b.mesh → s < o.ranks → r < o.ranks
      → AreLocals (originals meshes r t) (exported b.mesh o t s r) (imported_locals lists t r s)
  local_imports t s r lt ls lr =
      let here : t < length lists = omega (arith, has.lists.count) in
      let there : t < length h.sets.items = omega (arith, has.halos.count) in
      let e = some_at lists t here in
      let d = some_at h.sets.items t there in
      subst (λ z. AreLocals (originals meshes r t) z (imported_locals lists t r s)) ((has.halos.sets t d lt).exports s r ls lr)
      (subst (λ z. AreLocals (originals meshes r t) (row (rows (get_or h.sets.items t d).exports.items s) r) (row (rows z r) s)) (sym (imports_at lists t e here))
      ((has.lists.sets t d e lt).imports.each r s lr ls))

  -- a rank's spans of these local numbers
  module _ (a s r : ℕ) (la : a < o.ranks) (m : RankMesh) (is : m ≡ get_or meshes a m) (locals : ℕ → List ℕ)
      (are : (t : ℕ) → t < set_count b.mesh → AreLocals (originals meshes a t) (exported b.mesh o t s r) (locals t)) where
    abbrev stand : Stand b o meshes a
    stand = standing b o n meshes p has.planned a la

    same : m.bases.items ≡ bases_of meshes a
    same = bases_at meshes a m (omega (arith, has.planned.distributed.are_meshes.count)) is

    dat_cells : (d : ℕ) → d < dat_count b.mesh
        → span_cells (cell_at meshes b.mesh a) (dat_spans b.mesh m locals d) ≡ flat_map (λ x. cells_in b (Element d x)) (exported b.mesh o (dat_set b.mesh d) s r)
    dat_cells d ld =
        let l = are (dat_set b.mesh d) (set_there d ld) in
        ap (λ z. span_cells (cell_at meshes b.mesh a) (map (element_span (slice_index z d) (dat_dim b.mesh d)) (locals (dat_set b.mesh d)))) same
        ∙ elements_cells b d (slice_index (bases_of meshes a) d) (originals meshes a (dat_set b.mesh d)) (cell_at meshes b.mesh a)
        (λ k i lk li. stand.values d k i ld lk li) (exported b.mesh o (dat_set b.mesh d) s r) (locals (dat_set b.mesh d)) l.count l.each

    dat_within : (d : ℕ) → d < dat_count b.mesh → Within (cells_of meshes a) (dat_spans b.mesh m locals d)
    dat_within d ld =
        let l = are (dat_set b.mesh d) (set_there d ld) in
        subst (λ z. Within (cells_of meshes a) (map (element_span (slice_index z d) (dat_dim b.mesh d)) (locals (dat_set b.mesh d)))) (sym same)
        (elements_within (cells_of meshes a) (slice_index (bases_of meshes a) d) (dat_dim b.mesh d) (locals (dat_set b.mesh d))
        (λ i e lt.
        subst (λ k. slice_index (bases_of meshes a) d + k * dat_dim b.mesh d + dat_dim b.mesh d ≤ cells_of meshes a) (get_or_default (locals (dat_set b.mesh d)) i 0 e lt)
        (stand.inside d (get_or (locals (dat_set b.mesh d)) i 0) ld (l.each i (omega (arith, l.count))).0)))

    pub all_cells : (k : ℕ) → k < length b.trace
        → exported_cells b o (item_plan p k).exchange s r ≡ span_cells (cell_at meshes b.mesh a) (spans_of b.mesh m locals (item_plan p k).exchange)
    all_cells k lk = sym (dats_cells (cell_at meshes b.mesh a) (dat_spans b.mesh m locals)
        (λ d. flat_map (λ x. cells_in b (Element d x)) (exported b.mesh o (dat_set b.mesh d) s r)) (item_plan p k).exchange
        (λ i d lt. dat_cells (get_or (item_plan p k).exchange i d) (exchange_there k lk i d lt)))

    pub all_within : (k : ℕ) → k < length b.trace → Within (cells_of meshes a) (spans_of b.mesh m locals (item_plan p k).exchange)
    all_within k lk = dats_within (cells_of meshes a) (dat_spans b.mesh m locals) (item_plan p k).exchange
        (λ i d lt. dat_within (get_or (item_plan p k).exchange i d) (exchange_there k lk i d lt))

    pub all_arrive : (k : ℕ) → k < length b.trace
        → Marked (λ i. arrives (setup_of b o meshes p) k r s (cell_at meshes b.mesh a i)) (spans_of b.mesh m locals (item_plan p k).exchange)
    all_arrive k lk = all_marked (arrives (setup_of b o meshes p) k r s) (cell_at meshes b.mesh a) (spans_of b.mesh m locals (item_plan p k).exchange)
        (dats_write b.mesh m locals (item_plan p k).exchange)
        (λ c t. (sent b o n meshes p has.planned).arrive k s r c (ap (λ z. among z (Data c)) (all_cells k lk) ∙ t))

pub exports_stand : ((n : ℕ) (t : ℕ → Bool) → HasNumbers n t) → ((g : MeshValue) → IsMesh g → (d : ℕ) → d < dat_count g → IsDatAt g d)
    → ElementsStand → MessagesHaveCells → ExportsStand
exports_stand numbered declared standing sent b o n meshes p h lists has k s r m lk ls lr is = record {
  cells = all_cells numbered declared standing sent b o n meshes p h lists has s s r ls m is (λ t. exported_locals lists t s r)
      (λ t lt. local_exports numbered declared standing sent b o n meshes p h lists has t s r lt ls lr) k lk;
  within = all_within numbered declared standing sent b o n meshes p h lists has s s r ls m is (λ t. exported_locals lists t s r)
      (λ t lt. local_exports numbered declared standing sent b o n meshes p h lists has t s r lt ls lr) k lk;
}

pub imports_stand : ((n : ℕ) (t : ℕ → Bool) → HasNumbers n t) → ((g : MeshValue) → IsMesh g → (d : ℕ) → d < dat_count g → IsDatAt g d)
    → ElementsStand → MessagesHaveCells → ImportsStand
imports_stand numbered declared standing sent b o n meshes p h lists has k s r m lk ls lr is = record {
  cells = all_cells numbered declared standing sent b o n meshes p h lists has r s r lr m is (λ t. imported_locals lists t r s)
      (λ t lt. local_imports numbered declared standing sent b o n meshes p h lists has t s r lt ls lr) k lk;
  once = (sent b o n meshes p has.planned).once k s r;
  within = all_within numbered declared standing sent b o n meshes p h lists has r s r lr m is (λ t. imported_locals lists t r s)
      (λ t lt. local_imports numbered declared standing sent b o n meshes p h lists has t s r lt ls lr) k lk;
  writes = all_arrive numbered declared standing sent b o n meshes p h lists has r s r lr m is (λ t. imported_locals lists t r s)
      (λ t lt. local_imports numbered declared standing sent b o n meshes p h lists has t s r lt ls lr) k lk;
}
