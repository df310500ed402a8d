-- The messages of a plan's steps: where their cells stand, and how many spans they have.
use Rattle.std.proofs.Common.{◌≡◌, ◌<◌, ◌≤◌, ◌+◌, ◌*◌, ℕ, zero, suc, Bool, true, false, cond, List, [], ◌∷◌, All, length, get_or, sum_by, refl, sym, ap, ap₂, ◌∙◌, subst, arith, length-append, le_trans}
use Rattle.std.specs.Prelude.{◌&&◌, slice_index}
use Rattle.std.proofs.lemmas.List.{get_or_default, length-map}
use Rattle.std.proofs.lemmas.List.Sums.{sum_by-cons, sum_by-append}
use Rattle.lemmas.specs.Below.{HasNumbers, listed}
use Rattle.mesh_decl.specs.declared.owners.Owners.{Owners}
use Rattle.mesh_decl.specs.declared.owners.Perms.{Perms}
use Rattle.mesh_decl.specs.Mesh.{MeshValue, IsMesh, IsDatAt, set_count, set_size, dat_count, dat_dim, dat_set}
use Rattle.local_mesh.specs.declared.halo_lists.types.Halos.{Halos}
use Rattle.local_mesh.specs.Halo.{imports, owns}
use Rattle.local_mesh.specs.declared.types.RankMesh.{RankMesh}
use Rattle.local_mesh.specs.declared.lists.LocalLists.{LocalLists}
use Rattle.local_mesh.specs.LocalMesh.{IsRankMesh}
use Rattle.local_mesh.specs.Lists.{AreLocals}
use Rattle.bound_program.specs.Values.{BoundValue}
use Rattle.loop_plan.specs.Values.{PlanValue, item_plan}
use Rattle.loop_plan.specs.Needs.{exchanges}
use Rattle.loop_plan.specs.Counted.{sum_below}
use Rattle.bound_plan.specs.Places.{originals, bases_of, cells_of, cell_at}
use Rattle.bound_plan.specs.Layouts.{exported}
use Rattle.bound_plan.specs.Machine.{Stand, ElementsStand, MessagesHaveCells}
use Rattle.rank_layout.specs.Exports.{exports_in, exported_locals}
use Rattle.rank_layout.specs.Messages.{element_span, imports_in, imported_locals, HasList, dat_spans, spans_of}
use Rattle.rank_layout.specs.MessageLaws.{HasLists, ExportsStand, ImportsStand}
use Rattle.rank_layout.specs.SendLaws.{pair_spans, FewExports, ExportsAreFew, MessagesHaveRoom, RoomsStand, HasSpans, SendsStand, ReceivesStand}
use Rattle.rank_layout.proofs.MessagesStand.{exports_at, imports_at, bases_at, set_there, exchange_there, local_exports, local_imports}
use Rattle.mesh_decl.proofs.Public.{in_range}
use Rattle.rank_layout.proofs.RankMeshes.{some_at, cells_at}
use Rattle.rank_layout.proofs.ElementWindows.{spans_count}

-- ---- counts

listed_count : (n : ℕ) (t : ℕ → Bool) → length (listed n t) ≤ n
listed_count zero t = omega arith
listed_count (suc n) t =
    let rest = listed_count n t in
    let all = length-append (listed n t) (cond (t n) (n ∷ []) []) in
    let one = at_most (t n) in
    omega (arith, rest, all, one)
  where
    at_most : (c : Bool) → length (cond c (n ∷ []) []) ≤ 1
    at_most true = omega arith
    at_most false = omega arith

listed_sum : (f : ℕ → ℕ) (n : ℕ) (t : ℕ → Bool) → sum_by f (listed n t) ≤ sum_below f n
listed_sum f zero t = omega arith
listed_sum f (suc n) t =
    let rest = listed_sum f n t in
    let all = sum_by-append f (listed n t) (cond (t n) (n ∷ []) []) in
    let one = at_most (t n) in
    omega (arith, rest, all, one)
  where
    at_most : (c : Bool) → sum_by f (cond c (n ∷ []) []) ≤ f n
    at_most true = omega arith
    at_most false = omega arith

module _ (g : MeshValue) (m : RankMesh) (locals : ℕ → List ℕ) (count : ℕ → ℕ)
    (sets : (d : ℕ) → d < dat_count g → dat_set g d < set_count g)
    (counts : (t : ℕ) → t < set_count g → length (locals t) ≡ count t) where
  count_spans : (dats : List ℕ) → All (λ d. d < dat_count g) dats → length (spans_of g m locals dats) ≡ sum_by (λ d. count (dat_set g d)) dats
  count_spans [] there = refl
  count_spans (d ∷ ds) there =
      length-append (dat_spans g m locals d) (spans_of g m locals ds)
      ∙ ap₂ (λ x y. x + y)
      (length-map (locals (dat_set g d)) (element_span (slice_index m.bases.items d) (dat_dim g d)) ∙ counts (dat_set g d) (sets d (there 0 0 (omega arith))))
      (count_spans ds (λ i e lt. there (suc i) e (omega arith)))
      ∙ sym (sum_by-cons (λ e. count (dat_set g e)) d ds)

module _ (numbered : (n : ℕ) (t : ℕ → Bool) → HasNumbers n t) (declared : (g : MeshValue) → IsMesh g → (d : ℕ) → d < dat_count g → IsDatAt g d)
    (standing : ElementsStand) (sent : MessagesHaveCells)
    (b : BoundValue) (o : Owners) (n : Perms) (meshes : List RankMesh) (p : PlanValue) (h : Halos) (lists : List LocalLists)
    (has : HasLists b o n meshes p h lists) where
  has_exports : (t s r : ℕ) → t < set_count b.mesh → s < o.ranks → r < o.ranks → HasList (exports_in lists t) s r
  has_exports t s r lt ls lr =
      let here : t < length lists = omega (arith, has.lists.count, lt) in
      let there : t < length h.sets.items = omega (arith, has.halos.count, lt) in
      let e = some_at lists t here in
      let d = some_at h.sets.items t there in
      let x = (has.lists.sets t d e lt).exports in
      subst (λ z. HasList z s r) (sym (exports_at lists t e here))
      (record { first = omega (arith, x.count, ls); second = omega (arith, x.counts s ls, lr) })

  has_imports : (t s r : ℕ) → t < set_count b.mesh → s < o.ranks → r < o.ranks → HasList (imports_in lists t) r s
  has_imports t s r lt ls lr =
      let here : t < length lists = omega (arith, has.lists.count, lt) in
      let there : t < length h.sets.items = omega (arith, has.halos.count, lt) in
      let e = some_at lists t here in
      let d = some_at h.sets.items t there in
      let x = (has.lists.sets t d e lt).imports in
      subst (λ z. HasList z r s) (sym (imports_at lists t e here))
      (record { first = omega (arith, x.count, lr); second = omega (arith, x.counts r lr, ls) })

  exports_of : (t s r : ℕ) → t < set_count b.mesh → s < o.ranks → r < o.ranks
      → AreLocals (originals meshes s t) (exported b.mesh o t s r) (exported_locals lists t s r)
  exports_of t s r lt ls lr = local_exports numbered declared standing sent b o n meshes p h lists has t s r lt ls lr

  imports_of : (t s r : ℕ) → t < set_count b.mesh → s < o.ranks → r < o.ranks
      → AreLocals (originals meshes r t) (exported b.mesh o t s r) (imported_locals lists t r s)
  imports_of t s r lt ls lr = local_imports numbered declared standing sent b o n meshes p h lists has t s r lt ls lr

  sets_there : (d : ℕ) → d < dat_count b.mesh → dat_set b.mesh d < set_count b.mesh
  sets_there d ld = set_there numbered declared standing sent b o n meshes p h lists has d ld

  dats_there : (k : ℕ) → k < length b.trace → All (λ d. d < dat_count b.mesh) (item_plan p k).exchange
  dats_there k lk = exchange_there numbered declared standing sent b o n meshes p h lists has k lk

  few : FewExports b.mesh o.ranks lists
  few = record {
    count = has.lists.count;
    has = has_exports;
    few = λ t s r lt ls lr.
        let same = (exports_of t s r lt ls lr).count in
        let most = listed_count (set_size b.mesh t) (λ x. imports b.mesh o t x r && owns o t x s) in
        let size = (in_range b.mesh has.planned.fits.mesh).sizes t in
        omega (arith, same, most, size);
  }

  -- the spans of a message on rank a, by these local numbers
  module _ (a s r : ℕ) (la : a < o.ranks) (ls : s < o.ranks) (lr : r < o.ranks) (m : RankMesh) (is : m ≡ get_or meshes a m) (locals : ℕ → List ℕ)
      (are : (t : ℕ) → t < set_count b.mesh → AreLocals (originals meshes a t) (exported b.mesh o t s r) (locals t)) where
    here : a < length meshes
    here = omega (arith, has.planned.distributed.are_meshes.count, la)

    stand : Stand b o meshes a
    stand = standing b o n meshes p has.planned a la

    bases : m.bases.items ≡ bases_of meshes a
    bases = bases_at meshes a m here is

    cells : m.cells ≡ cells_of meshes a
    cells = cells_at meshes a m here is

    rank_mesh : IsRankMesh b.mesh o n a m
    rank_mesh = subst (IsRankMesh b.mesh o n a) (sym is) (has.planned.distributed.are_meshes.ranks a m la)

    one_within : (d k : ℕ) → d < dat_count b.mesh → k < length (originals meshes a (dat_set b.mesh d))
        → slice_index m.bases.items d + k * dat_dim b.mesh d + dat_dim b.mesh d ≤ m.cells
    one_within d k ld lk =
        let inside = stand.inside d k ld lk in
        let at = ap (λ z. slice_index z d) bases in
        omega (arith, inside, at, cells)

    spans : (k : ℕ) → k < length b.trace → HasSpans b p meshes lists k s r a m locals
    spans k lk = record {
      item = lk;
      plan = omega (arith, has.planned.proper.items, lk);
      here = here;
      count = has.lists.count;
      there = record {
        dats = dats_there k lk;
        sets = sets_there;
        bases = rank_mesh.bases.count;
        within = λ d ld i e lt.
            let l = are (dat_set b.mesh d) (sets_there d ld) in
            one_within d (get_or (locals (dat_set b.mesh d)) i e) ld
            (subst (λ z. z < length (originals meshes a (dat_set b.mesh d))) (get_or_default (locals (dat_set b.mesh d)) i 0 e lt)
            (l.each i (omega (arith, l.count, lt))).0);
      };
      spans = count_spans b.mesh m locals (λ t. length (exported_locals lists t s r)) sets_there
          (λ t lt. (are t lt).count ∙ sym (exports_of t s r lt ls lr).count) (item_plan p k).exchange (dats_there k lk);
    }

-- ---- the laws

pub exports_are_few : ((n : ℕ) (t : ℕ → Bool) → HasNumbers n t) → ((g : MeshValue) → IsMesh g → (d : ℕ) → d < dat_count g → IsDatAt g d)
    → ElementsStand → MessagesHaveCells → ExportsAreFew
exports_are_few numbered declared standing sent b o n meshes p h lists has = few numbered declared standing sent b o n meshes p h lists has

pub messages_have_room : MessagesHaveRoom
messages_have_room b o n meshes p h lists has k s r lk =
    subst (λ z. sum_by (λ d. length (exported_locals lists (dat_set b.mesh d) s r)) z ≤ pair_spans b.mesh lists s r)
    (sym (has.planned.proper.exchanges.in_order k lk))
    (listed_sum (λ d. length (exported_locals lists (dat_set b.mesh d) s r)) (dat_count b.mesh) (exchanges b p k))

pub rooms_stand : MessagesHaveRoom → RoomsStand
rooms_stand fewer b o n meshes p h lists has spans frames pairs = record {
  elements = frames;
  messages = λ k s r lk ls lr. le_trans (fewer b o n meshes p h lists has k s r lk) (pairs s r ls lr);
}

pub sends_stand : ((n : ℕ) (t : ℕ → Bool) → HasNumbers n t) → ((g : MeshValue) → IsMesh g → (d : ℕ) → d < dat_count g → IsDatAt g d)
    → ElementsStand → MessagesHaveCells → ExportsStand → SendsStand
sends_stand numbered declared standing sent stand b o n meshes p h lists has k s r m step is =
    let lk = step.0 in
    let ls = step.2 in
    let lr = step.3 in
    let exports = stand b o n meshes p h lists has k s r m lk ls lr is in
    let some = (sent b o n meshes p has.planned).some k s r ls lr step.4 in
    let all = ap length exports.cells ∙ spans_count (cell_at meshes b.mesh s) (spans_of b.mesh m (λ t. exported_locals lists t s r) (item_plan p k).exchange) in
    record {
      sender = ls;
      receiver = lr;
      has = λ t lt. has_exports numbered declared standing sent b o n meshes p h lists has t s r lt ls lr;
      are = spans numbered declared standing sent b o n meshes p h lists has s s r ls ls lr m is (λ t. exported_locals lists t s r)
          (λ t lt. exports_of numbered declared standing sent b o n meshes p h lists has t s r lt ls lr) k lk;
      exports = exports;
      some = omega (arith, some, all);
    }

pub receives_stand : ((n : ℕ) (t : ℕ → Bool) → HasNumbers n t) → ((g : MeshValue) → IsMesh g → (d : ℕ) → d < dat_count g → IsDatAt g d)
    → ElementsStand → MessagesHaveCells → ImportsStand → ReceivesStand
receives_stand numbered declared standing sent stand b o n meshes p h lists has k s r m step is =
    let lk = step.0 in
    let ls = step.2 in
    let lr = step.3 in
    record {
      sender = ls;
      receiver = lr;
      has = λ t lt. has_imports numbered declared standing sent b o n meshes p h lists has t s r lt ls lr;
      are = spans numbered declared standing sent b o n meshes p h lists has r s r lr ls lr m is (λ t. imported_locals lists t r s)
          (λ t lt. imports_of numbered declared standing sent b o n meshes p h lists has t s r lt ls lr) k lk;
      imports = stand b o n meshes p h lists has k s r m lk ls lr is;
    }
