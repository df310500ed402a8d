-- The messages of a plan's steps: where their cells stand, and how many spans they have.
use Rattle.std.specs.Prelude.{◌≡◌, ◌<◌, ◌≤◌, ◌^◌, ◌⊎◌, ℕ, List, length, slice_index_or}
use Rattle.mesh_decl.specs.declared.owners.Owners.{Owners}
use Rattle.mesh_decl.specs.declared.owners.Perms.{Perms}
use Rattle.mesh_decl.specs.Mesh.{MeshValue, set_count, dat_count, dat_set}
use Rattle.local_mesh.specs.declared.halo_lists.types.Halos.{Halos}
use Rattle.local_mesh.specs.declared.types.RankMesh.{RankMesh}
use Rattle.local_mesh.specs.declared.lists.LocalLists.{LocalLists}
use Rattle.schedule_steps.specs.declared.step.Step.TheVariants.{Send, Recv}
use Rattle.schedule_steps.specs.Steps.{IsStep}
use Rattle.schedule_model.specs.Layout.{by_place}
use Rattle.bound_program.specs.Values.{BoundValue}
use Rattle.bound_program.specs.Fits.{site_at}
use Rattle.loop_plan.specs.Counted.{sum_below}
use Rattle.loop_plan.specs.Values.{PlanValue, item_plan}
use Rattle.bound_plan.specs.Setups.{setup_of}
use Rattle.bound_plan.specs.Layouts.{layout_of}
use Rattle.rank_state.specs.Spans.{total}
use Rattle.rank_state.specs.Shows.{AreExports, AreImports}
use Rattle.rank_layout.specs.Exports.{exports_in, exported_locals}
use Rattle.rank_layout.specs.Messages.{imports_in, imported_locals, HasList, spans_of, AreThere}
use Rattle.rank_layout.specs.MessageLaws.{HasLists}
use Rattle.rank_layout.specs.Made.{message_spans, HaveRoom}
use Rattle.rank_layout.specs.Tables.{tables_of}

-- sender, receiver: how many spans a message has at most, one for each exported element of each dat
abbrev pub pair_spans : MeshValue → List LocalLists → ℕ → ℕ → ℕ
pair_spans g lists s r = sum_below (λ d. length (exported_locals lists (dat_set g d) s r)) (dat_count g)

-- there is a list of what is exported of each set between any two ranks, of fewer than 2 ^ 32 elements
pub record FewExports (g : MeshValue) (ranks : ℕ) (lists : List LocalLists) : Type 0 where
  pub count : length lists ≡ set_count g
  pub has : (t s r : ℕ) → t < set_count g → s < ranks → r < ranks → HasList (exports_in lists t) s r
  pub few : (t s r : ℕ) → t < set_count g → s < ranks → r < ranks → length (exported_locals lists t s r) < 2 ^ 32

-- whatever the plan, its lists have what is exported, and are short
abbrev pub ExportsAreFew : Type 0
ExportsAreFew =
    (b : BoundValue) (o : Owners) (n : Perms) (meshes : List RankMesh) (p : PlanValue) (h : Halos) (lists : List LocalLists)
    → HasLists b o n meshes p h lists
    → FewExports b.mesh o.ranks lists

-- an item exchanges each dat at most once
abbrev pub MessagesHaveRoom : Type 0
MessagesHaveRoom =
    (b : BoundValue) (o : Owners) (n : Perms) (meshes : List RankMesh) (p : PlanValue) (h : Halos) (lists : List LocalLists)
    → HasLists b o n meshes p h lists
    → (k s r : ℕ) → k < length b.trace
    → message_spans b p lists k s r ≤ pair_spans b.mesh lists s r

-- what is enough for frames, and for messages where all dats are exchanged, is enough for the program's
abbrev pub RoomsStand : Type 0
RoomsStand =
    (b : BoundValue) (o : Owners) (n : Perms) (meshes : List RankMesh) (p : PlanValue) (h : Halos) (lists : List LocalLists)
    → HasLists b o n meshes p h lists
    → (spans : ℕ)
    → ((s : ℕ) → s < length b.sites → length (site_at b s).args ≤ spans)
    → ((s r : ℕ) → s < o.ranks → r < o.ranks → pair_spans b.mesh lists s r ≤ spans)
    → HaveRoom b o.ranks p lists spans

-- m is the greatest of f below n, or 0
pub record IsMost (f : ℕ → ℕ) (n m : ℕ) : Type 0 where
  pub each : (i : ℕ) → i < n → f i ≤ m
  pub some : (m ≡ 0) ⊎ ((i : ℕ) × (i < n) × (f i ≡ m))

-- m is the greatest number of spans from a sender below n to one of so many ranks, or 0
pub record IsMostSent (g : MeshValue) (lists : List LocalLists) (n ranks m : ℕ) : Type 0 where
  pub each : (s r : ℕ) → s < n → r < ranks → pair_spans g lists s r ≤ m
  pub some : (m ≡ 0) ⊎ ((s : ℕ) × (r : ℕ) × (s < n) × (r < ranks) × (pair_spans g lists s r ≡ m))

-- a message of item k with these spans on rank `rank`, whose local mesh is m, by the local numbers in `tables`
pub record HasSpans (b : BoundValue) (p : PlanValue) (meshes : List RankMesh) (lists : List LocalLists) (k s r rank : ℕ)
    (m : RankMesh) (locals : ℕ → List ℕ) : Type 0 where
  pub item : k < length b.trace
  pub plan : k < length p.items
  pub here : rank < length meshes
  pub count : length lists ≡ set_count b.mesh
  pub there : AreThere b.mesh m locals (item_plan p k).exchange
  pub spans : length (spans_of b.mesh m locals (item_plan p k).exchange) ≡ message_spans b p lists k s r

-- on the sender, whose local mesh is m
pub record IsSent (b : BoundValue) (o : Owners) (meshes : List RankMesh) (p : PlanValue) (lists : List LocalLists) (k s r : ℕ)
    (m : RankMesh) : Type 0 where
  pub sender : s < o.ranks
  pub receiver : r < o.ranks
  pub has : (t : ℕ) → t < set_count b.mesh → HasList (exports_in lists t) s r
  pub are : HasSpans b p meshes lists k s r s m (λ t. exported_locals lists t s r)
  pub exports : AreExports (setup_of b o meshes p) (layout_of b o meshes p) (tables_of b p) k s r s
      (spans_of b.mesh m (λ t. exported_locals lists t s r) (item_plan p k).exchange)
  pub some : 0 < total (spans_of b.mesh m (λ t. exported_locals lists t s r) (item_plan p k).exchange)

-- whatever the plan, a send that is a step of it is about the lists of its sender
abbrev pub SendsStand : Type 0
SendsStand =
    (b : BoundValue) (o : Owners) (n : Perms) (meshes : List RankMesh) (p : PlanValue) (h : Halos) (lists : List LocalLists)
    → HasLists b o n meshes p h lists
    → (k s r : ℕ) (m : RankMesh)
    → IsStep (by_place (setup_of b o meshes p) (layout_of b o meshes p)) (Send k s r)
    → m ≡ slice_index_or meshes s m
    → IsSent b o meshes p lists k s r m

-- on the receiver, whose local mesh is m
pub record IsReceived (b : BoundValue) (o : Owners) (meshes : List RankMesh) (p : PlanValue) (lists : List LocalLists) (k s r : ℕ)
    (m : RankMesh) : Type 0 where
  pub sender : s < o.ranks
  pub receiver : r < o.ranks
  pub has : (t : ℕ) → t < set_count b.mesh → HasList (imports_in lists t) r s
  pub are : HasSpans b p meshes lists k s r r m (λ t. imported_locals lists t r s)
  pub imports : AreImports (setup_of b o meshes p) (layout_of b o meshes p) (tables_of b p) k s r
      (spans_of b.mesh m (λ t. imported_locals lists t r s) (item_plan p k).exchange)

-- and so is a receive about those of its receiver
abbrev pub ReceivesStand : Type 0
ReceivesStand =
    (b : BoundValue) (o : Owners) (n : Perms) (meshes : List RankMesh) (p : PlanValue) (h : Halos) (lists : List LocalLists)
    → HasLists b o n meshes p h lists
    → (k s r : ℕ) (m : RankMesh)
    → IsStep (by_place (setup_of b o meshes p) (layout_of b o meshes p)) (Recv k r s)
    → m ≡ slice_index_or meshes r m
    → IsReceived b o meshes p lists k s r m
