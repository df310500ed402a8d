-- What the loops of a program and the items of a plan name is there.
use Rattle.std.proofs.Common.{◌≡◌, ◌<◌, ℕ, zero, suc, List, [], ◌∷◌, length, get_or, map, ap, subst, sym, ◌∙◌, arith}
use Rattle.std.proofs.lemmas.List.{get_or-map}
use Rattle.local_mesh.specs.declared.halo_lists.types.Halos.{Halos}
use Rattle.kernel_model.specs.declared.types.kernels.RKernel.{RKernel}
use Rattle.local_mesh.specs.declared.types.RankMesh.{RankMesh}
use Rattle.bound_program.specs.declared.sites.Site.{Site}
use Rattle.bound_program.specs.Values.{BoundValue, site_of, no_site}
use Rattle.bound_program.specs.Fits.{Fits, TakesArgs, site_at}
use Rattle.loop_plan.specs.declared.types.ItemPlan.{ItemPlan}
use Rattle.loop_plan.specs.Values.{PlanValue, item_plan_of}
use Rattle.loop_plan.specs.Pairs.{sets_of}
use Rattle.loop_plan.specs.Distributed.{Distributed}
use Rattle.loop_plan.specs.Proper.{Proper}
use Rattle.schedule_check.specs.Mail.{IsInside}
use Rattle.schedule_check.proofs.Public.{are_distinct, are_inside, plan_read}

-- each rank has the set of each loop
pub sets_there : (b : BoundValue) (meshes : List RankMesh) (h : Halos) → Fits b → Distributed b.mesh h meshes
    → (s : ℕ) → s < length b.sites → (r : ℕ) → r < length meshes → (site_at b s).set < length (sets_of meshes r)
sets_there b meshes h fits d s ls r lr =
    subst (λ n. (site_at b s).set < n) (sym ((are_distinct b.mesh h meshes d).sets r lr)) (fits.sites s no_site ls).set

takes_within : (ks : List RKernel) (k n : ℕ) → TakesArgs ks k n → k < length ks
takes_within [] k n h = absurd h
takes_within (x ∷ ks) zero n h = omega arith
takes_within (x ∷ ks) (suc k) n h = (let lt : k < length ks = takes_within ks k n h in omega (arith, lt))

-- the kernel of each loop
pub kernel_there : (b : BoundValue) → Fits b → (s : ℕ) → s < length b.sites → (site_at b s).kernel < length b.kernels
kernel_there b fits s ls =
    let site = get_or b.sites s no_site in
    takes_within b.kernels site.kernel (length site.args) (fits.sites s no_site ls).kernel

-- the dats and ranks of each item
pub item_there : (b : BoundValue) (meshes : List RankMesh) (p : PlanValue) (items : List ItemPlan) → Proper b meshes p
    → p.items ≡ map item_plan_of items
    → (k : ℕ) (i : ItemPlan) → k < length items → k < length b.trace → i ≡ get_or items k i
    → IsInside b.mesh meshes (item_plan_of i)
item_there b meshes p items proper e k i li lt is =
    subst (IsInside b.mesh meshes) (plan_read items k i li is) (are_inside b meshes p items proper e k li lt)

-- a loop, by its number
pub site_read : (sites : List Site) (s : ℕ) (x : Site) → s < length sites → x ≡ get_or sites s x → site_of x ≡ get_or (map site_of sites) s no_site
site_read sites s x lt e = ap site_of e ∙ sym (get_or-map site_of sites s x no_site lt)
