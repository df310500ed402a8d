-- Where the arguments of a loop stand for a place, and what their local ones are.
use Rattle.std.proofs.Common.{◌≡◌, ℕ, zero, suc, List, [], ◌∷◌, map, length, get_or, Option, Some, None, refl, subst, arith}
use Rattle.std.specs.Prelude.{slice_index}
use Rattle.op_num.specs.declared.reductions.access.Access.{Access}
use Rattle.mesh_decl.specs.declared.access.Via.{Via}
use Rattle.mesh_decl.specs.Mesh.{dat_dim}
use Rattle.kernel_model.specs.declared.types.views.frame.Place.{Place}
use Rattle.kernel_model.specs.Framed.{target_of}
use Rattle.kernel_model.specs.Meaning.{target_at}
use Rattle.local_mesh.specs.declared.types.RankMesh.{RankMesh}
use Rattle.bound_program.specs.declared.sites.Arg.{Arg}
use Rattle.bound_program.specs.declared.sites.Arg.TheVariants.{Dat, Global}
use Rattle.kernel_runs.specs.declared.row_batches.batch_tables.args.LocalArg.{LocalArg}
use Rattle.kernel_runs.specs.Tables.{place_at}
use Rattle.rank_program.specs.LocalArgs.{IsVia, IsArg, place_in, places_in}

pub target_is : (ps : List Place) (a : ℕ) → target_at (map target_of ps) a ≡ target_of (place_at ps a)
target_is [] a = refl
target_is (p ∷ ps) zero = refl
target_is (p ∷ ps) (suc a) = target_is ps a

pub put_at : (x : ℕ) (ls : List (Option LocalArg)) (ps : List Place) (a : ℕ) → length ps ≡ length ls
    → place_at (places_in x ls ps) a ≡ place_in x (get_or ls a None) (place_at ps a)
put_at x [] [] a e = refl
put_at x [] (p ∷ ps) a e = absurd (omega (arith, e))
put_at x (l ∷ ls) [] a e = absurd (omega (arith, e))
put_at x (l ∷ ls) (p ∷ ps) zero e = refl
put_at x (l ∷ ls) (p ∷ ps) (suc a) e = put_at x ls ps a (omega (arith, e))

-- an argument on a dat, and what its local one is
pub record IsLocal (g : _) (m : RankMesh) (x : Arg) (y : LocalArg) : Type 0 where
  pub dat : ℕ
  pub via : Option Via
  pub access : Access
  pub is : x ≡ Dat dat via access
  pub base : y.base ≡ slice_index m.bases.items dat
  pub dim : y.dim ≡ dat_dim g dat
  pub leads : IsVia g m via y.via

pub local_is : (g : _) (m : RankMesh) (x : Arg) (l : Option LocalArg) → IsArg g m x l → (y : LocalArg) → l ≡ Some y → IsLocal g m x y
local_is g m (Dat d v a) None h y e = absurd h
local_is g m (Dat d v a) (Some z) h y e =
    let same : z ≡ y = cc in
    subst (IsLocal g m (Dat d v a)) same (record { dat = d; via = v; access = a; is = refl; base = h.0; dim = h.1; leads = h.2 })
local_is g m (Global v a) None h y e = let gone : ⊥ = cc in absurd gone
local_is g m (Global v a) (Some z) h y e = absurd h

pub dat_local : (g : _) (m : RankMesh) (x : Arg) (l : Option LocalArg) → IsArg g m x l → (d : ℕ) (v : Option Via) (a : Access) → x ≡ Dat d v a → (y : LocalArg) × (l ≡ Some y)
dat_local g m (Dat d v a) None h e w b is = absurd h
dat_local g m (Dat d v a) (Some z) h e w b is = (z, refl)
dat_local g m (Global v a) l h e w b is = let gone : ⊥ = cc in absurd gone

pub global_is : (g : _) (m : RankMesh) (x : Arg) (l : Option LocalArg) → IsArg g m x l → l ≡ None → (v : ℕ) × (a : Access) × (x ≡ Global v a)
global_is g m (Dat d v a) None h e = absurd h
global_is g m (Dat d v a) (Some z) h e = let gone : ⊥ = cc in absurd gone
global_is g m (Global v a) l h e = (v, a, refl)

pub global_local : (g : _) (m : RankMesh) (x : Arg) (l : Option LocalArg) → IsArg g m x l → (v : ℕ) (a : Access) → x ≡ Global v a → l ≡ None
global_local g m (Dat d w b) l h v a e = let gone : ⊥ = cc in absurd gone
global_local g m (Global w b) None h v a e = refl
global_local g m (Global w b) (Some z) h v a e = absurd h
