-- The printed bytes of small dats and lines.
use Rattle.std.proofs.Common.{◌≡◌, pos, negsuc, [], ◌∷◌, Some, None, codes, refl}
use Rattle.std.specs.Fmt.{digits}
use Rattle.mesh_decl.specs.Mesh.{MeshValue, size_in, set_name, dat_set, dat_dim, dat_name}
use Rattle.mesh_decl.specs.Printed.{printed_dat, printed_line, conversions}

abbrev small : MeshValue
small = record {
  sets = (record { name = codes "nodes"; size = 3 }) ∷ (record { name = codes "s"; size = 0 }) ∷ [];
  maps = [];
  dats = (record { name = codes "r"; set = 0; dim = 1; values = pos 0 ∷ pos 0 ∷ pos 0 ∷ [] })
      ∷ (record { name = codes "a"; set = 1; dim = 1; values = [] })
      ∷ (record { name = codes "q"; set = 0; dim = 2; values = pos 0 ∷ pos 0 ∷ pos 0 ∷ pos 0 ∷ pos 0 ∷ pos 0 ∷ [] }) ∷ [];
}

pub one_value_a_line : printed_dat (codes "r.txt") small 0 (pos 1 ∷ pos 1 ∷ negsuc 1 ∷ []) ≡ codes "r.txt: r nodes 3 1\n1\n1\n-2\n"
unfolding digits printed_dat size_in set_name dat_set dat_dim dat_name
one_value_a_line = refl

pub no_element : printed_dat (codes "a") small 1 [] ≡ codes "a: a s 0 1\n"
unfolding digits printed_dat size_in set_name dat_set dat_dim dat_name
no_element = refl

pub two_values_a_line : printed_dat (codes "") small 2 (pos 1 ∷ pos 2 ∷ negsuc 9 ∷ pos 0 ∷ pos 7 ∷ pos 7 ∷ []) ≡ codes ": q nodes 3 2\n1 2\n-10 0\n7 7\n"
unfolding digits printed_dat size_in set_name dat_set dat_dim dat_name
two_values_a_line = refl

pub three_values : printed_line (codes "%d %d %d\n") (pos 2 ∷ negsuc 2 ∷ pos 5 ∷ []) ≡ codes "2 -3 5\n"
unfolding digits printed_line
three_values = refl

pub percent_sign : printed_line (codes "100%% of %d%%d") (pos 7 ∷ []) ≡ codes "100% of 7%d"
unfolding digits printed_line
percent_sign = refl

pub counted : conversions (codes "100%% of %d%%d, %d") ≡ Some 2
counted = refl

pub no_conversion : conversions (codes "5% d") ≡ None
no_conversion = refl

pub dangling : conversions (codes "%d%") ≡ None
dangling = refl
