-- One loop more, backwards.
use Rattle.std.proofs.Common.{◌≡◌, ℕ, suc, ◌<◌, Bool, not, List, [], ◌∷◌, length, get_or, Vec, Some, None, refl, ap, subst, ◌∙◌, arith}
use Rattle.std.specs.Prelude.{◌&&◌, ◌||◌, nat_eq}
use Rattle.std.specs.List.{list_any}
use Rattle.std.specs.declared.alloc.Global.{Global as Memory}
use Rattle.lemmas.specs.Below.{any_below}
use Rattle.lemmas.proofs.Below.{any_agree}
use Rattle.local_mesh.specs.RankSet.{has_at}
use Rattle.local_mesh.specs.declared.rank_sets.rank_set.RankSet.{RankSet}
use Rattle.mesh_decl.specs.declared.owners.Owners.{Owners}
use Rattle.mesh_decl.specs.Mesh.{IsInRange, dat_count, dat_set, set_size, target}
use Rattle.mesh_decl.specs.Owners.{owner_of}
use Rattle.local_mesh.specs.Sets.{has_in}
use Rattle.bound_program.specs.declared.sites.Arg.{Arg}
use Rattle.bound_program.specs.declared.sites.Arg.TheVariants.{Dat, Global}
use Rattle.bound_program.specs.Values.{BoundValue, SiteValue}
use Rattle.bound_program.specs.Classes.{is_read}
use Rattle.bound_program.specs.Fits.{SiteFits}
use Rattle.chain_model.specs.Slices.{modifies_some, reads_pair, executes_for, needs_before}
use Rattle.chain_needs.specs.PairSets.{ArePairSets, ArgLeads, pairs_of}
use Rattle.chain_needs.specs.Needed.{AreNeeded}
use Rattle.chain_needs.proofs.Leading.{all_lead}

any_same : (p q : Arg → Bool) (xs : List Arg) → ((i : ℕ) (d : Arg) → i < length xs → p (get_or xs i d) ≡ q (get_or xs i d)) → list_any p xs ≡ list_any q xs
any_same p q [] h = refl
any_same p q (x ∷ xs) h =
    ap (λ z. z || list_any p xs) (h 0 x (omega arith))
    ∙ ap (λ z. q x || z) (any_same p q xs (λ i d l. h (suc i) d (omega arith)))

module _ (b : BoundValue) (ranges : IsInRange b.mesh) (pairs others : ℕ → ℕ → Bool) (same : (d y : ℕ) → d < dat_count b.mesh → y < set_size b.mesh (dat_set b.mesh d) → pairs d y ≡ others d y) where
  modifies_same : (e : ℕ) (a : Arg) → ArgLeads b.mesh e a → modifies_some b pairs e a ≡ modifies_some b others e a
  modifies_same e (Dat d None a) h = ap (λ z. not (is_read a) && z) (same d e h.0 h.1)
  modifies_same e (Dat d (Some v) a) h = ap (λ z. not (is_read a) && z)
      (same d (target b.mesh v.map e v.index) h.0 (subst (λ z. target b.mesh v.map e v.index < set_size b.mesh z) h.1.3 ((ranges.maps v.map h.1.0).within e v.index h.1.1 h.1.2)))
  modifies_same e (Global v a) h = refl

  pub executes_same : (o : Owners) (r : ℕ) (site : SiteValue) (e : ℕ) → SiteFits b site → e < set_size b.mesh site.set → executes_for b o r pairs site e ≡ executes_for b o r others site e
  executes_same o r site e fits l = ap (λ z. nat_eq (owner_of o site.set e) r || z)
      (any_same (modifies_some b pairs e) (modifies_some b others e) site.args (λ i d k. modifies_same e (get_or site.args i d) (all_lead b site.set e site.args l fits.args i d k)))

pub one_more : (b : BoundValue) (o : Owners) (site : SiteValue) (sites : List SiteValue) (old new : List (Vec RankSet Memory)) (runs : List RankSet)
    → IsInRange b.mesh → SiteFits b site → AreNeeded b o sites old → ArePairSets b.mesh new
    → ((x r : ℕ) → x < set_size b.mesh site.set → has_at runs x r ≡ executes_for b o r (pairs_of old r) site x)
    → ((d y r : ℕ) → d < dat_count b.mesh → has_in new d y r ≡ (has_in old d y r || any_below (set_size b.mesh site.set) (λ e. has_at runs e r && list_any (reads_pair b d y e) site.args)))
    → AreNeeded b o (site ∷ sites) new
one_more b o site sites old new runs ranges fits h pairs executing reading = record {
  pairs = pairs;
  has = λ d y r ld ly.
      reading d y r ld
      ∙ (ap (λ z. z || any_below (set_size b.mesh site.set) (λ e. has_at runs e r && list_any (reads_pair b d y e) site.args)) (h.has d y r ld ly)
      ∙ ap (λ z. needs_before b o r sites d y || z)
      (any_agree (set_size b.mesh site.set) (λ e. has_at runs e r && list_any (reads_pair b d y e) site.args)
      (λ e. executes_for b o r (needs_before b o r sites) site e && list_any (reads_pair b d y e) site.args)
      (λ e l. ap (λ z. z && list_any (reads_pair b d y e) site.args)
      (executing e r l ∙ executes_same b ranges (pairs_of old r) (needs_before b o r sites) (λ d2 y2 l2 m2. h.has d2 y2 r l2 m2) o r site e fits l))));
}
