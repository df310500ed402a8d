-- Turns of the loops over declarators, expressions and statements of main.
use Rattle.std.proofs.Common.{◌≡◌, ℕ, ◌+◌, ◌<◌, Bool, false, List, ◌++◌, map, drop, length, get_or, refl, sym, Option}
use Rattle.c_tree.specs.declared.declarations.Declr.{Declr}
use Rattle.c_tree.specs.declared.expressions.Expr.{Expr}
use Rattle.c_tree.specs.declared.hosts.Host.{Host}
use Rattle.c_tree.specs.View.{expr_of, declr_of, host_of, hosts_of}
use Rattle.name_resolution.specs.declared.breaches.Breach.{Breach}
use Rattle.name_resolution.specs.First.{least_from}
use Rattle.name_resolution.specs.Scopes.{Names, scope, repeated}
use Rattle.name_resolution.specs.Kernels.{expr_breaches}
use Rattle.name_resolution.specs.Mains.{declr_name, declr_sort, declr_breaches, with_name, own_after_declrs, main_declrs_breaches, exprs_breaches, own_after, own_after_all, fixed_after, fixed_after_all, named_after, named_after_all, host_breaches, hosts_breaches}
use Rattle.name_resolution.proofs.Firsts.{least_append}
use Rattle.lemmas.proofs.Lists.{drop_here}

pub declrs_own : (own own' : Names) (k : Bool) (ds : List Declr) (i : ℕ) (d : Declr) → i < length ds → d ≡ get_or ds i d
    → own' ≡ with_name own k (declr_sort (declr_of d)) (declr_name (declr_of d))
    → own_after_declrs own' k (map declr_of (drop (i + 1) ds)) ≡ own_after_declrs own k (map declr_of (drop i ds))
declrs_own own own' k ds i d h g ho = rw (ho, drop_here ds i d h g) refl

pub declrs_first : (file own own' : Names) (k : Bool) (ds : List Declr) (i : ℕ) (d : Declr) (f f' : Option Breach) → i < length ds
    → d ≡ get_or ds i d → f' ≡ least_from f (declr_breaches (scope file own) (declr_of d) ++ repeated (declr_name (declr_of d)) own)
    → own' ≡ with_name own k (declr_sort (declr_of d)) (declr_name (declr_of d))
    → least_from f' (main_declrs_breaches file own' k (map declr_of (drop (i + 1) ds))) ≡ least_from f
    (main_declrs_breaches file own k (map declr_of (drop i ds)))
declrs_first file own own' k ds i d f f' h g w ho =
    rw (ho, drop_here ds i d h g, w) (sym (least_append f (declr_breaches (scope file own) (declr_of d) ++ repeated (declr_name (declr_of d)) own) _))

pub exprs_first : (file own : Names) (es : List Expr) (i : ℕ) (e : Expr) (f f' : Option Breach) → i < length es → e ≡ get_or es i e
    → f' ≡ least_from f (expr_breaches false (scope file own) (expr_of e))
    → least_from f' (exprs_breaches file own (map expr_of (drop (i + 1) es))) ≡ least_from f
    (exprs_breaches file own (map expr_of (drop i es)))
exprs_first file own es i e f f' h g w =
    rw (drop_here es i e h g, w) (sym (least_append f (expr_breaches false (scope file own) (expr_of e)) _))

pub hosts_own : (own own' : Names) (hs : List Host) (i : ℕ) (x : Host) → i < length hs → x ≡ get_or hs i x
    → own' ≡ own_after own (host_of x) → own_after_all own' (hosts_of (drop (i + 1) hs)) ≡ own_after_all own (hosts_of (drop i hs))
hosts_own own own' hs i x h g ho = rw (ho, drop_here hs i x h g) refl

pub hosts_fixed : (file own own' : Names) (s s' : List ℕ) (hs : List Host) (i : ℕ) (x : Host) → i < length hs → x ≡ get_or hs i x
    → own' ≡ own_after own (host_of x) → s' ≡ fixed_after file own s (host_of x)
    → fixed_after_all file own' s' (hosts_of (drop (i + 1) hs)) ≡ fixed_after_all file own s (hosts_of (drop i hs))
hosts_fixed file own own' s s' hs i x h g ho hf = rw (ho, hf, drop_here hs i x h g) refl

pub hosts_named : (own own' : Names) (s s' : List (List ℕ)) (hs : List Host) (i : ℕ) (x : Host) → i < length hs → x ≡ get_or hs i x
    → own' ≡ own_after own (host_of x) → s' ≡ named_after own s (host_of x)
    → named_after_all own' s' (hosts_of (drop (i + 1) hs)) ≡ named_after_all own s (hosts_of (drop i hs))
hosts_named own own' s s' hs i x h g ho hf = rw (ho, hf, drop_here hs i x h g) refl

pub hosts_first : (file own own' : Names) (s s' : List ℕ) (hs : List Host) (i : ℕ) (x : Host) (f f' : Option Breach) → i < length hs
    → x ≡ get_or hs i x → f' ≡ least_from f (host_breaches file own s (host_of x)) → own' ≡ own_after own (host_of x)
    → s' ≡ fixed_after file own s (host_of x) → least_from f' (hosts_breaches file own' s' (hosts_of (drop (i + 1) hs))) ≡ least_from f
    (hosts_breaches file own s (hosts_of (drop i hs)))
hosts_first file own own' s s' hs i x f f' h g w ho hf =
    rw (ho, hf, drop_here hs i x h g, w) (sym (least_append f (host_breaches file own s (host_of x)) _))
