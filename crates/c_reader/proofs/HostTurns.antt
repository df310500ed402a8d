-- Blocks, `if` and levels of statements of `main`, as the code finds them.
use Rattle.std.proofs.Common.{◌≡◌, ◌≢◌, ℕ, zero, suc, ◌+◌, ◌-◌, true, List, [], ◌∷◌, map, Ok, Err, refl, ap, ◌∙◌, arith, slice_get, Vec, Global, add-one}
use Rattle.c_tree.specs.declared.lexer.tokens.Kind.{Kind}
use Rattle.c_tree.specs.declared.lexer.tokens.Sign.TheVariants as s
use Rattle.c_tree.specs.declared.lexer.tokens.Word.TheVariants as w
use Rattle.c_tree.specs.declared.hosts.Host.{Host, Block, Block', Row_of-Host, end_of-Host, more_of-Host, items-the_row-Host, items_hidden-the_row-Host-0}
use mathlib.Core.Former.{Count}
use Rattle.c_tree.specs.Tree as tree
use Rattle.c_tree.specs.Tree.{ExprTree, HostTree, HostTrees, NoHost, MoreHost}
use Rattle.c_tree.specs.View.{host_of, hosts_of, hosts_of_row}
use Rattle.c_reader.specs.declared.faults.ReadError.{ReadError}
use Rattle.c_reader.specs.declared.faults.ReadError.TheVariants as errors
use Rattle.c_reader.specs.declared.hosts.Closing.TheVariants as closing
use Rattle.c_reader.specs.declared.leads.HostLead.{HostLead}
use Rattle.c_reader.specs.declared.leads.HostLead.TheVariants as lead
use Rattle.c_reader.specs.Descent.{Fails, sign_at}
use Rattle.c_reader.specs.Rows.{Reader, word_is}
use Rattle.c_reader.specs.Statements.{condition_at}
use Rattle.c_reader.specs.Hosts.{body_at, hosts_in, if_at, host_trees, host_led, lead_in, host_at}

row_is : (m : _) (row : Row_of-Host m) → hosts_of_row row ≡ hosts_of (items-the_row-Host m row)
row_is m end_of-Host = refl
row_is m (more_of-Host x rest) = ap (λ z. MoreHost (host_of x) z) (row_is _ rest)

abbrev row_of : Host → (n : Count) × Row_of-Host n
row_of (Block' at shape row) = (_, row)
row_of _ = (_, end_of-Host)

pub trees_are : (xs : List Host) → hosts_of xs ≡ host_trees (map host_of xs)
trees_are [] = refl
trees_are (x ∷ xs) = ap (λ z. MoreHost (host_of x) z) (trees_are xs)

-- the view of a block is that of the vector in it
pub block_view : (at : ℕ) (v : Vec Host Global) → host_of (Block at v) ≡ tree.HostBlock at (host_trees (map host_of v.items))
block_view at v =
    let row = row_of (Block at v) in
    ap (λ z. tree.HostBlock at z) (row_is row.0 row.1 ∙ ap hosts_of (items_hidden-the_row-Host-0 v) ∙ trees_are v.items)

pub block_led : (ks : List Kind) (d : ℕ) (rec : Reader HostTree) (l : HostLead) (n o m e : ℕ) (xs : List HostTree) → l ≡ lead.Block
    → sign_at ks s.LeftBrace n ≡ Ok o → hosts_in ks closing.Brace rec o ≡ Ok (xs, m) → sign_at ks s.RightBrace m ≡ Ok e
    → host_led ks d rec l n ≡ Ok (tree.HostBlock n (host_trees xs), e)
block_led ks d rec l n o m e xs h a b c = rw (h, a, b, c) refl

pub if_two : (ks : List Kind) (d : ℕ) (rec : Reader HostTree) (n j l e : ℕ) (x : ExprTree) (a b : HostTree)
    → condition_at ks d n ≡ Ok (x, j) → body_at ks rec j ≡ Ok (a, l) → word_is w.Else (slice_get ks l) ≡ true
    → body_at ks rec (l + 1) ≡ Ok (b, e) → if_at ks d rec n ≡ Ok (tree.HostIfElse n x a b, e)
unfolding if_at
if_two ks d rec n j l e x a b c f h g =
    let g' : body_at ks rec (suc l) ≡ Ok (b, e) = rw (← add-one l) g in
    rw (c, f, h, g') refl

pub if_two_fails : (ks : List Kind) (d : ℕ) (rec : Reader HostTree) (n j l : ℕ) (x : ExprTree) (a : HostTree) (e : ReadError)
    → condition_at ks d n ≡ Ok (x, j) → body_at ks rec j ≡ Ok (a, l) → word_is w.Else (slice_get ks l) ≡ true
    → Fails e (body_at ks rec (l + 1)) → Fails e (if_at ks d rec n)
unfolding if_at
if_two_fails ks d rec n j l x a errors.Memory c f h g = tt
if_two_fails ks d rec n j l x a (errors.Fault t) c f h g =
    let g' : body_at ks rec (suc l) ≡ Err t = rw (← add-one l) g in
    rw (c, f, h, g') refl

-- a level that is left
pub at_level : (ks : List Kind) (d n : ℕ) → d ≢ 0 → host_at ks d n ≡ host_led ks (d - 1) (host_at ks (d - 1)) (lead_in (slice_get ks n)) n
unfolding host_at
at_level ks zero n h = absurd (h refl)
at_level ks (suc d) n h = rw (let e : suc d - 1 ≡ d = omega arith in e) refl
