-- What is declared stays so behind each statement of `main`, and the steps fit.
use Rattle.std.proofs.Common.{◌≡◌, ℕ, List, [], ◌∷◌, length, map, Ok, Err, true, not, refl, sym, ap, arith, ◌∙◌}
use Rattle.std.specs.Prelude.{All, Option, Some, None, IfSome, is_none, nat_eq}
use Rattle.std.proofs.lemmas.List.{length-map}
use Rattle.std.proofs.lemmas.List.Elements.{All-head, All-tail, All-take}
use Rattle.c_tree.specs.declared.lexer.tokens.Pos.{Pos}
use Rattle.c_tree.specs.declared.expressions.Ident.{Ident}
use Rattle.c_tree.specs.declared.expressions.TextLiteral.{TextLiteral}
use Rattle.c_tree.specs.Tree as tree
use Rattle.c_tree.specs.Tree.{ExprTree, PlaceTree, OpCallTree, HostTree, HostTrees, HostForHeaderTree}
use Rattle.kernel_model.specs.declared.types.kernels.ConstDecl.{ConstDecl}
use Rattle.kernel_model.specs.declared.types.kernels.RKernel.{RKernel}
use Rattle.mesh_decl.specs.Mesh.{dat_count}
use Rattle.mesh_decl.specs.Printed.{conversions}
use Rattle.mesh_decl.specs.Spelling.{Named}
use Rattle.bound_program.specs.declared.refusals.refusals.BindRefusal.TheVariants as refusal
use Rattle.main_declarations.specs.declared.names.walks.Spot.{Spot}
use Rattle.main_declarations.specs.declared.names.scopes.Meaning.{Meaning}
use Rattle.main_declarations.specs.declared.names.scopes.Meaning.TheVariants as m
use Rattle.bound_program.specs.Values.{Line, Print}
use Rattle.main_declarations.specs.Names.{means, told_later, closed}
use Rattle.bound_program.specs.Steps.{Asked, Step, Do, Loop, Block, Choose, Repeat, NoStep}
use Rattle.main_declarations.specs.Expressions.{resolved, cells_of, judged_static}
use Rattle.bound_program.specs.Refusals.{Judged, ◌>>=◌, found_if}
use Rattle.main_declarations.specs.SoFar.{Declared, Walked, does, behind}
use Rattle.main_declarations.specs.Meanings.{dat_of, or_zero}
use Rattle.main_declarations.specs.Declarations.{judged_set, judged_map, judged_dat}
use Rattle.main_declarations.specs.Variables.{judged_constant}
use Rattle.loop_bind.specs.Arguments.{judged_loop}
use Rattle.loop_bind.specs.Text.{nested, turning, target_name, target_index, target_var, assignment, line_found, declares, judged_call, opened, followed_by, ended, with_counter, judged_bounds, judged_host, judged_hosts}
use Rattle.loop_bind.specs.Sources.{HasNumbers, PlaceIsRead, CallIsRead, HostIsRead, HostsAreRead}
use Rattle.loop_bind.proofs.FitsTargets.{IsVariable, Behind, AssignsVariables, AllAssignVariables}
use Rattle.main_declarations.proofs.Public.{Gives, gives_then, gives_unless, not_if, never, known_below}
use Rattle.loop_bind.proofs.FitsValues.{Within, within_more, zero_is_num}
use Rattle.loop_bind.proofs.FitsState.{at, MeaningFits, NameFits, NameIsOwn, Grows, Lawful, means_fits}
use Rattle.loop_bind.proofs.FitsReads.{resolved_within}
use Rattle.loop_bind.proofs.FitsFile.{static_within}
use Rattle.loop_bind.proofs.FitsMesh.{dat_below}
use Rattle.loop_bind.proofs.FitsMeshWalk.{Goes, set_is_lawful, map_is_lawful, dat_is_lawful}
use Rattle.loop_bind.proofs.FitsConst.{constant_is_lawful}
use Rattle.loop_bind.proofs.FitsLoop.{Loops, loop_is_lawful}
use Rattle.loop_bind.proofs.FitsMain.{AllWithin, SomeWithin, IsVar, FitOne, steps_more, Walks, WalksOn, walks_behind, walks_does, walks_self, walks_step, walks_trans, goes_name, declrs_are}
use Rattle.lemmas.proofs.Numbers.{equal_from_not}

-- so many cells, all expressions within
all_within : (ks : List RKernel) (es : List Named) (places : List Pos) (k : Declared) → Lawful ks es k → (xs : List ExprTree) → All HasNumbers xs → AllWithin k.cells (map (resolved places k.names) xs)
all_within ks es places k h [] f = tt
all_within ks es places k h (x ∷ xs) f = (resolved_within ks es places k h x (All-head HasNumbers x xs f), all_within ks es places k h xs (All-tail HasNumbers x xs f))

module _ (ks : List RKernel) (es : List Named) where
  -- the names of a block end with it
  closed-goes : (j k : Declared) → Goes ks es j k → Goes ks es j (record k { names = closed j.names k.names })
  closed-goes j k g = record { lawful = lawful; grows = grows; file = g.file }
    where
      l : Declared
      l = record k { names = closed j.names k.names }

      grows : Grows j l
      grows = record { vars = g.grows.vars; cells = g.grows.cells; sets = g.grows.sets; maps = g.grows.maps; dats = g.grows.dats; sites = g.grows.sites }

      h : Lawful ks es k
      h = g.lawful

      lawful : Lawful ks es l
      lawful = record {
        mesh = g.lawful.mesh;
        few_sets = g.lawful.few_sets;
        few_maps = g.lawful.few_maps;
        few_dats = g.lawful.few_dats;
        dims = g.lawful.dims;
        map_dims = g.lawful.map_dims;
        cells = g.lawful.cells;
        file = g.lawful.file;
        own = All-take (NameFits ks k.mesh k.vars k.cells) (length j.names.own) k.names.own g.lawful.own;
        mine = All-take NameIsOwn (length j.names.own) k.names.own g.lawful.mine;
        externs = g.lawful.externs;
        sites = g.lawful.sites;
      }

  on-goes : (k : Declared) (b : Walked) → WalksOn ks es k b → Goes ks es k b.declared
  on-goes k b w = record { lawful = w.walks.lawful; grows = w.grows; file = w.file }

  module _ (places : List Pos) (consts : List ConstDecl) where
    opened_walks : (a : Walked) → Lawful ks es a.declared → Walks ks es (opened places consts es a)
    opened_walks a h = record { lawful = h; steps = tt }

    -- ---- assignments

    target_is : (k : Declared) → Lawful ks es k → (p : PlaceTree) → IsVariable (means k.names (target_name places consts es p).name) → IsVar k.vars (target_var places consts es k.names p)
    target_is k h p v = pick (means k.names (target_name places consts es p).name) (means_fits ks es k h (target_name places consts es p).name) v
      where
        pick : (o : Option Meaning) → IfSome o (MeaningFits ks k.mesh k.vars k.cells) → IsVariable o → IsVar k.vars (cells_of o).var
        pick None f v = absurd v
        pick (Some (m.Extern z)) f v = absurd v
        pick (Some m.ExternArray) f v = absurd v
        pick (Some (m.Kernel number params)) f v = absurd v
        pick (Some (m.Set s)) f v = absurd v
        pick (Some (m.Map s)) f v = absurd v
        pick (Some (m.Dat s)) f v = absurd v
        pick (Some (m.Variable c)) f v = record { var = f.var; some = omega (arith, f.start, f.some) }
        pick (Some (m.Fixed z c)) f v = absurd v
        pick (Some (m.FixedLater t c)) f v = absurd v
        pick (Some (m.Turning t)) f v = absurd v

    index_is : (k : Declared) → Lawful ks es k → (p : PlaceTree) → PlaceIsRead p → SomeWithin k.cells (target_index places consts es k.names p)
    index_is k h (tree.Scalar x) r = tt
    index_is k h (tree.Element x i) r = resolved_within ks es places k h i r
    index_is k h (tree.Target at x) r = zero_is_num

    -- ---- calls

    declares_is : (a : Walked) (r : Judged Declared) → Walks ks es a → Gives (Goes ks es a.declared) r → Gives (WalksOn ks es a.declared) (declares places consts es a r)
    declares_is a r h g = gives_then (Goes ks es a.declared) (WalksOn ks es a.declared) r (λ k. Ok (behind a k)) g (λ k i. walks_behind ks es a k h i)

    line_is : (t : ℕ) (l : TextLiteral) (n : ℕ) (o : Option ℕ) → line_found places consts es t l n o ≡ [] → o ≡ Some n
    line_is t l n None e = never (not_if places true l.at refusal.TypeMismatch e)
    line_is t l n (Some c) e = ap (λ (j : ℕ). Some j) (equal_from_not c n (not_if places (not (nat_eq c n)) t refusal.ArgCount e))

    call_is : (a : Walked) (w : Spot) (c : OpCallTree) → Walks ks es a → CallIsRead c → Gives (WalksOn ks es a.declared) (judged_call places consts es a w c)
    call_is a w (tree.CallInit at n) h r = walks_self ks es a h
    call_is a w (tree.DeclSet at x e l) h r = declares_is a (judged_set places a.declared w.is_nested at x e) h (set_is_lawful ks es places a.declared h.lawful w.is_nested at x e)
    call_is a w (tree.DeclMap at x from to n v l) h r =
        declares_is a (judged_map places es a.declared w.is_nested at x from to n v) h
        (map_is_lawful ks es places a.declared h.lawful w.is_nested at x n v from to)
    call_is a w (tree.DeclDat at x on n u v l) h r = declares_is a (judged_dat places es a.declared w.is_nested at x on n u v) h
        (dat_is_lawful ks es places a.declared h.lawful w.is_nested at x n v on u)
    call_is a w (tree.DeclConst at n u g) h r = declares_is a (judged_constant places consts a.declared w.is_nested at n u g) h
        (constant_is_lawful ks es places consts a.declared w.is_nested at n u g h.lawful)
    call_is a w (tree.ParLoop at f l on args) h r =
        gives_then (Loops ks es a.declared) (WalksOn ks es a.declared) (judged_loop places es a.declared at f on args)
        (λ k. Ok (does (Loop (length a.declared.sites)) (behind a k))) (loop_is_lawful ks es places a.declared at f on args h.lawful)
        (λ k i. walks_does ks es a k (Loop (length a.declared.sites)) h i.goes i.more)
    call_is a w (tree.Printf at l xs) h r =
        gives_unless (WalksOn ks es a.declared) (line_found places consts es at l (length xs) (conversions l.text)) (does (Do (Line l.text (map (resolved places a.declared.names) xs))) a)
        (λ none. walks_step ks es a (Do (Line l.text (map (resolved places a.declared.names) xs))) h
        (line_is at l (length xs) (conversions l.text) none ∙ ap (λ (j : ℕ). Some j) (sym (length-map xs (resolved places a.declared.names))), all_within ks es places a.declared h.lawful xs r))
    call_is a w (tree.PrintDat at x l) h r =
        let d = dat_of (means a.declared.names x.name) in
        gives_unless (WalksOn ks es a.declared) (found_if places (is_none d) x.at refusal.UnknownDat) (does (Do (Print (or_zero d) l.text)) a)
        (λ none. walks_step ks es a (Do (Print (or_zero d) l.text)) h
        (known_below (dat_count a.declared.mesh) d
        (dat_below ks a.declared.mesh a.declared.vars a.declared.cells (means a.declared.names x.name)
        (means_fits ks es a.declared h.lawful x.name)) (not_if places (is_none d) x.at refusal.UnknownDat none)))

    -- ---- statements

    -- behind a part, with a step made of it
    part : (a b : Walked) (s : Step) → Walks ks es a → WalksOn ks es a.declared b → FitOne b.declared s → WalksOn ks es a.declared (followed_by places consts es a s b)
    part a b s h i f = walks_does ks es a b.declared s h (on-goes a.declared b i) f

    block : (a b : Walked) (s : Step) → Walks ks es a → WalksOn ks es a.declared b → FitOne b.declared s → WalksOn ks es a.declared (ended places consts es a s b)
    block a b s h i f = walks_does ks es a (record b.declared { names = closed a.declared.names b.declared.names }) s h (closed-goes a.declared b.declared (on-goes a.declared b i)) f

    counter_walks : (a : Walked) (x : Ident) → Walks ks es a → Walks ks es (with_counter places consts es a x)
    counter_walks a x h = record { lawful = (goes_name ks es a.declared x.name (m.Turning (told_later a.declared.names)) h.lawful tt tt).lawful; steps = tt }

    counter_goes : (a : Walked) (x : Ident) → Walks ks es a → Goes ks es a.declared (with_counter places consts es a x).declared
    counter_goes a x h = goes_name ks es a.declared x.name (m.Turning (told_later a.declared.names)) h.lawful tt tt

    record Bounds (n : ℕ) (r : Asked × Asked) : Type 0 where
      from : Within n r.0.value
      to : Within n r.1.value

    bounds_are : (a : Walked) (f : HostForHeaderTree) → Walks ks es a → HasNumbers f.from → HasNumbers f.to → Gives (Bounds a.declared.cells) (judged_bounds places consts es a f)
    bounds_are a f h p q =
        gives_then (λ (c : Asked). Within a.declared.cells c.value) (Bounds a.declared.cells) (judged_static places a.declared.names f.from)
        (λ from. judged_static places (with_counter places consts es a f.name).declared.names f.to >>= λ to. Ok (from, to))
        (static_within ks es places a.declared h.lawful f.from p)
        (λ from i. gives_then (λ (c : Asked). Within a.declared.cells c.value) (Bounds a.declared.cells)
        (judged_static places (with_counter places consts es a f.name).declared.names f.to) (λ to. Ok (from, to))
        (static_within ks es places (with_counter places consts es a f.name).declared (counter_walks a f.name h).lawful f.to q)
        (λ to j. record { from = i; to = j }))

    -- the two parts of a sequence
    record Both (P R : Walked → Type 0) (b : Walked) : Type 0 where
      gives : P b
      also : R b

    both : (P R : Walked → Type 0) (r : Judged Walked) → Gives P r → Behind r R → Gives (Both P R) r
    both P R (Ok b) g i = record { gives = g; also = i }
    both P R (Err e) g i = tt

    moved : (j k : Declared) (r : Judged Walked) → Grows j k → k.names.file ≡ j.names.file → Gives (WalksOn ks es k) r → Gives (WalksOn ks es j) r
    moved j k (Ok b) g e w = walks_trans ks es j k b g e w
    moved j k (Err f) g e w = tt

    mutual
      pub host_is : (a : Walked) (w : Spot) (x : HostTree) → Walks ks es a → HostIsRead x → AssignsVariables places consts es a w x
          → Gives (WalksOn ks es a.declared) (judged_host places consts es a w x)
      host_is a w (tree.HostDeclaration v) h r t = declrs_are ks es places a w v.is_const v.declrs h r
      host_is a w (tree.HostBlock at hs) h r t =
          gives_then (WalksOn ks es a.declared) (WalksOn ks es a.declared)
          (judged_hosts places consts es (opened places consts es a) (nested w) hs)
          (λ b. Ok (ended places consts es a (Block b.steps) b))
          (hosts_are (opened places consts es a) (nested w) hs (opened_walks a h.lawful) r t)
          (λ b i. block a b (Block b.steps) h i i.walks.steps)
      host_is a w (tree.HostEmpty at) h r t = walks_self ks es a h
      host_is a w (tree.HostAssign e) h r t =
          walks_step ks es a (Do (assignment places consts es a.declared.names e)) h
          (target_is a.declared h.lawful e.place t, index_is a.declared h.lawful e.place r.0, resolved_within ks es places a.declared h.lawful e.value r.1)
      host_is a w (tree.HostIf at e x) h r t =
          gives_then (λ (c : Asked). Within a.declared.cells c.value) (WalksOn ks es a.declared) (judged_static places a.declared.names e)
          (λ c. judged_host places consts es (opened places consts es a) (nested w) x >>= λ b. Ok
          (followed_by places consts es a (Choose c (Block b.steps) (Block NoStep)) b))
          (static_within ks es places a.declared h.lawful e r.0)
          (λ c i. gives_then (WalksOn ks es a.declared) (WalksOn ks es a.declared)
          (judged_host places consts es (opened places consts es a) (nested w) x)
          (λ b. Ok (followed_by places consts es a (Choose c (Block b.steps) (Block NoStep)) b))
          (host_is (opened places consts es a) (nested w) x (opened_walks a h.lawful) r.1 t)
          (λ b j. part a b (Choose c (Block b.steps) (Block NoStep)) h j (within_more a.declared.cells b.declared.cells j.grows.cells c.value i, j.walks.steps, tt)))
      host_is a w (tree.HostIfElse at e x y) h r t =
          let k = a.declared in
          gives_then (λ (c : Asked). Within k.cells c.value) (WalksOn ks es k) (judged_static places k.names e)
          (λ c. judged_host places consts es (opened places consts es a) (nested w) x >>= λ b. judged_host places consts es
          (opened places consts es b) (nested w) y >>= λ d. Ok
          (followed_by places consts es a (Choose c (Block b.steps) (Block d.steps)) d))
          (static_within ks es places k h.lawful e r.0)
          (λ c i. gives_then (Both (WalksOn ks es k) (λ b. AssignsVariables places consts es (opened places consts es b) (nested w) y))
          (WalksOn ks es k) (judged_host places consts es (opened places consts es a) (nested w) x)
          (λ b. judged_host places consts es (opened places consts es b) (nested w) y >>= λ d. Ok (followed_by places consts es a (Choose c (Block b.steps) (Block d.steps)) d))
          (both (WalksOn ks es k) (λ b. AssignsVariables places consts es (opened places consts es b) (nested w) y)
          (judged_host places consts es (opened places consts es a) (nested w) x)
          (host_is (opened places consts es a) (nested w) x (opened_walks a h.lawful) r.1 t.0) t.1)
          (λ b j. gives_then (WalksOn ks es b.declared) (WalksOn ks es k)
          (judged_host places consts es (opened places consts es b) (nested w) y)
          (λ d. Ok (followed_by places consts es a (Choose c (Block b.steps) (Block d.steps)) d))
          (host_is (opened places consts es b) (nested w) y (opened_walks b j.gives.walks.lawful) r.2 j.also)
          (λ d l. let o = walks_trans ks es k b.declared d j.gives.grows j.gives.file l in
          part a d (Choose c (Block b.steps) (Block d.steps)) h o (
            within_more k.cells d.declared.cells o.grows.cells c.value i,
            steps_more b.declared d.declared l.grows b.steps j.gives.walks.steps,
            l.walks.steps,
          ))))
      host_is a w (tree.HostFor f x) h r t =
          let k = a.declared in
          gives_then (Bounds k.cells) (WalksOn ks es k) (judged_bounds places consts es a f)
          (λ r. judged_host places consts es (with_counter places consts es a f.name) turning x >>= λ b. Ok
          (ended places consts es a (Repeat r.0 r.1 (Block b.steps)) b)) (bounds_are a f h r.0 r.1)
          (λ c i. gives_then (WalksOn ks es k) (WalksOn ks es k)
          (judged_host places consts es (with_counter places consts es a f.name) turning x)
          (λ b. Ok (ended places consts es a (Repeat c.0 c.1 (Block b.steps)) b))
          (moved k (with_counter places consts es a f.name).declared
          (judged_host places consts es (with_counter places consts es a f.name) turning x) (counter_goes a f.name h).grows refl
          (host_is (with_counter places consts es a f.name) turning x (counter_walks a f.name h) r.2 t))
          (λ b j. block a b (Repeat c.0 c.1 (Block b.steps)) h j (
            within_more k.cells b.declared.cells j.grows.cells c.0.value i.from,
            within_more k.cells b.declared.cells j.grows.cells c.1.value i.to,
            j.walks.steps,
          )))
      host_is a w (tree.HostCall c) h r t = call_is a w c h r

      pub hosts_are : (a : Walked) (w : Spot) (xs : HostTrees) → Walks ks es a → HostsAreRead xs
          → AllAssignVariables places consts es a w xs → Gives (WalksOn ks es a.declared) (judged_hosts places consts es a w xs)
      hosts_are a w tree.NoHost h r t = walks_self ks es a h
      hosts_are a w (tree.MoreHost x xs) h r t =
          let k = a.declared in
          gives_then (Both (WalksOn ks es k) (λ b. AllAssignVariables places consts es b w xs)) (WalksOn ks es k) (judged_host places consts es a w x) (λ b. judged_hosts places consts es b w xs)
          (both (WalksOn ks es k) (λ b. AllAssignVariables places consts es b w xs) (judged_host places consts es a w x) (host_is a w x h r.0 t.0) t.1)
          (λ b j. moved k b.declared (judged_hosts places consts es b w xs) j.gives.grows j.gives.file (hosts_are b w xs j.gives.walks r.1 j.also))
