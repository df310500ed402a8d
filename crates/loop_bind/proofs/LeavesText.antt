-- What `main` declares and does leaves the variables that are `const`, behind each statement.
use Rattle.std.proofs.Common.{List, length, map, Ok, Err}
use Rattle.std.specs.Prelude.{Option, Some, None, IfSome, is_none}
use Rattle.std.proofs.lemmas.List.Elements.{All-take}
use Rattle.c_tree.specs.declared.lexer.tokens.Pos.{Pos}
use Rattle.c_tree.specs.declared.expressions.Ident.{Ident}
use Rattle.c_tree.specs.Tree as tree
use Rattle.c_tree.specs.Tree.{PlaceTree, OpCallTree, HostTree, HostTrees}
use Rattle.kernel_model.specs.declared.types.kernels.ConstDecl.{ConstDecl}
use Rattle.mesh_decl.specs.Mesh.{set_count, map_count, dat_count}
use Rattle.mesh_decl.specs.Printed.{conversions}
use Rattle.mesh_decl.specs.Spelling.{Named}
use Rattle.bound_program.specs.declared.refusals.refusals.BindRefusal.TheVariants as refusal
use Rattle.main_declarations.specs.declared.names.walks.Spot.{Spot}
use Rattle.main_declarations.specs.declared.names.scopes.Meaning.{Meaning}
use Rattle.main_declarations.specs.declared.names.scopes.Meaning.TheVariants as m
use Rattle.bound_program.specs.Values.{Line, Print}
use Rattle.main_declarations.specs.Names.{means, told_later, closed}
use Rattle.bound_program.specs.Steps.{Asked, Step, Do, Loop, Block, Choose, Repeat, NoStep}
use Rattle.main_declarations.specs.Expressions.{resolved, cells_of, judged_static}
use Rattle.bound_program.specs.Refusals.{Judged, ◌>>=◌, found_if}
use Rattle.main_declarations.specs.SoFar.{Declared, Walked, does, behind}
use Rattle.main_declarations.specs.Meanings.{dat_of, or_zero}
use Rattle.main_declarations.specs.Declarations.{set_decl_found, map_decl_found, dat_decl_found, judged_set, judged_map, judged_dat}
use Rattle.main_declarations.specs.Variables.{file_cells, after_constant, constant_decl_found, judged_constant}
use Rattle.loop_bind.specs.Arguments.{judged_loop}
use Rattle.loop_bind.specs.Text.{nested, turning, target_name, target_var, assignment, line_found, declares, judged_call, opened, followed_by, ended, with_counter, judged_bounds, judged_host, judged_hosts}
use Rattle.loop_bind.proofs.FitsTargets.{IsVariable, Behind, AssignsVariables, AllAssignVariables}
use Rattle.main_declarations.proofs.Public.{Gives, gives_then, gives_unless, gives_any}
use Rattle.loop_bind.proofs.LeavesState.{IsFree, stay-self, MeaningLeaves, NameLeaves, StepIsFree, steps_more, Leaves, leaves-own, means_leaves, WalkLeaves, LeavesOn, WalkOn}
use Rattle.loop_bind.proofs.LeavesMain.{walk-behind, walk-does, walk-self, walk-step, walk-trans, walk-moved, on-name, declrs-on, after-constant}
use Rattle.loop_bind.proofs.LeavesLoop.{loop-on}

-- the names of a block end with it
closed-on : (j k : Declared) → LeavesOn j k → LeavesOn j (record k { names = closed j.names k.names })
closed-on j k h = record {
  leaves = record {
    file = h.leaves.file;
    own = All-take (NameLeaves k.vars) (length j.names.own) k.names.own h.leaves.own;
    sites = h.leaves.sites;
  };
  stay = h.stay;
}

walk-on : (k : Declared) (b : Walked) → WalkOn k b → LeavesOn k b.declared
walk-on k b w = record { leaves = w.walk.declared; stay = w.stay }

module _ (places : List Pos) (cs : List ConstDecl) (es : List Named) where
  opened-walk : (a : Walked) → Leaves a.declared → WalkLeaves (opened places cs es a)
  opened-walk a h = record { declared = h; steps = tt }

  -- ---- assignments

  target-free : (k : Declared) → Leaves k → (p : PlaceTree) → IsVariable (means k.names (target_name places cs es p).name) → IsFree k.vars (target_var places cs es k.names p)
  target-free k h p v = pick (means k.names (target_name places cs es p).name) (means_leaves k h (target_name places cs es p).name) v
    where
      pick : (o : Option Meaning) → IfSome o (MeaningLeaves k.vars) → IsVariable o → IsFree k.vars (cells_of o).var
      pick None f v = absurd v
      pick (Some (m.Extern z)) f v = absurd v
      pick (Some m.ExternArray) f v = absurd v
      pick (Some (m.Kernel number params)) f v = absurd v
      pick (Some (m.Set s)) f v = absurd v
      pick (Some (m.Map s)) f v = absurd v
      pick (Some (m.Dat s)) f v = absurd v
      pick (Some (m.Variable c)) f v = f
      pick (Some (m.Fixed z c)) f v = absurd v
      pick (Some (m.FixedLater t c)) f v = absurd v
      pick (Some (m.Turning t)) f v = absurd v

  -- ---- calls

  declares-on : (a : Walked) (r : Judged Declared) → WalkLeaves a → Gives (LeavesOn a.declared) r → Gives (WalkOn a.declared) (declares places cs es a r)
  declares-on a r h g = gives_then (LeavesOn a.declared) (WalkOn a.declared) r (λ k. Ok (behind a k)) g (λ k i. walk-behind a k h i)

  call-on : (a : Walked) (w : Spot) (c : OpCallTree) → WalkLeaves a → Gives (WalkOn a.declared) (judged_call places cs es a w c)
  call-on a w (tree.CallInit at n) h = walk-self a h
  call-on a w (tree.DeclSet at x e l) h =
      declares-on a (judged_set places a.declared w.is_nested at x e) h
      (gives_unless (LeavesOn a.declared) (set_decl_found places a.declared w.is_nested at e) _
      (λ none. let i = on-name a.declared x.name (m.Set (set_count a.declared.mesh)) h.declared tt in
      record {
        leaves = record { file = i.leaves.file; own = i.leaves.own; sites = i.leaves.sites };
        stay =
            stay-self a.declared.vars;
      }))
  call-on a w (tree.DeclMap at x from to n v l) h =
      declares-on a (judged_map places es a.declared w.is_nested at x from to n v) h
      (gives_unless (LeavesOn a.declared) (map_decl_found places es a.declared w.is_nested at from to n v) _
      (λ none. let i = on-name a.declared x.name (m.Map (map_count a.declared.mesh)) h.declared tt in
      record {
        leaves = record { file = i.leaves.file; own = i.leaves.own; sites = i.leaves.sites };
        stay =
            stay-self a.declared.vars;
      }))
  call-on a w (tree.DeclDat at x on n u v l) h =
      declares-on a (judged_dat places es a.declared w.is_nested at x on n u v) h
      (gives_unless (LeavesOn a.declared) (dat_decl_found places es a.declared w.is_nested at on n u v) _
      (λ none. let i = on-name a.declared x.name (m.Dat (dat_count a.declared.mesh)) h.declared tt in
      record {
        leaves = record { file = i.leaves.file; own = i.leaves.own; sites = i.leaves.sites };
        stay =
            stay-self a.declared.vars;
      }))
  call-on a w (tree.DeclConst at n u g) h =
      declares-on a (judged_constant places cs a.declared w.is_nested at n u g) h
      (gives_unless (LeavesOn a.declared) (constant_decl_found places a.declared w.is_nested at n u g)
      (after_constant places cs a.declared g.name.name (file_cells places (means a.declared.names g.name.name)))
      (λ none. after-constant places cs a.declared g.name.name (file_cells places (means a.declared.names g.name.name)) h.declared))
  call-on a w (tree.ParLoop at f l on args) h =
      gives_then (LeavesOn a.declared) (WalkOn a.declared) (judged_loop places es a.declared at f on args)
      (λ k. Ok (does (Loop (length a.declared.sites)) (behind a k))) (loop-on es places a.declared at f on args h.declared)
      (λ k i. walk-does a k (Loop (length a.declared.sites)) h i tt)
  call-on a w (tree.Printf at l xs) h =
      gives_unless (WalkOn a.declared) (line_found places cs es at l (length xs) (conversions l.text)) (does (Do (Line l.text (map (resolved places a.declared.names) xs))) a)
      (λ none. walk-step a (Do (Line l.text (map (resolved places a.declared.names) xs))) h tt)
  call-on a w (tree.PrintDat at x l) h =
      gives_unless (WalkOn a.declared) (found_if places (is_none (dat_of (means a.declared.names x.name))) x.at refusal.UnknownDat)
      (does (Do (Print (or_zero (dat_of (means a.declared.names x.name))) l.text)) a)
      (λ none. walk-step a (Do (Print (or_zero (dat_of (means a.declared.names x.name))) l.text)) h tt)

  -- ---- statements

  part : (a b : Walked) (s : Step) → WalkLeaves a → WalkOn a.declared b → StepIsFree b.declared.vars s → WalkOn a.declared (followed_by places cs es a s b)
  part a b s h i f = walk-does a b.declared s h (walk-on a.declared b i) f

  block : (a b : Walked) (s : Step) → WalkLeaves a → WalkOn a.declared b → StepIsFree b.declared.vars s → WalkOn a.declared (ended places cs es a s b)
  block a b s h i f = walk-does a (record b.declared { names = closed a.declared.names b.declared.names }) s h (closed-on a.declared b.declared (walk-on a.declared b i)) f

  counter-walk : (a : Walked) (x : Ident) → WalkLeaves a → WalkLeaves (with_counter places cs es a x)
  counter-walk a x h = record { declared = leaves-own a.declared x.name (m.Turning (told_later a.declared.names)) tt h.declared; steps = tt }

  -- both facts of what is given
  record Both (P R : Walked → Type 0) (b : Walked) : Type 0 where
    gives : P b
    also : R b

  both : (P R : Walked → Type 0) (r : Judged Walked) → Gives P r → Behind r R → Gives (Both P R) r
  both P R (Ok b) g i = record { gives = g; also = i }
  both P R (Err e) g i = tt

  mutual
    host-on : (a : Walked) (w : Spot) (x : HostTree) → WalkLeaves a → AssignsVariables places cs es a w x → Gives (WalkOn a.declared) (judged_host places cs es a w x)
    host-on a w (tree.HostDeclaration v) h t = declrs-on places a w v.is_const v.declrs h
    host-on a w (tree.HostBlock at hs) h t =
        gives_then (WalkOn a.declared) (WalkOn a.declared) (judged_hosts places cs es (opened places cs es a) (nested w) hs)
        (λ b. Ok (ended places cs es a (Block b.steps) b)) (hosts-on (opened places cs es a) (nested w) hs (opened-walk a h.declared) t)
        (λ b i. block a b (Block b.steps) h i i.walk.steps)
    host-on a w (tree.HostEmpty at) h t = walk-self a h
    host-on a w (tree.HostAssign e) h t = walk-step a (Do (assignment places cs es a.declared.names e)) h (target-free a.declared h.declared e.place t)
    host-on a w (tree.HostIf at e x) h t =
        gives_then (λ (c : Asked). Unit {0}) (WalkOn a.declared) (judged_static places a.declared.names e)
        (λ c. judged_host places cs es (opened places cs es a) (nested w) x >>= λ b. Ok
        (followed_by places cs es a (Choose c (Block b.steps) (Block NoStep)) b)) (gives_any (judged_static places a.declared.names e))
        (λ c i. gives_then (WalkOn a.declared) (WalkOn a.declared) (judged_host places cs es (opened places cs es a) (nested w) x)
        (λ b. Ok (followed_by places cs es a (Choose c (Block b.steps) (Block NoStep)) b))
        (host-on (opened places cs es a) (nested w) x (opened-walk a h.declared) t)
        (λ b j. part a b (Choose c (Block b.steps) (Block NoStep)) h j (j.walk.steps, tt)))
    host-on a w (tree.HostIfElse at e x y) h t =
        let k = a.declared in
        gives_then (λ (c : Asked). Unit {0}) (WalkOn k) (judged_static places k.names e)
        (λ c. judged_host places cs es (opened places cs es a) (nested w) x >>= λ b. judged_host places cs es (opened places cs es b)
        (nested w) y >>= λ d. Ok (followed_by places cs es a (Choose c (Block b.steps) (Block d.steps)) d))
        (gives_any (judged_static places k.names e))
        (λ c i. gives_then (Both (WalkOn k) (λ b. AssignsVariables places cs es (opened places cs es b) (nested w) y)) (WalkOn k) (judged_host places cs es (opened places cs es a) (nested w) x)
        (λ b. judged_host places cs es (opened places cs es b) (nested w) y >>= λ d. Ok (followed_by places cs es a (Choose c (Block b.steps) (Block d.steps)) d))
        (both (WalkOn k) (λ b. AssignsVariables places cs es (opened places cs es b) (nested w) y)
        (judged_host places cs es (opened places cs es a) (nested w) x)
        (host-on (opened places cs es a) (nested w) x (opened-walk a h.declared) t.0) t.1)
        (λ b j. gives_then (WalkOn b.declared) (WalkOn k) (judged_host places cs es (opened places cs es b) (nested w) y)
        (λ d. Ok (followed_by places cs es a (Choose c (Block b.steps) (Block d.steps)) d))
        (host-on (opened places cs es b) (nested w) y (opened-walk b j.gives.walk.declared) j.also)
        (λ d l. part a d (Choose c (Block b.steps) (Block d.steps)) h (walk-trans k b.declared d j.gives.stay l)
        (steps_more b.declared.vars d.declared.vars l.stay b.steps j.gives.walk.steps, l.walk.steps))))
    host-on a w (tree.HostFor f x) h t =
        let k = a.declared in
        gives_then (λ (r : Asked × Asked). Unit {0}) (WalkOn k) (judged_bounds places cs es a f)
        (λ r. judged_host places cs es (with_counter places cs es a f.name) turning x >>= λ b. Ok
        (ended places cs es a (Repeat r.0 r.1 (Block b.steps)) b)) (gives_any (judged_bounds places cs es a f))
        (λ r i. gives_then (WalkOn k) (WalkOn k) (judged_host places cs es (with_counter places cs es a f.name) turning x) (λ b. Ok (ended places cs es a (Repeat r.0 r.1 (Block b.steps)) b))
        (walk-moved k (with_counter places cs es a f.name).declared
        (judged_host places cs es (with_counter places cs es a f.name) turning x) (stay-self k.vars)
        (host-on (with_counter places cs es a f.name) turning x (counter-walk a f.name h) t))
        (λ b j. block a b (Repeat r.0 r.1 (Block b.steps)) h j j.walk.steps))
    host-on a w (tree.HostCall c) h t = call-on a w c h

    pub hosts-on : (a : Walked) (w : Spot) (xs : HostTrees) → WalkLeaves a → AllAssignVariables places cs es a w xs → Gives (WalkOn a.declared) (judged_hosts places cs es a w xs)
    hosts-on a w tree.NoHost h t = walk-self a h
    hosts-on a w (tree.MoreHost x xs) h t =
        let k = a.declared in
        gives_then (Both (WalkOn k) (λ b. AllAssignVariables places cs es b w xs)) (WalkOn k) (judged_host places cs es a w x) (λ b. judged_hosts places cs es b w xs)
        (both (WalkOn k) (λ b. AllAssignVariables places cs es b w xs) (judged_host places cs es a w x) (host-on a w x h t.0) t.1)
        (λ b j. walk-moved k b.declared (judged_hosts places cs es b w xs) j.gives.stay (hosts-on b w xs j.gives.walk j.also))
