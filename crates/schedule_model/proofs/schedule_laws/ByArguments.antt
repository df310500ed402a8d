-- Independence by arguments is independence by touches.
use Rattle.std.proofs.Common.{◌≡◌, ℕ, ◌<◌, Bool, true, refl, ap}
use Rattle.std.proofs.lemmas.Bool.{false≢true, cond_both, cond-true}
use Rattle.schedule_model.specs.Cells.{Cell, Store}
use Rattle.schedule_model.specs.Effects.{Ran, Faulted, Finished, Touch, Untouched, Read, Updated, Written, Merged, Mixed, is_read, CellAlike, Alike, Independent}
use Rattle.op_num.specs.Access.{Access, OpRead, OpWrite, OpRw, OpReduce}
use Rattle.schedule_model.specs.Arguments.{Argument, access_of, reading, Entries, reaches, touch_by}
use Rattle.schedule_model.specs.Tells.{settling, Tells}
use Rattle.schedule_model.specs.ByArguments.{SameChanges, SameRuns, IndependentBy, ReadConstants, touch_with}
use Rattle.schedule_model.proofs.schedule_laws.Tells.{tells, reader}

reads_settle : (x : Access) → reading x ≡ true → settling x ≡ true
reads_settle OpRead h = refl
reads_settle OpRw h = refl
reads_settle OpWrite h = refl
reads_settle (OpReduce o) h = absurd (false≢true h)

module _ (entry : Entries) (dim width : ℕ → ℕ) (arg : ℕ → Argument) (n e : ℕ) (is_constant : Cell → Bool) (constants : ReadConstants entry dim width arg n e is_constant) where
  abbrev touch : Cell → Touch
  touch c = touch_with entry dim width arg n e is_constant c

  module _ (s w t u : Store) (h : SameChanges entry dim width arg n e s w t u) where
    -- by what the touch tells
    told : (c : Cell) (k : Touch) → Tells entry dim width arg n e c k → CellAlike k (s c) (t c) (w c) (u c)
    told c Untouched i = h.stays c (λ a lt r. absurd (i a lt r))
    told c Read i = h.stays c i
    told c Updated i = h.settles c (i.0, i.1, i.2, reads_settle (access_of (arg i.0)) i.3)
    told c Written i = h.settles c (i.0.0, i.0.1, i.0.2, ap settling i.0.3)
    told c (Merged o) i = h.merges c o i
    told c Mixed i = h.mixes c i

    alike : (c : Cell) → CellAlike (touch c) (s c) (t c) (w c) (u c)
    alike c = cond_both (is_constant c) Read (touch_by entry dim width arg n e c) (λ k. CellAlike k (s c) (t c) (w c) (u c))
        (λ y. h.stays c (constants c y))
        (λ y. told c (touch_by entry dim width arg n e c) (tells entry dim width arg e c n))

  runs : {F : Type 0} (s w : Store) (x y : Ran F) → SameRuns entry dim width arg n e s w x y → Alike touch s w x y
  runs s w (Faulted f) (Faulted g) h = h
  runs s w (Finished t) (Finished u) h = alike s w t u h
  runs s w (Faulted f) (Finished u) h = h
  runs s w (Finished t) (Faulted g) h = h

  -- what an argument reads is of a touch that is read
  read_touch : (c : Cell) (a : ℕ) → a < n → reaches entry dim width e (arg a) c ≡ true → reading (access_of (arg a)) ≡ true → is_read (touch c) ≡ true
  read_touch c a lt r rd = cond_both (is_constant c) Read (touch_by entry dim width arg n e c) (λ k. is_read k ≡ true) (λ y. refl) (λ y. reader entry dim width arg e c n a lt r rd)

  constant_touch : (c : Cell) → is_constant c ≡ true → is_read (touch c) ≡ true
  constant_touch c y = ap is_read (cond-true (is_constant c) Read (touch_by entry dim width arg n e c) y)

  pub by_touches : {F : Type 0} (run : Store → Ran F) → IndependentBy entry dim width arg n e is_constant run → Independent run (λ c. touch_with entry dim width arg n e is_constant c)
  by_touches run indep s w gs gw agree =
      runs s w (run s) (run w) (indep s w gs gw (λ c a lt r rd. agree c (read_touch c a lt r rd)) (λ c y. agree c (constant_touch c y)))
