-- What is judged of some lines and of those behind them is judged of both.
use Rattle.std.proofs.Common.{◌≡◌, ℕ, ℤ, suc, ◌+◌, refl, sym, ap, subst, ◌∙◌, arith, List, [], ◌∷◌, ◌++◌, append_assoc, append-nil, length, length-append, Result, Ok, Err}
use Rattle.std.specs.Result.{IsErrAnd}
use Rattle.std.proofs.lemmas.Grind.{flat_map-append}
use Rattle.op_num.specs.CutLines.{Unread, IsTaken}
use Rattle.bound_program.specs.Values.{BoundValue}
use Rattle.checkpoint.specs.declared.state_texts.refusals.StateRefusal.{StateRefusal}
use Rattle.checkpoint.specs.declared.state_texts.refusals.StateRefusal.TheVariants as refusal
use Rattle.checkpoint.specs.Reading.{Awaited, all, LineFits, AllFit, Refuses, RefusedAmong, Refused}
use Rattle.checkpoint.specs.Judged.{FitsAmong, RefusedAt, RefusesAmong, JudgesAmong, PushesAmong, PushJudges}

-- what is told of the number and the line
pub refused_map : (e : StateRefusal) (P Q : ℕ → ℕ → Type 0) → ((n l : ℕ) → P n l → Q n l) → Refused P e → Refused Q e
refused_map (refusal.Header line) P Q f h = f 1 line h
refused_map (refusal.Item line) P Q f h = f 2 line h
refused_map (refusal.Shape line) P Q f h = f 3 line h
refused_map (refusal.Value line) P Q f h = f 4 line h
refused_map (refusal.End line) P Q f h = f 5 line h
refused_map refusal.OutOfMemory P Q f h = h

pub all_append : (ls ms : List (List ℕ)) → all (ls ++ ms) ≡ all ls ++ all ms
all_append ls ms = flat_map-append (λ (l : List ℕ). l) ls ms

module _ (b : BoundValue) (k : ℕ) where
  abbrev Fit : List Awaited → List (List ℕ) → List ℤ → Type 0
  Fit xs ls zs = AllFit b k xs ls zs

  pub fit_append : (xs ys : List Awaited) (ls ms : List (List ℕ)) (zs ws : List ℤ) → Fit xs ls zs → Fit ys ms ws → Fit (xs ++ ys) (ls ++ ms) (zs ++ ws)
  fit_append [] ys [] ms zs ws f g = subst (λ z. Fit ys ms (z ++ ws)) (sym f) g
  fit_append [] ys (l ∷ ls) ms zs ws f g = absurd f
  fit_append (x ∷ xs) ys [] ms zs ws f g = absurd f
  fit_append (x ∷ xs) ys (l ∷ ls) ms zs ws f g =
      (f.0, f.1 ++ ws, ap (λ (z : List ℤ). z ++ ws) f.2 ∙ append_assoc f.0 f.1 ws, f.3, fit_append xs ys ls ms f.1 ws f.4 g)

  -- nothing is awaited
  pub fits_none : (u : Unread) → FitsAmong b k [] u u []
  fits_none u = record { lines = []; split = refl; fit = refl; taken = (let e : u.taken ≡ u.taken + 0 = omega arith in e) }

  -- one line
  pub fits_one : (x : Awaited) (old new : Unread) (line : List ℕ) (zs : List ℤ) → IsTaken old new line → LineFits b k x line zs → FitsAmong b k (x ∷ []) old new zs
  fits_one x old new line zs t f = record {
    lines = line ∷ [];
    split = t.whole ∙ ap (λ (z : List ℕ). z ++ new.rest) (sym (append-nil line));
    fit = (zs, [], sym (append-nil zs), f, refl);
    taken = t.taken;
  }

  -- and those behind them
  pub fits_append : (xs ys : List Awaited) (u v w : Unread) (zs ws : List ℤ) → FitsAmong b k xs u v zs → FitsAmong b k ys v w ws → FitsAmong b k (xs ++ ys) u w (zs ++ ws)
  fits_append xs ys u v w zs ws f g = record {
    lines = f.lines ++ g.lines;
    split =
        f.split
        ∙ (ap (λ (z : List ℕ). all f.lines ++ z) g.split
        ∙ (sym (append_assoc (all f.lines) (all g.lines) w.rest) ∙ ap (λ (z : List ℕ). z ++ w.rest) (sym (all_append f.lines g.lines))));
    fit = fit_append xs ys f.lines g.lines zs ws f.fit g.fit;
    taken = (
        let a = f.taken in
        let c = g.taken in
        let l : length (f.lines ++ g.lines) ≡ length f.lines + length g.lines = length-append f.lines g.lines in
        omega arith);
  }

  -- the line that comes next is refused
  pub refused_here : (x : Awaited) (old : Unread) (number : ℕ) → Refuses b x old.rest number → RefusedAmong b k (x ∷ []) old.rest number 0
  refused_here x old number r = record {
    lines = [];
    rest = old.rest;
    cut = refl;
    earlier = [];
    here = x;
    later = [];
    order = refl;
    values = [];
    fit = refl;
    refuses = r;
    at = refl;
  }

  -- one of the first is
  pub at_first : (xs ys : List Awaited) (u : Unread) (number line : ℕ) → RefusedAt b k xs u number line → RefusedAt b k (xs ++ ys) u number line
  at_first xs ys u number line j = (
    j.0,
    j.1,
    (let r = j.2 in record {
      lines = r.lines;
      rest = r.rest;
      cut = r.cut;
      earlier = r.earlier;
      here = r.here;
      later = r.later ++ ys;
      order = ap (λ (z : List Awaited). z ++ ys) r.order ∙ append_assoc r.earlier (r.here ∷ r.later) ys;
      values = r.values;
      fit = r.fit;
      refuses = r.refuses;
      at = r.at;
    }),
  )

  pub refused_first : (xs ys : List Awaited) (u : Unread) (e : StateRefusal) → RefusesAmong b k xs u e → RefusesAmong b k (xs ++ ys) u e
  refused_first xs ys u e h = refused_map e (RefusedAt b k xs u) (RefusedAt b k (xs ++ ys) u) (at_first xs ys u) h

  -- one of those behind them is
  pub at_then : (xs ys : List Awaited) (u v : Unread) (zs : List ℤ) (number line : ℕ) → FitsAmong b k xs u v zs → RefusedAt b k ys v number line → RefusedAt b k (xs ++ ys) u number line
  at_then xs ys u v zs number line f j =
      let r = j.2 in
      let a = f.taken in
      let c = j.1 in
      let at = r.at in
      let long : length (f.lines ++ r.lines) ≡ length f.lines + length r.lines = length-append f.lines r.lines in (
        length f.lines + j.0,
        omega arith,
        record {
          lines = f.lines ++ r.lines;
          rest = r.rest;
          cut =
              f.split
              ∙ (ap (λ (z : List ℕ). all f.lines ++ z) r.cut
              ∙ (sym (append_assoc (all f.lines) (all r.lines) r.rest) ∙ ap (λ (z : List ℕ). z ++ r.rest) (sym (all_append f.lines r.lines))));
          earlier = xs ++ r.earlier;
          here = r.here;
          later = r.later;
          order = ap (λ (z : List Awaited). xs ++ z) r.order ∙ sym (append_assoc xs r.earlier (r.here ∷ r.later));
          values = zs ++ r.values;
          fit = fit_append xs r.earlier f.lines r.lines zs r.values f.fit r.fit;
          refuses = r.refuses;
          at = (let e : length f.lines + j.0 ≡ length (f.lines ++ r.lines) = omega arith in e);
        },
      )

  pub refused_then : (xs ys : List Awaited) (u v : Unread) (zs : List ℤ) (e : StateRefusal) → FitsAmong b k xs u v zs → RefusesAmong b k ys v e → RefusesAmong b k (xs ++ ys) u e
  refused_then xs ys u v zs e f h = refused_map e (RefusedAt b k ys v) (RefusedAt b k (xs ++ ys) u) (λ n l j. at_then xs ys u v zs n l f j) h

  -- a refusal is passed on
  pub passed_on : {X : Type 0} → (xs : List Awaited) (old new : Unread) (values : X → List ℤ) (r : Result X StateRefusal) (e : StateRefusal)
      → IsErrAnd r (λ x. x ≡ e) → RefusesAmong b k xs old e → JudgesAmong b k xs old new values r
  passed_on xs old new values (Ok x) e h g = absurd h
  passed_on xs old new values (Err x) e h g = subst (λ z. RefusesAmong b k xs old z) (sym h) g

  pub push_passed_on : {X : Type 0} → (xs : List Awaited) (old new : Unread) (zs ws : List ℤ) (r : Result X StateRefusal) (e : StateRefusal)
      → IsErrAnd r (λ x. x ≡ e) → RefusesAmong b k xs old e → PushJudges b k xs old new zs ws r
  push_passed_on xs old new zs ws (Ok x) e h g = absurd h
  push_passed_on xs old new zs ws (Err x) e h g = subst (λ z. RefusesAmong b k xs old z) (sym h) g

  -- more values are pushed
  pub pushed_more : (xs ys : List Awaited) (u v w : Unread) (zs ws vs : List ℤ) → PushesAmong b k xs u v zs ws → PushesAmong b k ys v w ws vs → PushesAmong b k (xs ++ ys) u w zs vs
  pushed_more xs ys u v w zs ws vs p q = record {
    more = p.more ++ q.more;
    pushed = q.pushed ∙ (ap (λ (z : List ℤ). z ++ q.more) p.pushed ∙ append_assoc zs p.more q.more);
    fits = fits_append xs ys u v w p.more q.more p.fits q.fits;
  }

-- the number of the line that comes next
pub next_line : (old : Unread) (n m : ℕ) → n ≡ old.taken → m ≡ n → m + 1 ≡ old.taken + suc 0
next_line old n m e k = omega arith

module _ (b : BoundValue) (k : ℕ) where
  pub pushed_none : (u : Unread) (zs : List ℤ) → PushesAmong b k [] u u zs zs
  pushed_none u zs = record { more = []; pushed = sym (append-nil zs); fits = fits_none b k u }

  -- the values are those that were pushed
  pub pushed_alone : (xs : List Awaited) (u v : Unread) (zs ws : List ℤ) → PushesAmong b k xs u v zs ws → zs ≡ [] → FitsAmong b k xs u v ws
  pushed_alone xs u v zs ws p e = subst (λ (z : List ℤ). FitsAmong b k xs u v z) (sym (p.pushed ∙ ap (λ (z : List ℤ). z ++ p.more) e)) p.fits

  -- these lines by another name
  pub fits_same : (xs ys : List Awaited) (u v : Unread) (zs : List ℤ) → xs ≡ ys → FitsAmong b k xs u v zs → FitsAmong b k ys u v zs
  fits_same xs ys u v zs e f = subst (λ (z : List Awaited). FitsAmong b k z u v zs) e f

  pub refuses_same : (xs ys : List Awaited) (u : Unread) (e : StateRefusal) → xs ≡ ys → RefusesAmong b k xs u e → RefusesAmong b k ys u e
  refuses_same xs ys u e s r = subst (λ (z : List Awaited). RefusesAmong b k z u e) s r
