-- Which items of a program run: there is one outcome, whatever the kernels' addresses, and parts of a program suit as it does.
use Rattle.std.proofs.Common.{◌≡◌, ◌<◌, ◌≤◌, ◌^◌, ◌⊎◌, inl, inr, ℕ, ℤ, List, [], ◌∷◌, length, arith, Result, Ok, Err, refl, sym, ap, ◌∙◌}
use Rattle.std.specs.Prelude.{All}
use Rattle.kernel_model.specs.declared.types.kernels.RKernel.{RKernel}
use Rattle.mesh_decl.specs.declared.decl.MapDecl.{MapDecl}
use Rattle.mesh_decl.specs.Mesh.{IsMesh}
use Rattle.bound_program.specs.Values.{BoundValue}
use Rattle.bound_program.specs.Limits.{max_dim}
use Rattle.bound_program.specs.Fits.{Fits}
use Rattle.bound_plan.specs.OneRun.{with_kernels}
use Rattle.checkpoint.specs.Cut.{StateValue, CanCut, HasShape, head, tail}
use Rattle.checkpoint.specs.Laws.{HeadsFit, TailsFit}
use Rattle.checkpoint.specs.Reading.{Awaited, Item, Exactly, Values, Done, awaited, IsItem, LineFits, AllFit, Says, Refuses, RefusedAmong, SaysNone}
use Rattle.checkpoint.specs.StateTextLaws.{SaysOneState, SaysOneRefusal, SaysNotBoth, SaysSomething}
use Rattle.op_outside.specs.Outside.{Files}
use Rattle.command_words.specs.Refusal.{StateBytes, Refusal, BadCut, BadState}
use Rattle.command_words.specs.Words.{Stretch, Whole, Before, From}
use Rattle.answers.specs.Judgements.{IsHeld, Cut, Uncut, BeforeItem, FromText, CutOf, Chosen, ChosenIs}
use Rattle.answers.proofs.laws.Held.{held_exists}
use Rattle.answers.proofs.laws.IsOne.{IsOne, held_is_one, told_is_one}

-- what is said of state texts
pub record StateLaws : Type 0 where
  pub one_state : SaysOneState
  pub one_refusal : SaysOneRefusal
  pub not_both : SaysNotBoth

-- ---- where it comes from

pub cut_is_one : (x : Stretch) (files : Files) → IsOne (CutOf x files)
cut_is_one Whole files = told_is_one Uncut
cut_is_one (Before item) files = told_is_one (BeforeItem item)
cut_is_one (From name) files =
    let held = held_is_one StateBytes name (files name) in
    record {
      refusals = held.refusals;
      apart = λ r x h k. held.apart r k.0 h k.1;
      values = λ x y h k. h.2 ∙ ap FromText (held.values h.0 k.0 h.1 k.1) ∙ sym k.2;
    }

pub cut_exists : (x : Stretch) (files : Files) → ¬ ((r : Result Cut Refusal) → ¬ CutOf x files r)
cut_exists Whole files none = none (Ok Uncut) refl
cut_exists (Before item) files none = none (Ok (BeforeItem item)) refl
cut_exists (From name) files none = held_exists StateBytes name (files name) by_held
  where
    by_held : (r : Result (List ℕ) Refusal) → ¬ IsHeld StateBytes name (files name) r
    by_held (Ok bytes) h = none (Ok (FromText bytes)) (bytes, h, refl)
    by_held (Err r) h = none (Err r) h

-- ---- state texts know nothing of a program's kernels

module _ (b : BoundValue) (ks : List RKernel) where
  abbrev c : BoundValue
  c = with_kernels b ks

  pub can_cut_is : (k : ℕ) → CanCut c k → CanCut b k
  can_cut_is k h = record { within = h.within; whole = h.whole }

  can_cut_still : (k : ℕ) → CanCut b k → CanCut c k
  can_cut_still k h = record { within = h.within; whole = h.whole }

  shape_is : (s : StateValue) → HasShape c s → HasShape b s
  shape_is s h = record { vars = h.vars; dats = h.dats }

  item_is : (k : ℕ) (line : List ℕ) → IsItem c k line → IsItem b k line
  item_is k line h = record { can_cut = can_cut_is k h.can_cut; is = h.is }

  item_still : (k : ℕ) (line : List ℕ) → IsItem b k line → IsItem c k line
  item_still k line h = record { can_cut = can_cut_still k h.can_cut; is = h.is }

  line_fits : (k : ℕ) (x : Awaited) (line : List ℕ) (zs : List ℤ) → LineFits c k x line zs → LineFits b k x line zs
  line_fits k Item line zs h = (item_is k line h.0, h.1)
  line_fits k (Exactly l) line zs h = h
  line_fits k (Values n) line zs h = h
  line_fits k Done line zs h = h

  all_fit : (k : ℕ) (xs : List Awaited) (ls : List (List ℕ)) (zs : List ℤ) → AllFit c k xs ls zs → AllFit b k xs ls zs
  all_fit k [] [] zs h = h
  all_fit k (x ∷ xs) (l ∷ ls) zs h = (h.0, h.1, h.2, line_fits k x l h.0 h.3, all_fit k xs ls h.1 h.4)
  all_fit k [] (l ∷ ls) zs h = absurd h
  all_fit k (x ∷ xs) [] zs h = absurd h

  pub says_is : (bytes : List ℕ) (s : StateValue) → Says c bytes s → Says b bytes s
  says_is bytes s h = record {
    before = h.before;
    lines = h.lines;
    split = h.split;
    fit = all_fit s.item (awaited b) h.lines _ h.fit;
    shape = shape_is s h.shape;
    can_cut = can_cut_is s.item h.can_cut;
  }

  refuses_is : (x : Awaited) (rest : List ℕ) (n : ℕ) → Refuses c x rest n → Refuses b x rest n
  refuses_is Item rest n h = (h.0, λ k line more i. h.1 k line more (item_still k line i))
  refuses_is (Exactly l) rest n h = h
  refuses_is (Values count) rest n h = h
  refuses_is Done rest n h = h

  among_is : (k : ℕ) (xs : List Awaited) (text : List ℕ) (n before : ℕ) → RefusedAmong c k xs text n before → RefusedAmong b k xs text n before
  among_is k xs text n before h = record {
    lines = h.lines;
    rest = h.rest;
    cut = h.cut;
    earlier = h.earlier;
    here = h.here;
    later = h.later;
    order = h.order;
    values = h.values;
    fit = all_fit k h.earlier h.lines h.values h.fit;
    refuses = refuses_is h.here h.rest n h.refuses;
    at = h.at;
  }

  pub says_none_is : (bytes : List ℕ) (n line : ℕ) → SaysNone c bytes n line → SaysNone b bytes n line
  says_none_is bytes n line (inl h) = inl h
  says_none_is bytes n line (inr h) = inr (record {
    front = h.front;
    text = h.text;
    split = h.split;
    item = h.item;
    before = h.before;
    among = among_is h.item (awaited b) h.text n h.before h.among;
    at = h.at;
  })

  -- ---- the program that runs

  -- the same items, with those kernels
  abbrev pub SameItems : Chosen → Chosen → Type 0
  SameItems x y = (x.program.kernels ≡ b.kernels) × (y ≡ record { program = with_kernels x.program ks; first = x.first })

  module _ (laws : StateLaws) where
    pub chosen_refusals : (cut : Cut) (r s : Refusal) → ChosenIs cut b (Err r) → ChosenIs cut c (Err s) → r ≡ s
    chosen_refusals Uncut r s h k = absurd (let bad : ⊥ = cc in bad)
    chosen_refusals (BeforeItem item) r s h k = h.1 ∙ sym k.1
    chosen_refusals (FromText bytes) r s h k =
        let e = laws.one_refusal b bytes h.0 k.0 h.1 k.1 h.2 (says_none_is bytes k.0 k.1 k.2) in
        h.3 ∙ ap (λ n. BadState n h.1) e.0 ∙ ap (BadState k.0) e.1 ∙ sym k.3

    pub chosen_refused : (cut : Cut) (r : Refusal) (y : Chosen) → ChosenIs cut b (Err r) → ChosenIs cut c (Ok y) → ⊥
    chosen_refused Uncut r y h k = (let bad : ⊥ = cc in bad)
    chosen_refused (BeforeItem item) r y h k = h.0 (can_cut_is item k.0)
    chosen_refused (FromText bytes) r y h k = laws.not_both b bytes k.0 h.0 h.1 (says_is bytes k.0 k.1) h.2

    pub refused_chosen : (cut : Cut) (x : Chosen) (s : Refusal) → ChosenIs cut b (Ok x) → ChosenIs cut c (Err s) → ⊥
    refused_chosen Uncut x s h k = (let bad : ⊥ = cc in bad)
    refused_chosen (BeforeItem item) x s h k = k.0 (can_cut_still item h.0)
    refused_chosen (FromText bytes) x s h k = laws.not_both b bytes h.0 k.0 k.1 h.1 (says_none_is bytes k.0 k.1 k.2)

    same_as : (p q : BoundValue) (first : ℕ) (x y : Chosen) → p.kernels ≡ b.kernels → q ≡ with_kernels p ks → x ≡ record { program = p; first = first }
        → y ≡ record { program = q; first = first } → SameItems x y
    same_as p q first x y e f g h = rw g (e, h ∙ ap (λ (d : BoundValue). record { program = d; first = first }) f)

    -- decimals number the items
    few : Fits b → length b.trace < 2 ^ 64
    few fits = let small = fits.few in omega (arith, small)

    pub chosen_same : Fits b → (cut : Cut) (x y : Chosen) → ChosenIs cut b (Ok x) → ChosenIs cut c (Ok y) → SameItems x y
    chosen_same fits Uncut x y h k =
        same_as b c 0 x y refl refl (let e : Ok x ≡ Ok (record { program = b; first = 0 }) = h in cc) (let e : Ok y ≡ Ok (record { program = c; first = 0 }) = k in cc)
    chosen_same fits (BeforeItem item) x y h k = same_as (head b item) (head c item) 0 x y refl refl h.1 k.1
    chosen_same fits (FromText bytes) x y h k =
        let e = laws.one_state b bytes h.0 k.0 (few fits) h.1 (says_is bytes k.0 k.1) in
        same_as (tail b h.0) (tail c h.0) h.0.item x y refl refl h.2
        (k.2 ∙ ap (λ (s : StateValue). record { program = tail c s; first = s.item }) (sym e))

-- ---- parts of a program suit as it does

-- what a program has of which there is a plan
pub record Suits (b : BoundValue) : Type 0 where
  pub fits : Fits b
  pub narrow : All (λ (d : MapDecl). d.dim ≤ max_dim) b.mesh.maps

-- and what a bound program has besides, so that its parts are such: 32 bits count the items of its heads
pub record SuitsInParts (b : BoundValue) : Type 0 where
  pub suits : Suits b
  pub short : (k : ℕ) → CanCut b k → length (head b k).trace < 2 ^ 32

module _ (heads_fit : HeadsFit) (tails_fit : TailsFit) where
  pub chosen_suits : (cut : Cut) (b : BoundValue) → SuitsInParts b → (x : Chosen) → ChosenIs cut b (Ok x) → Suits x.program
  chosen_suits Uncut b h x k = let e : x ≡ record { program = b; first = 0 } = (let f : Ok x ≡ Ok (record { program = b; first = 0 }) = k in cc) in rw e h.suits
  chosen_suits (BeforeItem item) b h x k = rw k.1 (record { fits = heads_fit b item h.suits.fits k.0 (h.short item k.0); narrow = h.suits.narrow })
  chosen_suits (FromText bytes) b h x k = rw k.2 (record { fits = tails_fit b k.0 h.suits.fits k.1.can_cut k.1.shape; narrow = h.suits.narrow })

pub chosen_exists : SaysSomething → (cut : Cut) (b : BoundValue) → IsMesh b.mesh → ¬ ((r : Result Chosen Refusal) → ¬ ChosenIs cut b r)
chosen_exists some Uncut b mesh none = none (Ok (record { program = b; first = 0 })) refl
chosen_exists some (BeforeItem item) b mesh none =
    none (Err (BadCut item)) ((λ can. none (Ok (record { program = head b item; first = 0 })) (can, refl)), refl)
chosen_exists some (FromText bytes) b mesh none = by_outcome (some b bytes mesh)
  where
    by_outcome : ((s : StateValue) × Says b bytes s) ⊎ ((number : ℕ) × (line : ℕ) × SaysNone b bytes number line) → ⊥
    by_outcome (inl h) = none (Ok (record { program = tail b h.0; first = h.0.item })) (h.0, h.1, refl)
    by_outcome (inr h) = none (Err (BadState h.0 h.1)) (h.0, h.1, h.2, refl)
