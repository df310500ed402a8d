-- Parts that are lent what their ranks have, and what elements made of them.
use Rattle.std.proofs.Common.{◌≡◌, ℕ, zero, suc, ◌+◌, ◌<◌, ◌≤◌, ◌^◌, ℤ, append-nil, refl, sym, ap, ap₂, subst, ◌∙◌, arith, List, [], ◌∷◌, ◌++◌, length, map, take, drop, get_or, set, All, None, Vec, Global}
use Rattle.std.proofs.lemmas.List.{get_or-map, length-map, take_all}
use Rattle.kernel_model.specs.declared.types.faults.KernelFault.{KernelFault}
use Rattle.par_exec.specs.Parts.{TakesEach, MadeEach}
use Rattle.rank_state.specs.Indices.{values_at}
use Rattle.rank_state.specs.Machine.{State, row}
use Rattle.rank_state.specs.Shows.{Sized}
use Rattle.rank_state.specs.Spare.{HasSpare}
use Rattle.rank_state.proofs.Public as views
use Rattle.rank_program.specs.declared.program.DistributedProgram.{DistributedProgram}
use Rattle.rank_program.specs.AloneRuns.{AllBegin, Share, Reaches, share_of}
use Rattle.rank_program.specs.FromNone.{with_fault}
use Rattle.rank_program.specs.Rooms.{HasRoomOf}
use Rattle.rank_program.specs.Sound.{setup_in, layout_in, tables_in}
use Rattle.rank_machine.specs.declared.ranks.RankPart.{RankPart}
use Rattle.rank_machine.specs.OnRanks.{places_on, share_in, lent, CanRunOn, RanOn, RanOnRanks, share_at}

-- the list of a rank's places
pub place_is : (ls : List (Vec ℕ Global)) (r : ℕ) (v : Vec ℕ Global) → r < length ls → (get_or ls r v).items ≡ places_on ls r
place_is ls r v lt = sym (get_or-map (λ (w : Vec ℕ Global). w.items) ls r v [] lt)

-- what holds at each place is taken
pub takes_all : {X : Type 0} (P : ℕ → X → Type 0) (i : ℕ) (xs : List X) → ((j : ℕ) (d : X) → j < length xs → P (i + j) (get_or xs j d)) → TakesEach P i xs
takes_all P i [] h = tt
takes_all {X = X} P i (x ∷ xs) h = (
  (let e : i + 0 ≡ i = omega arith in subst (λ n. P n x) e (h 0 x (omega arith))),
  takes_all P (suc i) xs (λ j d lt. let e : i + suc j ≡ suc i + j = omega arith in subst (λ n. P n (get_or xs j d)) e (h (suc j) d (omega (arith, lt)))),
)

pub made_length : {X : Type 0} (Q : ℕ → X → X → Type 0) (i : ℕ) (xs ys : List X) → MadeEach Q i xs ys → length ys ≡ length xs
made_length Q i [] [] h = refl
made_length Q i [] (y ∷ ys) h = absurd h
made_length Q i (x ∷ xs) [] h = absurd h
made_length Q i (x ∷ xs) (y ∷ ys) h = ap suc (made_length Q (suc i) xs ys h.1)

-- what was made at each place
pub made_at : {X : Type 0} (Q : ℕ → X → X → Type 0) (i : ℕ) (xs ys : List X) → MadeEach Q i xs ys → (j : ℕ) (d e : X) → j < length xs → Q (i + j) (get_or xs j d) (get_or ys j e)
made_at Q i [] ys h j d e lt = absurd (omega (arith, lt))
made_at Q i (x ∷ xs) [] h j d e lt = absurd h
made_at Q i (x ∷ xs) (y ∷ ys) h zero d e lt = (let q : i ≡ i + 0 = omega arith in subst (λ n. Q n x y) q h.0)
made_at Q i (x ∷ xs) (y ∷ ys) h (suc j) d e lt =
    let q : suc i + j ≡ i + suc j = omega arith in
    subst (λ n. Q n (get_or xs j d) (get_or ys j e)) q (made_at Q (suc i) xs ys h.1 j d e (omega (arith, lt)))

pub lent_length : (ms ps : List (Vec ℤ Global)) (xs : List RankPart) → length ms ≡ length xs → length ps ≡ length xs → length (lent ms ps xs) ≡ length xs
lent_length [] ps [] e f = refl
lent_length [] ps (x ∷ xs) e f = absurd (omega (arith, e))
lent_length (m ∷ ms) [] [] e f = refl
lent_length (m ∷ ms) [] (x ∷ xs) e f = absurd (omega (arith, f))
lent_length (m ∷ ms) (p ∷ ps) [] e f = refl
lent_length (m ∷ ms) (p ∷ ps) (x ∷ xs) e f = ap suc (lent_length ms ps xs (omega (arith, e)) (omega (arith, f)))

abbrev pub with_parts : RankPart → Vec ℤ Global → Vec ℤ Global → RankPart
with_parts x m p = record x { memory = m; partials = p }

pub lent_at : (ms ps : List (Vec ℤ Global)) (xs : List RankPart) (r : ℕ) (d e : RankPart) (m p : Vec ℤ Global) → r < length ms → r < length ps → r < length xs
    → get_or (lent ms ps xs) r d ≡ with_parts (get_or xs r e) (get_or ms r m) (get_or ps r p)
lent_at [] ps xs r d e m p a b c = absurd (omega (arith, a))
lent_at (n ∷ ms) [] xs r d e m p a b c = absurd (omega (arith, b))
lent_at (n ∷ ms) (q ∷ ps) [] r d e m p a b c = absurd (omega (arith, c))
lent_at (n ∷ ms) (q ∷ ps) (x ∷ xs) zero d e m p a b c = refl
lent_at (n ∷ ms) (q ∷ ps) (x ∷ xs) (suc r) d e m p a b c = lent_at ms ps xs r d e m p (omega (arith, a)) (omega (arith, b)) (omega (arith, c))

-- a list of which the first so many are those of another
pub put_next : {X : Type 0} (us bs : List X) (r : ℕ) (y d : X) → r < length us → r < length bs → y ≡ get_or us r d
    → set (take r us ++ drop r bs) r y ≡ take (suc r) us ++ drop (suc r) bs
put_next [] bs r y d la lb e = absurd (omega (arith, la))
put_next (a ∷ us) [] r y d la lb e = absurd (omega (arith, lb))
put_next (a ∷ us) (b ∷ bs) zero y d la lb e = ap (λ z. z ∷ bs) e
put_next (a ∷ us) (b ∷ bs) (suc r) y d la lb e = ap (λ z. a ∷ z) (put_next us bs r y d (omega (arith, la)) (omega (arith, lb)) e)

pub next_is : {X : Type 0} (us bs : List X) (r : ℕ) (d e : X) → r ≤ length us → r < length bs → get_or (take r us ++ drop r bs) r d ≡ get_or bs r e
next_is us [] r d e la lb = absurd (omega (arith, lb))
next_is us (b ∷ bs) zero d e la lb = refl
next_is [] (b ∷ bs) (suc r) d e la lb = absurd (omega (arith, la))
next_is (a ∷ us) (b ∷ bs) (suc r) d e la lb = next_is us bs r d e (omega (arith, la)) (omega (arith, lb))

pub all_put : {X : Type 0} (us bs : List X) (r : ℕ) → length us ≤ r → length bs ≤ r → take r us ++ drop r bs ≡ us
all_put us bs r la lb = ap₂ (λ a b. a ++ b) (take_all r us la) (drop_all bs r lb) ∙ append-nil us
  where
    drop_all : {X : Type 0} (bs : List X) (r : ℕ) → length bs ≤ r → drop r bs ≡ []
    drop_all [] zero le = refl
    drop_all [] (suc r) le = refl
    drop_all (b ∷ bs) zero le = absurd (omega (arith, le))
    drop_all (b ∷ bs) (suc r) le = drop_all bs r (omega (arith, le))

-- one rank more was given what its part had
pub rows_next : {Y : Type 0} (f : RankPart → Y) (xs : List RankPart) (bs ys : List Y) (us now : List RankPart) (r : ℕ) (d : RankPart) (y : Y)
    → ys ≡ take r (map f xs) ++ drop r bs → now ≡ take r us ++ drop r xs → r ≤ length us → r < length xs → r < length bs → y ≡ f (get_or now r d)
    → set ys r y ≡ take (r + 1) (map f xs) ++ drop (r + 1) bs
rows_next f xs bs ys us now r d y e i la lx lb is =
    let n = length-map xs f in
    let next : suc r ≡ r + 1 = omega arith in
    ap (λ z. set z r y) e
    ∙ (put_next (map f xs) bs r y y (omega (arith, lx, n)) lb
    (is ∙ (ap (λ z. f (get_or z r d)) i ∙ (ap f (next_is us xs r d d la lx) ∙ sym (get_or-map f xs r d y lx))))
    ∙ ap (λ m. take m (map f xs) ++ drop m bs) next)

-- one part more was given what its rank had
pub parts_next : (ms ps : List (Vec ℤ Global)) (xs : List RankPart) (us bs : List (Vec ℤ Global)) (ns qs : List (Vec ℤ Global))
    (now : List RankPart) (r : ℕ) (d : RankPart) (y : RankPart) (m p : Vec ℤ Global)
    → now ≡ take r (lent ms ps xs) ++ drop r xs → ns ≡ take r us ++ drop r ms → qs ≡ take r bs ++ drop r ps
    → r < length xs → length ms ≡ length xs → length ps ≡ length xs → length us ≡ length xs → length bs ≡ length xs
    → y ≡ with_parts (get_or now r d) (get_or ns r m) (get_or qs r p)
    → set now r y ≡ take (r + 1) (lent ms ps xs) ++ drop (r + 1) xs
parts_next ms ps xs us bs ns qs now r d y m p e f g lx lm lp la lb is =
    let n = lent_length ms ps xs lm lp in
    let next : suc r ≡ r + 1 = omega arith in
    ap (λ z. set z r y) e
    ∙ (put_next (lent ms ps xs) xs r y y (omega (arith, lx, n)) lx
    (is
    ∙ (ap (λ z. with_parts (get_or z r d) (get_or ns r m) (get_or qs r p)) e
    ∙ (ap (λ z. with_parts z (get_or ns r m) (get_or qs r p)) (next_is (lent ms ps xs) xs r d d (omega (arith, lx, n)) lx)
    ∙ (ap₂ (λ a b. with_parts (get_or xs r d) a b)
    (ap (λ z. get_or z r m) f ∙ next_is us ms r m m (omega (arith, lx, la)) (omega (arith, lx, lm)))
    (ap (λ z. get_or z r p) g ∙ next_is bs ps r p p (omega (arith, lx, lb)) (omega (arith, lx, lp)))
    ∙ sym (lent_at ms ps xs r y d m p (omega (arith, lx, lm)) (omega (arith, lx, lp)) lx)))))
    ∙ ap (λ j. take j (lent ms ps xs) ++ drop j xs) next)

-- the lists that all parts show
pub same_rows : (ys : List RankPart) → views.lists (map (λ (y : RankPart). y.memory) ys) ≡ map (λ (s : Share KernelFault). s.cells) (map share_in ys)
same_rows [] = refl
same_rows (y ∷ ys) = ap (λ z. y.memory.items ∷ z) (same_rows ys)

pub same_partials : (ys : List RankPart) → views.lists (map (λ (y : RankPart). y.partials) ys) ≡ map (λ (s : Share KernelFault). s.partials) (map share_in ys)
same_partials [] = refl
same_partials (y ∷ ys) = ap (λ z. y.partials.items ∷ z) (same_partials ys)

module _ (c : DistributedProgram) (k : ℕ) (vs : List ℤ) (ls : List (Vec ℕ Global)) (ms ps : List (Vec ℤ Global)) (xs : List RankPart) (st : State KernelFault)
    (memories : views.lists ms ≡ st.memories) (partials : views.lists ps ≡ st.partials) (variables : vs ≡ st.variables)
    (ranks : length xs ≡ length st.memories) (sized : Sized (setup_in c) (layout_in c) (tables_in c) st) where
  many : length ms ≡ length xs
  many = (let a = length-map ms (λ (v : Vec ℤ Global). v.items) in let b = ap length memories in omega (arith, a, b, ranks))

  as_many : length ps ≡ length xs
  as_many = (let a = length-map ps (λ (v : Vec ℤ Global). v.items) in let b = ap length partials in omega (arith, a, b, ranks, sized.ranks, sized.partials))

  pub lent_many : length (lent ms ps xs) ≡ length xs
  lent_many = lent_length ms ps xs many as_many

  memory_at : (r : ℕ) (d : Vec ℤ Global) → r < length xs → (get_or ms r d).items ≡ row st.memories r
  memory_at r d lt = sym (get_or-map (λ (v : Vec ℤ Global). v.items) ms r d [] (omega (arith, lt, many))) ∙ ap (λ (z : List (List ℤ)). row z r) memories

  partials_at : (r : ℕ) (d : Vec ℤ Global) → r < length xs → (get_or ps r d).items ≡ row st.partials r
  partials_at r d lt = sym (get_or-map (λ (v : Vec ℤ Global). v.items) ps r d [] (omega (arith, lt, as_many))) ∙ ap (λ (z : List (List ℤ)). row z r) partials

  -- each rank's elements can run
  pub can_all : length xs < 2 ^ 32 → length ls ≡ length xs
      → ((r : ℕ) → r < length xs → AllBegin (setup_in c) (layout_in c) (tables_in c) k r (places_on ls r))
      → All (HasSpare (tables_in c).stride) ms → All (λ (x : RankPart). HasRoomOf c x.room) xs
      → TakesEach (CanRunOn c k vs ls) 0 (lent ms ps xs)
  can_all few listed steps spare space = takes_all (CanRunOn c k vs ls) 0 (lent ms ps xs) at
    where
      at : (r : ℕ) (d : RankPart) → r < length (lent ms ps xs) → CanRunOn c k vs ls (0 + r) (get_or (lent ms ps xs) r d)
      at r d lt =
          let here : r < length xs = omega (arith, lt, lent_many) in
          let rank : r < (setup_in c).ranks = omega (arith, here, ranks, sized.ranks) in
          let none : r ≡ 0 + r = omega arith in
          subst (λ n. CanRunOn c k vs ls n (get_or (lent ms ps xs) r d)) none
          (subst (λ (x : RankPart). CanRunOn c k vs ls r x) (sym (lent_at ms ps xs r d d d.memory d.partials (omega (arith, here, many)) (omega (arith, here, as_many)) here))
          (record {
            few = omega (arith, here, few);
            listed = omega (arith, here, listed);
            steps = steps r here;
            variables = ap length variables ∙ sized.count;
            memory = ap length (memory_at r d.memory here) ∙ sized.widths r rank;
            spare = spare r d.memory (omega (arith, here, many));
            partials = ap length (partials_at r d.partials here) ∙ sized.slots r rank;
            space = space r d here;
          }))

  module _ (ys : List RankPart) (made : MadeEach (RanOn c k vs ls) 0 (lent ms ps xs) ys) where
    pub made_many : length ys ≡ length xs
    made_many = made_length (RanOn c k vs ls) 0 (lent ms ps xs) ys made ∙ lent_many

    -- each rank's elements ran
    pub ran_all : All (λ (x : RankPart). x.room.constants.items ≡ values_at st.variables (tables_in c).constants) xs
        → RanOnRanks (setup_in c) (layout_in c) (tables_in c) k (values_at st.variables (tables_in c).constants) st.variables (places_on ls) st (share_at (map share_in ys)) (length (map share_in ys))
    ran_all constants r lt = by_parts ys refl
      where
        by_parts : (zs : List RankPart) → ys ≡ zs → Reaches (setup_in c) (layout_in c) (tables_in c) k r
            (values_at st.variables (tables_in c).constants) st.variables (places_on ls r) (with_fault None (share_of r st))
            (length (places_on ls r)) (share_at (map share_in ys) r)
        by_parts [] e = absurd (let n = length-map ys share_in in let m = ap length e in omega (arith, lt, n, m))
        by_parts (d ∷ zs) e =
            let p = setup_in c in
            let l = layout_in c in
            let t = tables_in c in
            let n = length-map ys share_in in
            let here : r < length xs = omega (arith, lt, n, made_many) in
            let there : r < length ys = omega (arith, lt, n) in
            let x = get_or xs r d in
            let whole = λ (cs us : List ℤ) (a b : Share KernelFault). Reaches p l t k r cs us (places_on ls r) (with_fault None a) (length (places_on ls r)) b in
            let part : get_or (lent ms ps xs) r d ≡ with_parts x (get_or ms r d.memory) (get_or ps r d.partials) =
            lent_at ms ps xs r d d d.memory d.partials (omega (arith, here, many)) (omega (arith, here, as_many)) here in
            let ran : RanOn c k vs ls (0 + r) (get_or (lent ms ps xs) r d) (get_or ys r d) = made_at (RanOn c k vs ls) 0 (lent ms ps xs) ys made r d d (omega (arith, here, lent_many)) in
            let none : 0 + r ≡ r = omega arith in
            let it : RanOn c k vs ls r (with_parts x (get_or ms r d.memory) (get_or ps r d.partials)) (get_or ys r d) =
            subst (λ (z : RankPart). RanOn c k vs ls r z (get_or ys r d)) part
            (subst (λ n. RanOn c k vs ls n (get_or (lent ms ps xs) r d) (get_or ys r d)) none ran) in
            let share : (cells amounts : List ℤ) → cells ≡ row st.memories r → amounts ≡ row st.partials r
            → whole x.room.constants.items vs (record { cells = cells; partials = amounts; fault = None }) (share_in (get_or ys r d))
            → whole x.room.constants.items vs (share_of r st) (share_in (get_or ys r d)) =
            λ cells amounts a b h. subst (λ z. whole x.room.constants.items vs
            (record { cells = row st.memories r; partials = z; fault = None }) (share_in (get_or ys r d))) b
            (subst (λ z. whole x.room.constants.items vs (record { cells = z; partials = amounts; fault = None })
            (share_in (get_or ys r d))) a h) in
            let first : whole x.room.constants.items vs (share_of r st) (share_in (get_or ys r d)) =
            share (get_or ms r d.memory).items (get_or ps r d.partials).items (memory_at r d.memory here) (partials_at r d.partials here) it.reaches in
            subst (whole (values_at st.variables t.constants) st.variables (share_of r st)) (sym (get_or-map share_in ys r d (record { cells = []; partials = []; fault = None }) there))
            (subst (λ us. whole (values_at st.variables t.constants) us (share_of r st) (share_in (get_or ys r d))) variables
            (subst (λ cs. whole cs vs (share_of r st) (share_in (get_or ys r d))) (constants r d here) first))

    -- the memories have spare capacity
    pub spare_all : (stride : ℕ) → stride ≡ (tables_in c).stride → All (HasSpare stride) (map (λ (y : RankPart). y.memory) ys)
    spare_all stride e r d lt = by_parts ys refl
      where
        by_parts : (zs : List RankPart) → ys ≡ zs → HasSpare stride (get_or (map (λ (y : RankPart). y.memory) ys) r d)
        by_parts [] i = absurd (let n = length-map ys (λ (y : RankPart). y.memory) in let m = ap length i in omega (arith, lt, n, m))
        by_parts (z ∷ zs) i =
            let n = length-map ys (λ (y : RankPart). y.memory) in
            let there : r < length ys = omega (arith, lt, n) in
            subst (HasSpare stride) (sym (get_or-map (λ (y : RankPart). y.memory) ys r z d there))
            (subst (λ s. HasSpare s (get_or ys r z).memory) (sym e) (made_at (RanOn c k vs ls) 0 (lent ms ps xs) ys made r z z (omega (arith, there, made_many, lent_many))).spare)

    -- and the parts have room
    pub space_all : (ns qs : List (Vec ℤ Global)) → length ns ≡ length ys → length qs ≡ length ys → All (λ (x : RankPart). HasRoomOf c x.room) (lent ns qs ys)
    space_all ns qs a b r d lt =
        let whole = lent_length ns qs ys a b in
        let there : r < length ys = omega (arith, lt, whole) in
        subst (λ (x : RankPart). HasRoomOf c x.room) (sym (lent_at ns qs ys r d d d.memory d.partials (omega (arith, there, a)) (omega (arith, there, b)) there))
        (made_at (RanOn c k vs ls) 0 (lent ms ps xs) ys made r d d (omega (arith, there, made_many, lent_many))).space
