-- The elements of one item on all ranks, each rank's by themselves on what is lent of it.
use Rattle.std.specs.Prelude.{◌≡◌, ◌<◌, ◌^◌, ℕ, ℤ, List, [], ◌∷◌, map, length, get_or, Option, None, Vec}
use Rattle.std.specs.declared.alloc.Global.{Global}
use Rattle.par_exec.specs.Parts.{MadeEach}
use Rattle.kernel_model.specs.declared.types.faults.KernelFault.{KernelFault}
use Rattle.schedule_model.specs.Sequential.{Stop}
use Rattle.schedule_model.specs.Setup.{Setup}
use Rattle.schedule_model.specs.Layout.{Layout}
use Rattle.rank_state.specs.Machine.{State}
use Rattle.rank_state.specs.Shows.{Tables}
use Rattle.rank_state.specs.Spare.{HasSpare}
use Rattle.rank_state.specs.Stops.{stop_in}
use Rattle.rank_program.specs.declared.program.DistributedProgram.{DistributedProgram}
use Rattle.rank_program.specs.AloneRuns.{AllBegin, Share, Reaches, share_of}
use Rattle.rank_program.specs.FromNone.{kept_both, with_fault}
use Rattle.rank_program.specs.Rooms.{HasRoomOf}
use Rattle.rank_program.specs.Sound.{setup_in, layout_in, tables_in}
use Rattle.rank_machine.specs.declared.ranks.RankPart.{RankPart}

-- the places on a rank, in lists by rank
abbrev pub places_on : List (Vec ℕ Global) → ℕ → List ℕ
places_on lists r = get_or (map (λ v. v.items) lists) r []

-- what the part shows
abbrev pub share_in : RankPart → Share KernelFault
share_in x = record { cells = x.memory.items; partials = x.partials.items; fault = stop_in x.fault }

-- each part with the memory and the partials of its rank
abbrev pub lent : List (Vec ℤ Global) → List (Vec ℤ Global) → List RankPart → List RankPart
lent [] ps xs = []
lent (m ∷ ms) [] xs = []
lent (m ∷ ms) (p ∷ ps) [] = []
lent (m ∷ ms) (p ∷ ps) (x ∷ xs) = record x { memory = m; partials = p } ∷ lent ms ps xs

module _ (c : DistributedProgram) (k : ℕ) (vs : List ℤ) (lists : List (Vec ℕ Global)) where
  -- the rank's elements can run on the part
  pub record CanRunOn (r : ℕ) (x : RankPart) : Type 0 where
    pub few : r < 2 ^ 32
    pub listed : r < length lists
    pub steps : AllBegin (setup_in c) (layout_in c) (tables_in c) k r (places_on lists r)
    pub variables : length vs ≡ (layout_in c).variables
    pub memory : length x.memory.items ≡ (layout_in c).width r
    pub spare : HasSpare (tables_in c).stride x.memory
    pub partials : length x.partials.items ≡ (tables_in c).slots
    pub space : HasRoomOf c x.room

  -- they ran on it one after another, from no fault on
  pub record RanOn (r : ℕ) (old new : RankPart) : Type 0 where
    pub reaches : Reaches (setup_in c) (layout_in c) (tables_in c) k r old.room.constants.items vs (places_on lists r)
        (with_fault None (share_in old)) (length (places_on lists r)) (share_in new)
    pub spare : HasSpare (tables_in c).stride new.memory
    pub space : HasRoomOf c new.room

-- the faults of all ranks, put together with the one that was kept
abbrev pub kept_of_all : {F : Type 0} → Option (Stop F) → List (Share F) → Option (Stop F)
kept_of_all o [] = o
kept_of_all o (s ∷ ss) = kept_of_all (kept_both o s.fault) ss

-- the elements ran on parts that were lent what the ranks have; the ranks have what these left, and the faults are put together
pub record RanLent (c : DistributedProgram) (k : ℕ) (vs : List ℤ) (lists : List (Vec ℕ Global))
    (ms ps : List (Vec ℤ Global)) (xs : List RankPart) (fault : Option (Stop KernelFault))
    (ns qs : List (Vec ℤ Global)) (ys : List RankPart) (kept : Option (Stop KernelFault)) : Type 0 where
  pub left : List RankPart
  pub made : MadeEach (RanOn c k vs lists) 0 (lent ms ps xs) left
  pub memories : ns ≡ map (λ x. x.memory) left
  pub partials : qs ≡ map (λ x. x.partials) left
  pub parts : ys ≡ lent (map (λ x. x.memory) xs) (map (λ x. x.partials) xs) left
  pub fault_is : kept ≡ kept_of_all fault (map share_in left)

-- on each of the first n ranks the elements at its places ran, from no fault
abbrev pub RanOnRanks : {F : Type 0} → (p : Setup F) → (l : Layout F) → (t : Tables) → (k : ℕ) → (cs vs : List ℤ)
    → (places : ℕ → List ℕ) → State F → (ℕ → Share F) → ℕ → Type 0
RanOnRanks p l t k cs vs places old new n =
    (r : ℕ) → r < n → Reaches p l t k r cs vs (places r) (with_fault None (share_of r old)) (length (places r)) (new r)

-- a rank's share in a list of all
abbrev pub share_at : {F : Type 0} → List (Share F) → ℕ → Share F
share_at news r = get_or news r (record { cells = []; partials = []; fault = None })

-- the state in which all ranks have these shares
abbrev pub with_shares : {F : Type 0} → List (Share F) → State F → State F
with_shares news st =
    record st { memories = map (λ s. s.cells) news; partials = map (λ s. s.partials) news; fault = kept_of_all st.fault news }
