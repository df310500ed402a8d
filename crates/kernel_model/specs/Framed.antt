-- What a frame holds: one array, and for each argument the place of its cells.
use Rattle.std.specs.Prelude.{ℕ, ◌+◌, ◌<◌, ◌≤◌, List, [], ◌∷◌, length, map, get_or}
use Rattle.kernel_model.specs.Stores.{Store, Target}
use Rattle.kernel_model.specs.declared.types.views.frame.Place.{Place}
use Rattle.kernel_model.specs.declared.types.views.frame.Frame.{Frame}

-- a place as the target of an argument
abbrev pub target_of : Place → Target
target_of p = record { array = 0; from = p.from; count = p.count }

-- the frame's cells as a store of one array
abbrev pub windows_of : Frame → Store
windows_of f = f.cells.now ∷ []

-- the targets of the frame's arguments
abbrev pub targets_of : Frame → List Target
targets_of f = map target_of f.places.now

-- what stands for an argument that is not there
abbrev pub no_place : Place
no_place = record { from = 0; count = 0 }

-- the places stand within the buffer
abbrev pub PlacesIn : ℕ → List Place → Type 0
PlacesIn n ps = (a : ℕ) → a < length ps → (get_or ps a no_place).from + (get_or ps a no_place).count ≤ n

-- the frame's places stand within its buffer
abbrev pub FitsIn : Frame → Type 0
FitsIn f = PlacesIn (length f.cells.now) f.places.now
