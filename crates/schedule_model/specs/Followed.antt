-- What of the flat machine's state depends on its steps alone.
use Rattle.std.specs.Prelude.{ℕ, Bool, true, false, List, map}
use Rattle.schedule_model.specs.Flat.{Pane, Shut_pane, Post, Flat}

-- the element has no frame
abbrev pub is_shut : Pane → Bool
is_shut Shut_pane = true
is_shut _ = false

-- the items of the messages from s to r, the oldest first
abbrev pub queue_of : {F : Type 0} → Flat F → ℕ → ℕ → List ℕ
queue_of f s r = map (λ (y : Post). y.about) (f.mail s r)
