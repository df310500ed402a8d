-- One item's steps: which are taken.
use Rattle.std.specs.Prelude.{◌≡◌, ◌<◌, ◌==◌, ◌&&◌, ◌^◌, nat_lt, cond, ℕ, suc, Bool, true, false, List, [], ◌∷◌, get_or, length, MatchBool}
use Rattle.step_judge.specs.Marks.{Marks, no_marks}
use Rattle.step_judge.specs.Run.{Run, MayBegin, AllEnded, core_at}

-- which steps of one item are taken: its messages and places where it is Free, else its join
pub record Item : Type 0 where
  pub free : Bool
  pub joined : Bool
  pub sends : Marks  -- pair: its sender
  pub receipts : Marks  -- pair: its receiver
  pub ranks : List Run

-- a rank without places
abbrev pub no_run : Run
no_run = record { size = 1; begun = []; blocks = []; colours = no_marks; core = [] }

-- the places of a rank
abbrev pub run_at : Item → ℕ → Run
run_at w r = get_or w.ranks r no_run

-- the first pair with this sender and this receiver, or the number of pairs
abbrev pub pair_at : List ℕ → List ℕ → ℕ → ℕ → ℕ
pair_at [] ts s r = 0
pair_at (f ∷ fs) [] s r = 0
pair_at (f ∷ fs) (t ∷ ts) s r = cond ((f == s) && (t == r)) 0 (suc (pair_at fs ts s r))

-- the number of the message from s to r among those of the item
abbrev pub place_of : Item → ℕ → ℕ → ℕ
place_of w s r = pair_at w.sends.of w.receipts.of s r

-- whether the item has a message from s to r
abbrev pub linked : Item → ℕ → ℕ → Bool
linked w s r = nat_lt (place_of w s r) (length w.sends.of)

-- whether the send of the message is taken
abbrev pub sent : Item → ℕ → ℕ → Bool
sent w s r = get_or w.sends.done (place_of w s r) false

-- whether the receive of the message is taken
abbrev pub received : Item → ℕ → ℕ → Bool
received w s r = get_or w.receipts.done (place_of w s r) false

-- all sends of the rank are taken
abbrev pub AllSent : Item → ℕ → Type 0
AllSent w x = (r : ℕ) → linked w x r ≡ true → sent w x r ≡ true

-- all receives of the rank are taken
abbrev pub AllReceived : Item → ℕ → Type 0
AllReceived w x = (s : ℕ) → linked w s x ≡ true → received w s x ≡ true

-- each step of the rank in this item is taken; a join is a step of every rank
abbrev pub Complete : Item → ℕ → Type 0
Complete w x = MatchBool w.free (AllSent w x × AllReceived w x × AllEnded (run_at w x)) (w.joined ≡ true)

-- what has to come before in this item is taken
abbrev pub MayGo : Item → ℕ → ℕ → Type 0
MayGo w x p = AllSent w x × (core_at (run_at w x) p ≡ false → AllReceived w x) × MayBegin (run_at w x) p

-- the pairs are few, have marks on both sides, and none stands twice
pub record Paired (w : Item) : Type 0 where
  pub both : length w.receipts.of ≡ length w.sends.of
  pub sent_each : length w.sends.done ≡ length w.sends.of
  pub received_each : length w.receipts.done ≡ length w.sends.of
  pub fits : length w.sends.of < 2 ^ 32
  -- no pair stands twice
  pub apart : (i : ℕ) → i < length w.sends.of → place_of w (get_or w.sends.of i 0) (get_or w.receipts.of i 0) ≡ i
