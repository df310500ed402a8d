-- How the program keeps the unread messages: heads, some of which were read, and one buffer of cells.
use Rattle.std.specs.Prelude.{ℕ, suc, ℤ, ◌<◌, ◌≤◌, ◌+◌, ◌==◌, ◌&&◌, cond, Bool, true, false, List, [], ◌∷◌, get_or}
use Rattle.rank_state.specs.Mail.{Post}
use Rattle.rank_state.specs.Spans.{cells_at}
use Rattle.rank_state.specs.declared.rank_memory.mail.Letter.{Letter}

-- a message, by its head and its cells
abbrev pub post_with : Letter → List ℤ → Post
post_with l values = record { item = l.item; from = l.from; to = l.to; values = values }

-- the message of a head, with its cells of the buffer
abbrev pub post_of : Letter → List ℤ → Post
post_of l cells = post_with l (cells_at l.at l.count cells)

-- the unread messages
abbrev pub posts_in : List Letter → List ℤ → List Post
posts_in [] cells = []
posts_in (l ∷ ls) cells = cond l.is_read (posts_in ls cells) (post_of l cells ∷ posts_in ls cells)

-- how many cells the unread messages have
abbrev pub unread_cells : List Letter → ℕ
unread_cells [] = 0
unread_cells (l ∷ ls) = cond l.is_read (unread_cells ls) (l.count + unread_cells ls)

-- the cells of the messages stand one message's behind the other's, between two places, and no message is empty
abbrev pub InOrder : ℕ → ℕ → List Letter → Type 0
InOrder a b [] = a ≤ b
InOrder a b (l ∷ ls) = (a ≤ l.at) × (0 < l.count) × InOrder (l.at + l.count) b ls

-- whether a head is that of an unread message from s to r
abbrev pub letter_of : ℕ → ℕ → Letter → Bool
letter_of s r l = cond l.is_read false ((l.from == s) && (l.to == r))

-- the place of the oldest unread letter of a pair among all letters
abbrev pub index_of : ℕ → ℕ → List Letter → ℕ
index_of s r [] = 0
index_of s r (l ∷ ls) = cond (letter_of s r l) 0 (suc (index_of s r ls))

-- a letter that isn't there
abbrev pub no_letter : Letter
no_letter = record { item = 0; from = 0; to = 0; at = 0; count = 0; is_read = false }

-- the oldest unread letter of a pair
abbrev pub found : ℕ → ℕ → List Letter → Letter
found s r ls = get_or ls (index_of s r ls) no_letter

-- a letter, once it is read
abbrev pub read_of : Letter → Letter
read_of l = record { item = l.item; from = l.from; to = l.to; at = l.at; count = l.count; is_read = true }
