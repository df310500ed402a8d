-- An unread letter that moves down, and its cells with it.
use Rattle.std.proofs.Common.{◌≡◌, ℕ, suc, ℤ, ◌+◌, ◌<◌, ◌≤◌, true, false, cond, List, [], ◌∷◌, ◌++◌, length, take, drop, get_or, set, refl, sym, ap, ap₂, ◌∙◌, arith, subst, drop-cons, take-suc-set, append_assoc}
use Rattle.std.proofs.lemmas.List.{drop-set-lt, length-take-le}
use Rattle.std.proofs.Math.Seq.{take-append_seam, drop-append_seam, paste}
use Rattle.rank_state.specs.declared.rank_memory.mail.Letter.{Letter}
use Rattle.rank_state.specs.Spans.{cells_at}
use Rattle.rank_state.specs.Letters.{post_with, post_of, posts_in, unread_cells, InOrder, no_letter}
use Rattle.rank_state.proofs.rank_memory.Letters.{order_append, order_lower, order_within, unread_append, posts_append, front_same, behind_same}

-- cells that were copied to a place
pub paste_front : (d : List ℤ) (at : ℕ) (s : List ℤ) (n : ℕ) → at ≤ length d → take at (paste d at s n) ≡ take at d
paste_front d at s n h =
    ap (take at) (append_assoc (take at d) (take n s) (drop (at + n) d))
    ∙ ap (λ k. take k (take at d ++ (take n s ++ drop (at + n) d))) (sym (length-take-le at d h))
    ∙ take-append_seam (take at d) (take n s ++ drop (at + n) d)

pub paste_here : (d : List ℤ) (at : ℕ) (s : List ℤ) (n : ℕ) → at ≤ length d → n ≤ length s → cells_at at n (paste d at s n) ≡ take n s
paste_here d at s n h k =
    ap (cells_at at n) (append_assoc (take at d) (take n s) (drop (at + n) d))
    ∙ ap (λ j. take n (drop j (take at d ++ (take n s ++ drop (at + n) d)))) (sym (length-take-le at d h))
    ∙ ap (take n) (drop-append_seam (take at d) (take n s ++ drop (at + n) d))
    ∙ ap (λ j. take j (take n s ++ drop (at + n) d)) (sym (length-take-le n s k))
    ∙ take-append_seam (take n s) (drop (at + n) d)

-- a letter, with its cells at another place
abbrev pub placed : ℕ → Letter → Letter
placed a l = record { item = l.item; from = l.from; to = l.to; at = a; count = l.count; is_read = l.is_read }

pub here : (i : ℕ) (ls : List Letter) (a b : ℕ) → i < length ls → InOrder a b (drop i ls) → InOrder a b (get_or ls i no_letter ∷ drop (suc i) ls)
here i ls a b h o = subst (InOrder a b) (drop-cons ls i no_letter h) o

pub ends_inside : (i : ℕ) (ls : List Letter) (a b : ℕ) → i < length ls → InOrder a b (drop i ls)
    → (a ≤ (get_or ls i no_letter).at) × ((get_or ls i no_letter).at + (get_or ls i no_letter).count ≤ b)
ends_inside i ls a b h o =
    let q = here i ls a b h o in (q.0, order_within ((get_or ls i no_letter).at + (get_or ls i no_letter).count) b (drop (suc i) ls) q.2)

-- the letters in front of the place, and the one that moved there
pub order_done : (i j a : ℕ) (ls : List Letter) (b : ℕ) → i < length ls → j ≤ i → InOrder 0 a (take j ls) → InOrder a b (drop i ls)
    → InOrder 0 (a + (get_or ls i no_letter).count) (take (suc j) (set ls j (placed a (get_or ls i no_letter))))
order_done i j a ls b h le front back =
    let q = here i ls a b h back in
    subst (InOrder 0 (a + (get_or ls i no_letter).count)) (sym (take-suc-set ls j (placed a (get_or ls i no_letter)) (omega arith)))
    (order_append 0 a (a + (get_or ls i no_letter).count) (take j ls) (placed a (get_or ls i no_letter) ∷ []) front (omega arith, q.1, omega arith))

pub behind : (i j : ℕ) (ls : List Letter) (l : Letter) → j ≤ i → drop (suc i) (set ls j l) ≡ drop (suc i) ls
behind i j ls l h = drop-set-lt (suc i) ls j l (omega arith)

pub order_rest : (i a b c : ℕ) (ls : List Letter) → i < length ls → b ≡ c → InOrder a b (drop i ls) → InOrder (a + (get_or ls i no_letter).count) c (drop (suc i) ls)
order_rest i a b c ls h e back =
    let q = here i ls a b h back in
    subst (λ n. InOrder (a + (get_or ls i no_letter).count) n (drop (suc i) ls)) e
    (order_lower ((get_or ls i no_letter).at + (get_or ls i no_letter).count) b (a + (get_or ls i no_letter).count) (drop (suc i) ls) (omega (arith, q.0)) q.2)

unread_one : (l : Letter) → l.is_read ≡ false → unread_cells (l ∷ []) ≡ l.count
unread_one l e = rw e (omega arith)

pub unread_done : (i j a : ℕ) (ls : List Letter) → i < length ls → j ≤ i → (get_or ls i no_letter).is_read ≡ false
    → unread_cells (take (suc j) (set ls j (placed a (get_or ls i no_letter)))) ≡ unread_cells (take j ls) + (get_or ls i no_letter).count
unread_done i j a ls h le e =
    ap unread_cells (take-suc-set ls j (placed a (get_or ls i no_letter)) (omega arith))
    ∙ unread_append (take j ls) (placed a (get_or ls i no_letter) ∷ [])
    ∙ ap (λ n. unread_cells (take j ls) + n) (unread_one (placed a (get_or ls i no_letter)) e)

posts_one : (l : Letter) (ls : List Letter) (cs : List ℤ) → l.is_read ≡ false → posts_in (l ∷ ls) cs ≡ post_of l cs ∷ posts_in ls cs
posts_one l ls cs e = rw e refl

pub posts_moved : (i j a b : ℕ) (ls : List Letter) (cs ds : List ℤ) → i < length ls → j ≤ i → (get_or ls i no_letter).is_read ≡ false
    → InOrder 0 a (take j ls) → InOrder a b (drop i ls)
    → take a ds ≡ take a cs → cells_at a (get_or ls i no_letter).count ds ≡ cells_at (get_or ls i no_letter).at (get_or ls i no_letter).count cs
    → drop (a + (get_or ls i no_letter).count) ds ≡ drop (a + (get_or ls i no_letter).count) cs
    → posts_in (take (suc j) (set ls j (placed a (get_or ls i no_letter)))) ds ++ posts_in
    (drop (suc i) (set ls j (placed a (get_or ls i no_letter)))) ds ≡ posts_in (take j ls) cs ++ posts_in (drop i ls) cs
posts_moved i j a b ls cs ds h le e front back before middle after =
    let l = get_or ls i no_letter in
    let rest = drop (suc i) ls in
    let first : posts_in (take (suc j) (set ls j (placed a (get_or ls i no_letter)))) ds ≡ posts_in (take j ls) cs ++ post_of (get_or ls i no_letter) cs ∷ [] =
    ap (λ ks. posts_in ks ds) (take-suc-set ls j (placed a (get_or ls i no_letter)) (omega arith))
    ∙ posts_append (take j ls) (placed a (get_or ls i no_letter) ∷ []) ds
    ∙ ap₂ ◌++◌ (front_same a (take j ls) ds cs front before)
    (posts_one (placed a (get_or ls i no_letter)) [] ds e ∙ ap (λ vs. post_with (get_or ls i no_letter) vs ∷ []) middle) in
    let second : posts_in (drop (suc i) (set ls j (placed a (get_or ls i no_letter)))) ds ≡ posts_in (drop (suc i) ls) cs =
    ap (λ ks. posts_in ks ds) (behind i j ls (placed a (get_or ls i no_letter)) le)
    ∙ behind_same (a + (get_or ls i no_letter).count) b (drop (suc i) ls) ds cs (order_rest i a b b ls h refl back) after in
    ap₂ ◌++◌ first second
    ∙ append_assoc (posts_in (take j ls) cs) (post_of (get_or ls i no_letter) cs ∷ []) (posts_in (drop (suc i) ls) cs)
    ∙ ap (λ ps. posts_in (take j ls) cs ++ ps) (sym (posts_one (get_or ls i no_letter) (drop (suc i) ls) cs e) ∙ ap (λ ks. posts_in ks cs) (sym (drop-cons ls i no_letter h)))

-- a pass over the letters that has come to one of them
pub record Halfway (all : List Letter) (before : List ℤ) (kept i a : ℕ) (ls : List Letter) (cs : List ℤ) : Type 0 where
  pub moved : kept ≤ i
  pub done : InOrder 0 a (take kept ls)
  pub rest : InOrder a (length cs) (drop i ls)
  pub filled : unread_cells (take kept ls) ≡ a
  pub unread : a + unread_cells (drop i ls) ≡ unread_cells all
  pub posts : posts_in (take kept ls) cs ++ posts_in (drop i ls) cs ≡ posts_in all before

pub start : (all : List Letter) (before : List ℤ) → InOrder 0 (length before) all → Halfway all before 0 0 0 all before
start all before h = record { moved = omega arith; done = omega arith; rest = h; filled = refl; unread = omega arith; posts = refl }

-- the letter was read: it is left out
pub passed : (all : List Letter) (before : List ℤ) (kept i n a : ℕ) (ls : List Letter) (cs : List ℤ) → n ≡ suc i → i < length ls → (get_or ls i no_letter).is_read ≡ true
    → Halfway all before kept i a ls cs → Halfway all before kept n a ls cs
passed all before kept i n a ls cs e h r w =
    let q = here i ls a (length cs) h w.rest in
    let split = drop-cons ls i no_letter h in
    let fewer : unread_cells (drop i ls) ≡ unread_cells (drop (suc i) ls) = ap unread_cells split
    ∙ ap (λ b. cond b (unread_cells (drop (suc i) ls)) ((get_or ls i no_letter).count + unread_cells (drop (suc i) ls))) r in
    let same : posts_in (drop i ls) cs ≡ posts_in (drop (suc i) ls) cs = ap (λ ks. posts_in ks cs) split
    ∙ ap (λ b. cond b (posts_in (drop (suc i) ls) cs) (post_of (get_or ls i no_letter) cs ∷ posts_in (drop (suc i) ls) cs)) r in
    subst (λ m. Halfway all before kept m a ls cs) (sym e) (record {
      moved = omega (arith, w.moved);
      done = w.done;
      rest = order_lower ((get_or ls i no_letter).at + (get_or ls i no_letter).count) (length cs) a (drop (suc i) ls) (omega (arith, q.0)) q.2;
      filled = w.filled;
      unread = omega (arith, w.unread);
      posts = ap (λ ps. posts_in (take kept ls) cs ++ ps) (sym same) ∙ w.posts;
    })

-- the letter was unread: it moved
pub moved_on : (all : List Letter) (before : List ℤ) (kept k i n a b : ℕ) (ls ks : List Letter) (cs ds : List ℤ) → k ≡ suc kept → n ≡ suc i → i < length ls → (get_or ls i no_letter).is_read ≡ false
    → Halfway all before kept i a ls cs → b ≡ a + (get_or ls i no_letter).count → InOrder 0 b (take (suc kept) ks) → InOrder b (length ds) (drop (suc i) ks)
    → unread_cells (take (suc kept) ks) ≡ unread_cells (take kept ls) + (get_or ls i no_letter).count → drop (suc i) ks ≡ drop (suc i) ls
    → posts_in (take (suc kept) ks) ds ++ posts_in (drop (suc i) ks) ds ≡ posts_in (take kept ls) cs ++ posts_in (drop i ls) cs
    → Halfway all before k n b ks ds
moved_on all before kept k i n a b ls ks cs ds f e h r w sum front back more after same =
    let here : unread_cells (drop i ls) ≡ (get_or ls i no_letter).count + unread_cells (drop (suc i) ls) =
    ap unread_cells (drop-cons ls i no_letter h) ∙ ap (λ t. cond t (unread_cells (drop (suc i) ls)) ((get_or ls i no_letter).count + unread_cells (drop (suc i) ls))) r in
    let later : unread_cells (drop (suc i) ks) ≡ unread_cells (drop (suc i) ls) = ap unread_cells after in
    subst (λ m. Halfway all before m n b ks ds) (sym f) (subst (λ m. Halfway all before (suc kept) m b ks ds) (sym e) (record {
      moved = omega (arith, w.moved);
      done = front;
      rest = back;
      filled = omega (arith, w.filled);
      unread = omega (arith, w.unread);
      posts = same ∙ w.posts;
    }))
