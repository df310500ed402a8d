-- The line of the item.
use Rattle.std.proofs.Common.{◌≡◌, ℕ, ◌<◌, ◌^◌, refl, sym, ap, subst, ◌∙◌, arith, List, ◌++◌, length, Option, Some, None}
use Rattle.std.specs.Prelude.{codes}
use Rattle.std.specs.Fmt.{decimal}
use Rattle.std.proofs.lemmas.List.{append_cancel_left}
use Rattle.op_num.specs.Spelling.{number_of}
use Rattle.op_num.specs.CutLines.{HasNoLf, Unread, Takes}
use Rattle.bound_program.specs.Values.{BoundValue}
use Rattle.checkpoint.specs.Cut.{CanCut}
use Rattle.checkpoint.specs.Reading.{Item, IsItem, Refuses}
use Rattle.checkpoint.proofs.state_texts.OneLine.{no_line, line_is, same_front, item_front, item_is_line}

-- what `number_is_read` says
abbrev pub NumbersAreRead : Type 0
NumbersAreRead = (n : ℕ) → n < 2 ^ 64 → number_of (decimal n) ≡ Some n

abbrev or_zero : Option ℕ → ℕ
or_zero None = 0
or_zero (Some n) = n

-- numbers differ by their digits
pub decimal_one : NumbersAreRead → (m n : ℕ) → m < 2 ^ 64 → n < 2 ^ 64 → decimal m ≡ decimal n → m ≡ n
decimal_one read m n l g e = ap or_zero (sym (read m l) ∙ (ap number_of e ∙ read n g))

module _ (b : BoundValue) (old : Unread) where
  pub item_missing : HasNoLf old.rest → Refuses b Item old.rest 2
  item_missing h = (refl, λ k line more i e. no_line old.rest line more h (item_is_line k line i.is) e)

  module _ (new : Unread) (front : List ℕ) (t : Takes old new front) where
    front_is : (k : ℕ) (line more : List ℕ) → IsItem b k line → old.rest ≡ line ++ more → front ≡ codes "item " ++ decimal k
    front_is k line more i e =
        same_front front (codes "item " ++ decimal k) (sym (line_is old new front line more t (item_is_line k line i.is) e) ∙ (i.is ∙ item_front k))

    pub item_other : length b.trace < 2 ^ 32 → ((k : ℕ) → k < 2 ^ 32 → front ≡ codes "item " ++ decimal k → ⊥) → Refuses b Item old.rest 2
    item_other few h = (refl, λ k line more i e. h k (let l = i.can_cut.within in omega arith) (front_is k line more i e))

    pub item_uncut : length b.trace < 2 ^ 32 → NumbersAreRead → (item : ℕ) → item < 2 ^ 64 → front ≡ codes "item " ++ decimal item → (CanCut b item → ⊥) → Refuses b Item old.rest 2
    item_uncut few read item small is uncut = (
      refl,
      λ k line more i e. (
          let same : k ≡ item = decimal_one read k item (let l = i.can_cut.within in omega arith) small
          (append_cancel_left (codes "item ") (decimal k) (decimal item) (sym (front_is k line more i e) ∙ is)) in
          uncut (subst (CanCut b) same i.can_cut)),
    )
