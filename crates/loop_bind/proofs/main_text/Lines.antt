-- A text of `op_printf`, read byte by byte.
use Rattle.std.proofs.Common.{◌≡◌, ℕ, ◌+◌, ◌<◌, Bool, true, false, List, [], ◌∷◌, drop, length, get_or, Option, Some, None, nat_eq, refl, sym, ap, arith}
use Rattle.std.proofs.lemmas.List.{get_or_default}
use Rattle.std.specs.Prelude.{if◌then◌else◌}
use Rattle.mesh_decl.specs.Printed.{one_more, conversions}
use Rattle.lemmas.proofs.Lists.{drop_here}

-- behind an open `%`
abbrev pub behind : List ℕ → Option ℕ
behind [] = None
behind (d ∷ ds) = if nat_eq d 100 then one_more (conversions ds) else (if nat_eq d 37 then conversions ds else None)

abbrev pub rest : Bool → List ℕ → Option ℕ
rest true cs = behind cs
rest false cs = conversions cs

-- so many more
abbrev pub added : ℕ → Option ℕ → Option ℕ
added n None = None
added n (Some m) = Some (n + m)

pub added-one : (n : ℕ) (r : Option ℕ) → added n (one_more r) ≡ added (n + 1) r
added-one n None = refl
added-one n (Some m) = ap (λ x. Some x) (omega arith)

pub conversions-cons : (c : ℕ) (ds : List ℕ) → conversions (c ∷ ds) ≡ (if nat_eq c 37 then behind ds else conversions ds)
conversions-cons c [] = refl
conversions-cons c (d ∷ ds) = refl

-- the text from a byte on is that byte and what follows
here : (cs : List ℕ) (k : ℕ) → k < length cs → drop k cs ≡ get_or cs k 0 ∷ drop (k + 1) cs
here cs k h = drop_here cs k (get_or cs k 0) h (get_or_default cs k 0 (get_or cs k 0) h)

pub closes_two : (n k : ℕ) (cs : List ℕ) → k < length cs → get_or cs k 0 ≡ 100 → added (n + 1) (conversions (drop (k + 1) cs)) ≡ added n (behind (drop k cs))
closes_two n k cs h t = rw (here cs k h, t) (sym (added-one n (conversions (drop (k + 1) cs))))

pub closes_one : (n k : ℕ) (cs : List ℕ) → k < length cs → get_or cs k 0 ≡ 37 → added n (conversions (drop (k + 1) cs)) ≡ added n (behind (drop k cs))
closes_one n k cs h t = rw (here cs k h, t) refl

pub closes_none : (n k : ℕ) (cs : List ℕ) (c : ℕ) → k < length cs → c ≡ get_or cs k c → nat_eq c 100 ≡ false → nat_eq c 37 ≡ false → added n (behind (drop k cs)) ≡ None
closes_none n k cs c h g t u = rw (drop_here cs k c h g, t, u) refl

pub opens : (n k : ℕ) (cs : List ℕ) → k < length cs → added n (rest (nat_eq (get_or cs k 0) 37) (drop (k + 1) cs)) ≡ added n (conversions (drop k cs))
opens n k cs h = rw (here cs k h, conversions-cons (get_or cs k 0) (drop (k + 1) cs)) (by (nat_eq (get_or cs k 0) 37))
  where
    by : (b : Bool) → added n (rest b (drop (k + 1) cs)) ≡ added n (if b then behind (drop (k + 1) cs) else conversions (drop (k + 1) cs))
    by true = refl
    by false = refl

pub added_zero : (r : Option ℕ) → added 0 r ≡ r
added_zero None = refl
added_zero (Some m) = ap (λ x. Some x) (omega arith)
