-- Numbers of digits.
use Rattle.std.proofs.Common.{◌≡◌, ℕ, suc, ◌+◌, ◌-◌, ◌*◌, ◌^◌, ◌<◌, true, List, [], ◌∷◌, ◌++◌, length, get_or, drop, Option, refl, ap, sym, ◌∙◌, arith, add-one}
use Rattle.std.proofs.Math.Seq.{drop-cons, drop-length}
use Rattle.std.proofs.Math.Nat.{pow-suc}
use Rattle.std.proofs.lemmas.List.{get_or-take, length-take-le}
use Rattle.std.proofs.lemmas.List.Sums.{prefix_len_passes, prefix_len-le-length}
use Rattle.std.specs.Char.{is_ascii_digit}
use Rattle.std.specs.List.{All, prefix_len}
use Rattle.gmsh_text.specs.Bounded.{bounded}
use Rattle.gmsh_text.specs.Decimal.{number_from, front}

-- the digits before place i, after those of n, spell some number, which is the value while it fits 64 bits
pub record IsSoFar (n : ℕ) (text : List ℕ) (i : ℕ) (value : Option ℕ) : Type 0 where
  pub number : ℕ
  pub rest : number_from number (drop i text) ≡ number_from n text
  pub fits : value ≡ bounded number

pub from-drop : (n : ℕ) (text : List ℕ) (i : ℕ) → i < length text → number_from n (drop i text) ≡ number_from (n * 10 + (get_or text i 0 - 48)) (drop (i + 1) text)
unfolding number_from
from-drop n text i h = rw add-one (ap (number_from n) (drop-cons text i 0 h))

pub from-none : (n : ℕ) (text : List ℕ) → number_from n (drop (length text) text) ≡ n
unfolding number_from
from-none n text = ap (number_from n) (drop-length text)

-- digits after those of n: n stands in front of them
pub from-front : (n : ℕ) (ds : List ℕ) → number_from n ds ≡ n * 10 ^ length ds + number_from 0 ds
unfolding number_from
from-front n [] = omega arith
from-front n (d ∷ ds) =
    let a = from-front (n * 10 + (d - 48)) ds in
    let b = from-front (0 * 10 + (d - 48)) ds in
    let p : 10 ^ suc (length ds) ≡ 10 ^ length ds * 10 = pow-suc 10 (length ds) in
    rw p (grind (arith, a, b))

pub from-append : (n : ℕ) (ds es : List ℕ) → number_from n (ds ++ es) ≡ number_from (number_from n ds) es
unfolding number_from
from-append n [] es = refl
from-append n (d ∷ ds) es = from-append (n * 10 + (d - 48)) ds es

pub number-append : (ds es : List ℕ) → number_from 0 (ds ++ es) ≡ number_from 0 ds * 10 ^ length es + number_from 0 es
number-append ds es = from-append 0 ds es ∙ from-front (number_from 0 ds) es

pub so_far-step : (n : ℕ) (text : List ℕ) (i : ℕ) (value after : Option ℕ) → IsSoFar n text i value → i < length text
    → (d : ℕ) → d ≡ get_or text i 0 - 48 → ((m : ℕ) → value ≡ bounded m → after ≡ bounded (m * 10 + d)) → IsSoFar n text (i + 1) after
so_far-step n text i value after s h d e f = record {
  number = s.number * 10 + (get_or text i 0 - 48);
  rest = sym (from-drop s.number text i h) ∙ s.rest;
  fits = f s.number s.fits ∙ ap (λ k. bounded (s.number * 10 + k)) e;
}

pub so_far-all : (n : ℕ) (text : List ℕ) (i : ℕ) (value : Option ℕ) → IsSoFar n text i value → i ≡ length text → value ≡ bounded (number_from n text)
so_far-all n text i value s h =
    s.fits ∙ ap bounded (sym (from-none s.number text) ∙ ap (λ k. number_from s.number (drop k text)) (sym h) ∙ s.rest)

-- what comes first are digits
pub front-digits : (text : List ℕ) → All (λ c. is_ascii_digit c ≡ true) (front text)
front-digits text k d h =
    let low = prefix_len-le-length is_ascii_digit text in
    let size = length-take-le (prefix_len is_ascii_digit text) text low in
    let less : k < prefix_len is_ascii_digit text = omega (arith, h, size) in
    ap is_ascii_digit (get_or-take (prefix_len is_ascii_digit text) text k d less) ∙ prefix_len_passes is_ascii_digit text k d less
