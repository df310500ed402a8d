-- Chains: longest runs of consecutive Free items.
use Rattle.std.specs.Prelude.{◌≡◌, ◌<◌, ◌≤◌, ℕ, zero, suc, Bool, true, false, ◌&&◌, not}
use Rattle.schedule_model.specs.Program.{Kind, is_free}

-- a Free item stands directly before item k
abbrev pub follows_free : (ℕ → Kind) → ℕ → Bool
follows_free kind zero = false
follows_free kind (suc k) = is_free (kind k)

-- item k is the first of a chain
abbrev pub begins : (ℕ → Kind) → ℕ → Bool
begins kind k = is_free (kind k) && not (follows_free kind k)

-- of n items, those from i to j are a chain
pub record IsChain (n : ℕ) (kind : ℕ → Kind) (i j : ℕ) : Type 0 where
  pub in_order : i ≤ j
  pub within : j < n
  pub free : (k : ℕ) → i ≤ k → k ≤ j → is_free (kind k) ≡ true
  pub before : follows_free kind i ≡ false
  pub behind : suc j < n → is_free (kind (suc j)) ≡ false

-- a chain is told by its first item, and has one last item
pub record AreToldByFirsts (n : ℕ) (kind : ℕ → Kind) : Type 0 where
  pub some : (i : ℕ) → i < n → begins kind i ≡ true → (j : ℕ) × IsChain n kind i j
  pub first : (i j : ℕ) → IsChain n kind i j → begins kind i ≡ true
  pub one : (i j l : ℕ) → IsChain n kind i j → IsChain n kind i l → j ≡ l

-- in every list of items, a chain is told by its first item and has one last item
abbrev pub ChainsAreToldByFirsts : Type 0
ChainsAreToldByFirsts = (n : ℕ) (kind : ℕ → Kind) → AreToldByFirsts n kind
