-- Numbers of a grid of at most 200 times 200 cells fit 32 bits.
use Rattle.std.proofs.Common.{ℕ, ◌*◌, ◌≤◌}
use Rattle.std.proofs.lemmas.Nat.{mul-le}

pub product_fits : (a b : ℕ) → a ≤ 401 → b ≤ 401 → a * b ≤ 160801
product_fits a b = mul-le a b 401 401
