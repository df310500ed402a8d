-- The files that words name, by what they ask for.
use Rattle.std.proofs.Common.{◌≡◌, ℕ, []}
