-- Files that agree in their first bytes, whatever follows. Assumes nothing.
use Rattle.std.specs.Prelude.{◌≡◌, List, ℕ, ◌≤◌, ◌<◌, length, get_or}

-- n bytes are there in both, and they are the same
pub record Alike (n : ℕ) (s t : List ℕ) : Type 0 where
  pub here : n ≤ length s
  pub there : n ≤ length t
  pub bytes : (k : ℕ) → k < n → get_or s k 0 ≡ get_or t k 0
