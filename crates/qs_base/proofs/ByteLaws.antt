-- The test whether two lists of bytes are the same is true of equal lists alone.
use Rattle.std.proofs.Common.{◌≡◌, ℕ, List, Decides}
use Rattle.std.specs.Cmp.Lexicographic.{pointwise_decides}
use Rattle.std.proofs.lemmas.Bool.Decides.{Decides-eqb}
use Rattle.qs_base.specs.Bytes.{same_bytes}

pub bytes_exact : (a b : List ℕ) → Decides (same_bytes a b) (a ≡ b)
bytes_exact = pointwise_decides Decides-eqb
