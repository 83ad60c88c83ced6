use Rattle.std.proofs.Common.{arith, ℕ}
use Rattle.qs_image.proofs.Words.{All-from_IsBytes, IsBytes-from}
use Rattle.qs_driver.proofs.laws.consists_of_bytes.Goals as goal

pub returns : goal.returns
returns c = All-from_IsBytes c.args.input.now (IsBytes-from c.args.input.now (λ (i : ℕ). omega (arith, c.type_inv.input i)))
