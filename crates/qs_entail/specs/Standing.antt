-- What the code finds at a node without polynomials, and what the check answers at the root.
use Rattle.std.specs.Prelude.{ℕ, Bool, List, Vec, Option, Some, None, Result, Ok, Err}
use Rattle.std.specs.declared.alloc.Global.{Global}
use Rattle.qs_entail.specs.declared.failed.Failed.{Failed}
use Rattle.qs_entail.specs.declared.failed.Failed.TheVariants as failures
use Rattle.qs_entail.specs.declared.fault.CertFault.{CertFault}
use Rattle.qs_entail.specs.declared.fault.CertFault.TheVariants as answers
use Rattle.qs_assert.specs.declared.define.Define.{Define}
use Rattle.qs_assert.specs.Trees.{CondTree, AssertionTree}
use Rattle.qs_entail.specs.declared.certificate.Certificate.{Certificate}
use Rattle.qs_entail.specs.declared.known.Known.{Known}
use Rattle.qs_entail.specs.Building.{Stop, breaks}
use Rattle.qs_entail.specs.Verdicts.{Outline, outlined, stands}
use Rattle.qs_entail.specs.View.{cert_tree, known_view}

-- the count of parts, where there are any
abbrev pub counted : Option ℕ → Result ℕ Stop
counted (Some n) = Ok n
counted None = Err breaks

-- the fault of a walk that stopped at this path
abbrev pub told : Vec ℕ Global → Failed → CertFault
told path failures.NoMemory = answers.NoMemory
told path (failures.Step rule) = answers.Step path rule
told path (failures.Limit l) = answers.Limit path l

-- ---- the conditions without polynomials of a node hold

abbrev pub outline_of : List CondTree → ℕ → Outline
outline_of conditions n = record { conditions = conditions; count = n }

abbrev pub stands_under : List CondTree → ℕ → Certificate → List Define → AssertionTree → AssertionTree → Bool
stands_under conditions n c ds p q = stands (cert_tree c) ds (outline_of conditions n) p q

abbrev pub stands_here : Certificate → List Define → Known → AssertionTree → AssertionTree → Bool
stands_here c ds known p q = stands (cert_tree c) ds (outlined (known_view known)) p q
