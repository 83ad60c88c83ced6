-- An image that was made is loaded where it has a stack, and a machine that was loaded stands at its start.
use Rattle.std.proofs.Common.{◌≡◌, ℕ, ◌≤◌, ℤ, List, length, subst, arith}
use Rattle.qs_image.specs.Image.{Image, IsImage}
use Rattle.qs_image.proofs.Images.{reads, one_image}
use Rattle.qs_machine.specs.Arguments.{AreArguments, words_of}
use Rattle.qs_machine.specs.Run.{start}
use Rattle.qs_machine.specs.Standing.{Stands}
use Rattle.qs_machine.specs.State.{stack_limit}
use Rattle.qs_machine.specs.declared.machine.Machine.{Machine}
use Rattle.qs_driver_session.specs.Arguments.{LacksWords}
use Rattle.qs_driver_session.specs.Arguments as arguments
use Rattle.qs_driver_session.specs.Starting.{RunWords, CannotLoad, WasLoaded}
use Rattle.qs_driver_session.specs.Starting as starting
use Rattle.qs_driver_session.specs.declared.status.Status.{Status}
use Rattle.qs_driver_session.specs.declared.status.Status.TheVariants.{NoMemory}

-- where the arguments are those of the image, they have words
pub lacks_none : (image : Image) (args : List ℤ) (status : Status) → AreArguments image args → LacksWords image args status → status ≡ NoMemory
lacks_none image args status are (arguments.count_differs ne x) = absurd (ne are.count)
lacks_none image args status are (arguments.misfit i count first x) = absurd (let none = are.fit in let never : ⊥ = cc in never)
lacks_none image args status are (arguments.no_memory x) = x

-- an image that has a stack is loaded, where memory is found
pub no_load : (r : RunWords) (bytes : List ℕ) (image : Image) (status : Status) → AreArguments image r.args → r.stack ≤ stack_limit → IsImage bytes image → CannotLoad bytes r status → status ≡ NoMemory
no_load r bytes image status are small is (starting.bad_image fault first x) = absurd (let none = (reads bytes image is).0 in let never : ⊥ = cc in never)
no_load r bytes image status are small is (starting.no_words other also l) = lacks_none image r.args status are (subst (λ (i : Image). LacksWords i r.args status) (one_image bytes other image also is) l)
no_load r bytes image status are small is (starting.too_large other also fit large x) = absurd (omega (arith, small, large))
no_load r bytes image status are small is (starting.lacks_memory x) = x

-- the machine stands at the start of the image that was made
pub stands_at : (r : RunWords) (bytes : List ℕ) (image : Image) (machine : Machine) (input : List ℕ) → IsImage bytes image → (l : WasLoaded bytes r machine) → Stands machine image r.stack input (start image (words_of r.args) input)
stands_at r bytes image machine input is l = subst (λ (i : Image). Stands machine i r.stack input (start i (words_of r.args) input)) (one_image bytes l.image image l.is_image is) (l.stands input)

-- a machine that has taken no input can be run on any
pub may_run : (taken : ℕ) (input : List ℕ) → taken ≡ 0 → taken ≤ length input
may_run taken input e = omega arith
