-- The arguments of main as the words of the machine.
use Rattle.std.specs.Prelude.{◌≡◌, ◌≢◌, ℕ, ℤ, List, [], length, Some, Result, Ok, Err, Vec}
use Rattle.std.specs.declared.alloc.Global.{Global}
use Rattle.qs_image.specs.declared.version.Version.TheVariants.{Second}
use Rattle.qs_image.specs.Image.{Image}
use Rattle.qs_machine.specs.Arguments.{AreArguments, first_misfit, words_of}
use Rattle.qs_driver_session.specs.declared.arguments.Parameters.{Parameters}
use Rattle.qs_driver_session.specs.declared.status.Status.{Status}
use Rattle.qs_driver_session.specs.declared.status.Status.TheVariants.{Words, NoMemory}
use Rattle.qs_driver_session.specs.declared.status.WordsFault.TheVariants.{ArgCount, ArgRange}

-- an image of which these parameters are all that is known
abbrev pub image_with : Parameters → Image
image_with p = record {
  version = Second;
  entry = 0;
  parameters = p.count;
  unsigned_set = p.unsigned_set;
  functions = [];
  code = [];
  bytes = [];
}

-- why there are no words for the arguments
pub data LacksWords (image : Image) (args : List ℤ) (status : Status) : Type 0 where
  count_differs : length args ≢ image.parameters
      → status ≡ Words (ArgCount image.parameters (length args)) → LacksWords image args status
  misfit : (i : ℕ) → length args ≡ image.parameters → first_misfit image 0 args ≡ Some i
      → status ≡ Words (ArgRange i) → LacksWords image args status
  no_memory : status ≡ NoMemory → LacksWords image args status

-- the words of arguments that fit
pub record AreWords (image : Image) (args : List ℤ) (words : List ℕ) : Type 0 where
  pub arguments : AreArguments image args
  pub words_are : words ≡ words_of args

-- the answer of `argument_words`
abbrev pub FindsWords : Image → List ℤ → Result (Vec ℕ Global) Status → Type 0
FindsWords image args (Ok words) = AreWords image args words.items
FindsWords image args (Err status) = LacksWords image args status
