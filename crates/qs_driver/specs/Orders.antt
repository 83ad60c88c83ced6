-- The words of each command, as the command line gives them.
use Rattle.std.specs.Prelude.{ℕ, ℤ, Option, Vec, string_bytes}
use Rattle.std.specs.declared.alloc.Global.{Global}
use Rattle.std.specs.declared.string.String.{String}
use Rattle.qs_cli.specs.Reading.{text_of}
use Rattle.qs_driver_session.specs.Starting.{RunWords, run_words}
use Rattle.qs_driver.specs.Certified.{CertifyWords, certify_words}
use Rattle.qs_driver.specs.commands.Bound.{BoundWords, bound_words}
use Rattle.qs_driver.specs.commands.Build.{BuildWords, build_words}
use Rattle.qs_driver.specs.commands.Derive.{DeriveWords, derive_words}
use Rattle.qs_driver.specs.commands.Exec.{ExecWords, exec_words}
use Rattle.qs_driver.specs.commands.Outline.{OutlineWords, outline_words}
use Rattle.qs_driver.specs.commands.Sample.{SampleWords, sample_words}

abbrev pub to_build : String Global → Option (String Global) → String Global → BuildWords
to_build source proof out = build_words (string_bytes source) (text_of proof) (string_bytes out)

abbrev pub to_check : String Global → Option (String Global) → CertifyWords
to_check source proof = certify_words (string_bytes source) (text_of proof)

abbrev pub to_bound : String Global → Option (String Global) → Vec ℤ Global → BoundWords
to_bound source proof args = bound_words (string_bytes source) (text_of proof) args.items

abbrev pub to_derive : String Global → String Global → DeriveWords
to_derive source out = derive_words (string_bytes source) (string_bytes out)

abbrev pub to_outline : String Global → OutlineWords
to_outline source = outline_words (string_bytes source)

abbrev pub to_run : String Global → ℕ → Vec ℤ Global → Option (String Global) → ℕ → RunWords
to_run image stack args input steps =
    run_words (string_bytes image) stack args.items (text_of input) steps

abbrev pub to_exec :
    String Global → Option (String Global) → Vec ℤ Global → Option (String Global) → ℕ → ExecWords
to_exec source proof args input steps =
    exec_words (string_bytes source) (text_of proof) args.items (text_of input) steps

abbrev pub to_sample : ℕ → Option (String Global) → SampleWords
to_sample count out = sample_words count (text_of out)
