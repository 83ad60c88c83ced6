use Rattle.std.proofs.Common.{◌≡◌, codes, drop}
use Rattle.clap.specs.Words.{app_of}
use Rattle.qs_cli.specs.Parser.{bare, with_options}
use Rattle.qs_cli.specs.Reading.{options_of}
use Rattle.qs_cli.proofs.flat.flat_command.Given as goal

abbrev pub invariant-loop-option : goal.invariant-loop-option
invariant-loop-option l = with_options (app_of l.command) (options_of (drop l.option-index l.options)) ≡ with_options (bare (codes "qsc")) (options_of l.options)
