-- The command that clap is given, in the words of clap's specifications.
use Rattle.std.specs.Prelude.{[], ◌∷◌, Bool, true, Some}
use Rattle.qs_cli.specs.Words.{Text, Options, operand}
use Rattle.clap.specs.Words.{App, Rule, new_rule, with_rule}
use Rattle.clap.specs.Simple.{new_shape}
use Rattle.clap.specs.declared.builder.action.ArgAction.TheVariants.{Set}

abbrev pub option_rule : Text × Bool → Rule
option_rule o = record (new_rule o.0) { long = Some o.0; action = Some Set; required = o.1 }

abbrev pub operand_rule : Rule
operand_rule = record (new_rule operand) { action = Some Set; required = true }

abbrev pub with_options : App → Options → App
with_options a [] = a
with_options a (o ∷ os) = with_options (with_rule a (option_rule o)) os

-- no word is the program's name or asks for help
abbrev pub bare : Text → App
bare name = record {
  top = record (new_shape name) {
    no_binary_name = true;
    disable_help_flag = true;
  };
  subs = [];
}

-- one operand, and options with one value each
abbrev pub flat : Text → Options → App
flat name options = with_rule (with_options (bare name) options) operand_rule
