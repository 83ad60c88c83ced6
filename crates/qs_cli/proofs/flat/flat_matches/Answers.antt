use Rattle.std.proofs.Common.{rules, codes, map, string_bytes}
use Rattle.qs_cli.specs.Reading.{options_of}
use Rattle.qs_cli.proofs.Results.{ok_values, err_none}
use Rattle.clap.specs.Words.{app_of}
use Rattle.qs_cli.proofs.flat.flat_matches.Goals as goal

pub returns-in-Ok-clause-ok : goal.returns-in-Ok-clause-ok
returns-in-Ok-clause-ok c =
    let given = c.in-Ok.ensures in
    ok_values (codes "qsc") (options_of c.args.options.now) c.requires (app_of c.in_ok-command.command) c.in_ok-command.ensures (map string_bytes c.args.words.now)
    c.in-Ok.matches (search rules) given.matches given.kinds

pub returns-in-Err-clause-usage : goal.returns-in-Err-clause-usage
returns-in-Err-clause-usage c = λ e.
    err_none (codes "qsc") (options_of c.args.options.now) c.requires (app_of c.in_ok-command.command) c.in_ok-command.ensures (map string_bytes c.args.words.now)
    c.in-Err.error (search rules) c.in-Err.ensures.kinds
    (λ memory. let other = c.fault_of_clap.ensures memory in absurd cc)
