-- A run of an accepted unit is undefined in the nine cases alone.
use Rattle.std.proofs.Common.{ap, ◌∙◌}
use Rattle.qs_events.specs.Runs.{given}
use Rattle.qs_meaning.specs.Runs.{run_of, start_world}
use Rattle.qs_meaning.specs.NineCases.{UndefinedInNineCases, MainUndefinedInNineCases}
use Rattle.qs_meaning.proofs.ElsewhereLaws.{no_other_place}
use Rattle.qs_meaning.proofs.FitReadings.{read_is_as_read}
use Rattle.qs_meaning.proofs.FitTexts.{texts_of_literals}
use Rattle.qs_meaning.proofs.FitUnits.{typed_units_fit}
use Rattle.qs_meaning.proofs.RangeLaws.{initial_memory_is_ready}

pub undefined_in_nine_cases : UndefinedInNineCases
undefined_in_nine_cases other unit u root xs w n read well limits e may =
    no_other_place other u root xs w n (typed_units_fit unit u (read_is_as_read unit read) well limits e) may

pub main_undefined_in_nine_cases : MainUndefinedInNineCases
main_undefined_in_nine_cases other unit u main xs input n read well limits e is takes bytes =
    let texts = texts_of_literals unit (read_is_as_read unit read).literals in
    ap (λ o. given o (λ root. run_of u root xs (start_world u input) n)) is
    ∙ undefined_in_nine_cases other unit u main xs (start_world u input) n read well limits e
    (record { takes = takes; ready = initial_memory_is_ready unit u input texts e bytes })
