use Rattle.std.proofs.Common.{rules, refl, ◌≡◌, ap, ◌∙◌, sym, not}
use borrow.Author.Tests.{tests}
use Rattle.std.specs.Option.{option_map}
use Rattle.std.specs.List.{position_from}
use Rattle.std.proofs.lemmas.Iterator.Search.{position_from_yields_List}
use Rattle.std.proofs.lemmas.Iterator.Adapters.{position_from-zero}
use Rattle.std.proofs.lemmas.Iterator.Consumers.{YieldsList-from_first}
use Rattle.qs_image.specs.declared.fault.ImageFault.TheVariants.{Params}
use Rattle.qs_image.specs.Faults.{has_parameters}
use Rattle.qs_image.specs.View.{record_of, records_left}
use Rattle.qs_image.proofs.records.Records.parameters_fault.Goals as goal

pub returns-in_err-i : goal.returns-in_err-i
returns-in_err-i c =
    let place : c.position.result ≡ position_from (λ f. not (has_parameters c.args.main_parameters f)) 0 (records_left c.args.self.now) =
    position_from_yields_List (λ f. not (has_parameters c.args.main_parameters f)) c.position.new.self _ c.position.result c.position.ensures.ran (YieldsList-from_first record_of records_left {s = c.args.self.now} (records_left c.args.self.now) refl) (λ x b q k. search (rules, tests))
    ∙ position_from-zero (λ f. not (has_parameters c.args.main_parameters f)) (records_left c.args.self.now) in
    c.from_residual.ensures ∙ ap (option_map Params) (sym c.in_err-i.was ∙ place)

pub returns : goal.returns
returns c =
    let place : c.position.result ≡ position_from (λ f. not (has_parameters c.args.main_parameters f)) 0 (records_left c.args.self.now) =
    position_from_yields_List (λ f. not (has_parameters c.args.main_parameters f)) c.position.new.self _ c.position.result c.position.ensures.ran (YieldsList-from_first record_of records_left {s = c.args.self.now} (records_left c.args.self.now) refl) (λ x b q k. search (rules, tests))
    ∙ position_from-zero (λ f. not (has_parameters c.args.main_parameters f)) (records_left c.args.self.now) in
    ap (option_map Params) (sym c.in_ok-i.was ∙ place)
