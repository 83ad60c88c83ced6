use Rattle.std.proofs.Common.{◌∙◌, Some, Option, ap, sym, subst}
use Rattle.qs_cli.specs.Commands as meant
use Rattle.qs_cli.specs.Reading.{command_of, text_of}
use Rattle.qs_cli.specs.declared.commands.Command.{Command}
use Rattle.qs_driver.specs.SampleLaws.{IsSampleCount}
use Rattle.qs_driver.specs.commands.Sample.{SampleWords}
use Rattle.qs_driver.proofs.SampleCounts.{sample_has_count}
use Rattle.qs_driver.proofs.rooms.Tool.{same_outline, same_run, same_check}
use Rattle.qs_driver.proofs.tool.perform.Goals as goal

pub sample-requires : goal.sample-requires
sample-requires g c =
    let of : Command → Option meant.Command = λ x. Some (command_of x) in
    let means = c.requires.means ∙ ap of c.in-Sample.is in
    let counted = sample_has_count c.requires.words c.in-Sample.count (text_of c.in-Sample.out) means in
    subst IsSampleCount (sym (ap (λ (w : SampleWords). w.count) c.to_sample.ensures)) counted

pub returns-in-Outline : goal.returns-in-Outline
returns-in-Outline g c = rw c.in-Outline.is (same_outline _ _ c.to_outline.ensures _ _ _ c.outline.ensures)

pub returns-in-Run : goal.returns-in-Run
returns-in-Run g c = rw c.in-Run.is (same_run _ _ c.to_run.ensures _ _ _ c.run.ensures)

pub returns-in-Check : goal.returns-in-Check
returns-in-Check g c = rw c.in-Check.is (same_check _ _ c.to_check.ensures _ _ _ c.check.ensures)
