-- What the law on sizes says of samples: there are sources of which it speaks.
use Rattle.std.proofs.Common.{◌≡◌, ℕ, ◌≤◌, ◌<◌, refl, arith}
use Rattle.qs_compile.specs.Limits.{Passes}
use Rattle.qs_compile.specs.declared.fault.BuildFault.{BuildFault}
use Rattle.qs_compile.specs.declared.fault.BuildFault.TheVariants.{NoMemory}
use Rattle.qs_cli.specs.Numbers.{most_sample_functions}
use Rattle.qs_driver_session.specs.SampleSource.{sample_text}
use Rattle.qs_driver_session.proofs.SampleBytes.{sample_bytes}
use Rattle.qs_driver.specs.SampleLaws.{IsGoodSource}
use Rattle.qs_driver.proofs.SampleLaws.{samples_are_good}
use Rattle.qs_driver.proofs.SizesLaws.{sources_pass_no_size}

samples_pass_no_size : (n : ℕ) (l : 1 ≤ n) (h : n ≤ most_sample_functions) (fault : BuildFault) → Passes (samples_are_good n l h).has_core.core fault → fault ≡ NoMemory
samples_pass_no_size n l h fault passes =
    let good : IsGoodSource (sample_text n) = samples_are_good n l h in
    let below : n < 512 = omega arith in
    sources_pass_no_size (sample_text n) good.typed.unit.trees good.has_core.core fault (sample_bytes n below) good.short
    (record { typed = good.typed; trees_are = refl }) good.has_core.is passes
