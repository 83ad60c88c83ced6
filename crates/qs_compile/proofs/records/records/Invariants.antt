use Rattle.std.proofs.Common.{◌≡◌, ◌++◌, map, drop}
use Rattle.qs_compile.proofs.RecordLaws.{said_parameters}
use Rattle.qs_core.specs.declared.units.CoreFunction.{CoreFunction}
use Rattle.qs_image.specs.Image.{FunctionRecord}
use Rattle.qs_compile.proofs.records.records.Given as goal

abbrev pub invariant-loop-f : goal.invariant-loop-f
invariant-loop-f l =
    (map (λ (r : FunctionRecord). r.name) l.all.items ++ map (λ (f : CoreFunction). f.name) (drop l.f l.functions) ≡ map (λ (f : CoreFunction). f.name) l.functions)
    × ((map (λ (r : FunctionRecord). r.address) l.all.items ++ drop l.f l.addresses ≡ l.addresses)
    × ((map (λ (r : FunctionRecord). r.cost) l.all.items ++ drop l.f l.costs ≡ l.costs)
    × (map (λ (r : FunctionRecord). r.parameters) l.all.items ++ map said_parameters (drop l.f l.functions) ≡ map said_parameters l.functions)))
