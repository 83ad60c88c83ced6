use Rattle.std.proofs.Common.{◌≡◌, Some, map, ap, sym, ◌∙◌}
use Rattle.qs_syntax.specs.UnitTrees as source
use Rattle.qs_typed_trees.specs.TreeOf.{program_tree}
use Rattle.qs_meaning.specs.Runs.{main_from}
use Rattle.qs_elaborate_bodies.specs.Names.{names_in}
use Rattle.qs_elaborate.specs.NamesOf.{names_of}
use Rattle.qs_elaborate_bodies.specs.Units.{unit_core}
use Rattle.qs_elaborate.specs.UnitNames.{declarations_named}
use Rattle.qs_elaborate.proofs.UnitNames.{unit_is_named}
use Rattle.qs_elaborate_laws.proofs.UnitCores.{core_at, fits_at}
use Rattle.qs_elaborate.proofs.unit.elaborated.Goals as goal

pub core_unit-requires : goal.core_unit-requires
core_unit-requires c =
    let unit = source.unit_tree c.args.unit.now in
    let program = program_tree c.args.program.now in
    let main = c.in-Some.i in
    let main_is : main_from 0 program.functions ≡ Some main = sym (rw c.deref.ensures.value at c.main_among.ensures) ∙ c.in-Some.is in
    let names : map names_of c.deref-2.result.now ≡ names_in unit =
    ap (map names_of) c.deref-2.ensures.value
    ∙ c.in_ok-names.ensures
    ∙ ap (declarations_named (map (λ v. v.items) c.args.variables.now)) c.declarations.ensures
    ∙ ap (λ vs. declarations_named vs unit) c.requires.variables
    ∙ unit_is_named unit in
    rw names (fits_at unit program main c.requires.tree main_is c.requires.has_core)

pub returns : goal.returns
returns c =
    let unit = source.unit_tree c.args.unit.now in
    let program = program_tree c.args.program.now in
    let main = c.in-Some.i in
    let main_is : main_from 0 program.functions ≡ Some main = sym (rw c.deref.ensures.value at c.main_among.ensures) ∙ c.in-Some.is in
    let names : map names_of c.deref-2.result.now ≡ names_in unit =
    ap (map names_of) c.deref-2.ensures.value
    ∙ c.in_ok-names.ensures
    ∙ ap (declarations_named (map (λ v. v.items) c.args.variables.now)) c.declarations.ensures
    ∙ ap (λ vs. declarations_named vs unit) c.requires.variables
    ∙ unit_is_named unit in
    core_at unit program main c.requires.tree main_is
    ∙ ap (λ ns. Some (unit_core ns program main)) (sym names)
    ∙ ap Some (sym c.in_ok-unit.ensures)
