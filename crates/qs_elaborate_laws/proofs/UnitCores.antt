-- The core of a unit from its typed tree and its main.
use Rattle.std.proofs.Common.{◌≡◌, ℕ, true, Some, sym, ap, ◌∙◌, unwrap_or}
use Rattle.qs_syntax.specs.Trees.{UnitTree}
use Rattle.qs_memory.specs.Partial.{◌>>=◌}
use Rattle.qs_core.specs.Fits.{unit_fits}
use Rattle.qs_meaning.specs.Typed.{TypedProgram}
use Rattle.qs_meaning.specs.Units.{typed_of}
use Rattle.qs_meaning.specs.Runs.{main_from}
use Rattle.qs_elaborate_bodies.specs.Names.{names_in}
use Rattle.qs_elaborate_bodies.specs.Units.{unit_core, core_of}
use Rattle.qs_elaborate_laws.specs.FitLaws.{HasCore}

with_main : (unit : UnitTree) (u : TypedProgram) → typed_of unit ≡ Some u → core_of unit ≡ (main_from 0 u.functions >>= λ main. Some (unit_core (names_in unit) u main))
with_main unit u h = ap (λ t. t >>= λ (u : TypedProgram). main_from 0 u.functions >>= λ main. Some (unit_core (names_in unit) u main)) h

pub core_at : (unit : UnitTree) (u : TypedProgram) (main : ℕ) → typed_of unit ≡ Some u → main_from 0 u.functions ≡ Some main → core_of unit ≡ Some (unit_core (names_in unit) u main)
core_at unit u main h k = with_main unit u h ∙ ap (λ o. o >>= λ main. Some (unit_core (names_in unit) u main)) k

pub fits_at : (unit : UnitTree) (u : TypedProgram) (main : ℕ) → typed_of unit ≡ Some u → main_from 0 u.functions ≡ Some main → HasCore unit
    → unit_fits (unit_core (names_in unit) u main) ≡ true
fits_at unit u main h k c =
    let e : Some (unit_core (names_in unit) u main) ≡ Some c.core = sym (core_at unit u main h k) ∙ c.is in
    ap unit_fits (ap (λ o. unwrap_or o c.core) e) ∙ c.fits
