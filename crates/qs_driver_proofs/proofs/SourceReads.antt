-- A source that was read: its text, and its core.
use Rattle.std.proofs.Common.{◌≡◌, ◌∙◌, ℕ, List, Some, refl, sym, ap, subst}
use Rattle.std.proofs.lemmas.Option.{same_Some}
use Rattle.qs_syntax.specs.Trees.{DeclTree, UnitTree}
use Rattle.qs_syntax.specs.Units.{IsRead}
use Rattle.qs_core.specs.Trees.{CoreUnitTree}
use Rattle.qs_elaborate_bodies.specs.Units.{core_of}
use Rattle.qs_elaborate_laws.specs.FitLaws.{HasCore}
use Rattle.qs_elaborate_laws.proofs.FitCore.{units_have_cores}
use Rattle.qs_ports.specs.StoreView.{StoreView, Files}
use Rattle.qs_driver_steps.specs.Files.{HoldsContent}
use Rattle.qs_driver_steps.specs.Runs.{Passed}
use Rattle.qs_driver_steps.proofs.SharedLaws.{Leads}
use Rattle.qs_driver_session.specs.Limits.{source_limit}
use Rattle.qs_driver_session.specs.Files.{WasReadAs}
use Rattle.qs_driver_session.specs.Origin.{origin}
use Rattle.qs_driver_session.specs.Source.{IsTypedAs, IsTypedUnit}
use Rattle.qs_driver_session.specs.Statuses.{exactly}
use Rattle.qs_driver_session.specs.declared.status.Status.{Status}
use Rattle.qs_driver_session.proofs.FilesLaws.{was_read_as}
use Rattle.qs_driver_proofs.specs.Steps.{IsCoreOf}

-- the unit of a text has a core
pub core_there : {text : List ℕ} {trees : List DeclTree} (h : IsTypedAs text trees) → IsRead trees → HasCore trees
core_there {trees = trees} h read =
    let same : h.typed.unit.trees ≡ trees = h.trees_are in
    subst HasCore same (units_have_cores h.typed.unit.trees (subst IsRead (sym same) read) h.typed.well_typed h.typed.within_limits)

pub own_core : {text : List ℕ} {trees : List DeclTree} (h : IsTypedAs text trees) → IsRead trees → HasCore h.typed.unit.trees
own_core h read = subst HasCore (sym h.trees_are) (core_there h read)

-- the trees of a source are those of its text
pub record HasText (v : StoreView) (name : List ℕ) (unit : UnitTree) : Type 0 where
  pub text : List ℕ
  pub read_as : WasReadAs v name source_limit text
  pub typed_as : IsTypedAs text unit

pub passed_text : (name : List ℕ) (v w : StoreView) (unit : UnitTree) → Passed (origin name) v w unit → HasText v name unit
passed_text name v w unit (a, text, r, (b, u, l, (c, x, p, (d, trees, t, (e, is))))) = record {
  text = text;
  read_as = was_read_as v name source_limit text r.finds;
  typed_as = subst (λ (y : UnitTree). IsTypedAs text y) (sym is) t.finds.so;
}

pub is_core_of : {text : List ℕ} {unit : UnitTree} (core : CoreUnitTree) → IsTypedAs text unit → IsRead unit → core_of unit ≡ Some core → IsCoreOf unit core
is_core_of core typed read is =
    let there = core_there typed read in
    record { has_core = there; is = same_Some there.core core (sym there.is ∙ is) }

-- a typed unit comes of the steps of its source
pub unit_leads : (name : List ℕ) (files : Files) (text : List ℕ) → HoldsContent (files name) source_limit text → (typed : IsTypedUnit text) → Leads (origin name) files typed.unit.trees
unit_leads name files text there typed = (text, there, (tt, record { tokens = typed.unit.tokens; are_tokens = typed.unit.are_tokens }, (tt, typed.unit, (typed.unit.trees, record { typed = typed; trees_are = refl }, refl))))

pub core_is : (unit : UnitTree) (core : CoreUnitTree) → IsCoreOf unit core → core_of unit ≡ Some core
core_is unit core is = is.has_core.is ∙ ap Some is.is

pub exactly_same : (a b : Status) → exactly a ≡ exactly b → a ≡ b
exactly_same a b e = cc
