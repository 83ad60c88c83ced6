-- What a walk over a unit has found, and what parts of the unit add to it.
use Rattle.std.specs.Prelude.{◌≡◌, ℕ, ◌==◌, nat_lt, Bool, true, false, ◌&&◌, ◌||◌, List, [], ◌∷◌, ◌++◌, Option, Some, None, if◌then◌else◌}
use Rattle.qs_types.specs.Types.{TypeTree}
use Rattle.qs_types.specs.declared.rules.Rule.{Rule}
use Rattle.qs_types.specs.Rules.{rule_number, Test, Fault, faults_of}
use Rattle.qs_types.specs.UnitRules.{is_among}
use Rattle.qs_types.specs.declared.referent.Referent.{Referent}

-- ---- the least fault

-- a fault at a lesser node comes first, and at one node that of a lesser rule
abbrev pub is_before : Fault → Fault → Bool
is_before f g = nat_lt f.node g.node || ((f.node == g.node) && nat_lt (rule_number f.rule) (rule_number g.rule))

abbrev pub lesser : Option Fault → Fault → Fault
lesser None f = f
lesser (Some g) f = if is_before f g then f else g

-- the least of some faults, and perhaps one before
abbrev pub least_with : Option Fault → List Fault → Option Fault
least_with g [] = g
least_with g (f ∷ fs) = least_with (Some (lesser g f)) fs

-- a fault is the first of some: it is one of them, and none is before it
pub record IsFirst (fs : List Fault) (f : Fault) : Type 0 where
  pub found : is_among f.node f.rule fs ≡ true
  pub least : (node : ℕ) (rule : Rule) → is_among node rule fs ≡ true → is_before (record { node = node; rule = rule }) f ≡ false

-- ---- all that is found

-- the types of the nodes in the order of the text, where they have one; what their names stand for; the declarations whose names are
-- operands of `&`; the least fault
pub record FoundTree : Type 0 where
  pub types : List (Option TypeTree)
  pub referents : List (Option Referent)
  pub addressed : List ℕ
  pub least : Option Fault

abbrev pub nothing_found : FoundTree
nothing_found = record { types = []; referents = []; addressed = []; least = None }

abbrev pub with_fault : Fault → FoundTree → FoundTree
with_fault fault f = record f { least = Some (lesser f.least fault) }

-- with the rules that a node breaks by these tests
abbrev pub judged_at : ℕ → List Test → FoundTree → FoundTree
judged_at node tests f = record f { least = least_with f.least (faults_of node tests) }

-- ---- what a part of a unit adds

pub record Findings : Type 0 where
  pub types : List (Option TypeTree)
  pub referents : List (Option Referent)
  pub addressed : List ℕ
  pub faults : List Fault

abbrev pub with_findings : FoundTree → Findings → FoundTree
with_findings f g = record {
  types = f.types ++ g.types;
  referents = f.referents ++ g.referents;
  addressed = f.addressed ++ g.addressed;
  least = least_with f.least g.faults;
}

-- of two parts
abbrev pub both : Findings → Findings → Findings
both g h = record {
  types = g.types ++ h.types;
  referents = g.referents ++ h.referents;
  addressed = g.addressed ++ h.addressed;
  faults = g.faults ++ h.faults;
}
