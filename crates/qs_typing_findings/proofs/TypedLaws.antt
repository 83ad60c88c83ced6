-- What a walk over a unit found stands by the numbers of the nodes.
use Rattle.std.proofs.Common.{◌≡◌, ℕ, List, Option, Some, option_map, length, sym, ap, ◌∙◌}
use Rattle.std.specs.List.{slice_get}
use Rattle.std.proofs.lemmas.Option.{slice_get-map}
use Rattle.qs_syntax.specs.declared.nodes.Node.{Node}
use Rattle.qs_syntax.specs.declared.unit.Unit.{Unit}
use Rattle.qs_syntax.specs.Nodes.{tokens_of, unit_nodes}
use Rattle.qs_syntax.specs.Trees.{ExprTree, UnitTree}
use Rattle.qs_syntax.specs.UnitTrees.{unit_tree}
use Rattle.qs_syntax.specs.Units.{IsRead}
use Rattle.qs_syntax.proofs.NodeLaws.{unit_length}
use Rattle.qs_syntax.proofs.UnitLaws.{node_of_unit}
use Rattle.qs_types.specs.Types.{TypeTree}
use Rattle.qs_types.specs.Contexts.{Context, TypeNames}
use Rattle.qs_types.specs.Limits.{KeepsLimits}
use Rattle.qs_types.proofs.LimitLaws as limits
use Rattle.qs_types.specs.Recorded.{global_blocks, type_names_of}
use Rattle.qs_types.specs.References.{literal_blocks}
use Rattle.qs_types.specs.UnitRules.{structs_of}
use Rattle.qs_types.specs.WellTyped.{end_context}
use Rattle.qs_typing_findings.specs.declared.typed_unit.TypedUnit.{TypedUnit}
use Rattle.qs_typing_findings.specs.ByNumber.{IsByNumber}
use Rattle.qs_typing_findings.specs.NodeReferents.{unit_addressed, unit_referents}
use Rattle.qs_typing_findings.specs.NodeTypes.{unit_types}
use Rattle.qs_typing_findings.specs.TypedOf.{typed_tree}
use Rattle.qs_typing_findings.specs.UnitNodes.{of_unit}
use Rattle.qs_typing_findings.specs.UnitWalk.{WalkTree, unit_walked}
use Rattle.qs_typing_findings.proofs.AddedFindings.{unit_typed, unit_addresses, unit_texts}
use Rattle.qs_typing_findings.proofs.Blocks.{unit_globals}
use Rattle.qs_typing_findings.proofs.NameFindings.{unit_named}
use Rattle.qs_typing_findings.proofs.Numbers.{as_many, at_place}

pub types_are : (unit : UnitTree) (w : WalkTree) → w ≡ unit_walked unit → w.found.types ≡ unit_types unit
types_are unit w e = ap (λ v. v.found.types) e ∙ unit_typed unit

pub referents_are : (unit : UnitTree) (w : WalkTree) → w ≡ unit_walked unit → w.found.referents ≡ unit_referents unit
referents_are unit w e = ap (λ v. v.found.referents) e ∙ unit_named unit

pub addressed_are : (unit : UnitTree) (w : WalkTree) → w ≡ unit_walked unit → w.found.addressed ≡ unit_addressed unit
addressed_are unit w e = ap (λ v. v.found.addressed) e ∙ unit_addresses unit

pub structs_are : (unit : UnitTree) (c : Context) → c ≡ end_context unit → c.structs ≡ structs_of unit
structs_are unit c e = ap (λ d. d.structs) e

pub tags_are : (unit : UnitTree) (c : Context) → c ≡ end_context unit → c.type_names.tags ≡ (type_names_of unit).tags
tags_are unit c e = ap (λ d. d.type_names.tags) e

pub named_are : (unit : UnitTree) (c : Context) → c ≡ end_context unit → c.type_names.types ≡ (type_names_of unit).types
named_are unit c e = ap (λ d. d.type_names.types) e

pub same_names : (n m : TypeNames) → n.tags ≡ m.tags → n.types ≡ m.types → n ≡ m
same_names n m e f = λ i. record { tags = e i; types = f i }

pub globals_are : (unit : UnitTree) (w : WalkTree) → w ≡ unit_walked unit → w.noted.globals ≡ global_blocks unit
globals_are unit w e = ap (λ v. v.noted.globals) e ∙ unit_globals unit

pub texts_are : (unit : UnitTree) (w : WalkTree) → w ≡ unit_walked unit → w.noted.texts ≡ literal_blocks unit
texts_are unit w e = ap (λ v. v.noted.texts) e ∙ unit_texts unit

-- the parts of a typed unit are those of the walk over it
pub ruleset parts_are = (types_are, referents_are, addressed_are, structs_are, tags_are, named_are, globals_are, texts_are)

-- the node at a place of a unit's list has the place for its number
number_is : (unit : Unit) (i : ℕ) (node : Node) → slice_get (unit_nodes (unit_tree unit)) i ≡ Some node → node.id ≡ i
number_is unit i node e =
    let t : slice_get (tokens_of (unit_nodes (unit_tree unit))) i ≡ Some node.token = slice_get-map (λ n. n.token) (unit_nodes (unit_tree unit)) i ∙ ap (option_map (λ n. n.token)) e in
    let same : Some node ≡ Some (record { id = i; token = node.token }) = sym e ∙ node_of_unit unit i node.token t in
    let own : node ≡ record { id = i; token = node.token } = cc in
    ap (λ n. n.id) own

pub by_number : {A : Type 0} (at : Node → Option TypeTree → A) (of : Context → ExprTree → A) (unit : Unit) (xs : List A) → xs ≡ of_unit at of (unit_tree unit) → IsByNumber at of (unit_tree unit) xs
by_number at of unit xs e = record {
  many = ap length e ∙ as_many at of (unit_tree unit) ∙ unit_length (unit_tree unit);
  each = λ i node x h.
      let p = at_place at of (unit_tree unit) i node x h in
      (number_is unit i node p.0, ap (λ l. slice_get l i) e ∙ p.1);
}

-- ---- a typed unit is one that was read, within the limits

pub is_read : (typed : TypedUnit) → IsRead (typed_tree typed)
is_read typed = typed.unit.is_read

pub keeps_limits : (typed : TypedUnit) → KeepsLimits (typed_tree typed)
keeps_limits typed = limits.keeps_limits (typed_tree typed) (is_read typed) typed.within_limits
