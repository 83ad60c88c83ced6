-- The functions of a well typed unit that are found by the numbers of its nodes are those of its typed tree.
use Rattle.std.proofs.Common.{◌≡◌, ℕ, zero, suc, Bool, true, false, List, [], ◌∷◌, ◌++◌, Option, Some, None, map, refl, sym, ap, ◌∙◌, subst, arith, if◌then◌else◌}
use Rattle.std.specs.List.{slice_get}
use Rattle.std.proofs.lemmas.Option.{same_Some}
use Rattle.qs_memory.specs.Partial.{◌>>=◌}
use Rattle.qs_base.specs.Bytes.{same_bytes}
use Rattle.qs_syntax.specs.declared.nodes.Node.{Node}
use Rattle.qs_syntax.specs.Trees.{UnitTree}
use Rattle.qs_types.specs.Layout.{struct_of, defined_structs}
use Rattle.qs_types.specs.References.{literal_blocks}
use Rattle.qs_types.specs.GivenFunctions.{Signature, putchar_name, putchar_type, getchar_name, getchar_type}
use Rattle.qs_types.specs.Contexts.{given, start_context, entity_of, base_in, context_with}
use Rattle.qs_types.specs.Contexts as contexts
use Rattle.qs_types.specs.Expressions.{type_of}
use Rattle.qs_types.specs.UnitRules.{context_after}
use Rattle.qs_types.specs.WellTyped.{WellTyped}
use Rattle.qs_typing_findings.specs.ByNumber.{IsByNumber}
use Rattle.qs_types.specs.Referents.{referent_of}
use Rattle.qs_typing_findings.specs.NodeReferents.{no_referent, unit_referents}
use Rattle.qs_typing_findings.specs.NodeTypes.{declared_type, unit_types}
use Rattle.qs_typing_findings.specs.UnitNodes.{of_unit}
use Rattle.qs_meaning.specs.Typed.{Function, TypedProgram}
use Rattle.qs_meaning.specs.InitialValues as initial
use Rattle.qs_meaning.specs.Units.{declarations_typed, start_scope, typed_of}
use Rattle.qs_meaning.proofs.UnitsTyped.{start_known}
use Rattle.qs_typed_units.specs.KnownPrograms.{Tables, functions_known}
use Rattle.qs_typed.specs.UnitLaws.{IsNumberedUnit}
use Rattle.qs_typed.proofs.UnitContexts.{GoesTo}
use Rattle.qs_typed_units.specs.TablesOf.{AreOf}
use Rattle.qs_typed.specs.UnitVariables.{unit_variables, variables_known}
use Rattle.qs_typed_nodes.proofs.KeptAgreement.{nothing}
use Rattle.qs_typed.proofs.KnownNodes.{Each, StandsIn}
use Rattle.qs_typed.proofs.KnownBodies as bodies
use Rattle.qs_typed.proofs.UnitGiven.{start_given}
use Rattle.qs_typed.proofs.UnitPrograms.{UnitAt, BodiesAt, bodies_at, functions_same, variables_same}

each_from : {A : Type 0} (P : A → Type 0) (ps : List A) → ((i : ℕ) (p : A) → slice_get ps i ≡ Some p → P p) → Each P ps
each_from P [] h = tt
each_from P (p ∷ ps) h = (h zero p refl, each_from P ps (λ i q e. h (suc i) q e))

stands : {A : Type 0} (xs : List (Option A)) (ps : List (Node × Option A)) → ((i : ℕ) (node : Node) (x : Option A) → slice_get ps i ≡ Some (node, x) → (node.id ≡ i) × (slice_get xs i ≡ Some x))
    → Each (StandsIn xs) ps
stands xs ps h = each_from (StandsIn xs) ps (λ i p e. ap (slice_get xs) (h i p.0 p.1 e).0 ∙ (h i p.0 p.1 e).1)

start_found : (x : List ℕ) (node : ℕ) (f : Signature) (body : Bool) → entity_of start_context x ≡ Some (contexts.function node (Some f) body) → ⊥
start_found x node f body e = by (same_bytes putchar_name x) (same_bytes getchar_name x) e
  where
    no : (g : Signature) → Some (given g) ≡ Some (contexts.function node (Some f) body) → ⊥
    no g e = cc

    by : (b d : Bool) → (if b then Some (given putchar_type) else if d then Some (given getchar_type) else None) ≡ Some (contexts.function node (Some f) body) → ⊥
    by true d p = no putchar_type p
    by false true p = no getchar_type p
    by false false p = nothing (contexts.function node (Some f) body) p

start_at : (unit : UnitTree) → WellTyped unit → (t : Tables) → AreOf t unit → UnitAt t (start_scope unit) start_context [] unit
start_at unit w t h = record {
  scope = start_known;
  faultless = w.keeps_rules;
  structs = record { members = λ k x e. ap (λ s. struct_of s k) h.structs ∙ e; many = let e = ap defined_structs h.structs in omega arith };
  bases = λ b x e. ap (λ n. base_in n b) h.type_names ∙ e;
  found = λ x node f body e. absurd (start_found x node f body e);
  headers = h.headers;
  given = start_given;
  statics = λ i. record { variables = h.variables i; texts = h.texts i };
  functions = h.functions;
}

pub unit_bodies : (unit : UnitTree) → WellTyped unit → (t : Tables) → AreOf t unit → IsByNumber declared_type type_of unit t.types → IsByNumber no_referent referent_of unit t.referents
    → BodiesAt t (start_scope unit) start_context unit
unit_bodies unit w t h n m =
    bodies_at t (start_scope unit) unit start_context [] (start_at unit w t h) (stands t.types (of_unit bodies.declared_type bodies.its_type unit) n.each)
    (stands t.referents (of_unit bodies.no_referent bodies.its_referent unit) m.each)

pub functions_are : (unit : UnitTree) (t : Tables) → BodiesAt t (start_scope unit) start_context unit → (p : TypedProgram) → typed_of unit ≡ Some p → functions_known t unit ≡ Some p.functions
functions_are unit t h p e = go (declarations_typed (start_scope unit) unit) (functions_same t (start_scope unit) unit start_context h) e
  where
    go : (o : Option TypedProgram) → ((q : TypedProgram) → o ≡ Some q → functions_known t unit ≡ Some q.functions)
        → (o >>= λ (u : TypedProgram). Some (record u { blocks = u.blocks ++ map initial.text_block (literal_blocks unit) })) ≡ Some p → functions_known t unit ≡ Some p.functions
    go None k r = nothing p r
    go (Some q) k r = k q refl ∙ ap (λ (p : TypedProgram). Some p.functions) (same_Some (record q { blocks = q.blocks ++ map initial.text_block (literal_blocks unit) }) p r)

-- ---- of tables that are those of the unit

bodies_of : (unit : UnitTree) → WellTyped unit → IsByNumber declared_type type_of unit (unit_types unit) → IsByNumber no_referent referent_of unit (unit_referents unit) → (t : Tables) → AreOf t unit
    → BodiesAt t (start_scope unit) start_context unit
bodies_of unit w n m t h =
    unit_bodies unit w t h (subst (λ xs. IsByNumber declared_type type_of unit xs) (sym h.types) n) (subst (λ xs. IsByNumber no_referent referent_of unit xs) (sym h.referents) m)

pub typed_are : (unit : UnitTree) → WellTyped unit → IsByNumber declared_type type_of unit (unit_types unit) → IsByNumber no_referent referent_of unit (unit_referents unit) → (t : Tables) → AreOf t unit
    → (fs : List Function) → functions_known t unit ≡ Some fs → (p : TypedProgram) → typed_of unit ≡ Some p → p.functions ≡ fs
typed_are unit w n m t h fs e p q = same_Some p.functions fs (sym (functions_are unit t (bodies_of unit w n m t h) p q) ∙ e)

pub variables_are : (unit : UnitTree) → WellTyped unit → IsByNumber declared_type type_of unit (unit_types unit) → IsByNumber no_referent referent_of unit (unit_referents unit) → (t : Tables) → AreOf t unit
    → variables_known t unit ≡ unit_variables unit
variables_are unit w n m t h = variables_same t (start_scope unit) unit start_context (bodies_of unit w n m t h)

-- ---- the nodes of a unit by their numbers

pub numbered_types : (unit : UnitTree) → IsNumberedUnit unit → (t : Tables) → AreOf t unit → Each (StandsIn t.types) (of_unit bodies.declared_type bodies.its_type unit)
numbered_types unit n t h = stands t.types (of_unit bodies.declared_type bodies.its_type unit) (subst (λ xs. IsByNumber declared_type type_of unit xs) (sym h.types) n.types).each

pub numbered_referents : (unit : UnitTree) → IsNumberedUnit unit → (t : Tables) → AreOf t unit → Each (StandsIn t.referents) (of_unit bodies.no_referent bodies.its_referent unit)
numbered_referents unit n t h = stands t.referents (of_unit bodies.no_referent bodies.its_referent unit) (subst (λ xs. IsByNumber no_referent referent_of unit xs) (sym h.referents) n.referents).each

pub start_goes : (unit : UnitTree) (t : Tables) → AreOf t unit → GoesTo (context_after start_context unit) (context_with t.structs t.type_names)
start_goes unit t h = record {
  structs = record { members = λ k x e. ap (λ s. struct_of s k) h.structs ∙ e; many = let e = ap defined_structs h.structs in omega arith };
  bases = λ b x e. ap (λ n. base_in n b) h.type_names ∙ e;
}
