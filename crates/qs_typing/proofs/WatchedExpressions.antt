-- An expression is walked apart from what was found before, to see whether a rule is broken in it.
use Rattle.std.proofs.Common.{◌≡◌, Bool, List, [], ◌∷◌, Option, Some, None, is_some, option_map, true, refl, sym, ap, ◌∙◌}
use Rattle.qs_syntax.specs.Trees.{ExprTree, value}
use Rattle.qs_types.specs.Types.{TypeTree}
use Rattle.qs_types.specs.Contexts.{Context}
use Rattle.qs_types.specs.ExpressionFaults.{whole, expr_faults}
use Rattle.qs_types.specs.Rules.{Fault, is_any}
use Rattle.qs_typing_findings.specs.declared.found.Fault as found
use Rattle.qs_typing_findings.specs.FoundOf.{fault_tree}
use Rattle.qs_typing_findings.specs.Findings.{lesser, least_with}
use Rattle.qs_typing_findings.specs.UnitWalk.{WalkTree, initialiser_walked}
use Rattle.qs_typing_findings.specs.Variables.{joined_least, with_least_before}
use Rattle.qs_typing_findings.proofs.LeastFaults.{least_swaps}

-- the least of three, in either order
three : (g m x : Fault) → least_with (Some g) (lesser (Some m) x ∷ []) ≡ least_with (least_with (Some g) (m ∷ [])) (x ∷ [])
three g m x =
    least_swaps None (g ∷ []) (lesser (Some m) x ∷ [])
    ∙ least_swaps (Some m) (x ∷ []) (g ∷ [])
    ∙ ap (λ o. least_with o (x ∷ [])) (least_swaps None (m ∷ []) (g ∷ []))

one_more : (before o : Option Fault) (x : Fault) → joined_least before (least_with o (x ∷ [])) ≡ least_with (joined_least before o) (x ∷ [])
one_more before None x = refl
one_more None (Some m) x = refl
one_more (Some g) (Some m) x = three g m x

pub joined_is : (before : Option Fault) (fs : List Fault) → joined_least before (least_with None fs) ≡ least_with before fs
joined_is before [] = refl
joined_is before (x ∷ fs) =
    ap (joined_least before) (least_swaps None (x ∷ []) fs)
    ∙ one_more before (least_with None fs) x
    ∙ ap (λ o. least_with o (x ∷ [])) (joined_is before fs)
    ∙ sym (least_swaps before (x ∷ []) fs)

some_least : (f : Fault) (fs : List Fault) → is_some (least_with (Some f) fs) ≡ true
some_least f [] = refl
some_least f (g ∷ fs) = some_least (lesser (Some f) g) fs

pub any_least : (fs : List Fault) → is_some (least_with None fs) ≡ is_any fs
any_least [] = refl
any_least (f ∷ fs) = some_least f fs

-- ---- an expression that initialises a variable

abbrev pub with_least : Option Fault → WalkTree → WalkTree
with_least o w = record w { found = record (w.found) { least = o } }

pub broken_is : (c : Context) (at_file_scope : Bool) (t : Option TypeTree) (e : ExprTree) (w v : WalkTree) → v ≡ initialiser_walked at_file_scope c t (value e) (with_least None w)
    → is_some v.found.least ≡ is_any (expr_faults c whole e)
broken_is c at_file_scope t e w v h = ap (λ x. is_some x.found.least) h ∙ any_least (expr_faults c whole e)

pub watched_is : (c : Context) (at_file_scope : Bool) (t : Option TypeTree) (e : ExprTree) (w v u : WalkTree) → v ≡ initialiser_walked at_file_scope c t (value e) (with_least None w)
    → u ≡ with_least_before w.found.least v → u ≡ initialiser_walked at_file_scope c t (value e) w
watched_is c at_file_scope t e w v u h g =
    g ∙ ap (with_least_before w.found.least) h ∙ (λ i. with_least (joined_is w.found.least (expr_faults c whole e) i) (initialiser_walked at_file_scope c t (value e) w))

-- a fault in code is one of the definitions
pub is_some_fault : (o : Option found.Fault) → is_some (option_map fault_tree o) ≡ is_some o
is_some_fault None = refl
is_some_fault (Some f) = refl
