-- The headers of a unit's functions, and that a function's name stands for the latest header before it: a header is in scope
-- from its end (C11 6.2.1p7), and later ones declare the same function (6.2.2p2) with a type that is compatible (6.2.7p4).
use Rattle.std.specs.Prelude.{◌≡◌, ℕ, Bool, List, [], ◌∷◌, ◌++◌, Option, Some, None, if◌then◌else◌}
use Rattle.qs_base.specs.Bytes.{same_bytes}
use Rattle.qs_syntax.specs.Trees.{FunctionTree, structure, forward, typedef, function, variables, UnitTree}
use Rattle.qs_types.specs.GivenFunctions.{Signature, putchar_name, putchar_type, getchar_type}
use Rattle.qs_types.specs.Contexts.{Context, entity_of, start_context}
use Rattle.qs_types.specs.Contexts as contexts
use Rattle.qs_types.specs.UnitRules.{header_of, signature_by, after_declaration, body_context, context_after}

-- a header: the name, the number of its node, and its type, where each part has one
pub record FunctionHeader : Type 0 where
  pub name : List ℕ
  pub node : ℕ
  pub signature : Option Signature

abbrev pub header_at : Context → FunctionTree → FunctionHeader
header_at c f = record { name = f.name; node = f.node.id; signature = signature_by (header_of c f) }

-- the headers behind a place, in the order of the text
abbrev pub headers_from : Context → UnitTree → List FunctionHeader
headers_from c [] = []
headers_from c (structure s ∷ ds) = headers_from (after_declaration c (structure s)) ds
headers_from c (forward f ∷ ds) = headers_from (after_declaration c (forward f)) ds
headers_from c (typedef t ∷ ds) = headers_from (after_declaration c (typedef t)) ds
headers_from c (function f ∷ ds) = header_at c f ∷ headers_from (after_declaration c (function f)) ds
headers_from c (variables d ∷ ds) = headers_from (after_declaration c (variables d)) ds

abbrev pub unit_headers : UnitTree → List FunctionHeader
unit_headers unit = headers_from start_context unit

-- the last header of a name, if there is one, else one of before
abbrev pub latest_or : Option FunctionHeader → List ℕ → List FunctionHeader → Option FunctionHeader
latest_or before x [] = before
latest_or before x (h ∷ hs) = latest_or (if same_bytes h.name x then Some h else before) x hs

abbrev pub latest : List ℕ → List FunctionHeader → Option FunctionHeader
latest x hs = latest_or None x hs

-- the latest header of a name has this node and this type
pub record IsLatest (hs : List FunctionHeader) (x : List ℕ) (node : ℕ) (signature : Option Signature) : Type 0 where
  pub header : FunctionHeader
  pub found : latest x hs ≡ Some header
  pub its_node : header.node ≡ node
  pub its_signature : header.signature ≡ signature

-- what is a function here is declared by the latest of these headers
pub record AreLatest (c : Context) (hs : List FunctionHeader) : Type 0 where
  pub each : (x : List ℕ) (node : ℕ) (signature : Option Signature) (has_body : Bool)
      → entity_of c x ≡ Some (contexts.function node signature has_body) → IsLatest hs x node signature

-- behind any front of a unit
abbrev pub LatestBehindFronts : Type 0
LatestBehindFronts = (front : UnitTree) → AreLatest (context_after start_context front) (unit_headers front)

-- where the body of a function begins behind a front: its own header is the last
abbrev pub LatestInBodies : Type 0
LatestInBodies =
    (front : UnitTree) (f : FunctionTree)
    → AreLatest (body_context (context_after start_context front) f)
    (unit_headers front ++ header_at (context_after start_context front) f ∷ [])

-- ---- the functions that are given

abbrev pub given_type : List ℕ → Signature
given_type x = if same_bytes x putchar_name then putchar_type else getchar_type

-- what is given here has the type that its name is given with
pub record AreGiven (c : Context) : Type 0 where
  pub each : (x : List ℕ) (signature : Signature) → entity_of c x ≡ Some (contexts.given signature) → signature ≡ given_type x

abbrev pub GivenBehindFronts : Type 0
GivenBehindFronts = (front : UnitTree) → AreGiven (context_after start_context front)

abbrev pub GivenInBodies : Type 0
GivenInBodies = (front : UnitTree) (f : FunctionTree) → AreGiven (body_context (context_after start_context front) f)
