-- What is known agrees with the scopes inside a scope with which it agrees.
use Rattle.std.proofs.Common.{◌≡◌, ℕ, Bool, true, false, List, Option, Some, None, if◌then◌else◌}
use Rattle.qs_base.specs.Bytes.{same_bytes}
use Rattle.qs_types.specs.Types.{TypeTree}
use Rattle.qs_types.specs.GivenFunctions.{Signature}
use Rattle.qs_types.specs.Contexts.{Entity, local_variable, function, given, entity_of, with_name, inner_scope, inside_loop, inside_switch, with_case, with_default}
use Rattle.qs_meaning.specs.Names.{Scope, within}
use Rattle.qs_typed_nodes.specs.Known.{Known}
use Rattle.qs_typed_nodes.specs.Agrees.{Agrees, GivenAreGiven}

pub record Inside (k : Known) (s : Scope) : Type 0 where
  pub agrees : Agrees k s
  pub given : GivenAreGiven s

pub inner_inside : (k : Known) (s : Scope) → Inside k s → Inside k (within s (inner_scope s.context))
inner_inside k s h = record {
  agrees = record {
    structs = h.agrees.structs;
    bases = h.agrees.bases;
    headers = h.agrees.headers;
    locals = h.agrees.locals;
    statics = h.agrees.statics;
    functions = h.agrees.functions;
  };
  given = h.given;
}

pub loop_inside : (k : Known) (s : Scope) → Inside k s → Inside k (within s (inside_loop s.context))
loop_inside k s h = record {
  agrees = record {
    structs = h.agrees.structs;
    bases = h.agrees.bases;
    headers = h.agrees.headers;
    locals = h.agrees.locals;
    statics = h.agrees.statics;
    functions = h.agrees.functions;
  };
  given = h.given;
}

pub switch_inside : (k : Known) (s : Scope) (operand : Option TypeTree) → Inside k s → Inside k (within s (inside_switch operand s.context))
switch_inside k s operand h = record {
  agrees = record {
    structs = h.agrees.structs;
    bases = h.agrees.bases;
    headers = h.agrees.headers;
    locals = h.agrees.locals;
    statics = h.agrees.statics;
    functions = h.agrees.functions;
  };
  given = h.given;
}

pub case_inside : (k : Known) (s : Scope) (value : Option ℕ) → Inside k s → Inside k (within s (with_case s.context value))
case_inside k s None h = h
case_inside k s (Some n) h = record {
  agrees = record {
    structs = h.agrees.structs;
    bases = h.agrees.bases;
    headers = h.agrees.headers;
    locals = h.agrees.locals;
    statics = h.agrees.statics;
    functions = h.agrees.functions;
  };
  given = h.given;
}

pub default_inside : (k : Known) (s : Scope) → Inside k s → Inside k (within s (with_default s.context))
default_inside k s h = record {
  agrees = record {
    structs = h.agrees.structs;
    bases = h.agrees.bases;
    headers = h.agrees.headers;
    locals = h.agrees.locals;
    statics = h.agrees.statics;
    functions = h.agrees.functions;
  };
  given = h.given;
}

-- a local hides a function, and is none
no_function : (b : Bool) (n node : ℕ) (t : Option TypeTree) (o : Option Entity) (f : Option Signature) (body : Bool)
    → (if b then Some (local_variable n t) else o) ≡ Some (function node f body) → o ≡ Some (function node f body)
no_function true n node t o f body e = absurd (no n node t f body e)
  where
    no : (n node : ℕ) (t : Option TypeTree) (f : Option Signature) (body : Bool) → Some (local_variable n t) ≡ Some (function node f body) → ⊥
    no n node t f body e = cc
no_function false n node t o f body e = e

none_given : (b : Bool) (n : ℕ) (t : Option TypeTree) (o : Option Entity) (f : Signature) → (if b then Some (local_variable n t) else o) ≡ Some (given f) → o ≡ Some (given f)
none_given true n t o f e = absurd (no n t f e)
  where
    no : (n : ℕ) (t : Option TypeTree) (f : Signature) → Some (local_variable n t) ≡ Some (given f) → ⊥
    no n t f e = cc
none_given false n t o f e = e

pub local_inside : (k : Known) (s : Scope) (x : List ℕ) (n : ℕ) (t : Option TypeTree) → Inside k s → Inside k (within s (with_name s.context x (local_variable n t)))
local_inside k s x n t h = record {
  agrees = record {
    structs = h.agrees.structs;
    bases = h.agrees.bases;
    headers = λ y node f body e. h.agrees.headers y node f body (no_function (same_bytes x y) n node t (entity_of s.context y) (Some f) body e);
    locals = h.agrees.locals;
    statics = h.agrees.statics;
    functions = h.agrees.functions;
  };
  given = λ y f e. h.given y f (none_given (same_bytes x y) n t (entity_of s.context y) f e);
}
