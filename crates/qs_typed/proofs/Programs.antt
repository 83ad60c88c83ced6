-- Functions of a unit, one at a time.
use Rattle.std.proofs.Common.{◌≡◌, List, [], ◌∷◌, ◌++◌, Option, Some, None, append_assoc, refl, sym, ap, ◌∙◌}
use Rattle.qs_memory.specs.Partial.{◌>>=◌}
use Rattle.qs_syntax.specs.Trees.{FunctionTree, Stmts, function, UnitTree}
use Rattle.qs_meaning.specs.Typed.{Function}
use Rattle.qs_typed.specs.UnitVariables.{variables_of}
use Rattle.qs_typed_nodes.specs.Behind.{followed}
use Rattle.qs_typed_units.specs.KnownPrograms.{Tables, body_places, body_known, option_body_known, functions_known}

pub none_more : (t : Tables) (f : FunctionTree) (ds : UnitTree) (all : List Function) → f.body ≡ None → followed all (functions_known t (function f ∷ ds)) ≡ followed all (functions_known t ds)
none_more t f ds all e = ap (λ b. followed all (option_body_known t f b >>= λ now. functions_known t ds >>= λ rest. Some (now ++ rest))) e ∙ go (functions_known t ds)
  where
    go : (o : Option (List Function)) → followed all (o >>= λ rest. Some rest) ≡ followed all o
    go None = refl
    go (Some fs) = refl

pub one_more : (t : Tables) (f : FunctionTree) (body : Stmts) (ds : UnitTree) (all : List Function) (g : Function) → f.body ≡ Some body → body_known t f body ≡ Some g
    → followed all (functions_known t (function f ∷ ds)) ≡ followed (all ++ g ∷ []) (functions_known t ds)
one_more t f body ds all g e h =
    ap (λ b. followed all (option_body_known t f b >>= λ now. functions_known t ds >>= λ rest. Some (now ++ rest))) e
    ∙ ap (λ o. followed all ((o >>= λ g. Some (g ∷ [])) >>= λ now. functions_known t ds >>= λ rest. Some (now ++ rest))) h ∙ go (functions_known t ds)
  where
    go : (o : Option (List Function)) → followed all (o >>= λ rest. Some (g ∷ rest)) ≡ followed (all ++ g ∷ []) o
    go None = refl
    go (Some fs) = ap Some (sym (append_assoc all (g ∷ []) fs))

-- ---- variables

pub without_body : (t : Tables) (f : FunctionTree) (b : Option Stmts) → b ≡ None → variables_of t f b ≡ []
without_body t f b e = ap (variables_of t f) e

pub with_body : (t : Tables) (f : FunctionTree) (b : Option Stmts) (body : Stmts) → b ≡ Some body → variables_of t f b ≡ (body_places t f body).variables ∷ []
with_body t f b body e = ap (variables_of t f) e
