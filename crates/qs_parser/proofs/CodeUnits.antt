-- What a turn that reads the name of a type leaves, as the code has it, and what an external that is no typedef does.
use Rattle.std.proofs.Common.{◌≡◌, ℕ, ◌+◌, ◌-◌, ◌<◌, ◌≤◌, max, true, false, List, [], ◌∷◌, ◌++◌, length, Result, Ok, Err, IfOk, sym, ap, subst, ◌∙◌, arith}
use Rattle.qs_syntax_vocabulary.specs.declared.terminal.Terminal.{Terminal}
use Rattle.qs_syntax_vocabulary.specs.declared.punctuator.Punctuator.TheVariants as punctuators
use Rattle.qs_base.specs.declared.keyword.Keyword.TheVariants as keywords
use Rattle.qs_syntax.specs.ReadsTypes.{Any}
use Rattle.qs_syntax.specs.Trees.{DeclaratorTree}
use Rattle.qs_syntax.specs.TreeOf.{decl_tree}
use Rattle.qs_syntax.specs.declared.units.Decl.{Decl}
use Rattle.qs_parser_grammar.specs.Heads.{starts, starts_with}
use Rattle.qs_parser_grammar.specs.Parse.{expect}
use Rattle.qs_parser_grammar.specs.ParseDeclarations.{declarator}
use Rattle.qs_parser_grammar.specs.ParseMarked.{last, marked_also, type_names, external}
use Rattle.qs_parser_grammar.specs.ParseStatements.{plain}
use Rattle.qs_parser_grammar.proofs.MarkedSteps.{last_last, last_length, turn_ends, turn_goes, turn_fails, left_low, external_plain}
use Rattle.qs_parser_expressions.specs.View.{Fails}
use Rattle.qs_parser_expressions.specs.declared.halt.Halt.{Halt}
use Rattle.qs_parser_expressions.specs.declared.halt.Halt.TheVariants as halts
use Rattle.qs_parser.specs.UnitView.{Leaves}

-- ---- names of types

module _ (m n i : ℕ) (done : List DeclaratorTree) (h : ℕ) (tokens new : List Terminal) (left after : ℕ) (d : DeclaratorTree × ℕ) (us : List Terminal) (lt : i < n) (within : left ≤ length tokens) (few : after ≤ left)
    (read : declarator Any m (last left tokens) ≡ Ok (d, last after tokens)) (marks : new ≡ marked_also d.0.name tokens) (is : us ≡ last after new) where
  seen : us ≡ last after (marked_also d.0.name tokens)
  seen = is ∙ ap (last after) marks

  pub name_ends : (rest : List Terminal) → starts punctuators.Semicolon us ≡ true → expect punctuators.Semicolon us ≡ Ok (tt, rest)
      → type_names m (n - i) done h (last left tokens) ≡ Ok ((done ++ d.0 ∷ [], max h (d.1 + 1)), last (length rest) new)
  name_ends rest s e =
      turn_ends m n i done h tokens left after d rest lt within few read (ap (starts punctuators.Semicolon) (sym seen) ∙ s) (ap (expect punctuators.Semicolon) (sym seen) ∙ e)
      ∙ ap (λ (l : List Terminal). Ok ((done ++ d.0 ∷ [], max h (d.1 + 1)), last (length rest) l)) (sym marks)

  pub name_goes_on : (rest : List Terminal) → starts punctuators.Semicolon us ≡ false → expect punctuators.Comma us ≡ Ok (tt, rest)
      → type_names m (n - i) done h (last left tokens) ≡ type_names m (n - (i + 1)) (done ++ d.0 ∷ []) (max h (d.1 + 1)) (last (length rest) new)
  name_goes_on rest s e =
      turn_goes m n i done h tokens left after d rest lt within few read (ap (starts punctuators.Semicolon) (sym seen) ∙ s) (ap (expect punctuators.Comma) (sym seen) ∙ e)
      ∙ ap (λ (l : List Terminal). type_names m (n - (i + 1)) (done ++ d.0 ∷ []) (max h (d.1 + 1)) (last (length rest) l)) (sym marks)

  pub name_is_last : (rest : List Terminal) → expect punctuators.Comma us ≡ Ok (tt, rest) → length rest ≤ left
  name_is_last rest e = left_low m n i done h tokens left after d punctuators.Comma rest within few (ap (expect punctuators.Comma) (sym seen) ∙ e)

  pub name_stops : (e : Halt) → starts punctuators.Semicolon us ≡ false → Fails e (expect punctuators.Comma us) → Fails e (type_names m (n - i) done h (last left tokens))
  name_stops halts.NoMemory s stops = tt
  name_stops (halts.Unexpected k) s stops = turn_fails m n i done h tokens left after d _ lt within few read (ap (starts punctuators.Semicolon) (sym seen) ∙ s) (ap (expect punctuators.Comma) (sym seen) ∙ stops)
  name_stops (halts.TooDeep k) s stops = turn_fails m n i done h tokens left after d _ lt within few read (ap (starts punctuators.Semicolon) (sym seen) ∙ s) (ap (expect punctuators.Comma) (sym seen) ∙ stops)

-- ---- what stands at file scope

pub plain_leaves : (k left : ℕ) (tokens us : List Terminal) (result : Result (Decl × ℕ × ℕ) Halt) → left ≤ length tokens → us ≡ last left tokens → starts_with keywords.Typedef us ≡ false → IfOk result (λ x. x.2 ≤ length us)
    → Leaves decl_tree us result (plain k us) → Leaves decl_tree tokens result (external k (last left tokens))
plain_leaves k left tokens us (Ok x) within is none few gives =
    let many : length us ≡ left = ap length is ∙ last_length left tokens within in
    external_plain k (last left tokens) (ap (starts_with keywords.Typedef) (sym is) ∙ none) ∙ ap (plain k) (sym is) ∙ gives
    ∙ ap (λ (l : List Terminal). Ok ((decl_tree x.0, x.1), l)) (ap (last x.2) is ∙ last_last x.2 left tokens (omega (arith, few, many)) within)
plain_leaves k left tokens us (Err e) within is none few gives =
    subst (Fails e) (ap (plain k) is ∙ sym (external_plain k (last left tokens) (ap (starts_with keywords.Typedef) (sym is) ∙ none))) gives
