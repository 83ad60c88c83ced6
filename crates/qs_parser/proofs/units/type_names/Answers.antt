use Rattle.std.proofs.Common.{◌≡◌, ◌≤◌, ◌+◌, ◌-◌, false, [], ◌∷◌, ◌++◌, max, length, map, Ok, sym, ◌∙◌, arith, rules}
use Rattle.std.proofs.lemmas.List.{map_push}
use Rattle.std.proofs.lemmas.Result.{err_from_is_err_and}
use Rattle.qs_syntax_vocabulary.specs.declared.punctuator.Punctuator.TheVariants as punctuators
use Rattle.qs_syntax.specs.TreeOf.{declarator_tree}
use Rattle.qs_parser_grammar.specs.Heads.{starts}
use Rattle.qs_parser_grammar.specs.Parse.{expect}
use Rattle.qs_parser_expressions.specs.View.{Fails}
use Rattle.qs_parser_grammar.specs.ParseMarked.{last, type_names}
use Rattle.qs_parser_grammar.proofs.MarkedSteps.{last_length}
use Rattle.qs_parser.proofs.CodeUnits.{name_ends, name_goes_on, name_is_last, name_stops}
use Rattle.qs_parser.proofs.units.type_names.Goals as goal

pub returns-in-Some-clause-gives : goal.returns-in-Some-clause-gives
returns-in-Some-clause-gives c =
    let pushed : map declarator_tree c.push.new.self.items ≡ map declarator_tree c.loop.names.items ++ declarator_tree c.in_ok-item.item ∷ [] = search (rules, map_push) in
    let higher : c.max-height.result ≡ max c.loop.height (c.in_ok-item.high + 1) = search rules in
    let within : c.loop.behind ≤ length c.loop.tokens.tokens.items = omega (arith, c.loop.invariant.within, c.loop.invariant.as_many, c.requires.within) in
    let seen : c.unread.result.now ≡ last c.in_ok-item.after c.type_name.new.tokens.tokens.items = search rules in
    rw (last_length c.args.left c.args.tokens.now.tokens.items c.requires.within, pushed, higher)
    (sym c.loop.invariant.same ∙ name_ends c.args.context.room c.args.left c.loop.counter (map declarator_tree c.loop.names.items) c.loop.height c.loop.tokens.tokens.items c.type_name.new.tokens.tokens.items c.loop.behind c.in_ok-item.after (declarator_tree c.in_ok-item.item, c.in_ok-item.high) c.unread.result.now
    c.loop-test.true within c.in_ok-item.ensures.few c.in_ok-item.ensures.gives c.in_ok-item.ensures.marks seen c.in-Some.rest.now (search rules) (search rules))

pub returns-in_err-behind-clause-gives : goal.returns-in_err-behind-clause-gives
returns-in_err-behind-clause-gives c =
    let within : c.loop.behind ≤ length c.loop.tokens.tokens.items = omega (arith, c.loop.invariant.within, c.loop.invariant.as_many, c.requires.within) in
    let seen : c.unread-in-loop.result.now ≡ last c.in_ok-item.after c.type_name.new.tokens.tokens.items = search rules in
    let first : starts punctuators.Semicolon c.unread-in-loop.result.now ≡ false = search rules in
    let p = err_from_is_err_and c.from_residual-in_err-behind.result c.from_residual-in_err-behind.ensures.1 in
    let stops : Fails c.in_err-behind.field-0.0 (type_names c.args.context.room (c.args.left - c.loop.counter) (map declarator_tree c.loop.names.items) c.loop.height (last c.loop.behind c.loop.tokens.tokens.items)) =
    name_stops c.args.context.room c.args.left c.loop.counter (map declarator_tree c.loop.names.items) c.loop.height c.loop.tokens.tokens.items c.type_name.new.tokens.tokens.items c.loop.behind c.in_ok-item.after (declarator_tree c.in_ok-item.item, c.in_ok-item.high) c.unread-in-loop.result.now
    c.loop-test.true within c.in_ok-item.ensures.few c.in_ok-item.ensures.gives c.in_ok-item.ensures.marks seen c.in_err-behind.field-0.0 first c.in_err-behind.ensures in
    rw (p.1, p.2, last_length c.args.left c.args.tokens.now.tokens.items c.requires.within) (rw c.loop.invariant.same at stops)

pub loop-preserved : goal.loop-preserved
loop-preserved c =
    let pushed : map declarator_tree c.push.new.self.items ≡ map declarator_tree c.loop.names.items ++ declarator_tree c.in_ok-item.item ∷ [] = search (rules, map_push) in
    let higher : c.max-height.result ≡ max c.loop.height (c.in_ok-item.high + 1) = search rules in
    let within : c.loop.behind ≤ length c.loop.tokens.tokens.items = omega (arith, c.loop.invariant.within, c.loop.invariant.as_many, c.requires.within) in
    let seen : c.unread-in-loop.result.now ≡ last c.in_ok-item.after c.type_name.new.tokens.tokens.items = search rules in
    let first : starts punctuators.Semicolon c.unread-in-loop.result.now ≡ false = search rules in
    let then : expect punctuators.Comma c.unread-in-loop.result.now ≡ Ok (tt, c.in_ok-behind.field-0.now) = c.in_ok-behind.ensures in
    let behind : length c.in_ok-behind.field-0.now ≤ c.loop.behind = name_is_last c.args.context.room c.args.left c.loop.counter (map declarator_tree c.loop.names.items) c.loop.height c.loop.tokens.tokens.items c.type_name.new.tokens.tokens.items c.loop.behind c.in_ok-item.after (declarator_tree c.in_ok-item.item, c.in_ok-item.high) c.unread-in-loop.result.now
    c.loop-test.true within c.in_ok-item.ensures.few c.in_ok-item.ensures.gives c.in_ok-item.ensures.marks seen c.in_ok-behind.field-0.now then in
    record {
      same = rw (pushed, higher) (sym (name_goes_on c.args.context.room c.args.left c.loop.counter (map declarator_tree c.loop.names.items) c.loop.height c.loop.tokens.tokens.items c.type_name.new.tokens.tokens.items c.loop.behind c.in_ok-item.after (declarator_tree c.in_ok-item.item, c.in_ok-item.high) c.unread-in-loop.result.now
          c.loop-test.true within c.in_ok-item.ensures.few c.in_ok-item.ensures.gives c.in_ok-item.ensures.marks seen c.in_ok-behind.field-0.now first then) ∙ c.loop.invariant.same);
      within = omega (arith, behind, c.loop.invariant.within);
      as_many = c.in_ok-item.ensures.as_many ∙ c.loop.invariant.as_many;
      low = grind arith;
    }
