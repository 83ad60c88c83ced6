use Rattle.std.proofs.Common.{◌+◌, ◌<◌, [], ◌∷◌, ◌++◌, length, map, drop, get_or, ap, sym, ◌∙◌, append_assoc, arith}
use Rattle.std.proofs.lemmas.List.{length-map, get_or-map, map_push}
use Rattle.qs_core.specs.TreeOf.{function_tree}
use Rattle.qs_typed_trees.specs.TreeOf as typed
use Rattle.qs_elaborate.specs.NamesOf.{names_of}
use Rattle.qs_elaborate_bodies.specs.Units.{no_names, function_core, functions_core}
use Rattle.qs_elaborate.proofs.Steps.{functions_step}
use Rattle.qs_elaborate.proofs.function.functions.Goals as goal

pub loop-i-preserved : goal.loop-i-preserved
loop-i-preserved c =
    let gs = c.args.gs.now in
    let i = c.loop-i.i in
    let g = c.index-gs-i.result in
    let xs = map names_of c.args.names.now in
    let ys = map typed.function_tree gs in
    let within : i < length gs = omega arith in
    let within_trees : i < length ys = rw (length-map gs typed.function_tree) within in
    let done = map function_tree c.loop-i.functions.items in
    let rest = functions_core (drop (i + 1) xs) (drop (i + 1) ys) in
    let item = get_or-map typed.function_tree gs i g (typed.function_tree g) within ∙ ap typed.function_tree (sym c.index-gs-i.is) in
    ap (λ l. map function_tree l ++ rest) c.in_ok-push.ensures.items
    ∙ ap (λ l. l ++ rest) (map_push function_tree c.loop-i.functions.items c.in_ok-f.f)
    ∙ append_assoc done (function_tree c.in_ok-f.f ∷ []) rest
    ∙ ap (λ x. done ++ x ∷ rest) (c.in_ok-f.ensures ∙ ap (function_core (get_or xs i no_names)) (sym item))
    ∙ ap (λ l. done ++ l) (sym (functions_step xs ys i (typed.function_tree g) within_trees))
    ∙ c.loop-i.invariant
