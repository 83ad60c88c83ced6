use Rattle.std.proofs.Common.{◌≡◌, ◌+◌, ◌<◌, [], ◌++◌, length, map, drop, get_or, ap, sym, ◌∙◌, arith}
use Rattle.std.proofs.lemmas.List.{length-map, get_or-map}
use Rattle.qs_syntax.specs.TreeOf.{decl_tree}
use Rattle.qs_elaborate.specs.NamesOf.{names_of}
use Rattle.qs_elaborate.specs.UnitNames.{declaration_named, declarations_named}
use Rattle.qs_elaborate.proofs.UnitNames.{named_step}
use Rattle.qs_elaborate.proofs.unit_names.unit_names.Goals as goal

pub loop-d-preserved : goal.loop-d-preserved
loop-d-preserved c =
    let declarations = c.args.ds.now in
    let i = c.loop-d.d-index in
    let d = decl_tree c.d-item.result in
    let ds = map decl_tree declarations in
    let lists = map (λ v. v.items) c.args.all.now in
    let before = map names_of c.loop-d.names.items in
    let within : i < length ds = rw (length-map declarations decl_tree) c.loop-d-test.true in
    let item : get_or ds i d ≡ d = get_or-map decl_tree declarations i c.d-item.result d c.loop-d-test.true ∙ ap decl_tree (sym c.d-item.is) in
    let many : length before ≡ length c.loop-d.names.items = length-map c.loop-d.names.items names_of in
    let place : c.len.result ≡ length before = omega arith in
    let now : map names_of c.put_declaration.new.names.items ≡ before ++ declaration_named (get_or lists (length before) []) (get_or ds i d) =
    c.in_ok-put_declaration.ensures
    ∙ ap (λ nodes. before ++ declaration_named nodes d) (c.nodes_at-nodes.ensures ∙ ap (λ k. get_or lists k []) place)
    ∙ ap (λ e. before ++ declaration_named (get_or lists (length before) []) e) (sym item) in
    ap (λ l. l ++ declarations_named (drop (length l) lists) (drop (i + 1) ds)) now
    ∙ sym (named_step before lists ds i d within)
    ∙ c.loop-d.invariant
