use Rattle.std.proofs.Common.{◌≡◌, ◌++◌, map, sym, ap, ◌∙◌}
use Rattle.std.proofs.lemmas.List.{append-nil, at_drop_all}
use Rattle.qs_syntax.specs.Trees.{initialisers_of}
use Rattle.qs_syntax.specs.TreeOf.{initialiser_tree}
use Rattle.qs_link_names.specs.InternalOf.{internal_of}
use Rattle.qs_link_names.specs.Linkage.{Internal}
use Rattle.qs_link_names.specs.LinkedDeclarations.{linked_initialiser}
use Rattle.qs_link_names.proofs.ListLaws.{initialisers_linked}
use Rattle.qs_link_names.proofs.declarations.+linked_initialiser.Goals as goal

pub linked_initialisers-returns : goal.linked_initialisers-returns
linked_initialisers-returns t c =
    let own : Internal = internal_of c.args.own.now in
    let given = map initialiser_tree c.args.from.now in
    let made = map initialiser_tree c.loop-item.to.items in
    let none = at_drop_all (λ is. made ++ map (linked_initialiser own) (map initialiser_tree is)) c.args.from.now c.loop-item.item-index c.loop-item-test.false in
    let all : made ≡ map (linked_initialiser own) given = sym (append-nil made) ∙ (sym none ∙ c.loop-item.invariant.tree) in
    ap initialisers_of all ∙ initialisers_linked own given
