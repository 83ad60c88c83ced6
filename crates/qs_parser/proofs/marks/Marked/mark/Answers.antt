use Rattle.std.proofs.Common.{◌≡◌, Some, None, length, ap, ◌∙◌, rules}
use Rattle.indexmap.specs.IndexMap.{get}
use Rattle.qs_base.specs.Bytes.{same_bytes}
use Rattle.qs_parser_grammar.specs.ParseMarked.{marked_also}
use Rattle.qs_parser.specs.Places.{Indexes, marked_at}
use Rattle.qs_parser.proofs.PlaceLaws.{whole, also_many, without_name, nothing_noted, all_noted}
use Rattle.qs_parser.proofs.marks.Marked.mark.Goals as goal

pub invariant_of-self : goal.invariant_of-self
invariant_of-self c =
    let known : Indexes c.args.self.now.places c.args.self.now.tokens.items = search rules in
    let some : get same_bytes c.args.self.now.places c.args.name.now ≡ Some c.in-Some.places = search rules in
    let at_places : c.mark_places.new.tokens ≡ marked_at c.args.name.now c.in-Some.places.items c.args.self.now.tokens.items = search rules in
    let marked : c.mark_places.new.tokens ≡ marked_also c.args.name.now c.args.self.now.tokens.items = at_places ∙ all_noted c.args.name.now c.args.self.now.tokens.items c.args.self.now.places c.in-Some.places known some in
    let all : c.args.self.now.tokens.len ≡ length c.args.self.now.tokens.items = search rules in
    let as_many : length c.mark_places.new.tokens ≡ length c.args.self.now.tokens.items = ap length marked ∙ also_many c.args.name.now c.args.self.now.tokens.items in
    record { known = rw (whole c.args.self.now.tokens.len c.args.self.now.tokens.items c.mark_places.new.tokens all as_many, marked) (without_name c.args.name.now c.args.self.now.tokens.items c.args.self.now.places c.swap_remove.new.self known c.swap_remove.ensures.updates.0) }

pub returns-in-Some : goal.returns-in-Some
returns-in-Some c =
    let known : Indexes c.args.self.now.places c.args.self.now.tokens.items = search rules in
    let some : get same_bytes c.args.self.now.places c.args.name.now ≡ Some c.in-Some.places = search rules in
    let at_places : c.mark_places.new.tokens ≡ marked_at c.args.name.now c.in-Some.places.items c.args.self.now.tokens.items = search rules in
    let marked : c.mark_places.new.tokens ≡ marked_also c.args.name.now c.args.self.now.tokens.items = at_places ∙ all_noted c.args.name.now c.args.self.now.tokens.items c.args.self.now.places c.in-Some.places known some in
    let all : c.args.self.now.tokens.len ≡ length c.args.self.now.tokens.items = search rules in
    let as_many : length c.mark_places.new.tokens ≡ length c.args.self.now.tokens.items = ap length marked ∙ also_many c.args.name.now c.args.self.now.tokens.items in
    whole c.args.self.now.tokens.len c.args.self.now.tokens.items c.mark_places.new.tokens all as_many ∙ marked

pub returns-in_default : goal.returns-in_default
returns-in_default c =
    let known : Indexes c.args.self.now.places c.args.self.now.tokens.items = search rules in
    let none : get same_bytes c.args.self.now.places c.args.name.now ≡ None = search rules in
    nothing_noted c.args.name.now c.args.self.now.tokens.items c.args.self.now.places known none
