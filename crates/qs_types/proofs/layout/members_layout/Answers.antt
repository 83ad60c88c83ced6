use Rattle.std.proofs.Common.{rules, ◌≡◌, ◌≤◌, ◌<◌, ◌+◌, ◌++◌, ◌∷◌, [], List, max, Some, None, map, option_map, length, sym, ap, ◌∙◌}
use Rattle.std.specs.List.{slice_get}
use Rattle.std.proofs.lemmas.Option.{slice_get-map}
use Rattle.indexmap.specs.IndexMap.{values}
use Rattle.qs_types.specs.Types.{TypeTree}
use Rattle.qs_types.specs.Layout.{Layouts, layout_of}
use Rattle.qs_types.specs.TypeOf.{type_tree}
use Rattle.qs_types.specs.EnvOf.{env_tree}
use Rattle.qs_types.proofs.Extents.{unit_layouts_aligned}
use Rattle.qs_types.proofs.LayoutSteps.{ends_none, ends_over_as, ends_whole_as, goes_on_as, max_positive, max_small, past}
use Rattle.qs_types.proofs.layout.members_layout.Goals as goal

pub returns-in_default : goal.returns-in_default
returns-in_default c =
    let layouts : Layouts = layout_of (env_tree c.args.types.now) in
    let ts : List TypeTree = map type_tree (values c.args.members.now) in
    let at : slice_get ts c.loop-i.i ≡ Some (type_tree c.index.result.now) = slice_get-map type_tree (values c.args.members.now) c.loop-i.i ∙ ap (option_map type_tree) c.index.ensures in
    let none : c.extent_of.result ≡ None = search rules in
    ends_none layouts ts c.loop-i.i (type_tree c.index.result.now) c.loop-i.offsets.items c.loop-i.end c.loop-i.alignment at c.loop-i.invariant.laid
    (unit_layouts_aligned (env_tree c.args.types.now)) (sym c.extent_of.ensures.extent ∙ none)

pub returns-then-end-gt-SIZE_LIMIT : goal.returns-then-end-gt-SIZE_LIMIT
returns-then-end-gt-SIZE_LIMIT c =
    let layouts : Layouts = layout_of (env_tree c.args.types.now) in
    let ts : List TypeTree = map type_tree (values c.args.members.now) in
    let at : slice_get ts c.loop-i.i ≡ Some (type_tree c.index.result.now) = slice_get-map type_tree (values c.args.members.now) c.loop-i.i ∙ ap (option_map type_tree) c.index.ensures in
    let over : 16777216 < c.rounded_up-offset.result + c.in-Some.extent.size = search rules in
    ends_over_as layouts ts c.loop-i.i (type_tree c.index.result.now) c.loop-i.offsets.items c.loop-i.end c.loop-i.alignment c.in-Some.extent at c.loop-i.invariant.laid
    (unit_layouts_aligned (env_tree c.args.types.now)) (sym c.extent_of.ensures.extent ∙ c.in-Some.is) c.rounded_up-offset.result c.rounded_up-offset.ensures.up over

pub loop-i-preserved : goal.loop-i-preserved
loop-i-preserved c =
    let layouts : Layouts = layout_of (env_tree c.args.types.now) in
    let ts : List TypeTree = map type_tree (values c.args.members.now) in
    let at : slice_get ts c.loop-i.i ≡ Some (type_tree c.index.result.now) = slice_get-map type_tree (values c.args.members.now) c.loop-i.i ∙ ap (option_map type_tree) c.index.ensures in
    let put : c.push.new.self.items ≡ c.loop-i.offsets.items ++ c.rounded_up-offset.result ∷ [] = search rules in
    let strict : c.max-alignment.result ≡ max c.loop-i.alignment c.in-Some.extent.alignment = search rules in
    let within : c.rounded_up-offset.result + c.in-Some.extent.size ≤ 16777216 = search rules in
    record {
      laid = goes_on_as layouts ts c.loop-i.i (type_tree c.index.result.now) c.loop-i.offsets.items c.loop-i.end c.loop-i.alignment c.in-Some.extent at c.loop-i.invariant.laid
          (sym c.extent_of.ensures.extent ∙ c.in-Some.is) c.rounded_up-offset.result c.push.new.self.items c.max-alignment.result c.rounded_up-offset.ensures.up put strict within;
      within = within;
      positive = max_positive c.loop-i.alignment c.in-Some.extent.alignment c.max-alignment.result strict c.loop-i.invariant.positive;
      strictest = max_small c.loop-i.alignment c.in-Some.extent.alignment c.max-alignment.result strict c.loop-i.invariant.strictest c.in-Some.ensures.small.strictest;
    }

pub returns : goal.returns
returns c =
    let layouts : Layouts = layout_of (env_tree c.args.types.now) in
    let ts : List TypeTree = map type_tree (values c.args.members.now) in
    let all : length c.args.members.now.entries ≤ c.loop-i.i = search rules in
    c.whole_layout.ensures
    ∙ ends_whole_as layouts ts c.loop-i.i c.loop-i.offsets.items c.loop-i.end c.loop-i.alignment (past (λ e. e.1) type_tree c.args.members.now.entries c.loop-i.i all)
    c.loop-i.invariant.laid (unit_layouts_aligned (env_tree c.args.types.now)) c.rounded_up.result c.rounded_up.ensures.up
