use Rattle.std.proofs.Common.{◌≡◌, Some, map, option_map, refl, sym, ap, ◌∙◌}
use Rattle.qs_types.specs.declared.structs.StructType.{StructType}
use Rattle.qs_types.specs.Layout.{layout_of, members_layout}
use Rattle.qs_types.specs.StructsOf.{member_tree, layout_tree}
use Rattle.qs_types.specs.EnvOf.{env_tree}
use Rattle.qs_types.proofs.StructLayouts.{defined_keeps, defined_whole, defined_tree, members_sized}
use Rattle.qs_types.proofs.env.Env.define.Goals as goal

pub invariant_of-self : goal.invariant_of-self
invariant_of-self c =
    let s = c.args.self.now in
    let given : StructType = record { members = Some c.args.members; layout = Some c.in-Some.layout } in
    let sized : members_layout (layout_of (env_tree s)) (map member_tree c.args.members.entries) ≡ Some (layout_tree c.in-Some.layout) =
    members_sized (layout_of (env_tree s)) c.args.members.entries (layout_tree c.in-Some.layout) (sym c.in_ok-members_layout.ensures ∙ ap (option_map layout_tree) c.in-Some.is) in
    record {
      laid_out = defined_keeps s.structs.items c.args.k given (map member_tree c.args.members.entries) (layout_tree c.in-Some.layout) s.laid_out s.whole c.requires refl refl sized;
      whole = defined_whole s.structs.items c.args.k given s.whole refl;
    }

pub returns-in-Some-clause-defined : goal.returns-in-Some-clause-defined
returns-in-Some-clause-defined c =
    let given : StructType = record { members = Some c.args.members; layout = Some c.in-Some.layout } in
    defined_tree c.args.self.now.structs.items c.args.k given (map member_tree c.args.members.entries) refl
