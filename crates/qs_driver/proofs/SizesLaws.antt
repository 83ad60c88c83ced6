-- No source passes a size of images: the names of its functions are no longer than its text.
use Rattle.std.proofs.Common.{◌≡◌, ℕ, ◌≤◌, true, List, length, sym, ◌∙◌, subst, arith}
use Rattle.std.specs.List.{list_all}
use Rattle.qs_syntax.specs.Trees.{UnitTree}
use Rattle.qs_syntax.specs.Units.{IsRead}
use Rattle.qs_syntax_vocabulary.specs.WellFormed.{is_byte}
use Rattle.qs_lexer.proofs.TerminalLaws.{are_well_formed}
use Rattle.qs_lexer.specs.Terminals.{terminals}
use Rattle.qs_types.specs.Limits.{IsWithinLimits}
use Rattle.qs_types.specs.WellTyped.{WellTyped}
use Rattle.qs_compile.specs.Names.{HasRoomForNames}
use Rattle.qs_compile.proofs.CompiledLaws.{units_pass_no_size}
use Rattle.qs_compile.proofs.SourceNames.{names_are_of_the_text}
use Rattle.qs_driver_session.specs.Limits.{source_limit}
use Rattle.qs_driver_session.specs.Source.{IsTypedAs}
use Rattle.qs_driver.specs.Sizes.{SourcesPassNoSize}

-- a source that is no longer than its limit
text_has_room : (text : List ℕ) (unit : UnitTree) → length text ≤ source_limit → IsTypedAs text unit → HasRoomForNames unit
text_has_room text unit within read =
    let u = read.typed.unit in
    let names = names_are_of_the_text text u.tokens u.reads.height u.reads.unnumbered u.are_tokens u.reads.reads in
    subst HasRoomForNames (sym u.reads.are_numbered ∙ read.trees_are) (omega (arith, names, within))

-- bytes that are a unit are read as it
is_read : (text : List ℕ) (unit : UnitTree) → list_all is_byte text ≡ true → IsTypedAs text unit → IsRead unit
is_read text unit bytes read =
    let u = read.typed.unit in
    ∣ record {
      tokens = terminals text 0 u.tokens;
      height = u.reads.height;
      unnumbered = u.reads.unnumbered;
      are_tokens = are_well_formed text u.tokens u.are_tokens bytes;
      reads = u.reads.reads;
      low = u.reads.low;
      are_numbered = sym read.trees_are ∙ u.reads.are_numbered;
    } ∣₁

pub sources_pass_no_size : SourcesPassNoSize
sources_pass_no_size text unit core fault bytes within read is passes =
    units_pass_no_size unit core fault (is_read text unit bytes read) (subst WellTyped read.trees_are read.typed.well_typed)
    (subst IsWithinLimits read.trees_are read.typed.within_limits) is (text_has_room text unit within read) passes
