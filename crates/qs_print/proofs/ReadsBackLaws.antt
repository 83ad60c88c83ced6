-- What is printed of a unit that was read is read as that unit again.
use Rattle.std.proofs.Common.{◌≡◌, ℕ, List, sym, ap, subst, ◌∙◌, arith}
use Rattle.std.proofs.Math.Logic.{∥∥₁_elim}
use Rattle.qs_syntax.specs.Numbering.{numbered}
use Rattle.qs_syntax.proofs.RelabelLaws.{numbered_without_tokens}
use Rattle.qs_syntax.specs.ReadsUnits.{ReadsUnit}
use Rattle.qs_syntax.specs.Trees.{DeclTree}
use Rattle.qs_syntax.specs.Units.{IsRead, Reading}
use Rattle.qs_print.specs.Laws.{LexedBack, renumbered}
use Rattle.qs_print.specs.Printed.{printed_unit}
use Rattle.qs_print.specs.ReadsBack.{ReadsBack}
use Rattle.qs_print.specs.Spelling.{joined}
use Rattle.qs_syntax.specs.WithoutTokens.{without_tokens}
use Rattle.qs_print.proofs.LexedJoined.{lexed_back}
use Rattle.qs_print.proofs.PrintedTerminalsOfUnits.{printed_are_well_formed}
use Rattle.qs_print.proofs.PrintedRelabelled.{unit_same}
use Rattle.qs_print.proofs.Rereading.{Again}
use Rattle.qs_print.proofs.RereadUnits.{externals_law}

reading_back : (text : List ℕ) (ds : List DeclTree) → text ≡ joined (printed_unit ds) → Reading ds → ReadsBack text ds
reading_back text ds e r =
    let us : List DeclTree = r.unnumbered in
    let lexed : LexedBack (printed_unit us) = lexed_back (printed_unit us) (printed_are_well_formed r.reads r.are_tokens) in
    let again : Again ReadsUnit without_tokens r.height (renumbered 0 (printed_unit us)) us = externals_law r.reads 0 in
    let printed : text ≡ joined (printed_unit us) = e ∙ ap (λ xs. joined (printed_unit xs)) r.are_numbered ∙ ap joined (unit_same numbered us) in
    rw printed (record {
      tokens = lexed.tokens;
      height = again.height;
      unit = again.tree;
      are_tokens = lexed.are_tokens;
      reads = subst (λ ls. ReadsUnit again.height ls again.tree) (sym lexed.same) again.reads;
      low = omega (arith, again.low, r.low);
      same = again.same ∙ sym (ap without_tokens r.are_numbered ∙ numbered_without_tokens us);
    })

pub reads_back : (text : List ℕ) (ds : List DeclTree) → text ≡ joined (printed_unit ds) → IsRead ds → ∥ ReadsBack text ds ∥₁
reads_back text ds e r = ∥∥₁_elim r (λ x y. squash₁ x y) (λ reading. ∣ reading_back text ds e reading ∣₁)
