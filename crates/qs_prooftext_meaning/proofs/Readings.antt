-- A text of what is written of proofs of a unit reads back to them.
use Rattle.std.proofs.Common.{◌≡◌, ℕ, true, List}
use Rattle.qs_core.specs.Fits.{unit_fits}
use Rattle.qs_core.specs.Trees.{CoreUnitTree}
use Rattle.qs_sexpr.specs.Layout.{lay_all}
use Rattle.qs_sexpr.specs.Spelling.{ReadsAs}
use Rattle.qs_sexpr.proofs.LayoutLaws.{laid_out_reads}
use Rattle.qs_triples.specs.Derivations.{ProofsTree}
use Rattle.qs_prooftext_meaning.specs.Reading.{Reading}
use Rattle.qs_prooftext_meaning.specs.Writable.{IsWritable}
use Rattle.qs_prooftext_meaning.specs.Writing.{HasShortNumbers, file_forms}
use Rattle.qs_prooftext_meaning.proofs.FileLaws.{file_reads}
use Rattle.qs_prooftext_meaning.proofs.OwnWords.{own_words}

pub spelled_reads : (u : CoreUnitTree) (text : List ℕ) (proofs : ProofsTree) → unit_fits u ≡ true → HasShortNumbers u → IsWritable u proofs → ReadsAs text (file_forms u proofs) → Reading u text proofs
spelled_reads u text proofs fits short w r = file_reads u text proofs fits (own_words u fits short) w r

pub written_reads : (u : CoreUnitTree) (proofs : ProofsTree) → unit_fits u ≡ true → HasShortNumbers u → IsWritable u proofs → Reading u (lay_all (file_forms u proofs)) proofs
written_reads u proofs fits short w =
    spelled_reads u (lay_all (file_forms u proofs)) proofs fits short w (laid_out_reads (file_forms u proofs) w.forms)

pub ruleset reads_back = (written_reads, spelled_reads)
