-- Lists of which there is a range.
use Rattle.std.proofs.Common.{◌≡◌, ℕ, List, Option, Some, None, Result, Ok, Err, refl, sym, ap, ◌∙◌, subst}
use Rattle.qs_base.specs.Results.{bind}
use Rattle.qs_memory.specs.Partial.{◌>>=◌}
use Rattle.qs_assert.specs.declared.variable.Var.{Var}
use Rattle.qs_entail.specs.Certificates.{FactTree, range}
use Rattle.qs_entail.specs.View.{fact_tree}
use Rattle.qs_entail.specs.declared.certificate.Fact.{Fact}
use Rattle.qs_sexpr.specs.Trees.{Sexp, symbol, list, Sexps}
use Rattle.qs_sexpr.specs.declared.node.Node.{Node}
use Rattle.qs_prooftext_meaning.specs.declared.fault.TextFault.{TextFault}
use Rattle.qs_prooftext_meaning.specs.declared.fault.TextFault.TheVariants.{UnknownForm}
use Rattle.qs_prooftext_assertions.specs.declared.ranges.RangeWord.{RangeWord}
use Rattle.qs_prooftext_assertions.specs.declared.ranges.RangeWord.TheVariants as words
use Rattle.qs_prooftext_assertions.specs.Answers.{Gives, HasNoHead, IsList, IsHeaded}
use Rattle.qs_prooftext_meaning.specs.Heads.{range_rows}
use Rattle.qs_prooftext_meaning.specs.Kinds.{Row, a_range}
use Rattle.qs_prooftext_meaning.specs.Meanings.{Answer, means}
use Rattle.qs_prooftext_assertions.specs.Ranges.{range_words, range_row, range_or, range_list}
use Rattle.qs_prooftext_meaning.specs.Settings.{Setting, look_up}
use Rattle.qs_prooftext_assertions.proofs.AssertionLaws.{no_head}
use Rattle.qs_prooftext_assertions.proofs.RowLaws.{pick, last_result}

pub one_bound : {A C : Type 0} (x : Answer A) (made : A → C) → bind (bind x (λ v. Ok (v, tt))) (λ (v : A × Unit {0}). Ok (made v.0)) ≡ bind x (λ v. Ok (made v))
one_bound (Err f) made = refl
one_bound (Ok v) made = refl

pub ranges_found : (g : Setting) (at : ℕ) (w : List ℕ) → look_up w (range_rows g at) ≡ (look_up w range_words >>= range_row g at)
ranges_found g at w =
    let f : RangeWord → Option (Row a_range) = range_row g at in
    pick _ words.Old _ _ _ f refl (pick _ words.Cost _ _ _ f refl (last_result w range g.result _ refl ∙ pick _ words.Returned None _ None f refl refl))

pub head_gives : (g : Setting) (at : ℕ) (w : List ℕ) (word : RangeWord) (ss : Sexps) (r : Result Fact TextFault) → look_up w range_words ≡ Some word → Gives fact_tree (range_list g at (range_row g at word) ss) r → Gives fact_tree (range_list g at (look_up w (range_rows g at)) ss) r
head_gives g at w word ss r e h =
    let P : Option (Row a_range) → Type 0 = λ o. Gives fact_tree (range_list g at o ss) r in
    subst P (sym (ranges_found g at w ∙ ap (λ (o : Option RangeWord). o >>= range_row g at) e)) h

pub list_gives : (g : Setting) (text : List ℕ) (s : Sexp) (at n : ℕ) (nodes : List Node) (w : List ℕ) (others : List Node) (r : Result Fact TextFault) (p : IsList text s at n nodes) (h : IsHeaded text p.parts w others) → Gives fact_tree (range_list g at (look_up w (range_rows g at)) h.parts) r → Gives fact_tree (means g a_range s) r
list_gives g text s at n nodes w others r p h k =
    let P : Answer FactTree → Type 0 = λ a. Gives fact_tree a r in
    subst P (sym (ap (means g a_range) p.same ∙ ap (λ (xs : Sexps). means g a_range (list at xs)) h.same)) k

pub symbol_gives : (g : Setting) (s : Sexp) (at : ℕ) (w : List ℕ) (found : Option Var) (r : Result Fact TextFault) → s ≡ symbol at w → found ≡ look_up w g.variables → Gives fact_tree (range_or at found) r → Gives fact_tree (means g a_range s) r
symbol_gives g s at w found r e f h =
    let P : Answer FactTree → Type 0 = λ a. Gives fact_tree a r in
    subst P (ap (range_or at) f ∙ sym (ap (means g a_range) e)) h

pub headless_fails : (g : Setting) (text : List ℕ) (s : Sexp) (at n : ℕ) (nodes : List Node) (p : IsList text s at n nodes) → HasNoHead p.parts → means g a_range s ≡ Err (UnknownForm at)
headless_fails g text s at n nodes p h = ap (means g a_range) p.same ∙ no_head g a_range at p.parts refl h
