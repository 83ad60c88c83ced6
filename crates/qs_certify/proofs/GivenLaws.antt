-- What a proof file gives can be filled.
use Rattle.std.proofs.Common.{◌≡◌, ℕ, ◌<◌, Bool, true, false, cond, inl, inr, List, [], ◌∷◌, ◌++◌, length, Some, refl, sym, ap, ◌∙◌, subst, ltb-true}
use Rattle.std.specs.Prelude.{◌⊎◌, nat_lt}
use Rattle.std.specs.List.{find, list_all}
use Rattle.std.proofs.lemmas.Bool.{and_parts}
use Rattle.qs_assert.specs.Trees.{AssertionTree, natural, infinity, cost, num, total, greatest, product, guard, choose, named, AssertionTrees, no_assertions, assertion_and, assertion_list}
use Rattle.qs_assert.specs.Variables.{variables, all_variables}
use Rattle.qs_assert.specs.declared.define.Define.{Define}
use Rattle.qs_core.specs.Trees.{CoreUnitTree}
use Rattle.qs_prooftext_meaning.specs.Proofs.{no_proofs}
use Rattle.qs_prooftext_meaning.specs.Reading.{Fault}
use Rattle.qs_prooftext_meaning.specs.Settings.{Setting, in_definition}
use Rattle.qs_prooftext_meaning.specs.Writable.{are_many, definition_stands, definitions_stand, IsOfUnit}
use Rattle.qs_prooftext_meaning.specs.declared.fault.TextFault.{TextFault}
use Rattle.qs_prooftext_meaning.specs.declared.fault.TextFault.TheVariants as texts
use Rattle.qs_triples.specs.Derivations.{EntryTree, ProofsTree, is_entry_of}
use Rattle.qs_triples.specs.Entries.{AreClosed}
use Rattle.qs_triples.proofs.FunctionLaws.{entry_is_of}
use Rattle.qs_analyse.specs.Fillable.{IsFillable}
use Rattle.qs_certify.specs.Given.{text_told}
use Rattle.qs_certify.specs.Certification.{IsTextFault}

-- ---- faults

pub text_refused : (u : CoreUnitTree) (text : List ℕ) (fault : TextFault) → (fault ≡ texts.NoMemory) ⊎ Fault u text fault → IsTextFault u (Some text) (text_told fault)
text_refused u text texts.NoMemory h = tt
text_refused u text (texts.BadByte at) (inl e) = cc
text_refused u text (texts.BadByte at) (inr h) = record { text = text; is = refl; first = h }
text_refused u text (texts.Unbalanced at) (inl e) = cc
text_refused u text (texts.Unbalanced at) (inr h) = record { text = text; is = refl; first = h }
text_refused u text (texts.UnknownForm at) (inl e) = cc
text_refused u text (texts.UnknownForm at) (inr h) = record { text = text; is = refl; first = h }
text_refused u text (texts.BadNumber at) (inl e) = cc
text_refused u text (texts.BadNumber at) (inr h) = record { text = text; is = refl; first = h }
text_refused u text (texts.TooDeep at) (inl e) = cc
text_refused u text (texts.TooDeep at) (inr h) = record { text = text; is = refl; first = h }
text_refused u text (texts.Duplicate at) (inl e) = cc
text_refused u text (texts.Duplicate at) (inr h) = record { text = text; is = refl; first = h }
text_refused u text (texts.NoSuchFunction at) (inl e) = cc
text_refused u text (texts.NoSuchFunction at) (inr h) = record { text = text; is = refl; first = h }

-- ---- definitions

-- what can be written as a definition mentions no variable
mutual
  closed_body : (g : Setting) (a : AssertionTree) → definition_stands g a ≡ true → variables a ≡ []
  closed_body g (natural n) h = refl
  closed_body g infinity h = refl
  closed_body g (cost f) h = refl
  closed_body g (num t) h = cc
  closed_body g (total parts) h = closed_parts g parts (and_parts (are_many (assertion_list parts)) (definitions_stand g parts) h).1
  closed_body g (greatest parts) h = closed_parts g parts (and_parts (are_many (assertion_list parts)) (definitions_stand g parts) h).1
  closed_body g (product parts) h = closed_parts g parts (and_parts (are_many (assertion_list parts)) (definitions_stand g parts) h).1
  closed_body g (guard c a) h = cc
  closed_body g (choose c a b) h = cc
  closed_body g (named name) h = refl

  closed_parts : (g : Setting) (parts : AssertionTrees) → definitions_stand g parts ≡ true → all_variables parts ≡ []
  closed_parts g no_assertions h = refl
  closed_parts g (assertion_and a parts) h =
      let two = and_parts (definition_stands g a) (definitions_stand g parts) h in
      ap (λ xs. xs ++ all_variables parts) (closed_body g a two.0) ∙ closed_parts g parts two.1

closed_defines : (g : Setting) (ds : List Define) → list_all (λ (d : Define). definition_stands g d.body) ds ≡ true → AreClosed ds
closed_defines g [] h = tt
closed_defines g (d ∷ ds) h =
    let two = and_parts (definition_stands g d.body) (list_all (λ (d : Define). definition_stands g d.body) ds) h in
    (closed_body g d.body two.0, closed_defines g ds two.1)

-- ---- entries

found_stands : (p q : EntryTree → Bool) (es : List EntryTree) (e : EntryTree) → list_all q es ≡ true → find p es ≡ Some e → q e ≡ true
found_stands p q [] e all is = cc
found_stands p q (d ∷ es) e all is =
    let two = and_parts (q d) (list_all q es) all in by (p d) is two.0 (found_stands p q es e two.1)
  where
    by : (b : Bool) → cond b (Some d) (find p es) ≡ Some e → q d ≡ true → (find p es ≡ Some e → q e ≡ true) → q e ≡ true
    by true is here others = let same : d ≡ e = cc in ap q (sym same) ∙ here
    by false is here others = others is

-- ---- proofs

-- what a text reads as can be filled
pub of_unit_fillable : (u : CoreUnitTree) (proofs : ProofsTree) → IsOfUnit u proofs → IsFillable u proofs
of_unit_fillable u proofs w = record {
  known = λ f e is.
      let test = found_stands (is_entry_of f) (λ (e : EntryTree). nat_lt e.function (length u.functions)) proofs.functions e w.known is in
      subst (λ (g : ℕ). g < length u.functions) (entry_is_of proofs f e is) (ltb-true e.function (length u.functions) test);
  once = w.entered_once;
  closed = closed_defines (in_definition u) proofs.defines w.defines_stand;
}

pub nothing_fillable : (u : CoreUnitTree) → IsFillable u no_proofs
nothing_fillable u = record { known = λ f e is. cc; once = refl; closed = tt }

pub ruleset given_text = (text_refused, of_unit_fillable)
