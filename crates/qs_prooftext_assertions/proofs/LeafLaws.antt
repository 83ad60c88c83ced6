-- What numbers and names mean.
use Rattle.std.proofs.Common.{◌≡◌, ℕ, ℤ, List, Err, refl, ap, ◌∙◌}
use Rattle.qs_sexpr.specs.Trees.{Sexp, number, symbol, list, Sexps, no_parts, part_and}
use Rattle.qs_sexpr.specs.declared.node.Node.{Node}
use Rattle.qs_prooftext_assertions.specs.Answers.{IsList}
use Rattle.qs_prooftext_meaning.specs.Kinds.{Kind, an_index, a_natural, a_name, a_divisor, a_function, an_old_variable}
use Rattle.qs_prooftext_meaning.specs.Meanings.{means, number_means, symbol_means}
use Rattle.qs_prooftext_meaning.specs.Settings.{Setting}
use Rattle.qs_prooftext_meaning.specs.declared.fault.TextFault.TheVariants.{UnknownForm}

pub of_number : (g : Setting) (k : Kind) (s : Sexp) (at : ℕ) (n : ℤ) → s ≡ number at n → means g k s ≡ number_means k at n
of_number g k s at n e = ap (means g k) e

pub of_symbol : (g : Setting) (k : Kind) (s : Sexp) (at : ℕ) (w : List ℕ) → s ≡ symbol at w → means g k s ≡ symbol_means g k at w
of_symbol g k s at w e = ap (means g k) e

index_list : (g : Setting) (at : ℕ) (parts : Sexps) → means g an_index (list at parts) ≡ Err (UnknownForm at)
index_list g at no_parts = refl
index_list g at (part_and (number place n) parts) = refl
index_list g at (part_and (symbol place w) parts) = refl
index_list g at (part_and (list place inner) parts) = refl

natural_list : (g : Setting) (at : ℕ) (parts : Sexps) → means g a_natural (list at parts) ≡ Err (UnknownForm at)
natural_list g at no_parts = refl
natural_list g at (part_and (number place n) parts) = refl
natural_list g at (part_and (symbol place w) parts) = refl
natural_list g at (part_and (list place inner) parts) = refl

name_list : (g : Setting) (at : ℕ) (parts : Sexps) → means g a_name (list at parts) ≡ Err (UnknownForm at)
name_list g at no_parts = refl
name_list g at (part_and (number place n) parts) = refl
name_list g at (part_and (symbol place w) parts) = refl
name_list g at (part_and (list place inner) parts) = refl

pub divisor_list : (g : Setting) (at : ℕ) (parts : Sexps) → means g a_divisor (list at parts) ≡ Err (UnknownForm at)
divisor_list g at no_parts = refl
divisor_list g at (part_and (number place n) parts) = refl
divisor_list g at (part_and (symbol place w) parts) = refl
divisor_list g at (part_and (list place inner) parts) = refl

pub index_of_list : (g : Setting) (text : List ℕ) (s : Sexp) (at n : ℕ) (nodes : List Node) → IsList text s at n nodes → means g an_index s ≡ Err (UnknownForm at)
index_of_list g text s at n nodes h = ap (means g an_index) h.same ∙ index_list g at h.parts

pub natural_of_list : (g : Setting) (text : List ℕ) (s : Sexp) (at n : ℕ) (nodes : List Node) → IsList text s at n nodes → means g a_natural s ≡ Err (UnknownForm at)
natural_of_list g text s at n nodes h = ap (means g a_natural) h.same ∙ natural_list g at h.parts

pub name_of_list : (g : Setting) (text : List ℕ) (s : Sexp) (at n : ℕ) (nodes : List Node) → IsList text s at n nodes → means g a_name s ≡ Err (UnknownForm at)
name_of_list g text s at n nodes h = ap (means g a_name) h.same ∙ name_list g at h.parts

pub divisor_of_list : (g : Setting) (text : List ℕ) (s : Sexp) (at n : ℕ) (nodes : List Node) → IsList text s at n nodes → means g a_divisor s ≡ Err (UnknownForm at)
divisor_of_list g text s at n nodes h = ap (means g a_divisor) h.same ∙ divisor_list g at h.parts

function_list : (g : Setting) (whole at : ℕ) (parts : Sexps) → means g (a_function whole) (list at parts) ≡ Err (UnknownForm at)
function_list g whole at no_parts = refl
function_list g whole at (part_and (number place n) parts) = refl
function_list g whole at (part_and (symbol place w) parts) = refl
function_list g whole at (part_and (list place inner) parts) = refl

pub function_of_list : (g : Setting) (whole : ℕ) (text : List ℕ) (s : Sexp) (at n : ℕ) (nodes : List Node) → IsList text s at n nodes → means g (a_function whole) s ≡ Err (UnknownForm at)
function_of_list g whole text s at n nodes h = ap (means g (a_function whole)) h.same ∙ function_list g whole at h.parts

old_variable_list : (g : Setting) (whole at : ℕ) (parts : Sexps) → means g (an_old_variable whole) (list at parts) ≡ Err (UnknownForm at)
old_variable_list g whole at no_parts = refl
old_variable_list g whole at (part_and (number place n) parts) = refl
old_variable_list g whole at (part_and (symbol place w) parts) = refl
old_variable_list g whole at (part_and (list place inner) parts) = refl

pub old_variable_of_list : (g : Setting) (whole : ℕ) (text : List ℕ) (s : Sexp) (at n : ℕ) (nodes : List Node) → IsList text s at n nodes → means g (an_old_variable whole) s ≡ Err (UnknownForm at)
old_variable_of_list g whole text s at n nodes h = ap (means g (an_old_variable whole)) h.same ∙ old_variable_list g whole at h.parts

-- ---- what a reader of a number or a name takes

pub ruleset index_laws = (of_number, of_symbol, index_of_list)

pub ruleset natural_laws = (of_number, of_symbol, natural_of_list)

pub ruleset name_laws = (of_number, of_symbol, name_of_list)

pub ruleset divisor_laws = (of_number, of_symbol, divisor_of_list)

pub ruleset function_laws = (of_number, of_symbol, function_of_list)

pub ruleset old_variable_laws = (of_number, of_symbol, old_variable_of_list)
