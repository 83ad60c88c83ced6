-- The rules of the built command, and the rows of its matches.
use Rattle.std.proofs.Common.{◌≡◌, ◌∙◌, ℕ, Bool, true, false, ◌||◌, refl, sym, ap, List, [], ◌∷◌, ◌++◌, map, Option, Some, None, true≢false, append-nil}
use Rattle.std.specs.Prelude.{bytes_eq}
use Rattle.std.proofs.lemmas.Slice.Eq.{bytes_eq-Decides}
use Rattle.qs_cli.specs.Words.{Text, Item, operand, key, value_in, among, stands, Options, names_of}
use Rattle.clap.specs.Walk.{Row, Rule, arg_by_id, arg_by_long, arg_by_index, at_row, has_row, used, more_values}
use Rattle.clap.specs.Simple.{new_rule}
use Rattle.clap.specs.Values.{reading_of}
use Rattle.clap.specs.declared.builder.action.ArgAction.TheVariants.{Set}
use Rattle.clap.specs.declared.builder.value_parser.ValueParser.TheVariants as vp
use Rattle.clap.specs.declared.parser.matches.ValueSource.TheVariants.{CommandLine}

-- ---- rules

-- an argument as the command has it once built
abbrev pub base : Text → Option Text → Option ℕ → Bool → Rule
base id long index required = record (new_rule id) {
  long = long;
  index = index;
  action = Some Set;
  range = Some (record { start_inclusive = 1; end_inclusive = 1 });
  parser = Some vp.String;
  required = required;
}

abbrev pub built_option : Text × Bool → Rule
built_option o = base o.0 (Some o.0) None o.1

abbrev pub built_operand : Rule
built_operand = base operand None (Some 1) true

abbrev pub rules : Options → List Rule
rules [] = built_operand ∷ []
rules (o ∷ os) = built_option o ∷ rules os

pub long_known : (os : Options) (n : Text) → among n (names_of os) ≡ true → (r : Bool) × (arg_by_long (rules os) n ≡ Some (base n (Some n) None r))
long_known [] n e = absurd (true≢false (sym e))
long_known (o ∷ os) n e = go (bytes_eq o.0 n) refl e (long_known os n)
  where
    go : (t : Bool) → bytes_eq o.0 n ≡ t → (t || among n (names_of os)) ≡ true → (among n (names_of os) ≡ true → (r : Bool) × (arg_by_long (rules os) n ≡ Some (base n (Some n) None r))) → (r : Bool) × (arg_by_long (rules (o ∷ os)) n ≡ Some (base n (Some n) None r))
    go true is h ih = (o.1, rw is (ap (λ (t : Text). Some (base t (Some t) None o.1)) ((bytes_eq-Decides o.0 n).0 is)))
    go false is h ih = let r = ih h in (r.0, rw is (r.1))

pub long_unknown : (os : Options) (n : Text) → among n (names_of os) ≡ false → arg_by_long (rules os) n ≡ None
long_unknown [] n e = refl
long_unknown (o ∷ os) n e = go (bytes_eq o.0 n) refl e (long_unknown os n)
  where
    go : (t : Bool) → bytes_eq o.0 n ≡ t → (t || among n (names_of os)) ≡ false → (among n (names_of os) ≡ false → arg_by_long (rules os) n ≡ None) → arg_by_long (rules (o ∷ os)) n ≡ None
    go true is h ih = absurd (true≢false h)
    go false is h ih = rw is (ih h)

pub id_known : (os : Options) (n : Text) → among n (names_of os) ≡ true → (r : Bool) × (arg_by_id (rules os) n ≡ Some (base n (Some n) None r))
id_known [] n e = absurd (true≢false (sym e))
id_known (o ∷ os) n e = go (bytes_eq o.0 n) refl e (id_known os n)
  where
    go : (t : Bool) → bytes_eq o.0 n ≡ t → (t || among n (names_of os)) ≡ true → (among n (names_of os) ≡ true → (r : Bool) × (arg_by_id (rules os) n ≡ Some (base n (Some n) None r))) → (r : Bool) × (arg_by_id (rules (o ∷ os)) n ≡ Some (base n (Some n) None r))
    go true is h ih = (o.1, rw is (ap (λ (t : Text). Some (base t (Some t) None o.1)) ((bytes_eq-Decides o.0 n).0 is)))
    go false is h ih = let r = ih h in (r.0, rw is (r.1))

pub id_operand : (os : Options) → among operand (names_of os) ≡ false → arg_by_id (rules os) operand ≡ Some built_operand
id_operand [] e = refl
id_operand (o ∷ os) e = go (bytes_eq o.0 operand) refl e (id_operand os)
  where
    go : (t : Bool) → bytes_eq o.0 operand ≡ t → (t || among operand (names_of os)) ≡ false → (among operand (names_of os) ≡ false → arg_by_id (rules os) operand ≡ Some built_operand) → arg_by_id (rules (o ∷ os)) operand ≡ Some built_operand
    go true is h ih = absurd (true≢false h)
    go false is h ih = rw is (ih h)

pub first_place : (os : Options) → arg_by_index (rules os) 1 ≡ Some built_operand
first_place [] = refl
first_place (o ∷ os) = first_place os

pub second_place : (os : Options) → arg_by_index (rules os) 2 ≡ None
second_place [] = refl
second_place (o ∷ os) = second_place os

-- ---- rows

abbrev pub row : Item → Row
row i = record {
  id = key i;
  values = value_in i ∷ [];
  count = None;
  source = Some CommandLine;
  reading = reading_of vp.String;
}

pub has_row-map : (k : Text) (is : List Item) → has_row k (map row is) ≡ stands k is
has_row-map k [] = refl
has_row-map k (i ∷ is) = ap (λ b. bytes_eq (key i) k || b) (has_row-map k is)

at_row-missing : (k : Text) (change : Row → List Row) (new : List Row) (rs : List Row) → has_row k rs ≡ false → at_row k change new rs ≡ rs ++ new
at_row-missing k change new [] e = refl
at_row-missing k change new (r ∷ rs) e = go (bytes_eq r.id k) refl e (at_row-missing k change new rs)
  where
    go : (t : Bool) → bytes_eq r.id k ≡ t → (t || has_row k rs) ≡ false → (has_row k rs ≡ false → at_row k change new rs ≡ rs ++ new) → at_row k change new (r ∷ rs) ≡ r ∷ (rs ++ new)
    go true is h ih = absurd (true≢false h)
    go false is h ih = rw is (ap (λ x. r ∷ x) (ih h))

map-row-append : (is : List Item) (i : Item) → map row is ++ row i ∷ [] ≡ map row (is ++ i ∷ [])
map-row-append [] i = refl
map-row-append (j ∷ is) i = ap (λ x. row j ∷ x) (map-row-append is i)

-- a use of an argument that has not been used
pub used_fresh : (i : Item) (long : Option Text) (index : Option ℕ) (r : Bool) (is : List Item) → stands (key i) is ≡ false
    → used (base (key i) long index r) (value_in i ∷ []) (map row is) ≡ map row (is ++ i ∷ [])
used_fresh i long index r is e =
    let none = has_row-map (key i) is ∙ e in
    let kept = at_row-missing (key i) (λ _. []) [] (map row is) none ∙ append-nil (map row is) in
    rw kept (at_row-missing (key i) (more_values CommandLine (value_in i ∷ [])) (row i ∷ []) (map row is) none ∙ map-row-append is i)
