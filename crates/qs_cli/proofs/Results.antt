-- What a parse by clap says of the words.
use Rattle.std.proofs.Common.{◌≡◌, ◌≢◌, ◌∙◌, inl, inr, true, false, refl, sym, ap, List, [], ◌∷◌, Option, Some, None, true≢false, is_some, if◌then◌else◌}
use Rattle.std.specs.Prelude.{option_and_then}
use Rattle.std.proofs.Math.Path.{fun_ext}
use Rattle.qs_cli.specs.Words.{Text, Item, Options, items, among, operand, names_of, fits, reading, value_of, Values}
use Rattle.qs_cli.specs.Parser.{flat}
use Rattle.qs_cli.proofs.Walk.{is_nil}
use Rattle.qs_cli.proofs.ParserLaws.{flat_decides, flat_rows, flat_simple, flat_free, first_of-map}
use Rattle.clap.specs.Words.{App, HasMatchesOf, HasKind, IsAmong, Kinds, fault_of, is_simple, is_simple_and_free, kind_of, found_of, first_value, first_of, matches_of}
use Rattle.clap.proofs.WalkLemmas.{first_value-rows}
use Rattle.clap.specs.declared.error.Error.{Error}
use Rattle.clap.specs.declared.error.kind.ErrorKind.{ErrorKind}
use Rattle.clap.specs.declared.error.kind.ErrorKind.TheVariants as kind
use Rattle.clap.specs.declared.parser.matches.ArgMatches.{ArgMatches}

some_nil : (k : ErrorKind) (ks : Kinds) → IsAmong k ks → is_nil ks ≡ false
some_nil k [] e = absurd e
some_nil k (x ∷ xs) e = refl

module _ (name : Text) (options : Options) (no_operand : among operand (names_of options) ≡ false) (a : App) (is_flat : a ≡ flat name options) (words : List Text) where
  free : is_simple_and_free a ≡ true
  free = ap is_simple_and_free is_flat ∙ flat_free name options no_operand

  abbrev kept : Option (List Item) → Option Values
  kept = option_and_then (λ is. if fits options is then Some (value_of is) else None)

  pub ok_values : (m : ArgMatches) → is_some (items words) ≡ true → HasMatchesOf a words m → (is_simple_and_free a ≡ true → fault_of a words ≡ [])
      → reading options words ≡ Some (first_value (found_of m))
  ok_values m some matches quiet = go (items words) refl some
    where
      fit_of : (is : List Item) → items words ≡ Some is → fits options is ≡ true
      fit_of is e = sym (flat_decides name options no_operand words is e) ∙ sym (ap (λ b. is_nil (fault_of b words)) is_flat) ∙ ap is_nil (quiet free)

      go : (o : Option (List Item)) → items words ≡ o → is_some o ≡ true → kept o ≡ Some (first_value (found_of m))
      go None e h = absurd (true≢false (sym h))
      go (Some is) e h =
          let fit = fit_of is e in
          let same : value_of is ≡ first_value (found_of m) = fun_ext (λ k. sym (first_value-rows (found_of m) k
          ∙ ap (first_of k) ((matches (ap is_simple is_flat ∙ flat_simple name options no_operand)).0 ∙ ap (λ b. matches_of b words) is_flat ∙ flat_rows name options no_operand words is e fit)
          ∙ first_of-map k is)) in
          rw fit (ap (λ (v : Values). Some v) same)

  pub err_none : (x : Error) → is_some (items words) ≡ true → (is_simple_and_free a ≡ true → HasKind (fault_of a words) x) → kind_of x ≢ kind.OutOfMemory
      → reading options words ≡ None
  err_none x some fails memory = go (items words) refl some
    where
      loud : HasKind (fault_of a words) x → is_nil (fault_of a words) ≡ false
      loud (inl e) = absurd (memory e)
      loud (inr e) = some_nil _ _ e

      go : (o : Option (List Item)) → items words ≡ o → is_some o ≡ true → kept o ≡ None
      go None e h = refl
      go (Some is) e h =
          let bad : fits options is ≡ false = sym (flat_decides name options no_operand words is e) ∙ sym (ap (λ b. is_nil (fault_of b words)) is_flat) ∙ loud (fails free) in
          rw bad refl
