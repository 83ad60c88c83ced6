-- A keyword and its spelling.
use Rattle.std.proofs.Common.{◌≡◌, Bool, true, Some, refl, bytes_eq, Decides}
use Rattle.std.specs.List.{list_all}
use Rattle.qs_base.specs.Keywords.{keyword_of, keyword_spelling, keywords, same_keyword}
use Rattle.qs_base.specs.contracts.keyword.Keyword.{the_type}
use Rattle.qs_base.specs.declared.keyword.Keyword.{Keyword}
use Rattle.qs_base.proofs.Variants.{every, finds, variants_exact}

-- what holds of each keyword of the list holds of every keyword
pub each_keyword : (test : Keyword → Bool) → list_all test keywords ≡ true → (keyword : Keyword) → test keyword ≡ true
each_keyword test h keyword = every the_type tt keywords refl test h keyword

-- a keyword is what its spelling is
pub keyword_of-spelling : (keyword : Keyword) → keyword_of (keyword_spelling keyword) ≡ Some keyword
unfolding keyword_of
keyword_of-spelling keyword = finds the_type tt keywords refl (λ k x. bytes_eq (keyword_spelling x) (keyword_spelling k)) refl keyword

pub same_keyword_exact : (a b : Keyword) → Decides (same_keyword a b) (a ≡ b)
same_keyword_exact a b = variants_exact the_type tt a b
