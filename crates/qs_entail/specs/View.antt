-- What the values of the code are.
use Rattle.std.specs.Prelude.{List, [], ◌∷◌, map}
use Rattle.qs_entail.specs.declared.certificate.Certificate.{Certificate, Certificate-F, fold-Certificate}
use Rattle.qs_entail.specs.declared.certificate.Fact.{Fact}
use Rattle.qs_entail.specs.declared.certificate.Fact.TheVariants.{Range, CostRange, Apart, NumIs, NumBounds, WrapUnsignedIs, WrapSignedIs, WrapUnsignedBounds, WrapSignedBounds, QuotientBounds, BitsBound, BitsHalf, BitsRise}
use Rattle.qs_entail.specs.declared.item.Item as code
use Rattle.qs_entail.specs.declared.item.Item.TheVariants.{Once, Twice}
use Rattle.qs_entail.specs.declared.known.Known.{Known}
use Rattle.qs_entail.specs.Pushing as here
use Rattle.qs_entail.specs.Certificates.{Item, once, twice, FactTree, range, cost_range, apart, num_is, num_bounds, wrapu_is, wraps_is, wrapu_bounds, wraps_bounds, quotient_bounds, bits_bound, bits_half, bits_rise, CertTree, same, via, pick, all, parts, assume, drop, split, contradict, arithmetic, by_definition, fact, CertTrees, no_certs, cert_and}

abbrev pub item_view : code.Item → Item
item_view (Once k i) = once k i
item_view (Twice k i j) = twice k i j

abbrev pub items_view : List code.Item → List Item
items_view = map item_view

abbrev pub fact_tree : Fact → FactTree
fact_tree (Range x) = range x
fact_tree (CostRange f) = cost_range f.0
fact_tree (Apart i w) = apart i (items_view w.items)
fact_tree (NumIs t w) = num_is t (items_view w.items)
fact_tree (NumBounds t) = num_bounds t
fact_tree (WrapUnsignedIs t v w) = wrapu_is t (items_view v.items) (items_view w.items)
fact_tree (WrapSignedIs t v w) = wraps_is t (items_view v.items) (items_view w.items)
fact_tree (WrapUnsignedBounds t) = wrapu_bounds t
fact_tree (WrapSignedBounds t) = wraps_bounds t
fact_tree (QuotientBounds t k) = quotient_bounds t k
fact_tree (BitsBound t) = bits_bound t
fact_tree (BitsHalf t w) = bits_half t (items_view w.items)
fact_tree (BitsRise t u w) = bits_rise t u (items_view w.items)

abbrev pub certs_of : List CertTree → CertTrees
certs_of [] = no_certs
certs_of (c ∷ others) = cert_and c (certs_of others)

-- one level of a certificate, with each part already seen as its tree
abbrev pub cert_step : Certificate-F CertTree → CertTree
cert_step Certificate-F.Same = same
cert_step (Certificate-F.Via r c d) = via r c.value d.value
cert_step (Certificate-F.Pick i c) = pick i c.value
cert_step (Certificate-F.All cs) = all (certs_of cs.items)
cert_step (Certificate-F.Parts cs) = parts (certs_of cs.items)
cert_step (Certificate-F.Assume c) = assume c.value
cert_step (Certificate-F.DropGuard c d) = drop c.value d.value
cert_step (Certificate-F.Split b c d) = split b c.value d.value
cert_step (Certificate-F.Contradict w) = contradict (items_view w.items)
cert_step (Certificate-F.Arithmetic w) = arithmetic (items_view w.items)
cert_step (Certificate-F.ByDefinition n c) = by_definition n c.value
cert_step (Certificate-F.Fact f c) = fact (fact_tree f) c.value

abbrev pub cert_tree : Certificate → CertTree
cert_tree = fold-Certificate CertTree cert_step

abbrev pub certs_tree : List Certificate → CertTrees
certs_tree cs = certs_of (map cert_tree cs)

abbrev pub known_view : Known → here.Known
known_view k = record { conditions = k.conditions.items; polynomials = k.polynomials.items }
