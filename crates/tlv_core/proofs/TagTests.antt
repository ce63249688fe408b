-- The computed test of a tag says what is defined of it.
use Rattle.std.proofs.Common.{◌≡◌, ◌<◌, ℕ, List, [], ◌∷◌, true, arith}
use Rattle.std.proofs.lemmas.Bool.Decides.{nat_tests}
use Rattle.octet_core.specs.Octets.{AreOctets}
use Rattle.tlv_core.specs.Tag.{IsTag, is_tag}

-- octets that pass it are a tag
pub tested-tag : (b : List ℕ) → AreOctets b → is_tag b ≡ true → IsTag b
tested-tag [] octets h = absurd (cc)
tested-tag (x ∷ []) octets h = let o : x < 256 = octets 0 in grind (arith, nat_tests)
tested-tag (x ∷ y ∷ []) octets h = let o : x < 256 = octets 0 in grind (arith, nat_tests)
tested-tag (x ∷ y ∷ z ∷ []) octets h = let o : x < 256 = octets 0 in let p : y < 256 =
    octets 1 in grind (arith, nat_tests)
tested-tag (x ∷ y ∷ z ∷ w ∷ more) octets h = absurd (cc)

-- and each tag passes it
pub tag-tests : (b : List ℕ) → IsTag b → is_tag b ≡ true
tag-tests [] h = absurd h
tag-tests (x ∷ []) h = grind (arith, nat_tests)
tag-tests (x ∷ y ∷ []) h = grind (arith, nat_tests)
tag-tests (x ∷ y ∷ z ∷ []) h = grind (arith, nat_tests)
tag-tests (x ∷ y ∷ z ∷ w ∷ more) h = absurd h
