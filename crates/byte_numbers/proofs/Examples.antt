-- Numbers worked out by hand.
use Rattle.std.proofs.Common.{◌≡◌, ℕ, List, [], ◌∷◌, refl}
use Rattle.byte_numbers.specs.Numbers.{le16_at, le32_at, le64_at, be16_at, be32_at}

abbrev nine_bytes : List ℕ
nine_bytes = 0 ∷ 1 ∷ 2 ∷ 3 ∷ 4 ∷ 5 ∷ 6 ∷ 7 ∷ 8 ∷ []

sixteen : le16_at nine_bytes 1 ≡ 0x0201
unfolding le16_at
sixteen = refl

thirty_two : le32_at nine_bytes 1 ≡ 0x04030201
unfolding le32_at
thirty_two = refl

sixty_four : le64_at nine_bytes 1 ≡ 0x0807060504030201
unfolding le64_at
sixty_four = refl

sixteen_big : be16_at nine_bytes 1 ≡ 0x0102
unfolding be16_at
sixteen_big = refl

thirty_two_big : be32_at nine_bytes 1 ≡ 0x01020304
unfolding be32_at
thirty_two_big = refl
