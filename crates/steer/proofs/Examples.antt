-- The definitions at a worked example.
use Rattle.std.proofs.Common.{◌≡◌, [], ◌∷◌, refl}
use Rattle.steer.specs.BenchPlaces.{chain_pieces}

-- a command of 100 bytes, and a room of 300
pieces_for_100_and_300 : chain_pieces 100 300 ≡ record { addr = 3072; len = 64 } ∷ record { addr = 3136; len = 36 } ∷ record { addr = 4096; len = 256 } ∷ record { addr = 4352; len = 44 } ∷ []
pieces_for_100_and_300 = refl
