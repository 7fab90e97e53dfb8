-- What stands in the table and in the available ring after a chain was posted.
use Rattle.std.proofs.Common.{◌≡◌, ◌≢◌, ℕ, ◌+◌, ◌-◌, ◌^◌, ◌<◌, ◌≤◌, ◌==◌, Bool, true, false, cond, List, [], ◌∷◌, length, get_or, Option, refl, ◌∙◌, arith}
use Rattle.std.specs.List.{All, AllByRecursion}
use Rattle.std.proofs.lemmas.List.Elements.{All-head, All-tail}
use Rattle.byte_numbers.proofs.NumberLaws.{HaveSame, HaveSame-part, le16_at-same}
use Rattle.split_queue.specs.Descriptors.{with_le16, descriptor_at, with_descriptor}
use Rattle.split_queue.specs.DriverEnds.{piece_descriptor, with_descriptors}
use Rattle.split_queue.specs.QueuePlaces.{available_slot_addr, available_idx_addr, descriptor_bytes, descriptor_addr, table_bytes}
use Rattle.split_queue.specs.Pools.{AreFree}
use Rattle.split_queue.specs.Rings.{available_head, index_after, with_available_entry}
use Rattle.split_queue.specs.Setup.{IsPlaced}
use Rattle.split_queue.proofs.ReadLaws.{le16_at-with_le16, with_le16-changes, descriptor_at-same, descriptor_at-with_descriptor, with_descriptor-changes}
use Rattle.split_queue.specs.declared.queue_place.Place.{Place}
use Rattle.split_queue.specs.declared.descriptor.Descriptor.{Descriptor}
use Rattle.split_queue.specs.declared.chain.Piece.{Piece}

-- ---- the descriptors of a chain

-- the numbers of a piece fit their fields
pub record FitsFields (piece : Piece) : Type 0 where
  pub addr : piece.addr < 2 ^ 64
  pub len : piece.len < 2 ^ 32

-- at each number stands the descriptor of its piece, of which on so many are readable
abbrev pub AreLinked : List ℕ → Place → List ℕ → List Piece → ℕ → Type 0
AreLinked mem place (number ∷ numbers) (piece ∷ pieces) readable = (descriptor_at mem place number ≡ piece_descriptor piece readable pieces numbers) × AreLinked mem place numbers pieces (readable - 1)
AreLinked mem place _ _ readable = Unit {0}

-- the flags and the next number of a chain's descriptor fit their fields
flags_fit : (last writable : Bool) → cond last 0 1 + cond writable 2 0 < 2 ^ 16
flags_fit true true = omega arith
flags_fit true false = omega arith
flags_fit false true = omega arith
flags_fit false false = omega arith

first_fits : (owners : List (Option ℕ)) (numbers : List ℕ) → length owners < 2 ^ 16 → AreFree owners numbers → get_or numbers 0 0 < 2 ^ 16
first_fits owners [] small free_list = omega arith
first_fits owners (number ∷ numbers) small free_list = omega (arith, small, free_list.0)

module _ (place : Place) (owners : List (Option ℕ)) (same_size : length owners ≡ place.size) where
  -- one descriptor stays where others are written
  other_stays : (mem : List ℕ) (number other : ℕ) (d : Descriptor) → descriptor_addr place number + descriptor_bytes ≤ length mem → number ≢ other → descriptor_at (with_descriptor mem place number d) place other ≡ descriptor_at mem place other
  other_stays mem number other d inside ne =
      let changes = with_descriptor-changes mem place number d inside in
      descriptor_at-same mem (with_descriptor mem place number d) place other
      (record { same = λ k low high. changes.others k (λ inside. ne (omega arith)) })

  others_stay : (mem numbers : List ℕ) (pieces : List Piece) (readable other : ℕ) → place.desc + table_bytes place.size ≤ length mem → AreFree owners numbers → AllByRecursion (λ number. number ≢ other) numbers → descriptor_at (with_descriptors mem place numbers pieces readable) place other ≡ descriptor_at mem place other
  others_stay mem [] pieces readable other fits free_list apart = refl
  others_stay mem (number ∷ numbers) [] readable other fits free_list apart = refl
  others_stay mem (number ∷ numbers) (piece ∷ pieces) readable other fits free_list apart =
      let d = piece_descriptor piece readable pieces numbers in
      let within : number < length owners = free_list.0 in
      let here = with_descriptor-changes mem place number d (omega arith) in
      others_stay (with_descriptor mem place number d) numbers pieces (readable - 1) other (omega (arith, here.size)) free_list.3 apart.1 ∙ other_stays mem number other d (omega arith) apart.0

  -- each one is read back
  pub with_descriptors-linked : (mem numbers : List ℕ) (pieces : List Piece) (readable : ℕ) → place.size < 2 ^ 16 → place.desc + table_bytes place.size ≤ length mem → AreFree owners numbers → All FitsFields pieces → AreLinked (with_descriptors mem place numbers pieces readable) place numbers pieces readable
  with_descriptors-linked mem [] pieces readable small fits free_list fields = tt
  with_descriptors-linked mem (number ∷ numbers) [] readable small fits free_list fields = tt
  with_descriptors-linked mem (number ∷ numbers) (piece ∷ pieces) readable small fits free_list fields =
      let d = piece_descriptor piece readable pieces numbers in
      let now = with_descriptor mem place number d in
      let within : number < length owners = free_list.0 in
      let here = with_descriptor-changes mem place number d (omega arith) in
      let fields_here = All-head FitsFields piece pieces fields in
      let written = descriptor_at-with_descriptor mem place number d (omega arith) fields_here.addr fields_here.len (flags_fit (length pieces == 0) (readable == 0)) (first_fits owners numbers (omega arith) free_list.3) in (
        others_stay now numbers pieces (readable - 1) number (omega (arith, here.size)) free_list.3 free_list.2 ∙ written,
        with_descriptors-linked now numbers pieces (readable - 1) small (omega (arith, here.size)) free_list.3 (All-tail FitsFields piece pieces fields),
      )

  -- and still is where the table stays
  pub AreLinked-same : (before after numbers : List ℕ) (pieces : List Piece) (readable : ℕ)
      → HaveSame before after place.desc (table_bytes place.size) → AreFree owners numbers
      → AreLinked before place numbers pieces readable → AreLinked after place numbers pieces readable
  AreLinked-same before after [] pieces readable have free_list linked = tt
  AreLinked-same before after (number ∷ numbers) [] readable have free_list linked = tt
  AreLinked-same before after (number ∷ numbers) (piece ∷ pieces) readable have free_list linked =
      let within : number < length owners = free_list.0 in (
        descriptor_at-same before after place number (HaveSame-part before after place.desc (table_bytes place.size) (descriptor_addr place number) descriptor_bytes (omega arith) (omega arith) have)
            ∙ linked.0,
        AreLinked-same before after numbers pieces (readable - 1) have free_list.3 linked.1,
      )

-- ---- the head in the available ring

pub with_available_entry-head : (mem : List ℕ) (place : Place) (index head : ℕ) → IsPlaced place (length mem) → head < 2 ^ 16 → available_head (with_available_entry mem place index head) place index ≡ head
unfolding with_available_entry
with_available_entry-head mem place index head placed small =
    let slot = available_slot_addr place index in
    let now = with_le16 mem slot head in
    let first = with_le16-changes mem slot head (omega arith) in
    let second = with_le16-changes now (available_idx_addr place) (index_after index) (omega (arith, first.size)) in
    le16_at-same now (with_le16 now (available_idx_addr place) (index_after index)) slot (record { same = λ k low high. second.others k (λ inside. omega arith) }) ∙ le16_at-with_le16 mem slot head (omega arith) small
