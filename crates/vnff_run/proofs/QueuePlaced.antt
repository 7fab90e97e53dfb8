-- What is known of the place of a queue that was set up, and what giving a chain back leaves there.
use Rattle.std.proofs.Common.{◌≡◌, ℕ, ◌+◌, ◌<◌, ◌≤◌, Bool, true, false, inl, inr, List, length, Some, None, refl, arith}
use Rattle.std.specs.Prelude.{if◌then◌else◌, not}
use Rattle.std.specs.Int.{is_power_of_two}
use Rattle.std.proofs.lemmas.Bool.{and_cases, and_parts, leb-true, ltb-false, or_parts}
use Rattle.guest_mem.specs.Memory.{ChangesOnly}
use Rattle.split_queue.specs.QueuePlaces.{available_bytes, available_idx_addr, used_bytes}
use Rattle.split_queue.specs.Rings.{available_idx, with_used_entry}
use Rattle.split_queue.specs.Setup.{IsInArea, LieApart, all_lie_in, available_area, is_aligned, lies_in, meets, setup_fault, some_meet, used_area}
use Rattle.split_queue.specs.declared.queue_place.Place.{Place}
use Rattle.split_queue.proofs.ReadLaws.{le16_at-outside}
use Rattle.split_queue.proofs.RingLaws.{with_used_entry-changes}

-- the used ring lies in the memory, apart from the available ring
pub record HasRings (place : Place) (mem_len : ℕ) : Type 0 where
  pub inside : place.used + used_bytes place.size ≤ mem_len
  pub apart : LieApart (available_area place) (used_area place)

no_fault : {A : Type 0} (sized aligned inside met : Bool) (a b c d : A) → (if not sized then Some a else (if not aligned then Some b else (if not inside then Some c else (if met then Some d else None)))) ≡ None → (inside ≡ true) × (met ≡ false)
no_fault true true true false a b c d is = (refl, refl)
no_fault true true true true a b c d is = absurd (cc)
no_fault true true false met a b c d is = absurd (cc)
no_fault true false inside met a b c d is = absurd (cc)
no_fault false aligned inside met a b c d is = absurd (cc)

-- areas that don't meet
areas-apart : (place : Place) → meets (available_area place) (used_area place) ≡ false → LieApart (available_area place) (used_area place)
areas-apart place none = elim (and_cases _ _ none) [
  | inl behind ↦ inr (ltb-false place.avail (place.used + used_bytes place.size) behind)
  | inr before ↦ inl (ltb-false place.used (place.avail + available_bytes place.size) before)
]

pub has_rings : (place : Place) (mem_len : ℕ) → setup_fault place mem_len ≡ None → HasRings place mem_len
unfolding setup_fault
has_rings place mem_len none =
    let facts = no_fault (is_power_of_two place.size) (is_aligned place) (all_lie_in place mem_len) (some_meet place) _ _ _ _ none in
    record {
      inside = leb-true _ mem_len (and_parts _ (lies_in (used_area place) mem_len) facts.0).1;
      apart = areas-apart place (or_parts _ (meets (available_area place) (used_area place)) facts.1).1;
    }

-- a chain that goes back leaves the available index
module _ (mem : List ℕ) (place : Place) (index head len : ℕ) (some : 0 < place.size) (rings : HasRings place (length mem)) where
  changes : ChangesOnly mem (with_used_entry mem place index head len) (IsInArea (used_area place))
  changes = with_used_entry-changes mem place index head len some rings.inside

  pub back-idx : available_idx (with_used_entry mem place index head len) place ≡ available_idx mem place
  back-idx = le16_at-outside mem (with_used_entry mem place index head len) place.used (used_bytes place.size) (available_idx_addr place) changes (elim rings.apart [ inl before ↦ inl (omega (arith, before)) | inr behind ↦ inr (omega (arith, behind)) ])

  pub back-size : length (with_used_entry mem place index head len) ≡ length mem
  back-size = changes.size
