-- The creates of groups are obeyed, one after another.
use Rattle.std.proofs.Common.{◌≡◌, ℕ, zero, suc, ◌+◌, ◌<◌, ◌≤◌, false, not, ◌&&◌, eqb, List, [], ◌∷◌, ◌++◌, map, length, refl, sym, ap, arith, subst, append_assoc, length-append}
use Rattle.std.specs.Prelude.{is_some}
use Rattle.std.specs.List.{AllByRecursion, list_any, range_with_len}
use Rattle.std.proofs.lemmas.Bool.{lt-leb, ne_eqb}
use Rattle.std.proofs.lemmas.Bool.Decides.{nat_tests}
use Rattle.std.proofs.lemmas.List.{append-nil}
use Rattle.ff_headers.specs.Changes.{with_change_made}
use Rattle.ff_headers.specs.Objects.{FlowObjects}
use Rattle.ff_headers.specs.declared.change.Change.TheVariants.{PutGroup}
use Rattle.admin_wire.specs.Codes.{group_type}
use Rattle.admin_wire.specs.declared.command.ObjData.TheVariants.{Group}
use Rattle.cap_table.specs.Caps.{CapsParts}
use Rattle.ntuple_compile.specs.Compiled.{create_group, create_head}
use Rattle.ntuple_compile.proofs.LastEntries.{AreBelow, below_next, not_held, put_last}
use Rattle.ntuple_compile.proofs.Reaching.{Creates, Reaches}

-- groups with their ids as priorities
abbrev pub groups_from : ℕ → ℕ → List (ℕ × ℕ)
groups_from from count = map (λ g. (g, g)) (range_with_len from count)

-- groups, and no other object
abbrev pub with_groups : List (ℕ × ℕ) → FlowObjects
with_groups groups = record { groups = groups; classifiers = []; rules = [] }

-- each priority is below a number
abbrev ArePrioritiesBelow : ℕ → List (ℕ × ℕ) → Type 0
ArePrioritiesBelow number groups = AllByRecursion (λ e. e.1 < number) groups

-- so none has it
priority_free : (groups : List (ℕ × ℕ)) (id number : ℕ) → ArePrioritiesBelow number groups → list_any (λ e. not (eqb e.0 id) && eqb e.1 number) groups ≡ false
priority_free [] id number below = refl
priority_free (e ∷ groups) id number below = differs (priority_free groups id number below.1) where
  differs : list_any (λ e. not (eqb e.0 id) && eqb e.1 number) groups ≡ false → list_any (λ e. not (eqb e.0 id) && eqb e.1 number) (e ∷ groups) ≡ false
  differs rest = let apart = ne_eqb e.1 number (λ same. absurd (omega (arith, below.0, same))) in grind (arith, nat_tests)

priorities_next : (groups : List (ℕ × ℕ)) (number : ℕ) → ArePrioritiesBelow number groups → ArePrioritiesBelow (number + 1) (groups ++ (number, number) ∷ [])
priorities_next [] number below = (omega arith, tt)
priorities_next (e ∷ groups) number below = (omega (arith, below.0), priorities_next groups number below.1)

-- one more group
group_put : (caps : CapsParts) (done : List (ℕ × ℕ)) (id : ℕ) → AreBelow id done → ArePrioritiesBelow id done → length done < caps.limits.groups → Creates caps (with_groups done) (create_head group_type id) (Group id) (with_groups (done ++ (id, id) ∷ []))
unfolding with_change_made
group_put caps done id below lower room = record {
  clear = record {
    no_flags = refl;
    known = refl;
    own_opcodes = refl;
    in_time = refl;
    settable = refl;
    new = ap is_some (not_held done id below);
    room = lt-leb caps.limits.groups (length done) room;
    held = refl;
    unneeded = refl;
    content = (priority_free done id id lower, tt);
  };
  change = PutGroup id id;
  puts = refl;
  leaves = ap with_groups (put_last done id id below);
}

-- all groups, behind those that are there
pub groups_put : (caps : CapsParts) (done : List (ℕ × ℕ)) (from count : ℕ) → AreBelow from done → ArePrioritiesBelow from done → length done ≡ from → from + count ≤ caps.limits.groups → Reaches caps (with_groups done) (map create_group (groups_from from count)) (with_groups (done ++ groups_from from count))
groups_put caps done from zero below lower long room = ap with_groups (sym (append-nil done))
groups_put caps done from (suc count) below lower long room =
    let last : List (ℕ × ℕ) = (from, from) ∷ [] in
    let one = group_put caps done from below lower (omega (arith, long, room)) in
    let longer : length (done ++ last) ≡ from + 1 = omega (arith, length-append done last, long) in
    let rest = groups_put caps (done ++ last) (from + 1) count (below_next done from from below) (priorities_next done from lower) longer (omega (arith, room)) in
    let joined_number : (done ++ last) ++ groups_from (from + 1) count ≡ done ++ groups_from from (suc count) = append_assoc done last (groups_from (from + 1) count) in
    (with_groups (done ++ last), one, subst (λ (groups : List (ℕ × ℕ)). Reaches caps (with_groups (done ++ last)) (map create_group (groups_from (from + 1) count)) (with_groups groups)) joined_number rest)
