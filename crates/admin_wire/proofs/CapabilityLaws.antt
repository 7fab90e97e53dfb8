-- A capability that is set reads as it exactly where it is laid out.
use Rattle.std.proofs.Common.{◌≡◌, ◌≢◌, ℕ, ◌+◌, ◌≤◌, ◌∙◌, sym, ap, subst, refl, arith, true, false, cond, eqb, List, [], ◌++◌, length, get_or, take, drop, Result, Ok, ⊎_elim}
use Rattle.std.proofs.lemmas.Bool.{ne_eqb, le-ltb}
use Rattle.std.proofs.lemmas.Bool.Decides.{eqb_tells}
use Rattle.byte_numbers.specs.Numbers.{le16_at, le32_at}
use Rattle.byte_numbers.proofs.NumberLaws.{AreBytes, AreBytes-drop, piece-length}
use Rattle.ff_headers.specs.declared.limits.Limits.{Limits as LimitParts}
use Rattle.admin_wire.specs.declared.command.CapData.{CapData}
use Rattle.admin_wire.specs.declared.command.CapData.TheVariants.{Limits, Selectors, Actions, Other}
use Rattle.admin_wire.specs.declared.command.RawActions.{RawActions}
use Rattle.admin_wire.specs.declared.command.RawList.{RawList}
use Rattle.admin_wire.specs.declared.error.WireErr.{WireErr}
use Rattle.admin_wire.specs.Capabilities.{limits_of, selectors_data, raw_actions, actions_of, cap_data_of, cap_of}
use Rattle.admin_wire.specs.Codes.{limits_cap, selectors_cap, actions_cap}
use Rattle.admin_wire.specs.Fields.{Field, Spells}
use Rattle.admin_wire.specs.LaidOut.{IsGoodList, HasCapLayout, IsCapLayout}
use Rattle.admin_wire.specs.Layouts.{cap_id, cap_head_fields, limits_fields, list_fields, actions_fields}
use Rattle.admin_wire.specs.Lists.{list_of}
use Rattle.admin_wire.proofs.ListLaws.{list_spelled, list_back}
use Rattle.admin_wire.proofs.Reading.{long_enough, after_step, Begins}
use Rattle.admin_wire.proofs.Spelled.{Spelled, spell_end, spell_8, spell_16, spell_32, spell_reserved, spell_raw, Spells-join}
use Rattle.admin_wire.proofs.Walk.{At, Left-start, number_8, number_16, number_32, skipped, given_raw, ended, Spells-append}

-- ---- what is laid out reads so

limits_spelled : (limits : LimitParts) (bytes rest : List ℕ) → Spells bytes (limits_fields limits) rest
    → limits_of bytes ≡ Ok (Limits limits)
unfolding limits_of
limits_spelled limits bytes rest s =
    let groups = number_32 (Left-start bytes (limits_fields limits) rest s) in
    let classifiers = number_32 groups.1 in
    let rules = number_32 classifiers.1 in
    let per_group = number_32 rules.1 in
    let last_priority = number_8 per_group.1 in
    let selectors = number_8 last_priority.1 in
    let here = ended selectors.1 in
    rw (
      le-ltb (length bytes) 18 (omega arith),
      groups.0,
      classifiers.0,
      rules.0,
      per_group.0,
      last_priority.0,
      selectors.0,
    ) refl

selectors_spelled : (list : RawList) (bytes rest : List ℕ) → IsGoodList list → Spells bytes (list_fields list) rest
    → selectors_data bytes ≡ Ok (Selectors list)
unfolding selectors_data
selectors_spelled list bytes rest good s = rw (list_spelled list bytes rest good s) refl

actions_spelled : (given bytes rest : List ℕ) → Spells bytes (actions_fields given) rest
    → actions_of bytes ≡ Ok (Actions (raw_actions given))
unfolding actions_of
actions_spelled given bytes rest s =
    let count = number_8 (Left-start bytes (actions_fields given) rest s) in
    let read = given_raw (skipped count.1) in
    let here = ended read.1 in
    rw (count.0, le-ltb (length bytes) (8 + length given) (omega arith), read.0) refl

pub cap_data_spelled : (cap : CapData) (fields : List Field) (bytes rest : List ℕ) → HasCapLayout cap
    → IsCapLayout cap fields
    → Spells bytes fields rest → cap_data_of (cap_id cap) bytes ≡ Ok cap
unfolding cap_data_of
cap_data_spelled (Limits limits) fields bytes rest has is s =
    limits_spelled limits bytes rest (subst (λ (f : List Field). Spells bytes f rest) is s)
cap_data_spelled (Selectors list) fields bytes rest has is s =
    selectors_spelled list bytes rest has (subst (λ (f : List Field). Spells bytes f rest) is s)
cap_data_spelled (Actions actions) fields bytes rest has is s =
    actions_spelled is.0 bytes rest (subst (λ (f : List Field). Spells bytes f rest) is.2 s)
    ∙ ap (λ (a : RawActions). Ok (Actions a)) is.1
cap_data_spelled (Other id) fields bytes rest has is s =
    rw (ne_eqb id limits_cap has.0, ne_eqb id selectors_cap has.1, ne_eqb id actions_cap has.2) refl

pub cap_head_spelled : (id : ℕ) (bytes mid : List ℕ) → Spells bytes (cap_head_fields id) mid
    → (le16_at bytes 0 ≡ id) × At bytes 8 mid
cap_head_spelled id bytes mid s =
    let read = number_16 (Left-start bytes (cap_head_fields id) mid s) in
    (read.0, ended (skipped read.1))

pub cap_spelled : (cap : CapData) (fields : List Field) (bytes rest : List ℕ) → HasCapLayout cap
    → IsCapLayout cap fields
    → Spells bytes (cap_head_fields (cap_id cap) ++ fields) rest → cap_of bytes ≡ Ok cap
unfolding cap_of
cap_spelled cap fields bytes rest has is s =
    let parts = Spells-append bytes (cap_head_fields (cap_id cap)) fields rest s in
    let read = cap_head_spelled (cap_id cap) bytes parts.0 parts.1 in
    rw (le-ltb (length bytes) 8 (omega (arith, read.1.count)), read.0, read.1.left) (cap_data_spelled cap fields parts.0 rest has is parts.2)

-- ---- what reads so is laid out

limits_back : (limits : LimitParts) (bytes : List ℕ) → AreBytes bytes → limits_of bytes ≡ Ok (Limits limits)
    → Begins bytes (limits_fields limits)
unfolding limits_of
limits_back limits bytes all h =
    let whole = long_enough (length bytes) 18 _ _ (Limits limits) h in
    let read : LimitParts = record {
      groups = le32_at bytes 0;
      classifiers = le32_at bytes 4;
      rules = le32_at bytes 8;
      per_group = le32_at bytes 12;
      last_priority = get_or bytes 16 0;
      selectors = get_or bytes 17 0;
    } in
    let is : read ≡ limits = cc whole.1 in
    let spelled : Spelled bytes 0 (limits_fields read) (drop 18 bytes)
    = spell_32 all (omega arith) refl (spell_32 all (omega arith) refl (spell_32 all (omega arith) refl
    (spell_32 all (omega arith) refl (spell_8 all (omega arith) refl (spell_8 all (omega arith) refl spell_end))))) in
    subst (λ (l : LimitParts). Begins bytes (limits_fields l)) is (drop 18 bytes, spelled.spells)

selectors_back : (list : RawList) (bytes : List ℕ) → AreBytes bytes → IsGoodList list
    → selectors_data bytes ≡ Ok (Selectors list)
    → Begins bytes (list_fields list)
unfolding selectors_data
selectors_back list bytes all good h =
    let step = after_step (list_of bytes) _ (Selectors list) h in
    let is : step.0 ≡ list = cc step.2 in
    list_back list bytes all good (step.1 ∙ ap (λ (l : RawList). Ok l) is)

actions_back : (actions : RawActions) (bytes : List ℕ) → AreBytes bytes → actions_of bytes ≡ Ok (Actions actions)
    → (given : List ℕ) × (raw_actions given ≡ actions) × Begins bytes (actions_fields given)
unfolding actions_of
actions_back actions bytes all h =
    let count = get_or bytes 0 0 in
    let whole = long_enough (length bytes) (8 + count) _ _ (Actions actions) h in
    let given = take count (drop 8 bytes) in
    let is : raw_actions given ≡ actions = cc whole.1 in
    let len : length given ≡ count = piece-length bytes 8 count whole.0 in
    let fits : 8 + length given ≤ length bytes = omega (arith, len, whole.0) in
    let spelled : Spelled bytes 0 (actions_fields given) (drop (8 + length given) bytes)
    = spell_8 all (omega arith) (sym len) (spell_reserved (omega arith) (spell_raw (ap (λ n. take n (drop 8 bytes)) len) spell_end)) in
    (given, is, (drop (8 + length given) bytes, spelled.spells))

-- whose data is read is the capability of the id
same_id : (read cap : CapData) → ◌≡◌ {A = Result CapData WireErr} (Ok read) (Ok cap) → cap_id cap ≡ cap_id read
same_id read cap h = let is : read ≡ cap = cc h in ap cap_id (sym is)

limits_id : (cap : CapData) (bytes : List ℕ) → limits_of bytes ≡ Ok cap → cap_id cap ≡ limits_cap
unfolding limits_of
limits_id cap bytes h = same_id _ cap (long_enough (length bytes) 18 _ _ cap h).1

selectors_id : (cap : CapData) (bytes : List ℕ) → selectors_data bytes ≡ Ok cap → cap_id cap ≡ selectors_cap
unfolding selectors_data
selectors_id cap bytes h = same_id _ cap (after_step (list_of bytes) _ cap h).2

actions_id : (cap : CapData) (bytes : List ℕ) → actions_of bytes ≡ Ok cap → cap_id cap ≡ actions_cap
unfolding actions_of
actions_id cap bytes h = same_id _ cap (long_enough (length bytes) (8 + get_or bytes 0 0) _ _ cap h).1

one_cap : (id n : ℕ) (cap : CapData) (read other : Result CapData WireErr) → (read ≡ Ok cap → cap_id cap ≡ n)
    → (other ≡ Ok cap → cap_id cap ≡ id) → cond (eqb id n) read other ≡ Ok cap → cap_id cap ≡ id
one_cap id n cap read other this others h = ⊎_elim
    (λ (same : (eqb id n ≡ true) × (id ≡ n)). this (subst (λ b. cond b read other ≡ Ok cap) same.0 h) ∙ sym same.1)
    (λ (apart : (eqb id n ≡ false) × (id ≢ n)). others (subst (λ b. cond b read other ≡ Ok cap) apart.0 h))
    (eqb_tells id n)

id_back : (id : ℕ) (cap : CapData) (bytes : List ℕ) → cap_data_of id bytes ≡ Ok cap → cap_id cap ≡ id
unfolding cap_data_of
id_back id cap bytes h =
    one_cap id limits_cap cap _ _ (limits_id cap bytes)
    (one_cap id selectors_cap cap _ _ (selectors_id cap bytes)
    (one_cap id actions_cap cap _ _ (actions_id cap bytes) (same_id (Other id) cap))) h

-- the bytes begin with the capability's data
abbrev pub BeginsCap : List ℕ → CapData → Type 0
BeginsCap bytes cap = (fields : List Field) × IsCapLayout cap fields × Begins bytes fields

cap_data_back : (cap : CapData) (bytes : List ℕ) → AreBytes bytes → HasCapLayout cap
    → cap_data_of (cap_id cap) bytes ≡ Ok cap → BeginsCap bytes cap
unfolding cap_data_of
cap_data_back (Limits limits) bytes all has h = (limits_fields limits, refl, limits_back limits bytes all h)
cap_data_back (Selectors list) bytes all has h = (list_fields list, refl, selectors_back list bytes all has h)
cap_data_back (Actions actions) bytes all has h =
    let read = actions_back actions bytes all h in (actions_fields read.0, (read.0, read.1, refl), read.2)
cap_data_back (Other id) bytes all has h = ([], refl, (bytes, refl))

pub cap_head_back : (bytes : List ℕ) → AreBytes bytes → 8 ≤ length bytes
    → Spells bytes (cap_head_fields (le16_at bytes 0)) (drop 8 bytes)
cap_head_back bytes all whole =
    let read : Spelled bytes 0 (cap_head_fields (le16_at bytes 0)) (drop 8 bytes)
    = spell_16 all (omega arith) refl (spell_reserved (omega arith) spell_end) in
    read.spells

pub cap_back : (cap : CapData) (bytes : List ℕ) → AreBytes bytes → HasCapLayout cap → cap_of bytes ≡ Ok cap
    → (fields : List Field) × IsCapLayout cap fields × Begins bytes (cap_head_fields (cap_id cap) ++ fields)
unfolding cap_of
cap_back cap bytes all has h =
    let whole = long_enough (length bytes) 8 _ _ cap h in
    let id = id_back (le16_at bytes 0) cap (drop 8 bytes) whole.1 in
    let read : cap_data_of (cap_id cap) (drop 8 bytes) ≡ Ok cap = subst (λ n. cap_data_of n (drop 8 bytes) ≡ Ok cap) (sym id) whole.1 in
    let more = cap_data_back cap (drop 8 bytes) (AreBytes-drop bytes 8 all) has read in
    let head = subst (λ n. Spells bytes (cap_head_fields n) (drop 8 bytes)) (sym id) (cap_head_back bytes all whole.0) in
    (more.0, more.1, (more.2.0, Spells-join bytes (cap_head_fields (cap_id cap)) more.0 (drop 8 bytes) more.2.0 head more.2.1))
